-- Crashes that leave any bytes behind the synced ones of a file, but forge nothing whole there.
use Rattle.std.specs.Prelude.{◌≡◌, ◌≢◌, ◌↔◌, ℕ, ◌<◌, List, [], ◌++◌, length}
use Rattle.std.specs.List.{flat_map, AllByRecursion}
use Rattle.fjall_base.specs.Disk.{Name, DiskEntry, Missing, File, Folder, Image, Crash, IsFile}
use Rattle.fjall_files.specs.Texts.{text_in}
use Rattle.fjall_journal.specs.Batches.{IsWritten, batch_text}
use Rattle.fjall_manifest.specs.Records.{IsRecord, record_text}

-- these bytes stand at the front of the text
abbrev pub IsAtFront : List ℕ → List ℕ → Type 0
IsAtFront front text = (more : List ℕ) × (text ≡ front ++ more)

-- Whatever is of a kind, with a text each, is not forged: where some of it stands, one after another, at the front of what a file
-- shows, all of that stood at the front of what the file held.
abbrev pub NoneForged : {A : Type 0} → (A → List ℕ) → (A → Type 0) → (held shows : List ℕ) → Type 0
NoneForged {A} text_of Is held shows = (some : List A) → AllByRecursion Is some → IsAtFront (flat_map text_of some) shows → IsAtFront (flat_map text_of some) held

-- No whole batch is forged in what a file shows, and no whole record.
pub record IsUnforged (held shows : List ℕ) : Type 0 where
  pub batches : NoneForged batch_text IsWritten held shows
  pub records : NoneForged record_text IsRecord held shows

-- A wild view of crashes: of a file its synced bytes and any others, where this is so of what the file held as the crash came, its
-- synced bytes and its unsynced ones, and of what it shows.
abbrev pub SurvivesWhere : (List ℕ → List ℕ → Type 0) → Crash
SurvivesWhere IsSo Missing left = left ≡ Missing
SurvivesWhere IsSo (File synced unsynced) left = (bytes : List ℕ) × (left ≡ File (synced ++ bytes) []) × IsSo (synced ++ unsynced) (synced ++ bytes)
SurvivesWhere IsSo Folder left = left ≡ Folder

-- the one in which nothing is forged
abbrev pub SurvivesUnforged : Crash
SurvivesUnforged = SurvivesWhere IsUnforged

-- ---- what is cut

-- The second entry is cut from the first one: it is of the same kind, its text is a beginning of that one's, and has all whole
-- batches and all whole records at the front of that one.
pub record IsCutFrom (shown cut : DiskEntry) : Type 0 where
  pub file : IsFile shown ↔ IsFile cut
  pub folder : (shown ≡ Folder) ↔ (cut ≡ Folder)
  pub rest : List ℕ
  pub text : text_in shown ≡ text_in cut ++ rest
  pub unforged : IsUnforged (text_in cut) (text_in shown)

-- ---- where nothing is forged

-- Whatever is of a kind, stands anywhere in what a file shows and reaches behind its synced bytes stood at that place in what the
-- file held.
abbrev pub AreHeldInPlace : {A : Type 0} → (A → List ℕ) → (A → Type 0) → (synced held shows : List ℕ) → Type 0
AreHeldInPlace {A} text_of Is synced held shows =
    (front behind : List ℕ) (one : A) → Is one → shows ≡ front ++ (text_of one ++ behind) → length synced < length (front ++ text_of one)
    → (before : List ℕ) × (after : List ℕ) × (length before ≡ length front) × (held ≡ before ++ (text_of one ++ after))

-- ---- where something is forged

-- The second image is the first one, but that these bytes stand behind those of the file of this name.
pub record IsLongerBy (bytes : List ℕ) (name : Name) (image longer : Image) : Type 0 where
  pub file : IsFile (longer name)
  pub text : text_in (longer name) ≡ text_in (image name) ++ bytes
  pub others : (q : Name) → q ≢ name → longer q ≡ image q
