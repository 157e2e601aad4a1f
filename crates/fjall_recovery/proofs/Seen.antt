-- What an image shows of a place: what stands there now, or what a crash leaves of it.
use Rattle.std.proofs.Common.{◌≡◌, ◌⊎◌, inl, inr, ⊎_elim, ℕ, Bool, true, List, [], ◌∷◌, ◌++◌, take, length, refl, sym, ◌∙◌, ap, subst, arith}
use Rattle.std.proofs.lemmas.List.{append-nil, take_all}
use Rattle.std.specs.List.{AllByRecursion}
use Rattle.fjall_base.specs.Disk.{Name, DiskEntry, Missing, File, Folder, Place, DiskState, Image, Survives, SomeSurvives, IsFile, IsThere, IsNoFile, IsNoFolder, folder_of, standing}
use Rattle.fjall_base.proofs.States.{survives_whole}
use Rattle.fjall_files.specs.Texts.{text_in}
use Rattle.fjall_files.specs.Regions.{IsImageIn, IsSafe}
use Rattle.fjall_manifest.specs.Homes.{only}
use Rattle.fjall_recovery.specs.Places.{IsNeverFile, IsNeverFolder}

-- what stands there now, or what a crash may leave of it
abbrev pub Shows : Place → DiskEntry → Type 0
Shows place entry = SomeSurvives (place.now ∷ place.older) entry ⊎ (entry ≡ place.now)

-- At the names of a region whose folder is there the image shows what stands there, or what a crash may leave.
abbrev pub IsSeen : (Name → Bool) → DiskState → Image → Type 0
IsSeen region state image = (name : Name) → region name ≡ true → IsThere image (folder_of name) → Shows (state name) (image name)

pub crash_seen : (region : Name → Bool) (state : DiskState) (image : Image) → IsImageIn Survives region state image → IsSeen region state image
crash_seen region state image is name in_it there = inl (is.kept name in_it there)

pub standing_seen : (region : Name → Bool) (state : DiskState) → IsSeen region state (standing state)
standing_seen region state name in_it there = inr refl

-- ---- one entry

alone : (entry left : DiskEntry) → Shows (only entry) left → Survives entry left ⊎ (left ≡ entry)
alone entry left (inl (inl here)) = inl here
alone entry left (inl (inr none)) = absurd none
alone entry left (inr is) = inr is

pub folder_shows : (left : DiskEntry) → Shows (only Folder) left → left ≡ Folder
folder_shows left shows = ⊎_elim (λ is. is) (λ is. is) (alone Folder left shows)

pub safe_shows : (bytes : List ℕ) (left : DiskEntry) → Shows (only (File bytes [])) left → left ≡ File bytes []
safe_shows bytes left shows = ⊎_elim (λ some. survives_whole bytes left some) (λ is. is) (alone (File bytes []) left shows)

-- a file that shows its synced bytes and a beginning of the others
pub record ShowsPart (synced unsynced : List ℕ) (left : DiskEntry) : Type 0 where
  pub count : ℕ
  pub file : IsFile left
  pub text : text_in left ≡ synced ++ take count unsynced

pub part_shows : (synced unsynced : List ℕ) (left : DiskEntry) → Shows (only (File synced unsynced)) left → ShowsPart synced unsynced left
part_shows synced unsynced left shows = ⊎_elim
    (λ (some : Survives (File synced unsynced) left). record { count = some.0; file = subst IsFile (sym some.1) tt; text = ap (λ (e : DiskEntry). text_in e) some.1 ∙ append-nil (synced ++ take some.0 unsynced) })
    (λ is. record { count = length unsynced; file = subst IsFile (sym is) tt; text = ap (λ (e : DiskEntry). text_in e) is ∙ ap (λ (l : List ℕ). synced ++ l) (sym (take_all (length unsynced) unsynced (omega arith))) })
    (alone (File synced unsynced) left shows)

folder_stays : (entry : DiskEntry) → Survives entry Folder → entry ≡ Folder
folder_stays Missing is = sym is
folder_stays (File synced unsynced) some = let no : Folder ≡ File (synced ++ take some.0 unsynced) [] = some.1 in cc
folder_stays Folder is = refl

no_folders : (entries : List DiskEntry) → AllByRecursion IsNoFolder entries → SomeSurvives entries Folder → ⊥
no_folders [] all none = none
no_folders (entry ∷ entries) all (inl here) = subst IsNoFolder (folder_stays entry here) all.0
no_folders (entry ∷ entries) all (inr later) = no_folders entries all.1 later

-- where no folder stands or stood none is shown
pub never_folder : (place : Place) (left : DiskEntry) → IsNeverFolder place → Shows place left → left ≡ Folder → ⊥
never_folder place left never (inl some) is = no_folders (place.now ∷ place.older) never (subst (λ (e : DiskEntry). SomeSurvives (place.now ∷ place.older) e) is some)
never_folder place left never (inr now) is = subst IsNoFolder (sym now ∙ is) never.0

no_file_left : (entry left : DiskEntry) → IsNoFile entry → Survives entry left → IsFile left → ⊥
no_file_left Missing left none is file = subst IsFile is file
no_file_left (File synced unsynced) left none is file = none
no_file_left Folder left none is file = subst IsFile is file

no_files : (entries : List DiskEntry) (left : DiskEntry) → AllByRecursion IsNoFile entries → SomeSurvives entries left → IsFile left → ⊥
no_files [] left all none file = none
no_files (entry ∷ entries) left all (inl here) file = no_file_left entry left all.0 here file
no_files (entry ∷ entries) left all (inr later) file = no_files entries left all.1 later file

no_file : (entry : DiskEntry) → IsNoFile entry → IsFile entry → ⊥
no_file Missing none file = file
no_file (File synced unsynced) none file = none
no_file Folder none file = file

-- the same of files
pub never_file : (place : Place) (left : DiskEntry) → IsNeverFile place → Shows place left → IsFile left → ⊥
never_file place left never (inl some) file = no_files (place.now ∷ place.older) left never some file
never_file place left never (inr now) file = no_file place.now never.0 (subst IsFile now file)

-- ---- in an image

module _ (region : Name → Bool) (state : DiskState) (image : Image) (seen : IsSeen region state image) where
  pub shows_at : (q : Name) (entry : DiskEntry) → region q ≡ true → IsThere image (folder_of q) → state q ≡ only entry → Shows (only entry) (image q)
  shows_at q entry in_it there is = subst (λ (p : Place). Shows p (image q)) is (seen q in_it there)

  -- a folder that is synced stands there
  pub folder_seen : (q : Name) → region q ≡ true → IsThere image (folder_of q) → state q ≡ only Folder → image q ≡ Folder
  folder_seen q in_it there is = folder_shows (image q) (shows_at q Folder in_it there is)

  -- a file that is safe stands there with its bytes
  pub safe_seen : (q : Name) (bytes : List ℕ) → region q ≡ true → IsThere image (folder_of q) → IsSafe state q bytes → image q ≡ File bytes []
  safe_seen q bytes in_it there is = safe_shows bytes (image q) (shows_at q (File bytes []) in_it there is)
