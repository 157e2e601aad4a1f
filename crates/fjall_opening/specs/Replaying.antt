-- The journals of a folder, replayed one after another: what the sealed ones have is sealed behind each of them.
use Rattle.std.specs.Prelude.{◌≡◌, ℕ, ◌<◌, ◌≤◌, Bool, false, not, if◌then◌else◌, List, [], ◌∷◌, ◌++◌, length, map, take, drop, slice_get, All, Option, None, Some}
use Rattle.std.specs.List.{flat_map, list_any}
use Rattle.fjall_base.specs.Disk.{Image, Meaning}
use Rattle.fjall_journal.specs.Batches.{Shown, Written, batch_text}
use Rattle.fjall_meta.specs.Contents.{AreWithin, Stored}
use Rattle.fjall_files.specs.Journals.{Sealed}
use Rattle.fjall_files.specs.Marks.{JournalMarks, lsn_of}
use Rattle.fjall_files.specs.Reaching.{reaches, some_reaches}
use Rattle.fjall_meta.specs.Keyspaces.{Keyspaces}
use Rattle.fjall_replay.specs.Beside.{AreEndedBy, AreReplayedWith}
use Rattle.fjall_replay.specs.Parted.{ActivesPass, HasSealed, all_unwritten}
use Rattle.fjall_replay.specs.Replayed.{AreTold, ids_of}
use Rattle.fjall_replay.specs.Steps.{with_batches}
use Rattle.fjall_table.specs.Blocks.{Entry}
use Rattle.fjall_trees.specs.Forests.{AreBefore, Forest}
use Rattle.fjall_trees.specs.Sealing.{all_sealed}
use Rattle.fjall_trees.specs.Tables.{AreReadOn}
use Rattle.fjall_trees.specs.Views.{forest_of}
use Rattle.fjall_meta.specs.declared.recovery.Persisted.{Persisted}
use Rattle.fjall_meta.specs.Replays.{counts_unpersisted, first_fault, least_after, reaches as is_up_to}
use Rattle.fjall_opening.specs.declared.replaying.Progress.{Progress}
use Rattle.fjall_opening.specs.declared.replaying.Replay.{Replay}
use Rattle.fjall_recovery.specs.Journals.{AreJournalsRead, EndsAt, WholeJournal}
use Rattle.fjall_opening.specs.Opened.{IsFit}

-- ---- which batches are which journal's

-- whether the watermarks tell of some keyspace this number or a greater one
abbrev pub tell_up_to : JournalMarks → ℕ → Bool
tell_up_to marks number = list_any (λ mark. is_up_to (lsn_of marks mark.0) number) marks

-- the first batches, as far as the sealed journal's watermarks tell of their numbers
abbrev pub own_batches : Sealed → List Shown → List Shown
own_batches j [] = []
own_batches j (b ∷ batches) = if tell_up_to j.watermarks b.number then b ∷ own_batches j batches else []

-- the batches from the first on that they don't tell of
abbrev pub later_batches : Sealed → List Shown → List Shown
later_batches j [] = []
later_batches j (b ∷ batches) = if tell_up_to j.watermarks b.number then later_batches j batches else b ∷ batches

-- The trees after the batches, where these sealed journals aren't behind yet: each has the first batches that its watermarks tell of,
-- and behind them all active memtables are sealed. What is left behind the last one is the active journal's.
abbrev pub made_of : (ℕ → ℕ → Bool) → List Sealed → List Shown → Forest → Forest
made_of counted [] batches trees = with_batches counted batches trees
made_of counted (j ∷ journals) batches trees = made_of counted journals (later_batches j batches) (all_sealed (with_batches counted (own_batches j batches) trees))

-- ---- what the trees show

-- over the tables of those that were loaded, the trees show what files hold and what the batches make beyond that
abbrev pub ShowBeyond : Keyspaces → List Persisted → Forest → List Shown → Forest → Type 0
ShowBeyond s persisted loaded batches trees =
    (entries : ℕ → List (List Entry)) (stored : ℕ → Stored) → AreTold s stored persisted → AreWithin s stored → AreReplayedWith entries s stored [] loaded
    → AreReplayedWith entries s stored batches trees

-- What is so of trees once these batches were replayed into those that were loaded.
pub record IsReplayed (s : Keyspaces) (persisted : List Persisted) (loaded : Forest) (front : List Shown) (trees : Forest) : Type 0 where
  pub shown : ShowBeyond s persisted loaded front trees
  pub reads : (disk : Meaning) (entries : ℕ → List (List Entry)) → AreReadOn disk loaded entries → AreReadOn disk trees entries
  pub rest : all_unwritten trees ≡ all_unwritten loaded
  pub ids : ids_of trees ≡ ids_of loaded

-- So many sealed journals are behind: what stands in active memtables is the next one's, or where none is left no sealed one's.
pub record IsActive (journals : List Sealed) (place : ℕ) (trees : Forest) : Type 0 where
  pub next : (journal : Sealed) → slice_get journals place ≡ Some journal → ActivesPass (reaches journal.watermarks) trees
  pub none : length journals ≤ place → ActivesPass (λ n. not (some_reaches journals n)) trees

-- The trees hold these batches, and what so many sealed journals have is sealed.
pub record AreAt (r : Replay) (loaded : Forest) (front : List Shown) (place : ℕ) (trees : Forest) : Type 0 where
  pub replayed : IsReplayed r.keyspaces.now r.persisted.now loaded front trees
  pub before : AreBefore r.bound loaded → AreBefore r.bound trees
  pub sealed : All (λ k. HasSealed (some_reaches r.sealed.now) k.shape.memory) trees
  pub active : IsActive r.sealed.now place trees

-- the sealed journals that are behind reach no number from this one on
abbrev pub ArePast : Replay → ℕ → ℕ → Type 0
ArePast r place from = (n : ℕ) → from ≤ n → some_reaches (take place r.sealed.now) n ≡ false

-- whether what a batch of that number says of an id counts for the replay
abbrev pub counted_by : Replay → ℕ → ℕ → Bool
counted_by r = counts_unpersisted r.keyspaces.now r.persisted.now

-- A replay is so far that these batches were taken: with whatever batches behind them it makes of its trees what all of them make of
-- those that were loaded.
pub record IsUnderway (r : Replay) (loaded : Forest) (front : List Shown) (p : Progress) : Type 0 where
  pub sound : first_fault 0 front ≡ None
  pub least_is : p.least ≡ least_after 0 front
  pub trees : AreAt r loaded front p.place (forest_of p.trees)
  pub past : ArePast r p.place p.least
  pub made : (rest : List Shown) → made_of (counted_by r) (drop p.place r.sealed.now) rest (forest_of p.trees) ≡ made_of (counted_by r) r.sealed.now (front ++ rest) loaded

-- a next batch may have the least number or a greater one, and nothing in memory is beyond it
abbrev pub MayGoOn : Replay → Progress → Type 0
MayGoOn r p = AreEndedBy r.persisted.now p.least (forest_of p.trees)

-- The batches may be taken next: their items have lengths that trees take, and their numbers ascend from the least one, below the bound.
pub record MayTake (r : Replay) (least : ℕ) (batches : List Shown) : Type 0 where
  pub fit : All IsFit batches
  pub sound : first_fault least batches ≡ None
  pub below : All (λ b. b.number < r.bound) batches

-- ---- the files

-- the text is that of these batches, up to the end where there is one
abbrev pub IsTextOf : List Written → Option ℕ → List ℕ → Type 0
IsTextOf batches None text = text ≡ flat_map batch_text batches
IsTextOf batches (Some end) text = take end text ≡ flat_map batch_text batches

-- These are the journals of those ids as the image holds them, and the whole batches of the last one end there.
pub record IsHeldBy (image : Image) (ids : List ℕ) (end : ℕ) (torn : Bool) (journals : List WholeJournal) : Type 0 where
  pub named : map (λ j. j.id) journals ≡ ids
  pub read : AreJournalsRead image journals
  pub ends : EndsAt image journals end torn
