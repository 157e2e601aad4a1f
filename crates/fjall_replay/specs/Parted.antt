-- What journals leave of memory, where memtables are sealed behind each but the last.
use Rattle.std.specs.Prelude.{◌≡◌, ℕ, ◌+◌, Bool, true, false, not, ◌&&◌, if◌then◌else◌, List, [], ◌∷◌, All, IsTrue, map}
use Rattle.std.specs.List.{list_any}
use Rattle.std.specs.FinMap.{get}
use Rattle.fjall_journal.specs.Batches.{Shown, shown}
use Rattle.fjall_files.specs.Telling.{changed_by, is_among}
use Rattle.fjall_meta.specs.Keyspaces.{Keyspaces}
use Rattle.fjall_tree.specs.Trees.{Shape, floor_of, with_memory}
use Rattle.fjall_memtable.specs.Parts.{HeldPart, Memory, empty_from, holds_nothing}
use Rattle.fjall_meta.specs.Contents.{is_beyond}
use Rattle.fjall_meta.specs.Replays.{counts}
use Rattle.fjall_trees.specs.Forests.{Forest}
use Rattle.fjall_trees.specs.Sealing.{all_sealed}
use Rattle.fjall_recovery.specs.Homes.{Homes, last_in}
use Rattle.fjall_recovery.specs.Journals.{WholeJournal}
use Rattle.fjall_replay.specs.Steps.{with_batches}

-- ---- which numbers a memtable holds

-- each number in it passes the test
abbrev pub AllPass : (ℕ → Bool) → HeldPart → Type 0
AllPass test h = All (λ v. test v.number ≡ true) h.versions × All (λ n. test n ≡ true) h.clears

-- each number in an active memtable of these trees does
abbrev pub ActivesPass : (ℕ → Bool) → Forest → Type 0
ActivesPass test trees = All (λ k. AllPass test k.shape.memory.active) trees

-- Sealed memtables hold something, and nothing but numbers that pass the test. The active one holds none of those.
pub record IsPartedBy (test : ℕ → Bool) (memory : Memory) : Type 0 where
  pub some : All (λ h. holds_nothing h ≡ false) memory.sealed
  pub sealed : All (AllPass test) memory.sealed
  pub active : AllPass (λ n. not (test n)) memory.active

-- so it is of each tree
abbrev pub ArePartedBy : (ℕ → Bool) → Forest → Type 0
ArePartedBy test trees = All (λ k. IsPartedBy test k.shape.memory) trees

-- nothing is in the active memtables of these trees
abbrev pub ActivesEmpty : Forest → Type 0
ActivesEmpty trees = All (λ k. IsTrue (holds_nothing k.shape.memory.active)) trees

-- sealed memtables hold something, and what they hold passes the test
pub record HasSealed (test : ℕ → Bool) (memory : Memory) : Type 0 where
  pub some : All (λ h. holds_nothing h ≡ false) memory.sealed
  pub pass : All (AllPass test) memory.sealed

-- ---- but for what is in memory

-- nothing is in the memory of these trees
abbrev pub AreUnwritten : Forest → Type 0
AreUnwritten trees = All (λ k. (k.shape.memory.sealed ≡ []) × IsTrue (holds_nothing k.shape.memory.active)) trees

-- the tree with nothing in its memory, which begins where it did
abbrev pub unwritten : Shape → Shape
unwritten shape = with_memory (record { sealed = []; active = empty_from (floor_of shape.memory) }) shape

-- all trees so
abbrev pub all_unwritten : Forest → Forest
all_unwritten trees = map (λ k. record { id = k.id; shape = unwritten k.shape }) trees

-- ---- journal by journal

-- The trees after the journals' batches, of which each counts for the ids that pass the test of its number. Behind each journal but the
-- last one, which is active, the active memtables that hold something are sealed.
abbrev pub with_journals : (ℕ → ℕ → Bool) → List WholeJournal → Forest → Forest
with_journals counted [] trees = trees
with_journals counted (j ∷ []) trees = with_batches counted (map shown j.batches) trees
with_journals counted (j ∷ k ∷ journals) trees = with_journals counted (k ∷ journals) (all_sealed (with_batches counted (map shown j.batches) trees))

-- whether what a batch of that number says of an id counts, and is beyond what the keyspace's home holds
abbrev pub counts_beyond_homes : Keyspaces → Homes → ℕ → ℕ → Bool
counts_beyond_homes s homes number id = counts s number id && is_beyond (last_in (get homes id)).persisted number

-- What the trees have in memory is what the journals left there: of each keyspace one sealed memtable for each sealed journal that has
-- something of it beyond its home, in the journals' order and with just that, and behind those what the active journal has.
abbrev pub AreLeftBy : Keyspaces → Homes → List WholeJournal → Forest → Type 0
AreLeftBy s homes journals trees = trees ≡ with_journals (counts_beyond_homes s homes) journals (all_unwritten trees)

-- whether some of these batches changes the keyspace of this id and counts for it
abbrev pub has_change : (ℕ → ℕ → Bool) → ℕ → List Shown → Bool
has_change counted id batches = list_any (λ b. counted b.number id && is_among id (changed_by b)) batches

-- how many of the sealed journals have such a batch
abbrev pub count_changing : (ℕ → ℕ → Bool) → ℕ → List WholeJournal → ℕ
count_changing counted id [] = 0
count_changing counted id (j ∷ []) = 0
count_changing counted id (j ∷ k ∷ journals) = (if has_change counted id (map shown j.batches) then 1 else 0) + count_changing counted id (k ∷ journals)
