-- What watermarks and sealed journals tell of the batches that a journal holds.
use Rattle.std.specs.Prelude.{◌≡◌, ◌≤◌, ℕ, ◌==◌, Bool, if◌then◌else◌, List, [], ◌∷◌, ◌++◌, map, All, Any, Contains, Option, None, Some}
use Rattle.std.specs.List.{list_any}
use Rattle.fjall_journal.specs.Batches.{Shown}
use Rattle.fjall_files.specs.Journals.{Sealed}
use Rattle.fjall_files.specs.Marks.{JournalMarks, lsn_of, raised_mark}

-- the ids of the keyspaces that a batch changes: of its items, and then those that it empties
abbrev pub changed_by : Shown → List ℕ
changed_by b = map (λ item. item.keyspace_id) b.items ++ b.clears

-- this id is one of those
abbrev pub is_among : ℕ → List ℕ → Bool
is_among id ids = list_any (λ other. other == id) ids

-- the greatest number of a batch that changes the keyspace of this id, where one does
abbrev pub greatest : ℕ → List Shown → Option ℕ
greatest id [] = None
greatest id (b ∷ batches) = if is_among id (changed_by b) then raised_mark (greatest id batches) b.number else greatest id batches

-- the watermarks of these batches: of each id the greatest number of a batch that changes it
abbrev pub AreMarksOf : List Shown → JournalMarks → Type 0
AreMarksOf batches marks = (id : ℕ) → lsn_of marks id ≡ greatest id batches

-- the watermarks of these ids are raised to at least that number, and all others are as they were
abbrev pub AreRaised : List ℕ → ℕ → JournalMarks → JournalMarks → Type 0
AreRaised ids number old new = (id : ℕ) → lsn_of new id ≡ (if is_among id ids then raised_mark (lsn_of old id) number else lsn_of old id)

-- a batch that changes the keyspace has this number, and none that does has a greater one; there is none where no batch does
abbrev pub IsGreatest : List Shown → ℕ → Option ℕ → Type 0
IsGreatest batches id None = All (λ b. Contains (changed_by b) id → ⊥) batches
IsGreatest batches id (Some number) =
    Any (λ b. Contains (changed_by b) id × (b.number ≡ number)) batches × All (λ b. Contains (changed_by b) id → b.number ≤ number) batches

-- there is a watermark where there was one, and it is no less
abbrev pub IsNoLess : Option ℕ → Option ℕ → Type 0
IsNoLess None new = Unit {0}
IsNoLess (Some old) None = ⊥
IsNoLess (Some old) (Some new) = old ≤ new

-- no watermark fell
abbrev pub NoneFell : JournalMarks → JournalMarks → Type 0
NoneFell old new = (id : ℕ) → IsNoLess (lsn_of old id) (lsn_of new id)

-- The sealed journal is of this number, and tells of these batches and of a file of so many bytes.
pub record IsSealedAs (id : ℕ) (batches : List Shown) (len : ℕ) (journal : Sealed) : Type 0 where
  pub id_is : journal.id ≡ id
  pub len_is : journal.len ≡ len
  pub marks : AreMarksOf batches journal.watermarks
