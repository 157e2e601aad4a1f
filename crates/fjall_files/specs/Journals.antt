-- Sealed journals, and which of them may be removed.
use Rattle.std.specs.Prelude.{ℕ, ◌+◌, Bool, List, [], ◌∷◌, ◌++◌, map, sum_by, if◌then◌else◌}
use Rattle.fjall_base.specs.Disk.{Name}
use Rattle.fjall_files.specs.Names.{journal_name}
use Rattle.fjall_journal.specs.Writer.{counted}
use Rattle.fjall_files.specs.Marks.{JournalMarks, all_flushed, unflushed}

-- a journal that is appended to no more: its number, its file's length in bytes, and its watermarks
pub record Sealed : Type 0 where
  pub id : ℕ
  pub len : ℕ
  pub watermarks : JournalMarks

-- The journals of an engine: the sealed ones, the oldest first, the active one's number, and up to which number each keyspace
-- has changes in that.
pub record Journals : Type 0 where
  pub sealed : List Sealed
  pub active : ℕ
  pub watermarks : JournalMarks

-- the active one, whose file has so many bytes, is sealed, and an empty one of the next number is active
abbrev pub next_journal : ℕ → Journals → Journals
next_journal len j = record { sealed = j.sealed ++ record { id = j.active; len = len; watermarks = j.watermarks } ∷ []; active = j.active + 1; watermarks = [] }

-- the names of their files
abbrev pub names_of : List Sealed → List Name
names_of journals = map (λ j. journal_name j.id) journals

-- how many bytes their files have
abbrev pub bytes_of : List Sealed → ℕ
bytes_of journals = counted (sum_by (λ j. j.len) journals)

-- whether no keyspace wants the journal any more
abbrev pub may_go : (ℕ → ℕ → Bool) → Sealed → Bool
may_go flushed journal = all_flushed flushed journal.watermarks

-- the oldest journals, up to the first that may not go
abbrev pub going : (ℕ → ℕ → Bool) → List Sealed → List Sealed
going flushed [] = []
going flushed (j ∷ journals) = if may_go flushed j then j ∷ going flushed journals else []

-- the others: the journals from the first on that may not go
abbrev pub staying : (ℕ → ℕ → Bool) → List Sealed → List Sealed
staying flushed [] = []
staying flushed (j ∷ journals) = if may_go flushed j then staying flushed journals else j ∷ journals

-- the keyspaces that the oldest journal waits for
abbrev pub waited_for : (ℕ → ℕ → Bool) → List Sealed → List ℕ
waited_for flushed [] = []
waited_for flushed (j ∷ journals) = unflushed flushed j.watermarks
