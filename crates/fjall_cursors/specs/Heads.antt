-- Which version comes first, where only some of several runs have been looked at.
use Rattle.std.specs.Prelude.{◌≡◌, ℕ, Bool, true, false, List, [], ◌∷◌, Option, Some, None, slice_set}
use Rattle.std.specs.List.{All}
use Rattle.fjall_table.specs.Blocks.{Entry, seen, IsBefore}
use Rattle.fjall_table.specs.declared.table_entry.TableEntry.{TableEntry}
use Rattle.fjall_memtable.specs.Sorted.{IsFirstOf}

-- The first comes before the second as they are gone through, from the start or from behind.
abbrev pub ComesBefore : Bool → Entry → Entry → Type 0
ComesBefore false v w = IsBefore v w
ComesBefore true v w = IsBefore w v

-- which of the runs begins with what comes first of all, and that version; none where no run has a version
abbrev pub HasFirst : Bool → List (List Entry) → Option (ℕ × TableEntry) → Type 0
HasFirst back runs None = All (λ run. run ≡ []) runs
HasFirst back runs (Some first) = (rest : List Entry) × IsFirstOf back runs first.0 (seen first.1) rest

-- which of the runs begins with what comes first of all, and which of the others does
abbrev pub HasTwo : Bool → List (List Entry) → Option (ℕ × TableEntry) → Option (ℕ × TableEntry) → Type 0
HasTwo back runs None second = (second ≡ None) × HasFirst back runs None
HasTwo back runs (Some first) second = HasFirst back runs (Some first) × HasFirst back (slice_set runs first.0 []) second

-- a version that was taken off, and those behind it; without one there are none
abbrev pub with_head : Option TableEntry → List Entry → List Entry
with_head None rest = []
with_head (Some v) rest = seen v ∷ rest
