-- Pairs that are settled, and the key that was set last.
use Rattle.std.specs.Prelude.{ℕ, List, [], ◌++◌, Option, Some, None}
use Rattle.fjall_base.specs.Pairs.{Bytes}
use Rattle.fjall_table.specs.Blocks.{Entry}
use Rattle.fjall_memtable.specs.SortedPages.{pair_in}

-- the pairs before the last key, and that key, with its value if it has one
pub record Keyed : Type 0 where
  pub before : List (Bytes × Bytes)
  pub last : Option (Bytes × Option Bytes)

-- the last key
abbrev pub key_of : Option (Bytes × Option Bytes) → Option Bytes
key_of None = None
key_of (Some last) = Some last.0

-- its pair, if it has one
abbrev pub pairs_of_last : Option (Bytes × Option Bytes) → List (Bytes × Bytes)
pairs_of_last None = []
pairs_of_last (Some last) = pair_in last.0 last.1

-- all pairs, that of the last key among them, and no last key any more
abbrev pub settled : Keyed → Keyed
settled keyed = record { before = keyed.before ++ pairs_of_last keyed.last; last = None }

-- a version of the last key that is numbered by the bound, and so makes the key's pair
abbrev pub found_in : ℕ → Option (Bytes × Option Bytes) → Option Entry
found_in bound None = None
found_in bound (Some last) = Some (record { key = last.0; number = bound; value = last.1 })

-- the key and the value of an entry
abbrev pub keyed_in : Entry → Bytes × Option Bytes
keyed_in e = (e.key, e.value)
