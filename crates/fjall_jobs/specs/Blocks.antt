-- Blocks of a table, gone through.
use Rattle.std.specs.Prelude.{◌≡◌, ℕ, ◌-◌, ◌<◌, ◌≤◌, List, [], ◌∷◌, ◌++◌, drop, length, map}
use Rattle.std.specs.declared.alloc.Global.{Global}
use Rattle.std.specs.declared.sync.Arc.{Arc}
use Rattle.fjall_table.specs.Blocks.{Entry}
use Rattle.fjall_memtable.specs.Sorted.{flat}

-- the entries of each of these blocks
abbrev pub entries_in : List (Arc (List Entry) Global) → List (List Entry)
entries_in blocks = map (λ b. b.value) blocks

-- so many entries are still to come of the first block, and one at least where there is a block
abbrev pub IsLeft : ℕ → List (List Entry) → Type 0
IsLeft left [] = left ≡ 0
IsLeft left (block ∷ blocks) = (0 < left) × (left ≤ length block)

-- the entries that are still to come
abbrev pub still_left : ℕ → List (List Entry) → List Entry
still_left left [] = []
still_left left (block ∷ blocks) = drop (length block - left) block ++ flat blocks
