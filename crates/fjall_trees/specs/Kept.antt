-- The blocks that the readers of all trees' tables keep in memory, and the bound on them.
use Rattle.std.specs.Prelude.{ℕ, ◌-◌, ◌/◌, ◌^◌, ◌||◌, Bool, if◌then◌else◌, map, min, nat_lt}
use Rattle.std.specs.List.{sum_by}
use Rattle.fjall_table_reader.specs.Readers.{kept_sizes, recent_sizes}
use Rattle.fjall_tree.specs.Trees.{aged_shape, unread_shape}
use Rattle.fjall_trees.specs.Forests.{Forest}

-- for how many bytes all blocks count that the trees keep; the greatest u64 where that is too small
abbrev pub kept_bytes : Forest → ℕ
kept_bytes trees = min (sum_by (λ k. kept_sizes k.shape.tables) trees) (2 ^ 64 - 1)

-- the same of the recent ones, which were used since the older ones went last
abbrev pub recent_bytes : Forest → ℕ
recent_bytes trees = min (sum_by (λ k. recent_sizes k.shape.tables) trees) (2 ^ 64 - 1)

-- the trees with no block kept
abbrev pub all_unread : Forest → Forest
all_unread trees = map (λ k. record { id = k.id; shape = unread_shape k.shape }) trees

-- the trees with no older block kept, and those that are recent older
abbrev pub all_aged : Forest → Forest
all_aged trees = map (λ k. record { id = k.id; shape = aged_shape k.shape }) trees

-- whether the older blocks are to go: the recent ones count for more than half of so many bytes, or all for more than these
abbrev pub is_full : ℕ → Forest → Bool
is_full bytes trees = nat_lt (bytes / 2) (recent_bytes trees) || nat_lt bytes (kept_bytes trees)

-- the trees, with no block kept where those that are kept count for more than so many bytes
unfoldable pub emptied_above : ℕ → Forest → Forest
emptied_above bytes trees = if nat_lt bytes (kept_bytes trees) then all_unread trees else trees

-- the trees, where they are full without their older blocks; and where what is kept then is still too much, with none
unfoldable pub bounded : ℕ → Forest → Forest
bounded bytes trees = if is_full bytes trees then emptied_above bytes (all_aged trees) else trees
