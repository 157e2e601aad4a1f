-- What trees show with their tables: the map of each keyspace at an instant, and the store of all of them.
use Rattle.std.specs.Prelude.{◌≡◌, ℕ, ◌^◌, List, [], All, Option, Some, None}
use Rattle.std.specs.FinMap.{empty}
use Rattle.fjall_base.specs.Pairs.{Pairs}
use Rattle.fjall_base.specs.Store.{Store}
use Rattle.fjall_meta.specs.Keyspaces.{Keyspaces}
use Rattle.fjall_table.specs.Blocks.{Entry}
use Rattle.fjall_memtable.specs.Jobs.{AreBelow, OnceEach}
use Rattle.fjall_memtable.specs.Views.{view_of}
use Rattle.fjall_meta.specs.Replays.{bare, by_id}
use Rattle.fjall_memtable.specs.Sorted.{flat}
use Rattle.fjall_tree.specs.Trees.{Shape, clears_of, floor_of, versions_of}
use Rattle.fjall_trees.specs.Forests.{Forest, tree_at}

-- the map of a tree at an instant, where its tables have these entries; where no tree is, it is empty
unfoldable pub map_with : List (List Entry) → ℕ → Option Shape → Pairs
map_with entries instant None = empty
map_with entries instant (Some shape) = view_of instant (clears_of shape) (versions_of shape entries)

-- the map of a keyspace at an instant, where the tables of each have these entries
abbrev pub pairs_with : (ℕ → List (List Entry)) → ℕ → ℕ → Forest → Pairs
pairs_with entries id instant trees = map_with (entries id) instant (tree_at id trees)

-- the store of these keyspaces where these are their maps
abbrev pub store_by : (ℕ → Pairs) → Keyspaces → Store
store_by pairs s = record { names = (bare s).names; maps = by_id (λ k. pairs k.id) s.living; options = (bare s).options; next = s.next }

-- the store that the trees of these keyspaces show above all numbers
abbrev pub store_with : (ℕ → List (List Entry)) → Keyspaces → Forest → Store
store_with entries s trees = store_by (λ id. pairs_with entries id (2 ^ 63) trees) s

-- no keyspace has an entry in a table
abbrev pub no_entries : ℕ → List (List Entry)
no_entries id = []

-- What its tables hold is older than what is in memory: all numbered below where that begins, and no version stands twice.
pub record IsOlder (shape : Shape) (entries : List (List Entry)) : Type 0 where
  pub below : AreBelow (floor_of shape.memory) (flat entries)
  pub once : OnceEach (flat entries)

-- So it is of each keyspace.
abbrev pub AreOlder : Forest → (ℕ → List (List Entry)) → Type 0
AreOlder trees entries = All (λ k. IsOlder k.shape (entries k.id)) trees

-- The change leaves the clears of a tree and what it has in memory.
abbrev pub LeavesMemory : (Shape → Shape) → Type 0
LeavesMemory change = (shape : Shape) → ((change shape).clears ≡ shape.clears) × ((change shape).memory ≡ shape.memory)
