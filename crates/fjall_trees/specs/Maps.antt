-- What trees show: the map of each keyspace at an instant, and the store of all of them.
use Rattle.std.specs.Prelude.{ℕ, ◌^◌, [], Option, Some, None}
use Rattle.std.specs.FinMap.{empty}
use Rattle.fjall_base.specs.Pairs.{Pairs}
use Rattle.fjall_base.specs.Store.{Store}
use Rattle.fjall_meta.specs.Keyspaces.{Keyspaces}
use Rattle.fjall_memtable.specs.Views.{view_of}
use Rattle.fjall_meta.specs.Replays.{bare, by_id}
use Rattle.fjall_tree.specs.Trees.{Shape, clears_of, versions_of}
use Rattle.fjall_trees.specs.Forests.{Forest, tree_at}

-- the map of a tree without tables at an instant; where no tree is, it is empty
unfoldable pub map_of : ℕ → Option Shape → Pairs
map_of instant None = empty
map_of instant (Some shape) = view_of instant (clears_of shape) (versions_of shape [])

-- the map of a keyspace at an instant
abbrev pub pairs_in : ℕ → ℕ → Forest → Pairs
pairs_in id instant trees = map_of instant (tree_at id trees)

-- the store that the trees of these keyspaces show above all numbers
abbrev pub store_of : Keyspaces → Forest → Store
store_of s trees = record {
  names = (bare s).names;
  maps = by_id (λ k. pairs_in k.id (2 ^ 63) trees) s.living;
  options = (bare s).options;
  next = s.next;
}
