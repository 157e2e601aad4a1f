-- Without tables trees show what is in memory.
use Rattle.std.proofs.Common.{◌≡◌, ℕ, ◌^◌, [], Option, Some, None, refl, ap}
use Rattle.fjall_base.specs.Pairs.{Pairs}
use Rattle.fjall_meta.specs.Keyspaces.{Keyspaces}
use Rattle.fjall_tree.specs.Trees.{Shape}
use Rattle.fjall_trees.specs.Forests.{Forest, tree_at}
use Rattle.fjall_trees.specs.Maps.{map_of, pairs_in, store_of}
use Rattle.fjall_trees.specs.MapTables.{map_with, no_entries, pairs_with, store_by, store_with}

-- the maps of all keyspaces at all instants, as trees show them
abbrev pub Shows : Type 0
Shows = ℕ → ℕ → Forest → Pairs

bare_map : (instant : ℕ) (o : Option Shape) → map_with [] instant o ≡ map_of instant o
unfolding map_of map_with
bare_map instant None = refl
bare_map instant (Some shape) = refl

pub bare_shows : pairs_with no_entries ≡ pairs_in
bare_shows = λ i id instant trees. bare_map instant (tree_at id trees) i

pub bare_pairs : (id instant : ℕ) (trees : Forest) → pairs_with no_entries id instant trees ≡ pairs_in id instant trees
bare_pairs id instant trees = bare_map instant (tree_at id trees)

pub bare_store : (s : Keyspaces) (trees : Forest) → store_with no_entries s trees ≡ store_of s trees
bare_store s trees = ap (λ (p : Shows). store_by (λ id. p id (2 ^ 63) trees) s) bare_shows
