-- What is left of trees, of their maps and of the store where one is dropped.
use Rattle.std.proofs.Common.{◌≡◌, ◌≢◌, ℕ, ◌<◌, ◌^◌, ◌==◌, not, List, All, None, ap}
use Rattle.std.proofs.lemmas.List.Elements.{All-filter}
use Rattle.std.proofs.lemmas.List.Kept.{AllPairs-filter}
use Rattle.fjall_meta.specs.Keyspaces.{Keyspaces, keyspace_at}
use Rattle.fjall_table.specs.Blocks.{Entry}
use Rattle.fjall_trees.specs.Forests.{Forest, IsForest, IsTree, Planted, tree_at, without}
use Rattle.fjall_trees.proofs.Others.{kept_others}
use Rattle.fjall_trees.specs.Maps.{map_of, pairs_in, store_of}
use Rattle.fjall_trees.specs.MapTables.{map_with, pairs_with, store_with}
use Rattle.fjall_trees.proofs.Commands.{dropped_by}

pub dropped_forest : (id : ℕ) (trees : Forest) → IsForest trees → IsForest (without id trees)
dropped_forest id trees is = record {
  ascend = AllPairs-filter (λ (j k : Planted). j.id < k.id) (λ k. not (k.id == id)) trees is.ascend;
  each = All-filter (λ k. not (k.id == id)) (λ k. IsTree k.shape) trees is.each;
}

-- what holds of each holds of each that is left
pub dropped_each : (P : Planted → Type 0) (id : ℕ) (trees : Forest) → All P trees → All P (without id trees)
dropped_each P id trees all = All-filter (λ k. not (k.id == id)) P trees all

pub dropped_has : (id other : ℕ) (trees : Forest) → other ≢ id → tree_at other (without id trees) ≡ tree_at other trees
dropped_has id other trees differ = kept_others id other trees differ

pub dropped_with : (entries : ℕ → List (List Entry)) (id other : ℕ) (trees : Forest) → other ≢ id → (instant : ℕ)
    → pairs_with entries other instant (without id trees) ≡ pairs_with entries other instant trees
dropped_with entries id other trees differ instant = ap (map_with (entries other) instant) (kept_others id other trees differ)

pub dropped_pairs : (id other : ℕ) (trees : Forest) → other ≢ id → (instant : ℕ) → pairs_in other instant (without id trees) ≡ pairs_in other instant trees
dropped_pairs id other trees differ instant = ap (map_of instant) (kept_others id other trees differ)

pub dropped_store_with : (entries : ℕ → List (List Entry)) (id : ℕ) (s : Keyspaces) (trees : Forest) → keyspace_at id s.living ≡ None → store_with entries s (without id trees) ≡ store_with entries s trees
dropped_store_with entries id s trees none =
    dropped_by (λ q. pairs_with entries q (2 ^ 63) trees) (λ q. pairs_with entries q (2 ^ 63) (without id trees)) id s none
    (λ other differ. dropped_with entries id other trees differ (2 ^ 63))

pub dropped_store : (id : ℕ) (s : Keyspaces) (trees : Forest) → keyspace_at id s.living ≡ None → store_of s (without id trees) ≡ store_of s trees
dropped_store id s trees none =
    dropped_by (λ q. pairs_in q (2 ^ 63) trees) (λ q. pairs_in q (2 ^ 63) (without id trees)) id s none (λ other differ. dropped_pairs id other trees differ (2 ^ 63))
