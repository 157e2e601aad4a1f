-- What a rotation of a memtable makes of trees, of their maps and of the store.
use Rattle.std.proofs.Common.{◌≡◌, ℕ, ◌≤◌, ◌^◌, List, [], Option, Some, None, refl, subst, ap, arith}
use Rattle.std.specs.Option.{is_some, option_map}
use Rattle.std.proofs.lemmas.List.Elements.{All-push, All-weaker}
use Rattle.fjall_base.specs.Pairs.{Pairs}
use Rattle.fjall_meta.specs.Keyspaces.{Keyspaces}
use Rattle.fjall_table.specs.Blocks.{Entry}
use Rattle.fjall_memtable.specs.Views.{view_of}
use Rattle.fjall_memtable.specs.Parts.{IsHeld, empty_from, parts_of}
use Rattle.fjall_memtable.proofs.Apart.{apart_more}
use Rattle.fjall_tree.specs.Trees.{Shape, sealed_off}
use Rattle.fjall_tree.proofs.Changes.{first_sealed, sealed_clears, sealed_versions}
use Rattle.fjall_tree.proofs.Outstanding.{shape_stays}
use Rattle.fjall_trees.specs.Forests.{AreBefore, Forest, IsForest, IsTree, altered_at, tree_at}
use Rattle.fjall_trees.specs.Writes.{AreBare}
use Rattle.fjall_trees.specs.Maps.{pairs_in, store_of}
use Rattle.fjall_trees.specs.MapTables.{map_with, no_entries, pairs_with, store_by, store_with}
use Rattle.fjall_trees.proofs.Bare.{Shows, bare_shows}
use Rattle.fjall_trees.proofs.Changed.{altered_each, altered_forest, altered_found, altered_some}
use Rattle.fjall_trees.proofs.Parts.{active_held}
use Rattle.fjall_trees.proofs.Planted.{empty_held}

-- ---- one tree

pub sealed_tree : (shape : Shape) → IsTree shape → IsTree (sealed_off shape)
sealed_tree shape tree =
    let h = shape.memory.active in
    let next = empty_from h.until in
    record {
      held = All-push IsHeld (parts_of shape.memory) next tree.held (empty_held h.until (active_held shape tree).small);
      apart = apart_more shape.memory.sealed h next (omega arith) tree.apart;
      clears = shape_stays shape.clears shape.memory (sealed_off shape).memory (first_sealed shape.memory.sealed h next) tree.clears;
    }

-- ---- all trees

pub rotated_forest : (id : ℕ) (trees : Forest) → IsForest trees → IsForest (altered_at id sealed_off trees)
rotated_forest id trees is = altered_forest id sealed_off trees is (All-weaker (λ k. IsTree k.shape) (λ k. IsTree (sealed_off k.shape)) (λ k tree. sealed_tree k.shape tree) trees is.each)

pub rotated_before : (n id : ℕ) (trees : Forest) → AreBefore n trees → AreBefore n (altered_at id sealed_off trees)
rotated_before n id trees before = altered_each (λ s. s.memory.active.until ≤ n) id sealed_off trees (λ s le. le) before

pub rotated_bare : (id : ℕ) (trees : Forest) → AreBare trees → AreBare (altered_at id sealed_off trees)
rotated_bare id trees bare = altered_each (λ s. s.tables ≡ []) id sealed_off trees (λ s none. none) bare

pub rotated_has : (id other : ℕ) (trees : Forest) → is_some (tree_at other (altered_at id sealed_off trees)) ≡ is_some (tree_at other trees)
rotated_has id other trees = altered_some id sealed_off other trees

-- ---- maps

pub rotated_with : (entries : ℕ → List (List Entry)) (id other instant : ℕ) (trees : Forest)
    → pairs_with entries other instant (altered_at id sealed_off trees) ≡ pairs_with entries other instant trees
unfolding map_with
rotated_with entries id other instant trees =
    altered_found id sealed_off other trees (λ b o. map_with (entries other) instant o ≡ map_with (entries other) instant (tree_at other trees)) (λ same. by (tree_at other trees)) refl
  where
    by : (o : Option Shape) → map_with (entries other) instant (option_map sealed_off o) ≡ map_with (entries other) instant o
    by None = refl
    by (Some shape) = λ i. view_of instant (sealed_clears shape i) (sealed_versions shape (entries other) i)

pub rotated_pairs : (id other instant : ℕ) (trees : Forest) → pairs_in other instant (altered_at id sealed_off trees) ≡ pairs_in other instant trees
rotated_pairs id other instant trees =
    subst (λ (p : Shows). p other instant (altered_at id sealed_off trees) ≡ p other instant trees) bare_shows (rotated_with no_entries id other instant trees)

pub rotated_store_with : (entries : ℕ → List (List Entry)) (id : ℕ) (s : Keyspaces) (trees : Forest) → store_with entries s (altered_at id sealed_off trees) ≡ store_with entries s trees
rotated_store_with entries id s trees = ap (λ (pairs : ℕ → Pairs). store_by pairs s) (λ i q. rotated_with entries id q (2 ^ 63) trees i)

pub rotated_store : (id : ℕ) (s : Keyspaces) (trees : Forest) → store_of s (altered_at id sealed_off trees) ≡ store_of s trees
rotated_store id s trees = ap (λ (pairs : ℕ → Pairs). store_by pairs s) (λ i q. rotated_pairs id q (2 ^ 63) trees i)
