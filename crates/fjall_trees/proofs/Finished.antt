-- What finished jobs make of trees, of their maps and of the store.
use Rattle.std.proofs.Common.{◌≡◌, ℕ, ◌<◌, ◌≤◌, ◌^◌, cond, List, [], ◌∷◌, ◌++◌, take, drop, All, Some, inr, refl, sym, ap, subst, ◌∙◌, append_assoc}
use Rattle.std.specs.Option.{is_some, option_map}
use Rattle.std.proofs.lemmas.List.{take-append-drop}
use Rattle.std.proofs.lemmas.List.Elements.{All-weaker}
use Rattle.fjall_base.specs.Pairs.{Pairs}
use Rattle.fjall_meta.specs.Keyspaces.{Keyspaces}
use Rattle.fjall_table.specs.Blocks.{Entry}
use Rattle.fjall_memtable.specs.Jobs.{IsAbove}
use Rattle.fjall_memtable.proofs.Shown as Shown
use Rattle.fjall_table_reader.specs.Readers.{Reader}
use Rattle.fjall_memtable.specs.Parts.{IsHeld}
use Rattle.fjall_memtable.proofs.Apart.{apart_drop, held_behind}
use Rattle.fjall_jobs.specs.declared.made_table.MadeTable.{MadeTable}
use Rattle.fjall_jobs.specs.Merges.{IsMerged}
use Rattle.fjall_jobs.specs.Tasks.{IsFlushed, Task}
use Rattle.fjall_tree.specs.Jobs.{IsFlushing, IsMerging, flush_finished, merge_finished}
use Rattle.fjall_tree.specs.Trees.{Flushing, Merging, Shape, clears_of, versions_of}
use Rattle.fjall_tree.proofs.Flushed.{flushed_view, shape_flushed}
use Rattle.fjall_tree.proofs.Merged.{merged_view, shape_merged}
use Rattle.fjall_trees.specs.Forests.{AreBefore, Forest, IsForest, IsTree, altered_at, tree_at}
use Rattle.fjall_trees.specs.Tables.{entries_with, shape_in}
use Rattle.fjall_trees.proofs.Changing.{tree_under}
use Rattle.fjall_trees.proofs.Outstanding.{flushing_tree, merging_tree}
use Rattle.fjall_trees.proofs.Places.{tree_has}
use Rattle.fjall_trees.specs.MapTables.{AreOlder, IsOlder, map_with, pairs_with, store_by, store_with}
use Rattle.fjall_trees.proofs.Changed.{altered_each, altered_forest, altered_found, altered_some}

-- ---- one tree

flushed_tree : (readers : List Reader) (out : Flushing) (shape : Shape) → IsTree shape → IsTree (flush_finished readers out shape)
flushed_tree readers out shape tree =
    let sealed = shape.memory.sealed in
    let active = shape.memory.active in
    let parted = ap (λ l. l ++ active ∷ []) (sym (take-append-drop out.count sealed)) ∙ append_assoc (take out.count sealed) (drop out.count sealed) (active ∷ []) in
    record {
      held = held_behind (take out.count sealed) (drop out.count sealed ++ active ∷ []) (subst (All IsHeld) parted tree.held);
      apart = apart_drop out.count sealed active tree.apart;
      clears = shape_flushed out.count shape.clears sealed active tree.held tree.apart tree.clears;
    }

merged_tree : (readers : List Reader) (out : Merging) (shape : Shape) → IsTree shape → IsTree (merge_finished readers out shape)
merged_tree readers out shape tree = record { held = tree.held; apart = tree.apart; clears = shape_merged out.watermark out.clears shape.clears shape.memory tree.clears }

-- ---- all trees

pub flushed_forest : (readers : List Reader) (out : Flushing) (id : ℕ) (trees : Forest) → IsForest trees → IsForest (altered_at id (flush_finished readers out) trees)
flushed_forest readers out id trees is =
    altered_forest id (flush_finished readers out) trees is
    (All-weaker (λ k. IsTree k.shape) (λ k. IsTree (flush_finished readers out k.shape)) (λ k tree. flushed_tree readers out k.shape tree) trees is.each)

pub merged_forest : (readers : List Reader) (out : Merging) (id : ℕ) (trees : Forest) → IsForest trees → IsForest (altered_at id (merge_finished readers out) trees)
merged_forest readers out id trees is =
    altered_forest id (merge_finished readers out) trees is
    (All-weaker (λ k. IsTree k.shape) (λ k. IsTree (merge_finished readers out k.shape)) (λ k tree. merged_tree readers out k.shape tree) trees is.each)

pub flushed_before : (readers : List Reader) (out : Flushing) (n id : ℕ) (trees : Forest) → AreBefore n trees → AreBefore n (altered_at id (flush_finished readers out) trees)
flushed_before readers out n id trees before = altered_each (λ s. s.memory.active.until ≤ n) id (flush_finished readers out) trees (λ s le. le) before

pub merged_before : (readers : List Reader) (out : Merging) (n id : ℕ) (trees : Forest) → AreBefore n trees → AreBefore n (altered_at id (merge_finished readers out) trees)
merged_before readers out n id trees before = altered_each (λ s. s.memory.active.until ≤ n) id (merge_finished readers out) trees (λ s le. le) before

pub flushed_has : (readers : List Reader) (out : Flushing) (id other : ℕ) (trees : Forest) → is_some (tree_at other (altered_at id (flush_finished readers out) trees)) ≡ is_some (tree_at other trees)
flushed_has readers out id other trees = altered_some id (flush_finished readers out) other trees

pub merged_has : (readers : List Reader) (out : Merging) (id other : ℕ) (trees : Forest) → is_some (tree_at other (altered_at id (merge_finished readers out) trees)) ≡ is_some (tree_at other trees)
merged_has readers out id other trees = altered_some id (merge_finished readers out) other trees

-- ---- maps

-- where one tree and its tables' entries are changed, and show the same, each keyspace does
altered_with : (entries : ℕ → List (List Entry)) (new : List (List Entry)) (id : ℕ) (change : Shape → Shape) (trees : Forest) (shape : Shape) (instant : ℕ) → tree_at id trees ≡ Some shape
    → map_with new instant (Some (change shape)) ≡ map_with (entries id) instant (Some shape) → (other : ℕ)
    → pairs_with (entries_with id new entries) other instant (altered_at id change trees) ≡ pairs_with entries other instant trees
altered_with entries new id change trees shape instant has shows other =
    altered_found id change other trees (λ b o. map_with (cond b new (entries other)) instant o ≡ map_with (entries other) instant (tree_at other trees))
    (λ same.
    let here = ap (λ n. tree_at n trees) same ∙ has in
    ap (λ o. map_with new instant (option_map change o)) here ∙ shows ∙ sym (λ i. map_with (entries (same i)) instant (here i))) refl

pub flushed_with : (entries : ℕ → List (List Entry)) (trees : Forest) → IsForest trees → (id : ℕ) (task : Task) (is : IsFlushing (shape_in id trees) task)
    → (tables : List MadeTable) (clears : List ℕ) (made : IsFlushed task tables clears) (readers : List Reader) (other instant : ℕ) → IsAbove task.watermark instant
    → pairs_with (entries_with id (entries id ++ made.lists) entries) other instant (altered_at id (flush_finished readers is.out) trees) ≡ pairs_with entries other instant trees
unfolding map_with
flushed_with entries trees forest id task is tables clears made readers other instant above =
    let shape = shape_in id trees in
    let has = flushing_tree id trees task is in
    let new = flush_finished readers is.out shape in
    let tree = tree_has IsTree trees id shape forest.each has in
    altered_with entries (entries id ++ made.lists) id (flush_finished readers is.out) trees shape instant has
    (Shown.same_views instant (clears_of new) (clears_of shape) (versions_of new (entries id ++ made.lists)) (versions_of shape (entries id))
    (λ key. flushed_view shape (entries id) task is tree.held tree.apart tables clears made readers key instant above)) other

pub merged_with : (entries : ℕ → List (List Entry)) (trees : Forest) → IsForest trees → AreOlder trees entries → (id : ℕ)
    → (task : Task) (is : IsMerging (shape_in id trees) (entries id) task) (target : ℕ) (tables : List MadeTable) (clears : List ℕ) (made : IsMerged target task tables clears) (readers : List Reader)
    → (other instant : ℕ) → IsAbove task.watermark instant
    → pairs_with (entries_with id (made.lists ++ drop is.out.tables (entries id)) entries) other instant (altered_at id (merge_finished readers is.out) trees) ≡ pairs_with entries other instant trees
unfolding map_with
merged_with entries trees forest older id task is target tables clears made readers other instant above =
    let shape = shape_in id trees in
    let has = merging_tree id trees (entries id) task is in
    let new = merge_finished readers is.out shape in
    let lists = made.lists ++ drop is.out.tables (entries id) in
    let tree = tree_has IsTree trees id shape forest.each has in
    let old = tree_under (λ k. IsOlder k.shape (entries k.id)) trees id shape older has in
    altered_with entries lists id (merge_finished readers is.out) trees shape instant has
    (Shown.same_views instant (clears_of new) (clears_of shape) (versions_of new lists) (versions_of shape (entries id))
    (λ key. merged_view shape (entries id) task is tree.held tree.apart old.once target tables clears made readers key instant above)) other

-- ---- the store, which shows what is below 2^63

pub flushed_store : (entries : ℕ → List (List Entry)) (trees : Forest) → IsForest trees → (id : ℕ) (task : Task) (is : IsFlushing (shape_in id trees) task)
    → (tables : List MadeTable) (clears : List ℕ) (made : IsFlushed task tables clears) (readers : List Reader) → task.watermark < 2 ^ 63 → (s : Keyspaces)
    → store_with (entries_with id (entries id ++ made.lists) entries) s (altered_at id (flush_finished readers is.out) trees) ≡ store_with entries s trees
flushed_store entries trees forest id task is tables clears made readers low s =
    ap (λ (pairs : ℕ → Pairs). store_by pairs s) (λ i q. flushed_with entries trees forest id task is tables clears made readers q (2 ^ 63) (inr low) i)

pub merged_store : (entries : ℕ → List (List Entry)) (trees : Forest) → IsForest trees → AreOlder trees entries → (id : ℕ)
    → (task : Task) (is : IsMerging (shape_in id trees) (entries id) task) (target : ℕ) (tables : List MadeTable) (clears : List ℕ) (made : IsMerged target task tables clears) (readers : List Reader)
    → task.watermark < 2 ^ 63 → (s : Keyspaces)
    → store_with (entries_with id (made.lists ++ drop is.out.tables (entries id)) entries) s (altered_at id (merge_finished readers is.out) trees) ≡ store_with entries s trees
merged_store entries trees forest older id task is target tables clears made readers low s =
    ap (λ (pairs : ℕ → Pairs). store_by pairs s) (λ i q. merged_with entries trees forest older id task is target tables clears made readers q (2 ^ 63) (inr low) i)
