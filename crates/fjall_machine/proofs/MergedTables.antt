-- What tables hold beside memory once a merge is finished.
use Rattle.std.proofs.Common.{◌≡◌, ℕ, zero, suc, ◌<◌, List, [], ◌∷◌, ◌++◌, length, map, take, drop, All, Some, refl, sym, subst, arith}
use Rattle.std.proofs.lemmas.List.Elements.{All-append, All-filter, All-weaker}
use Rattle.fjall_table_reader.specs.Readers.{AreSameTables, Reader}
use Rattle.fjall_jobs.specs.declared.made_table.MadeTable.{MadeTable}
use Rattle.fjall_jobs.specs.Merges.{IsMerged}
use Rattle.fjall_jobs.specs.Tasks.{Task}
use Rattle.fjall_tree.specs.Jobs.{IsMerging, merge_begun, merge_finished}
use Rattle.fjall_tree.specs.Trees.{IsSameShape, Merging, Shape, floor_of}
use Rattle.fjall_tree.proofs.Flushed.{behind_of}
use Rattle.fjall_tree.proofs.Merged.{once_of}
use Rattle.fjall_tree.proofs.Outstanding.{same_count}
use Rattle.fjall_tree.proofs.Several.{all_same, flat_both, flat_parted, ordered_once}
use Rattle.fjall_trees.specs.MapTables.{AreOlder, IsOlder}
use Rattle.fjall_compaction.specs.Merges.{merged_infos}
use Rattle.fjall_memtable.specs.Sorted.{flat}
use Rattle.fjall_table.specs.Blocks.{Entry}
use Rattle.fjall_trees.specs.Forests.{Forest, IsForest, altered_at}
use Rattle.fjall_trees.specs.Tables.{entries_with, shape_in}
use Rattle.fjall_trees.proofs.Changing.{altered_keeps, tree_under}
use Rattle.fjall_trees.proofs.Outstanding.{merging_tree}
use Rattle.fjall_memtable.specs.Jobs.{AreBelow, OnceEach, merged, merged_clears}
use Rattle.fjall_memtable.proofs.Once.{parts_once}
use Rattle.fjall_machine.proofs.Older.{both_empty, both_none, none_listed}

-- ---- whatever is kept of tables

pub begun_same : (job watermark : ℕ) (a b : Shape) → IsSameShape a b → IsSameShape (merge_begun job watermark a) (merge_begun job watermark b)
begun_same job watermark a b same = record {
  tables = same.tables;
  clears = same.clears;
  memory = same.memory;
  flush = same.flush;
  merge = λ i. Some (record { id = job; watermark = watermark; tables = sym (same_count a.tables b.tables same.tables) i; clears = length (same.clears i); bound = floor_of (same.memory i) });
}

left_same : (n : ℕ) (a b : List Reader) → AreSameTables a b → AreSameTables (drop n a) (drop n b)
left_same zero a b same = same
left_same (suc n) [] [] same = tt
left_same (suc n) [] (u ∷ b) same = absurd same
left_same (suc n) (t ∷ a) [] same = absurd same
left_same (suc n) (t ∷ a) (u ∷ b) same = left_same n a b same.1

front_same : (made a b : List Reader) → AreSameTables a b → AreSameTables (made ++ a) (made ++ b)
front_same [] a b same = same
front_same (t ∷ made) a b same = (record { name = refl; info = refl; handles = refl }, front_same made a b same)

pub merged_same : (made : List Reader) (out : Merging) (a b : Shape) → IsSameShape a b → IsSameShape (merge_finished made out a) (merge_finished made out b)
merged_same made out a b same = record {
  tables = front_same made (drop out.tables a.tables) (drop out.tables b.tables) (left_same out.tables a.tables b.tables same.tables);
  clears = λ i. merged_clears out.watermark (take out.clears (same.clears i)) ++ drop out.clears (same.clears i);
  memory = same.memory;
  flush = same.flush;
  merge = refl;
}

-- ---- older than memory

-- what a merge made is numbered below its bound, and so is older than what came since, and than memory
one_older : (shape : Shape) (entries : List (List Entry)) (task : Task) (is : IsMerging shape entries task) → IsOlder shape entries
    → (target : ℕ) (tables : List MadeTable) (clears : List ℕ) (made : IsMerged target task tables clears) (readers : List Reader)
    → IsOlder (merge_finished readers is.out shape) (made.lists ++ drop is.out.tables entries)
one_older shape entries task is older target tables clears made readers =
    let floor = floor_of shape.memory in
    let rest = drop is.out.tables entries in
    let above = is.floor in
    let low = all_same (λ (v : Entry). v.number < is.out.bound) (flat made.lists) (merged task.watermark task.clears (flat task.runs)) made.kept (All-filter _ (λ (v : Entry). v.number < is.out.bound) (flat task.runs) is.below) in
    record {
      below = subst (AreBelow floor) (sym (flat_both made.lists rest))
          (All-append (λ (v : Entry). v.number < floor) (flat made.lists) (flat rest)
          (All-weaker (λ (v : Entry). v.number < is.out.bound) (λ (v : Entry). v.number < floor) (λ v lt. omega (arith, lt, above)) (flat made.lists) low)
          (behind_of (λ (v : Entry). v.number < floor) (flat (take is.out.tables entries)) (flat rest) (subst (AreBelow floor) (flat_parted is.out.tables entries) older.below)));
      once = subst OnceEach (sym (flat_both made.lists rest))
          (parts_once is.out.bound (flat made.lists) (flat rest) low is.from (ordered_once (flat made.lists) made.ordered) (once_of entries is.out.tables older.once).1);
    }

module _ (entries : ℕ → List (List Entry)) (trees : Forest) (forest : IsForest trees) (id : ℕ) (task : Task) (is : IsMerging (shape_in id trees) (entries id) task)
    (target : ℕ) (tables : List MadeTable) (clears : List ℕ) (made : IsMerged target task tables clears) (readers : List Reader) where
  pub merged_older : AreOlder trees entries → AreOlder (altered_at id (merge_finished readers is.out) trees) (entries_with id (made.lists ++ drop is.out.tables (entries id)) entries)
  merged_older older =
      let shape = shape_in id trees in
      let has = merging_tree id trees (entries id) task is in
      let old = tree_under (λ k. IsOlder k.shape (entries k.id)) trees id shape older has in
      altered_keeps IsOlder trees entries older forest id shape has (merge_finished readers is.out) (made.lists ++ drop is.out.tables (entries id))
      (one_older shape (entries id) task is old target tables clears made readers)

  -- ---- without a table

  -- where no reader of a made table comes, no table was made
  none_made : (next : ℕ) (made : List MadeTable) (readers : List Reader) → map (λ t. t.info) readers ≡ merged_infos next made → readers ≡ [] → made ≡ []
  none_made next [] readers infos none = let same : next ≡ next = omega arith in cc
  none_made next (t ∷ made) readers infos none = let bad : ⊥ = cc in absurd bad

  -- of lists of one length as many are left
  none_left : (n : ℕ) (xs : List (List Entry)) (ys : List Reader) → length xs ≡ length ys → drop n ys ≡ [] → drop n xs ≡ []
  none_left zero [] ys same none = refl
  none_left (suc n) [] ys same none = refl
  none_left n (x ∷ xs) [] same none = absurd (omega (arith, same))
  none_left zero (x ∷ xs) (y ∷ ys) same none = let bad : ⊥ = cc in absurd bad
  none_left (suc n) (x ∷ xs) (y ∷ ys) same none = none_left n xs ys (omega (arith, same)) none

  -- A keyspace without a table has none then, where each of its tables had its entries.
  pub merged_none : (next : ℕ) → map (λ t. t.info) readers ≡ merged_infos next tables → length (entries id) ≡ length (shape_in id trees).tables
      → All (λ k. k.shape.tables ≡ [] → entries k.id ≡ []) trees
      → All (λ k. k.shape.tables ≡ [] → entries_with id (made.lists ++ drop is.out.tables (entries id)) entries k.id ≡ []) (altered_at id (merge_finished readers is.out) trees)
  merged_none next infos counted none =
      let shape = shape_in id trees in
      let has = merging_tree id trees (entries id) task is in
      altered_keeps (λ s es. s.tables ≡ [] → es ≡ []) trees entries none forest id shape has (merge_finished readers is.out) (made.lists ++ drop is.out.tables (entries id))
      (λ bare.
      let both = both_none readers (drop is.out.tables shape.tables) bare in
      both_empty made.lists (drop is.out.tables (entries id)) (none_listed tables made.lists made.made (none_made next tables readers infos both.0)) (none_left is.out.tables (entries id) shape.tables counted both.1))
