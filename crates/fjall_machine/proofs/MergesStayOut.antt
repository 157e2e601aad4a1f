-- A merge that is out stays so as it was begun, or is out no more, whatever becomes of trees and of what tables hold.
use Rattle.std.proofs.Common.{◌≡◌, ◌≢◌, ℕ, zero, suc, ◌≤◌, ◌^◌, ◌==◌, Bool, true, false, cond, List, [], ◌∷◌, ◌++◌, length, map, take, drop, All, Option, None, Some, unwrap_or, refl, sym, ap, subst, ◌∙◌, arith}
use Rattle.std.proofs.lemmas.Bool.{true≢false}
use Rattle.std.proofs.lemmas.List.Elements.{All-cons, All-nil}
use Rattle.std.specs.Option.{option_map, option_or}
use Rattle.fjall_table_reader.specs.Readers.{Reader}
use Rattle.fjall_compaction.specs.Ingests.{version_of, versions_made}
use Rattle.fjall_compaction.specs.Whole.{MakesIngestion}
use Rattle.fjall_jobs.specs.declared.made_table.MadeTable.{MadeTable}
use Rattle.fjall_jobs.specs.Tasks.{IsFlushed, Task}
use Rattle.fjall_journal.specs.Changes.{Change, Emptied, Items}
use Rattle.fjall_journal.specs.Ops.{BatchItem}
use Rattle.fjall_tree.specs.Ingestions.{ingested}
use Rattle.fjall_tree.specs.Jobs.{IsFlushing, IsMerging, flush_begun, flush_dropped, flush_finished, is_merge_out}
use Rattle.fjall_tree.specs.Puts.{bare_tree, put_all}
use Rattle.fjall_tree.specs.Trees.{Flushing, Merging, Shape, emptied, sealed_off}
use Rattle.fjall_tree.proofs.Flushed.{flushed_merging}
use Rattle.fjall_memtable.specs.Parts.{AreApart, HeldPart, IsHeld, clears_in, parts_of}
use Rattle.fjall_table.specs.Blocks.{Entry}
use Rattle.fjall_manifest.specs.Records.{Fields}
use Rattle.fjall_trees.specs.Forests.{Forest, IsForest, IsTree, altered_at, tree_at, without}
use Rattle.fjall_trees.specs.Tables.{shape_in}
use Rattle.fjall_trees.specs.Writes.{pushed, versions_of_items, with_tree}
use Rattle.fjall_trees.proofs.Changing.{put_all_keeps}
use Rattle.fjall_trees.proofs.Others.{altered_here, dropped_here}
use Rattle.fjall_trees.proofs.Outstanding.{merging_begun, merging_dropped, merging_emptied, merging_ingested, merging_planted, merging_pushed, merging_rotated, merging_tree, other_shape, shape_left}
use Rattle.fjall_trees.proofs.Places.{each_by, tree_each, tree_has}
use Rattle.fjall_trees.proofs.Changed.{tree_with}
use Rattle.fjall_meta.proofs.Slots.{same_id}
use Rattle.fjall_reading.specs.Ingestions.{KeyOp}
use Rattle.fjall_machine.specs.Machine.{changed, task_of}
use Rattle.fjall_machine.proofs.Lawful.{itself}
use Rattle.fjall_machine.proofs.SameTrees.{LeavesMerge}

-- Where a merge of the task's number is out of these trees, it was begun with the task, its keyspace's tables having these entries.
abbrev pub IsAsBegun : Task → Forest → List (List Entry) → Type 0
IsAsBegun task trees entries = is_merge_out task.id (shape_in task.keyspace trees).merge ≡ true → IsMerging (shape_in task.keyspace trees) entries task

-- ---- the merge of a keyspace's tree

merge_each : (change : ℕ → Shape → Shape) → ((id : ℕ) → LeavesMerge (change id)) → (id : ℕ) (trees : Forest) → (shape_in id (each_by change trees)).merge ≡ (shape_in id trees).merge
merge_each change leaves id trees = ap (λ (o : Option Shape). (unwrap_or o (bare_tree 0)).merge) (tree_each change id trees) ∙ by (tree_at id trees)
  where
    by : (o : Option Shape) → (unwrap_or (option_map (change id) o) (bare_tree 0)).merge ≡ (unwrap_or o (bare_tree 0)).merge
    by None = refl
    by (Some shape) = leaves id shape

merge_altered : (id other : ℕ) (change : Shape → Shape) → LeavesMerge change → (trees : Forest) → (shape_in id (altered_at other change trees)).merge ≡ (shape_in id trees).merge
merge_altered id other change leaves trees = merge_each (λ k shape. cond (k == other) (change shape) shape) (λ k. by (k == other)) id trees
  where
    by : (b : Bool) → LeavesMerge (λ shape. cond b (change shape) shape)
    by true shape = leaves shape
    by false shape = refl

merge_pushed : (n : ℕ) (items : List BatchItem) (id : ℕ) (trees : Forest) → (shape_in id (pushed n items trees)).merge ≡ (shape_in id trees).merge
unfolding pushed
merge_pushed n items id trees =
    merge_each (λ k. put_all (versions_of_items k n items)) (λ k shape. put_all_keeps (λ (s : Shape). s.merge ≡ shape.merge) (λ v s same. same) (versions_of_items k n items) shape refl) id trees

merge_planted : (id other from : ℕ) (trees : Forest) → (shape_in id (with_tree other from trees)).merge ≡ (shape_in id trees).merge
merge_planted id other from trees =
    ap (λ (o : Option Shape). (unwrap_or o (bare_tree 0)).merge) (tree_with id trees (record { id = other; shape = bare_tree from })) ∙ by (tree_at id trees) (other == id)
  where
    by : (o : Option Shape) (b : Bool) → (unwrap_or (option_or o (cond b (Some (bare_tree from)) None)) (bare_tree 0)).merge ≡ (unwrap_or o (bare_tree 0)).merge
    by (Some shape) b = refl
    by None true = refl
    by None false = refl

module _ (task : Task) (trees : Forest) (entries : List (List Entry)) where
  -- where the merge that is out is the same, and what was begun stays so
  on_trees : (new : Forest) (there : List (List Entry)) → (shape_in task.keyspace new).merge ≡ (shape_in task.keyspace trees).merge
      → (IsMerging (shape_in task.keyspace trees) entries task → IsMerging (shape_in task.keyspace new) there task) → IsAsBegun task trees entries → IsAsBegun task new there
  on_trees new there same keeps begun = λ out. keeps (begun (ap (λ (o : Option Merging). is_merge_out task.id o) (sym same) ∙ out))

  pub begun_changed : (n : ℕ) (change : Change) → IsAsBegun task trees entries → IsAsBegun task (changed n change trees) entries
  begun_changed n (Items items) = on_trees (pushed n items trees) entries (merge_pushed n items task.keyspace trees) (λ is. merging_pushed task.keyspace trees entries task is n items)
  begun_changed n (Emptied id) =
      on_trees (altered_at id (emptied n) trees) entries (merge_altered task.keyspace id (emptied n) (λ shape. refl) trees) (λ is. merging_emptied task.keyspace trees entries task is id n)

  pub begun_rotated : (id : ℕ) → IsAsBegun task trees entries → IsAsBegun task (altered_at id sealed_off trees) entries
  begun_rotated id = on_trees (altered_at id sealed_off trees) entries (merge_altered task.keyspace id sealed_off (λ shape. refl) trees) (λ is. merging_rotated task.keyspace trees entries task is id)

  pub begun_planted : (id from : ℕ) → IsAsBegun task trees entries → IsAsBegun task (with_tree id from trees) entries
  begun_planted id from = on_trees (with_tree id from trees) entries (merge_planted task.keyspace id from trees) (λ is. merging_planted task.keyspace trees entries task is id from)

  pub begun_beside_flush : (id job watermark : ℕ) → IsAsBegun task trees entries → IsAsBegun task (altered_at id (flush_begun job watermark) trees) entries
  begun_beside_flush id job watermark =
      on_trees (altered_at id (flush_begun job watermark) trees) entries (merge_altered task.keyspace id (flush_begun job watermark) (λ shape. refl) trees) (λ is. merging_begun task.keyspace trees entries task is id job watermark)

  pub begun_beside_dropped : (id : ℕ) → IsAsBegun task trees entries → IsAsBegun task (altered_at id flush_dropped trees) entries
  begun_beside_dropped id = on_trees (altered_at id flush_dropped trees) entries (merge_altered task.keyspace id flush_dropped (λ shape. refl) trees) (λ is. merging_dropped task.keyspace trees entries task is id)

  -- ---- where one tree is changed, what its tables hold with it

  other_id : (id : ℕ) → (task.keyspace == id) ≡ false → task.keyspace ≢ id
  other_id id e same = true≢false (sym (itself id) ∙ ap (λ (k : ℕ). k == id) (sym same) ∙ e)

  elsewhere : (id : ℕ) (change : Shape → Shape) → (task.keyspace == id) ≡ false → IsAsBegun task trees entries → IsAsBegun task (altered_at id change trees) entries
  elsewhere id change e begun = subst (λ (s : Shape). is_merge_out task.id s.merge ≡ true → IsMerging s entries task) (sym (other_shape id task.keyspace change trees (other_id id e))) begun

  -- no merge of its number is out of the tree that changed
  pub begun_without : (id : ℕ) (change : Shape → Shape) (there : List (List Entry)) → ((task.keyspace == id) ≡ false → there ≡ entries) → ((shape : Shape) → is_merge_out task.id (change shape).merge ≡ true → ⊥)
      → IsAsBegun task trees entries → IsAsBegun task (altered_at id change trees) there
  begun_without id change there others none begun = by (task.keyspace == id) refl
    where
      here : (o : Option Shape) → is_merge_out task.id (unwrap_or (option_map change o) (bare_tree 0)).merge ≡ true → ⊥
      here None e = true≢false (sym e)
      here (Some shape) e = none shape e

      by : (b : Bool) → (task.keyspace == id) ≡ b → IsAsBegun task (altered_at id change trees) there
      by true e =
          let at : tree_at task.keyspace (altered_at id change trees) ≡ option_map change (tree_at id trees) = ap (λ (k : ℕ). tree_at k (altered_at id change trees)) (same_id task.keyspace id e) ∙ altered_here id change trees in
          λ out. absurd (here (tree_at id trees) (subst (λ (o : Option Shape). is_merge_out task.id (unwrap_or o (bare_tree 0)).merge ≡ true) at out))
      by false e = subst (IsAsBegun task (altered_at id change trees)) (sym (others e)) (elsewhere id change e begun)

  -- a tree that is dropped has none out
  pub begun_dropped : (id : ℕ) → IsAsBegun task trees entries → IsAsBegun task (without id trees) entries
  begun_dropped id begun = by (task.keyspace == id) refl
    where
      by : (b : Bool) → (task.keyspace == id) ≡ b → IsAsBegun task (without id trees) entries
      by true e =
          let gone : tree_at task.keyspace (without id trees) ≡ None = ap (λ (k : ℕ). tree_at k (without id trees)) (same_id task.keyspace id e) ∙ dropped_here id trees in
          λ out. absurd (true≢false (sym out ∙ ap (λ (o : Option Shape). is_merge_out task.id (unwrap_or o (bare_tree 0)).merge) gone))
      by false e = subst (λ (s : Shape). is_merge_out task.id s.merge ≡ true → IsMerging s entries task) (sym (shape_left id task.keyspace trees (other_id id e))) begun

  -- where the tree that changed keeps its merge, with what came behind its tables
  pub begun_behind : (id : ℕ) (change : Shape → Shape) (there : List (List Entry)) → ((task.keyspace == id) ≡ false → there ≡ entries) → LeavesMerge change
      → ((task.keyspace == id) ≡ true → IsMerging (shape_in task.keyspace trees) entries task → IsMerging (shape_in task.keyspace (altered_at id change trees)) there task)
      → IsAsBegun task trees entries → IsAsBegun task (altered_at id change trees) there
  begun_behind id change there others leaves keeps begun = by (task.keyspace == id) refl
    where
      by : (b : Bool) → (task.keyspace == id) ≡ b → IsAsBegun task (altered_at id change trees) there
      by true e = on_trees (altered_at id change trees) there (merge_altered task.keyspace id change leaves trees) (keeps e) begun
      by false e = subst (IsAsBegun task (altered_at id change trees)) (sym (others e)) (elsewhere id change e begun)

-- ---- flushes and ingestions of its keyspace

-- of so many parts no more are there than there are
least_taken : (n : ℕ) (xs : List HeldPart) → (c : ℕ) × (c ≤ length xs) × (take c xs ≡ take n xs) × (drop c xs ≡ drop n xs)
least_taken zero xs = (0, omega arith, refl, refl)
least_taken (suc n) [] = (0, omega arith, refl, refl)
least_taken (suc n) (x ∷ xs) =
    let rest = least_taken n xs in
    let le = rest.1 in
    (suc rest.0, omega (arith, le), ap (λ (l : List HeldPart). x ∷ l) rest.2, rest.3)

-- a flush that is finished, however many parts it says that it takes
one_flushed : (shape : Shape) → All IsHeld (parts_of shape.memory) → AreApart (parts_of shape.memory) → (id : ℕ) (out : Flushing) (tables : List MadeTable) (clears : List ℕ) (made : IsFlushed (task_of id shape out) tables clears)
    → (readers : List Reader) (entries : List (List Entry)) (task : Task) → IsMerging shape entries task → IsMerging (flush_finished readers out shape) (entries ++ made.lists) task
one_flushed shape held apart id out tables clears made readers entries task m =
    let least = least_taken out.count shape.memory.sealed in
    let taken : take least.0 shape.memory.sealed ≡ take out.count shape.memory.sealed = least.2 in
    let left : drop least.0 shape.memory.sealed ≡ drop out.count shape.memory.sealed = least.3 in
    let flush : Flushing = record { id = out.id; watermark = out.watermark; count = least.0 } in
    let tree : Shape = record shape { flush = Some flush } in
    let is : IsFlushing tree (task_of id shape out) = record {
      out = flush;
      is = refl;
      id = refl;
      watermark = refl;
      within = least.1;
      runs = ap (λ (l : List HeldPart). map (λ h. h.versions) l) (sym taken);
      clears = ap clears_in (sym taken);
    } in
    let here : IsMerging tree entries task = record {
      out = m.out;
      is = m.is;
      id = m.id;
      watermark = m.watermark;
      within = m.within;
      within_clears = m.within_clears;
      runs = m.runs;
      clears = m.clears;
      below = m.below;
      clears_below = m.clears_below;
      from = m.from;
      floor = m.floor;
    } in
    let same : flush_finished readers flush tree ≡ flush_finished readers out shape = λ i. record {
      tables = shape.tables ++ readers;
      clears = shape.clears ++ clears_in (taken i);
      memory = record shape.memory { sealed = left i };
      flush = None;
      merge = shape.merge;
    } in
    subst (λ (s : Shape). IsMerging s (entries ++ made.lists) task) same (flushed_merging tree entries (task_of id shape out) task is held apart tables clears made readers here)

changed_here : (id : ℕ) (change : Shape → Shape) (trees : Forest) → tree_at id trees ≡ Some (shape_in id trees) → change (shape_in id trees) ≡ shape_in id (altered_at id change trees)
changed_here id change trees has = sym (ap (λ (o : Option Shape). unwrap_or o (bare_tree 0)) (altered_here id change trees ∙ ap (option_map change) has))

pub merging_flushed_at : (id : ℕ) (trees : Forest) → IsForest trees → (out : Flushing) (tables : List MadeTable) (clears : List ℕ) (made : IsFlushed (task_of id (shape_in id trees) out) tables clears)
    → (readers : List Reader) (entries : List (List Entry)) (task : Task) → IsMerging (shape_in id trees) entries task → IsMerging (shape_in id (altered_at id (flush_finished readers out) trees)) (entries ++ made.lists) task
merging_flushed_at id trees forest out tables clears made readers entries task m =
    let shape = shape_in id trees in
    let has = merging_tree id trees entries task m in
    let tree = tree_has IsTree trees id shape forest.each has in
    subst (λ (s : Shape). IsMerging s (entries ++ made.lists) task) (changed_here id (flush_finished readers out) trees has) (one_flushed shape tree.held tree.apart id out tables clears made readers entries task m)

-- all that an ingestion makes has its number
numbered : (n : ℕ) (items : List KeyOp) → All (λ v. v.number ≡ n) (versions_made n items)
numbered n [] = All-nil (λ (v : Entry). v.number ≡ n)
numbered n (item ∷ items) = All-cons (λ (v : Entry). v.number ≡ n) (version_of n item) (versions_made n items) refl (numbered n items)

pub merging_ingested_at : (id : ℕ) (trees : Forest) → IsForest trees → (watermark n : ℕ) → n ≤ 2 ^ 63 → (shape_in id trees).memory.active.until ≤ n → (items : List KeyOp) (last : Fields) (flushes made : List MadeTable) (readers : List Reader)
    → (makes : MakesIngestion (shape_in id trees) id watermark n items last flushes made readers) (entries : List (List Entry)) (task : Task) → IsMerging (shape_in id trees) entries task
    → IsMerging (shape_in id (altered_at id (ingested n readers) trees)) (entries ++ (makes.flushed.lists ++ makes.are.0)) task
merging_ingested_at id trees forest watermark n small until items last flushes made readers makes entries task m =
    merging_ingested id trees entries task m forest id watermark flushes (clears_in (parts_of (shape_in id trees).memory)) makes.flushed n small until makes.are.0
    (subst (All (λ v. v.number ≡ n)) (sym makes.are.3) (numbered n items)) readers
