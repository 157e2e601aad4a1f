-- Jobs that are out stay so, whatever becomes of other trees and of what is written.
use Rattle.std.proofs.Common.{◌≡◌, ◌≢◌, ℕ, ◌≤◌, ◌^◌, ◌==◌, Bool, true, false, cond, List, [], ◌∷◌, ◌++◌, take, length, unwrap_or, Option, Some, None, refl, sym, ap, subst, ◌∙◌, All, arith}
use Rattle.std.specs.Option.{option_map}
use Rattle.fjall_journal.specs.Ops.{BatchItem}
use Rattle.fjall_memtable.specs.Sorted.{flat}
use Rattle.fjall_table.specs.Blocks.{Entry}
use Rattle.fjall_table_reader.specs.Readers.{Reader}
use Rattle.fjall_jobs.specs.declared.made_table.MadeTable.{MadeTable}
use Rattle.fjall_jobs.specs.Tasks.{IsFlushed, Task}
use Rattle.fjall_memtable.specs.Parts.{Memory}
use Rattle.fjall_tree.specs.Ingestions.{ingested, memory_task}
use Rattle.fjall_tree.specs.Jobs.{IsFlushing, IsMerging, flush_begun, flush_dropped, flush_finished, merge_begun, merge_dropped, merge_finished}
use Rattle.fjall_tree.specs.Puts.{bare_tree, put_all}
use Rattle.fjall_tree.specs.Trees.{Flushing, IsSameShape, Merging, Shape, emptied, floor_of, sealed_off}
use Rattle.fjall_tree.proofs.Flushed.{flushed_merging}
use Rattle.fjall_tree.proofs.Ingested.{merge_ingested}
use Rattle.fjall_tree.proofs.Merged.{merged_flushing}
use Rattle.fjall_tree.proofs.Staying.{flush_emptied, flush_rotated, flush_written, merge_emptied, merge_rotated, merge_written}
use Rattle.fjall_trees.specs.Forests.{Forest, IsForest, IsTree, altered_at, tree_at, without}
use Rattle.fjall_trees.specs.Tables.{AreSameTrees, shape_in}
use Rattle.fjall_trees.specs.Writes.{pushed, versions_of_items, with_tree}
use Rattle.fjall_trees.proofs.Changing.{put_all_keeps}
use Rattle.fjall_trees.proofs.Others.{altered_here, altered_other, kept_others}
use Rattle.fjall_trees.proofs.Places.{each_by, tree_each, tree_has}

-- ---- the tree of a keyspace that has a job out

has_flush : (o : Option Shape) (out : Flushing) → (unwrap_or o (bare_tree 0)).flush ≡ Some out → o ≡ Some (unwrap_or o (bare_tree 0))
has_flush None out is = absurd cc
has_flush (Some shape) out is = refl

has_merge : (o : Option Shape) (out : Merging) → (unwrap_or o (bare_tree 0)).merge ≡ Some out → o ≡ Some (unwrap_or o (bare_tree 0))
has_merge None out is = absurd cc
has_merge (Some shape) out is = refl

pub flushing_tree : (id : ℕ) (trees : Forest) (task : Task) → IsFlushing (shape_in id trees) task → tree_at id trees ≡ Some (shape_in id trees)
flushing_tree id trees task is = has_flush (tree_at id trees) is.out is.is

pub merging_tree : (id : ℕ) (trees : Forest) (entries : List (List Entry)) (task : Task) → IsMerging (shape_in id trees) entries task → tree_at id trees ≡ Some (shape_in id trees)
merging_tree id trees entries task is = has_merge (tree_at id trees) is.out is.is

-- a tree more behind all others leaves it
found_before : (id : ℕ) (trees more : Forest) (shape : Shape) → tree_at id trees ≡ Some shape → tree_at id (trees ++ more) ≡ Some shape
found_before id [] more shape has = absurd cc
found_before id (k ∷ trees) more shape has = by (k.id == id) has (found_before id trees more shape)
  where
    by : (b : Bool) → cond b (Some k.shape) (tree_at id trees) ≡ Some shape → (tree_at id trees ≡ Some shape → tree_at id (trees ++ more) ≡ Some shape)
        → cond b (Some k.shape) (tree_at id (trees ++ more)) ≡ Some shape
    by true has rest = has
    by false has rest = rest has

in_more : (P : Shape → Type 0) (id : ℕ) (trees more : Forest) → tree_at id trees ≡ Some (shape_in id trees) → P (shape_in id trees) → P (shape_in id (trees ++ more))
in_more P id trees more has is = subst (λ o. P (unwrap_or o (bare_tree 0))) (sym (found_before id trees more (shape_in id trees) has)) is

-- ---- what holds of a keyspace's tree, where trees change

in_each : (P : Shape → Type 0) (change : ℕ → Shape → Shape) (id : ℕ) (trees : Forest) → ((shape : Shape) → P shape → P (change id shape)) → P (shape_in id trees) → P (shape_in id (each_by change trees))
in_each P change id trees keeps is = subst (λ o. P (unwrap_or o (bare_tree 0))) (sym (tree_each change id trees)) (by (tree_at id trees) is)
  where
    by : (o : Option Shape) → P (unwrap_or o (bare_tree 0)) → P (unwrap_or (option_map (change id) o) (bare_tree 0))
    by None is = is
    by (Some shape) is = keeps shape is

in_altered : (P : Shape → Type 0) (change : Shape → Shape) (id other : ℕ) (trees : Forest) → ((shape : Shape) → P shape → P (change shape)) → P (shape_in id trees) → P (shape_in id (altered_at other change trees))
in_altered P change id other trees keeps is = in_each P (λ k shape. cond (k == other) (change shape) shape) id trees (λ shape here. by (id == other) shape here) is
  where
    by : (b : Bool) (shape : Shape) → P shape → P (cond b (change shape) shape)
    by true shape here = keeps shape here
    by false shape here = here

in_pushed : (P : Shape → Type 0) (n : ℕ) (items : List BatchItem) (id : ℕ) (trees : Forest) → ((shape : Shape) → P shape → P (put_all (versions_of_items id n items) shape)) → P (shape_in id trees)
    → P (shape_in id (pushed n items trees))
unfolding pushed
in_pushed P n items id trees keeps is = in_each P (λ k. put_all (versions_of_items k n items)) id trees keeps is

pub other_shape : (id other : ℕ) (change : Shape → Shape) (trees : Forest) → other ≢ id → shape_in other (altered_at id change trees) ≡ shape_in other trees
other_shape id other change trees differ = ap (λ o. unwrap_or o (bare_tree 0)) (altered_other id other change trees differ)

pub shape_left : (id other : ℕ) (trees : Forest) → other ≢ id → shape_in other (without id trees) ≡ shape_in other trees
shape_left id other trees differ = ap (λ o. unwrap_or o (bare_tree 0)) (kept_others id other trees differ)

-- ---- flushes

pub flushing_pushed : (id : ℕ) (trees : Forest) (task : Task) → IsFlushing (shape_in id trees) task → (n : ℕ) (items : List BatchItem) → IsFlushing (shape_in id (pushed n items trees)) task
flushing_pushed id trees task is n items =
    in_pushed (λ s. IsFlushing s task) n items id trees (λ shape here. put_all_keeps (λ s. IsFlushing s task) (λ v s is. flush_written s v task is) (versions_of_items id n items) shape here) is

pub flushing_emptied : (id : ℕ) (trees : Forest) (task : Task) → IsFlushing (shape_in id trees) task → (other n : ℕ) → IsFlushing (shape_in id (altered_at other (emptied n) trees)) task
flushing_emptied id trees task is other n = in_altered (λ s. IsFlushing s task) (emptied n) id other trees (λ shape. flush_emptied shape n task) is

pub flushing_rotated : (id : ℕ) (trees : Forest) (task : Task) → IsFlushing (shape_in id trees) task → (other : ℕ) → IsFlushing (shape_in id (altered_at other sealed_off trees)) task
flushing_rotated id trees task is other = in_altered (λ s. IsFlushing s task) sealed_off id other trees (λ shape. flush_rotated shape task) is

pub flushing_begun : (id : ℕ) (trees : Forest) (task : Task) → IsFlushing (shape_in id trees) task → (other job watermark : ℕ)
    → IsFlushing (shape_in id (altered_at other (merge_begun job watermark) trees)) task
flushing_begun id trees task is other job watermark =
    in_altered (λ s. IsFlushing s task) (merge_begun job watermark) id other trees
    (λ shape here. record { out = here.out; is = here.is; id = here.id; watermark = here.watermark; within = here.within; runs = here.runs; clears = here.clears }) is

pub flushing_merged : (id : ℕ) (trees : Forest) (task : Task) → IsFlushing (shape_in id trees) task → (other : ℕ) (readers : List Reader) (out : Merging)
    → IsFlushing (shape_in id (altered_at other (merge_finished readers out) trees)) task
flushing_merged id trees task is other readers out = in_altered (λ s. IsFlushing s task) (merge_finished readers out) id other trees (λ shape. merged_flushing readers out shape task) is

pub flushing_merge_dropped : (id : ℕ) (trees : Forest) (task : Task) → IsFlushing (shape_in id trees) task → (other : ℕ) → IsFlushing (shape_in id (altered_at other merge_dropped trees)) task
flushing_merge_dropped id trees task is other =
    in_altered (λ s. IsFlushing s task) merge_dropped id other trees
    (λ shape here. record { out = here.out; is = here.is; id = here.id; watermark = here.watermark; within = here.within; runs = here.runs; clears = here.clears }) is

pub flushing_planted : (id : ℕ) (trees : Forest) (task : Task) → IsFlushing (shape_in id trees) task → (other from : ℕ) → IsFlushing (shape_in id (with_tree other from trees)) task
flushing_planted id trees task is other from = in_more (λ s. IsFlushing s task) id trees (record { id = other; shape = bare_tree from } ∷ []) (flushing_tree id trees task is) is

-- whatever becomes of another keyspace's tree
pub flushing_elsewhere : (id other : ℕ) (change : Shape → Shape) (trees : Forest) (task : Task) → other ≢ id → IsFlushing (shape_in id trees) task
    → IsFlushing (shape_in id (altered_at other change trees)) task
flushing_elsewhere id other change trees task differ is = subst (λ (s : Shape). IsFlushing s task) (sym (other_shape other id change trees (λ same. differ (sym same)))) is

-- ---- merges

pub merging_pushed : (id : ℕ) (trees : Forest) (entries : List (List Entry)) (task : Task) → IsMerging (shape_in id trees) entries task → (n : ℕ) (items : List BatchItem)
    → IsMerging (shape_in id (pushed n items trees)) entries task
merging_pushed id trees entries task is n items =
    in_pushed (λ s. IsMerging s entries task) n items id trees
    (λ shape here. put_all_keeps (λ s. IsMerging s entries task) (λ v s is. merge_written s entries v task is) (versions_of_items id n items) shape here) is

pub merging_emptied : (id : ℕ) (trees : Forest) (entries : List (List Entry)) (task : Task) → IsMerging (shape_in id trees) entries task → (other n : ℕ)
    → IsMerging (shape_in id (altered_at other (emptied n) trees)) entries task
merging_emptied id trees entries task is other n = in_altered (λ s. IsMerging s entries task) (emptied n) id other trees (λ shape. merge_emptied shape entries n task) is

pub merging_rotated : (id : ℕ) (trees : Forest) (entries : List (List Entry)) (task : Task) → IsMerging (shape_in id trees) entries task → (other : ℕ)
    → IsMerging (shape_in id (altered_at other sealed_off trees)) entries task
merging_rotated id trees entries task is other = in_altered (λ s. IsMerging s entries task) sealed_off id other trees (λ shape. merge_rotated shape entries task) is

pub merging_planted : (id : ℕ) (trees : Forest) (entries : List (List Entry)) (task : Task) → IsMerging (shape_in id trees) entries task → (other from : ℕ)
    → IsMerging (shape_in id (with_tree other from trees)) entries task
merging_planted id trees entries task is other from =
    in_more (λ s. IsMerging s entries task) id trees (record { id = other; shape = bare_tree from } ∷ []) (merging_tree id trees entries task is) is

-- the same clears, memory and merge
merging_alike : (old new : Shape) (entries : List (List Entry)) (task : Task) → new.clears ≡ old.clears → new.memory ≡ old.memory → new.merge ≡ old.merge → IsMerging old entries task → IsMerging new entries task
merging_alike old new entries task clears memory merge is =
    let at = is.floor in
    let floor = ap floor_of memory in
    let within = is.within_clears in
    let n = ap length clears in
    record {
      out = is.out;
      is = merge ∙ is.is;
      id = is.id;
      watermark = is.watermark;
      within = is.within;
      within_clears = omega (arith, within, n);
      runs = is.runs;
      clears = is.clears ∙ ap (take is.out.clears) (sym clears);
      below = is.below;
      clears_below = is.clears_below;
      from = is.from;
      floor = omega (arith, at, floor);
    }

pub merging_begun : (id : ℕ) (trees : Forest) (entries : List (List Entry)) (task : Task) → IsMerging (shape_in id trees) entries task → (other job watermark : ℕ)
    → IsMerging (shape_in id (altered_at other (flush_begun job watermark) trees)) entries task
merging_begun id trees entries task is other job watermark =
    in_altered (λ s. IsMerging s entries task) (flush_begun job watermark) id other trees
    (λ shape here. merging_alike shape (flush_begun job watermark shape) entries task refl refl refl here) is

pub merging_dropped : (id : ℕ) (trees : Forest) (entries : List (List Entry)) (task : Task) → IsMerging (shape_in id trees) entries task → (other : ℕ)
    → IsMerging (shape_in id (altered_at other flush_dropped trees)) entries task
merging_dropped id trees entries task is other =
    in_altered (λ s. IsMerging s entries task) flush_dropped id other trees (λ shape here. merging_alike shape (flush_dropped shape) entries task refl refl refl here) is

-- what was flushed came since it began
pub merging_flushed : (id : ℕ) (trees : Forest) (entries : List (List Entry)) (task : Task) → IsMerging (shape_in id trees) entries task → IsForest trees
    → (flush : Task) (is : IsFlushing (shape_in id trees) flush) (tables : List MadeTable) (clears : List ℕ) (made : IsFlushed flush tables clears) (readers : List Reader)
    → IsMerging (shape_in id (altered_at id (flush_finished readers is.out) trees)) (entries ++ made.lists) task
merging_flushed id trees entries task m forest flush is tables clears made readers =
    let shape = shape_in id trees in
    let has = flushing_tree id trees flush is in
    let tree = tree_has IsTree trees id shape forest.each has in
    let new = ap (λ o. unwrap_or o (bare_tree 0)) (altered_here id (flush_finished readers is.out) trees ∙ ap (option_map (flush_finished readers is.out)) has) in
    subst (λ (s : Shape). IsMerging s (entries ++ made.lists) task) (sym new) (flushed_merging shape entries flush task is tree.held tree.apart tables clears made readers m)

-- and so did what was ingested
pub merging_ingested : (id : ℕ) (trees : Forest) (entries : List (List Entry)) (task : Task) → IsMerging (shape_in id trees) entries task → IsForest trees
    → (keyspace watermark : ℕ) (tables : List MadeTable) (clears : List ℕ) (made : IsFlushed (memory_task keyspace watermark (shape_in id trees).memory) tables clears)
    → (n : ℕ) → n ≤ 2 ^ 63 → (shape_in id trees).memory.active.until ≤ n → (lists : List (List Entry)) → All (λ v. v.number ≡ n) (flat lists) → (readers : List Reader)
    → IsMerging (shape_in id (altered_at id (ingested n readers) trees)) (entries ++ (made.lists ++ lists)) task
merging_ingested id trees entries task m forest keyspace watermark tables clears made n small until lists at readers =
    let shape = shape_in id trees in
    let has = merging_tree id trees entries task m in
    let tree = tree_has IsTree trees id shape forest.each has in
    let new = ap (λ o. unwrap_or o (bare_tree 0)) (altered_here id (ingested n readers) trees ∙ ap (option_map (ingested n readers)) has) in
    subst (λ (s : Shape). IsMerging s (entries ++ (made.lists ++ lists)) task) (sym new)
    (merge_ingested shape tree.held tree.apart keyspace watermark tables clears made n small until entries lists at readers task m)

-- what becomes of another keyspace's tree leaves it
pub merging_elsewhere : (id other : ℕ) (change : Shape → Shape) (trees : Forest) (entries : List (List Entry)) (task : Task) → other ≢ id → IsMerging (shape_in id trees) entries task
    → IsMerging (shape_in id (altered_at other change trees)) entries task
merging_elsewhere id other change trees entries task differ is =
    subst (λ (s : Shape). IsMerging s entries task) (sym (other_shape other id change trees (λ same. differ (sym same)))) is

-- ---- the same trees

same_in : (P : Shape → Type 0) → ((old new : Shape) → IsSameShape old new → P old → P new) → (id : ℕ) (old new : Forest) → AreSameTrees old new → P (shape_in id old) → P (shape_in id new)
same_in P keeps id [] [] same is = is
same_in P keeps id [] (k ∷ new) same is = absurd same
same_in P keeps id (j ∷ old) [] same is = absurd same
same_in P keeps id (j ∷ old) (k ∷ new) same is =
    subst (λ (n : ℕ). P (unwrap_or (cond (n == id) (Some k.shape) (tree_at id new)) (bare_tree 0))) (sym same.0) (by (j.id == id) is (same_in P keeps id old new same.2))
  where
    by : (b : Bool) → P (unwrap_or (cond b (Some j.shape) (tree_at id old)) (bare_tree 0)) → (P (shape_in id old) → P (shape_in id new)) → P (unwrap_or (cond b (Some k.shape) (tree_at id new)) (bare_tree 0))
    by true is more = keeps j.shape k.shape same.1 is
    by false is more = more is

pub flushing_same : (id : ℕ) (old new : Forest) → AreSameTrees old new → (task : Task) → IsFlushing (shape_in id old) task → IsFlushing (shape_in id new) task
flushing_same id old new same task is = same_in (λ s. IsFlushing s task) alike id old new same is
  where
    alike : (s t : Shape) → IsSameShape s t → IsFlushing s task → IsFlushing t task
    alike s t same is =
        let now : Shape = record t { memory = s.memory } in
        let kept : IsFlushing now task = record { out = is.out; is = same.flush ∙ is.is; id = is.id; watermark = is.watermark; within = is.within; runs = is.runs; clears = is.clears } in
        subst (λ (m : Memory). IsFlushing (record t { memory = m }) task) (sym same.memory) kept

pub merging_same : (id : ℕ) (old new : Forest) → AreSameTrees old new → (entries : List (List Entry)) (task : Task) → IsMerging (shape_in id old) entries task → IsMerging (shape_in id new) entries task
merging_same id old new same entries task is =
    same_in (λ s. IsMerging s entries task) (λ s t alike here. merging_alike s t entries task alike.clears alike.memory alike.merge here) id old new same is
