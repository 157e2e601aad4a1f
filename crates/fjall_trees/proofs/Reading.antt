-- What the tables of all keyspaces hold on a disk, and stays there.
use Rattle.std.proofs.Common.{◌≡◌, ◌≢◌, ℕ, zero, suc, ◌<◌, ◌==◌, Bool, IsTrue, not, List, [], ◌∷◌, ◌++◌, set, slice_get, get_or, drop, All, Some, refl, sym, subst}
use Rattle.std.proofs.lemmas.Bool.{cond-false, cond-true, eq-eqb, eqb-true, false_from_ne_true}
use Rattle.std.proofs.lemmas.List.Elements.{All-cons, All-filter, All-head, All-nil, All-push, All-tail, All-weaker}
use Rattle.fjall_base.specs.Disk as disk
use Rattle.fjall_base.specs.Disk.{Meaning}
use Rattle.fjall_journal.specs.Ops.{BatchItem}
use Rattle.fjall_table.specs.Blocks.{Entry}
use Rattle.fjall_table_reader.specs.Files.{entry_at}
use Rattle.fjall_table_reader.specs.Readers.{AreRead, IsTableBut, LooksOn, Reader}
use Rattle.fjall_table_reader.proofs.Several.{all_read_on}
use Rattle.fjall_jobs.specs.declared.made_table.MadeTable.{MadeTable}
use Rattle.fjall_jobs.specs.Merges.{IsMerged}
use Rattle.fjall_jobs.specs.Tasks.{IsFlushed, Task}
use Rattle.fjall_tree.specs.declared.tree.Tree.{Tree}
use Rattle.fjall_tree.specs.Jobs.{IsFlushing, IsMerging, flush_begun, flush_dropped, flush_finished, merge_begun, merge_dropped, merge_finished}
use Rattle.fjall_tree.specs.Puts.{bare_tree}
use Rattle.fjall_tree.specs.Shapes.{shape_of}
use Rattle.fjall_tree.specs.Trees.{ReadsAll, Shape, emptied, sealed_off}
use Rattle.fjall_tree.proofs.Changes.{emptied_read, sealed_read, written_read}
use Rattle.fjall_tree.proofs.Flushed.{flushed_read}
use Rattle.fjall_tree.proofs.Merged.{merged_read}
use Rattle.fjall_trees.specs.declared.trees.KeyspaceTree.{KeyspaceTree}
use Rattle.fjall_trees.specs.Forests.{Forest, IsForest, IsTree, Planted, altered_at, without}
use Rattle.fjall_trees.specs.Lists.{forest_in, planted}
use Rattle.fjall_trees.specs.Tables.{AreReadOn, entries_with, shape_in}
use Rattle.fjall_trees.specs.Writes.{pushed, with_tree}
use Rattle.fjall_trees.proofs.Outstanding.{flushing_tree, merging_tree}
use Rattle.fjall_trees.proofs.Places.{place_has, tree_has}
use Rattle.fjall_trees.proofs.Changing.{altered_keeps, one_keeps, pushed_keeps, tree_under}

-- ---- a disk that was only looked at

read_later : (honest : Bool) (old new : Meaning) (shape : Shape) (entries : List (List Entry)) → LooksOn honest old new → IsTrue honest → ReadsAll old shape entries → ReadsAll new shape entries
read_later honest old new shape entries looks h r = record { tables = all_read_on honest old new shape.tables entries looks h r.tables; below = r.below; once = r.once }

all_read_later : (honest : Bool) (old new : Meaning) (trees : Forest) (entries : ℕ → List (List Entry)) → LooksOn honest old new → IsTrue honest → AreReadOn old trees entries → AreReadOn new trees entries
all_read_later honest old new trees entries looks h r =
    All-weaker (λ k. ReadsAll old k.shape (entries k.id)) (λ k. ReadsAll new k.shape (entries k.id)) (λ k here. read_later honest old new k.shape (entries k.id) looks h here) trees r

-- the tree at a place
pub read_here : (disk : Meaning) (ks : List KeyspaceTree) (place id : ℕ) (k : KeyspaceTree) (entries : ℕ → List (List Entry)) → AreReadOn disk (forest_in ks) entries
    → slice_get ks place ≡ Some k → k.id ≡ id → ReadsAll disk (shape_of k.tree) (entries id)
read_here disk ks place id k entries r here same =
    subst (λ (n : ℕ). ReadsAll disk (shape_of k.tree) (entries n)) same (place_has (λ j. ReadsAll disk j.shape (entries j.id)) ks place k r here)

-- and another one there, which reads the same on the disk as it is now
pub read_set : (honest : Bool) (old new : Meaning) (ks : List KeyspaceTree) (place id : ℕ) (k : KeyspaceTree) (t : Tree) (entries : ℕ → List (List Entry)) → LooksOn honest old new → IsTrue honest
    → AreReadOn old (forest_in ks) entries → slice_get ks place ≡ Some k → k.id ≡ id → ReadsAll new (shape_of t) (entries id)
    → AreReadOn new (forest_in (set ks place (record { id = k.id; tree = t }))) entries
read_set honest old new [] place id k t entries looks h r here same now = absurd cc
read_set honest old new (j ∷ ks) zero id k t entries looks h r here same now =
    All-cons (λ (p : Planted). ReadsAll new p.shape (entries p.id)) (record { id = k.id; shape = shape_of t }) (forest_in ks)
    (subst (λ (n : ℕ). ReadsAll new (shape_of t) (entries n)) (sym same) now)
    (all_read_later honest old new (forest_in ks) entries looks h (All-tail (λ (p : Planted). ReadsAll old p.shape (entries p.id)) (planted j) (forest_in ks) r))
read_set honest old new (j ∷ ks) (suc place) id k t entries looks h r here same now =
    All-cons (λ (p : Planted). ReadsAll new p.shape (entries p.id)) (planted j) (forest_in (set ks place (record { id = k.id; tree = t })))
    (read_later honest old new (shape_of j.tree) (entries j.id) looks h (All-head (λ (p : Planted). ReadsAll old p.shape (entries p.id)) (planted j) (forest_in ks) r))
    (read_set honest old new ks place id k t entries looks h (All-tail (λ (p : Planted). ReadsAll old p.shape (entries p.id)) (planted j) (forest_in ks) r) here same now)

-- ---- a disk that has the tables' files as they were

files_read : (old new : Meaning) (tables : List Reader) (entries : List (List Entry)) → All (λ t. entry_at new t.name ≡ entry_at old t.name) tables → AreRead old tables entries → AreRead new tables entries
files_read old new [] [] same r = tt
files_read old new [] (es ∷ entries) same r = r
files_read old new (t ∷ tables) [] same r = r
files_read old new (t ∷ tables) (es ∷ entries) same r =
    let file = All-head (λ (u : Reader). entry_at new u.name ≡ entry_at old u.name) t tables same in
    let reads = r.0.reads in (
      record {
        blocks = r.0.blocks;
        all = r.0.all;
        reads = record { table = subst (λ (e : disk.DiskEntry). IsTableBut e t.info r.0.blocks) (sym file) reads.table; index = reads.index; kept = reads.kept };
      },
      files_read old new tables entries (All-tail (λ (u : Reader). entry_at new u.name ≡ entry_at old u.name) t tables same) r.1,
    )

pub all_files_read : (old new : Meaning) (trees : Forest) (entries : ℕ → List (List Entry)) → AreReadOn old trees entries
    → All (λ k. All (λ t. entry_at new t.name ≡ entry_at old t.name) k.shape.tables) trees → AreReadOn new trees entries
all_files_read old new trees entries r same = λ i d lt.
    let k = get_or trees i d in
    let here = r i d lt in
    record { tables = files_read old new k.shape.tables (entries k.id) (same i d lt) here.tables; below = here.below; once = here.once }

-- ---- changes of all trees that keep what their tables hold

pub pushed_read : (disk : Meaning) (trees : Forest) (entries : ℕ → List (List Entry)) → AreReadOn disk trees entries → (n : ℕ) (items : List BatchItem) → AreReadOn disk (pushed n items trees) entries
pushed_read disk trees entries r = pushed_keeps (ReadsAll disk) trees entries r (λ v shape es. written_read disk shape es v)

pub emptied_read_on : (disk : Meaning) (trees : Forest) (entries : ℕ → List (List Entry)) → AreReadOn disk trees entries → (id n : ℕ) → AreReadOn disk (altered_at id (emptied n) trees) entries
emptied_read_on disk trees entries r id n = one_keeps (ReadsAll disk) trees entries r (emptied n) (λ shape es. emptied_read disk shape es n) id

pub rotated_read_on : (disk : Meaning) (trees : Forest) (entries : ℕ → List (List Entry)) → AreReadOn disk trees entries → (id : ℕ) → AreReadOn disk (altered_at id sealed_off trees) entries
rotated_read_on disk trees entries r id = one_keeps (ReadsAll disk) trees entries r sealed_off (sealed_read disk) id

pub begun_read_on : (disk : Meaning) (trees : Forest) (entries : ℕ → List (List Entry)) → AreReadOn disk trees entries → (id job watermark : ℕ)
    → AreReadOn disk (altered_at id (flush_begun job watermark) trees) entries
begun_read_on disk trees entries r id job watermark =
    one_keeps (ReadsAll disk) trees entries r (flush_begun job watermark) (λ shape es here. record { tables = here.tables; below = here.below; once = here.once }) id

pub merging_read_on : (disk : Meaning) (trees : Forest) (entries : ℕ → List (List Entry)) → AreReadOn disk trees entries → (id job watermark : ℕ)
    → AreReadOn disk (altered_at id (merge_begun job watermark) trees) entries
merging_read_on disk trees entries r id job watermark =
    one_keeps (ReadsAll disk) trees entries r (merge_begun job watermark) (λ shape es here. record { tables = here.tables; below = here.below; once = here.once }) id

pub flush_dropped_read : (disk : Meaning) (trees : Forest) (entries : ℕ → List (List Entry)) → AreReadOn disk trees entries → (id : ℕ) → AreReadOn disk (altered_at id flush_dropped trees) entries
flush_dropped_read disk trees entries r id =
    one_keeps (ReadsAll disk) trees entries r flush_dropped (λ shape es here. record { tables = here.tables; below = here.below; once = here.once }) id

pub merge_dropped_read : (disk : Meaning) (trees : Forest) (entries : ℕ → List (List Entry)) → AreReadOn disk trees entries → (id : ℕ) → AreReadOn disk (altered_at id merge_dropped trees) entries
merge_dropped_read disk trees entries r id =
    one_keeps (ReadsAll disk) trees entries r merge_dropped (λ shape es here. record { tables = here.tables; below = here.below; once = here.once }) id

pub added_read : (disk : Meaning) (trees : Forest) (entries : ℕ → List (List Entry)) → AreReadOn disk trees entries → (id : ℕ) (shape : Shape) → ReadsAll disk shape (entries id)
    → AreReadOn disk (trees ++ record { id = id; shape = shape } ∷ []) entries
added_read disk trees entries r id shape here = All-push (λ k. ReadsAll disk k.shape (entries k.id)) trees (record { id = id; shape = shape }) r here

pub planted_read : (disk : Meaning) (trees : Forest) (entries : ℕ → List (List Entry)) → AreReadOn disk trees entries → (id from : ℕ) → entries id ≡ [] → AreReadOn disk (with_tree id from trees) entries
planted_read disk trees entries r id from none =
    added_read disk trees entries r id (bare_tree from)
    (subst (ReadsAll disk (bare_tree from)) (sym none) (record { tables = tt; below = All-nil (λ (v : Entry). v.number < from); once = tt }))

pub dropped_read : (disk : Meaning) (trees : Forest) (entries : ℕ → List (List Entry)) → AreReadOn disk trees entries → (id : ℕ) → AreReadOn disk (without id trees) entries
dropped_read disk trees entries r id = All-filter (λ k. not (k.id == id)) (λ k. ReadsAll disk k.shape (entries k.id)) trees r

-- ---- finished jobs

pub flushed_read_on : (disk : Meaning) (trees : Forest) (entries : ℕ → List (List Entry)) → IsForest trees → AreReadOn disk trees entries → (id : ℕ) (task : Task) (is : IsFlushing (shape_in id trees) task)
    → (tables : List MadeTable) (clears : List ℕ) (made : IsFlushed task tables clears) (readers : List Reader) → AreRead disk readers made.lists
    → AreReadOn disk (altered_at id (flush_finished readers is.out) trees) (entries_with id (entries id ++ made.lists) entries)
flushed_read_on disk trees entries forest r id task is tables clears made readers read =
    let shape = shape_in id trees in
    let has = flushing_tree id trees task is in
    let tree = tree_has IsTree trees id shape forest.each has in
    altered_keeps (ReadsAll disk) trees entries r forest id shape has (flush_finished readers is.out) (entries id ++ made.lists)
    (flushed_read disk shape (entries id) task is tree.held tree.apart tables clears made readers (tree_under (λ k. ReadsAll disk k.shape (entries k.id)) trees id shape r has) read)

pub merged_read_on : (disk : Meaning) (trees : Forest) (entries : ℕ → List (List Entry)) → IsForest trees → AreReadOn disk trees entries
    → (id : ℕ) (task : Task) (is : IsMerging (shape_in id trees) (entries id) task)
    → (target : ℕ) (tables : List MadeTable) (clears : List ℕ) (made : IsMerged target task tables clears) (readers : List Reader) → AreRead disk readers made.lists
    → AreReadOn disk (altered_at id (merge_finished readers is.out) trees) (entries_with id (made.lists ++ drop is.out.tables (entries id)) entries)
merged_read_on disk trees entries forest r id task is target tables clears made readers read =
    let shape = shape_in id trees in
    let has = merging_tree id trees (entries id) task is in
    altered_keeps (ReadsAll disk) trees entries r forest id shape has (merge_finished readers is.out) (made.lists ++ drop is.out.tables (entries id))
    (merged_read disk shape (entries id) task is target tables clears made readers (tree_under (λ k. ReadsAll disk k.shape (entries k.id)) trees id shape r has) read)

-- ---- whose entries those are

pub entries_here : (id : ℕ) (new : List (List Entry)) (entries : ℕ → List (List Entry)) → entries_with id new entries id ≡ new
entries_here id new entries = cond-true (id == id) new (entries id) (eq-eqb id id refl)

pub entries_there : (id other : ℕ) (new : List (List Entry)) (entries : ℕ → List (List Entry)) → other ≢ id → entries_with id new entries other ≡ entries other
entries_there id other new entries differ = cond-false (other == id) new (entries other) (false_from_ne_true (other == id) (λ t. differ (eqb-true other id t)))
