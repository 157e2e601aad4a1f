-- Flushes that are out cover what was synced, while trees change in memory and batches are written.
use Rattle.std.proofs.Common.{◌≡◌, ℕ, ◌≤◌, ◌==◌, not, Bool, true, false, cond, List, [], ◌∷◌, ◌++◌, length, drop, get_or, All, Option, None, Some, refl, sym, ◌∙◌, ap, subst, arith}
use Rattle.std.proofs.lemmas.List.{drop-append-le, length-append}
use Rattle.std.proofs.lemmas.List.Elements.{All-cons, All-filter, All-head, All-map, All-nil, All-push, All-tail}
use Rattle.fjall_table_reader.specs.Readers.{Reader}
use Rattle.fjall_journal.specs.Batches.{Written}
use Rattle.fjall_journal.specs.Ops.{BatchItem}
use Rattle.fjall_tree.specs.Jobs.{count_out, flush_begun, flush_dropped, flush_end, flush_finished}
use Rattle.fjall_tree.specs.Puts.{bare_tree, put_all}
use Rattle.fjall_tree.specs.Trees.{Flushing, IsSameShape, Shape, emptied, first_from, sealed_off}
use Rattle.fjall_tree.proofs.Changes.{first_same, first_sealed}
use Rattle.fjall_trees.proofs.Pushed.{put_all_from, put_all_sealed}
use Rattle.fjall_memtable.specs.Parts.{HeldPart, Memory, empty_from, with_clear}
use Rattle.fjall_compaction.proofs.FlushFinishing.{end_inside}
use Rattle.fjall_trees.specs.Forests.{AreBefore, Forest, IsForest, Planted, altered_at, without}
use Rattle.fjall_trees.specs.Tables.{AreSameTrees}
use Rattle.fjall_trees.specs.Writes.{pushed, versions_of_items, with_tree}
use Rattle.fjall_trees.proofs.Changing.{put_all_keeps}
use Rattle.fjall_engine.specs.Durables.{CoversSynced}

-- ---- one tree

-- where a flush is out of a tree it is out of the other one too, its parts are there, and the others begin where they did
abbrev pub KeepsFlush : Shape → Shape → Type 0
KeepsFlush old new =
    (new.flush ≡ old.flush)
    × ((out : Flushing) → old.flush ≡ Some out → out.count ≤ length old.memory.sealed → (out.count ≤ length new.memory.sealed) × (flush_end new ≡ flush_end old))

covers_on : (later : List Written) (id : ℕ) (old new : Shape) → KeepsFlush old new → CoversSynced later (record { id = id; shape = old }) → CoversSynced later (record { id = id; shape = new })
covers_on later id old new (same, keeps) covers out is =
    let was = sym same ∙ is in
    let before = covers out was in
    let after = keeps out was before.0 in
    (after.0, subst (λ (n : ℕ). All (λ b. n ≤ b.number) later) (sym after.1) before.1)

put_keeps : (vs : List _) (shape : Shape) → KeepsFlush shape (put_all vs shape)
put_keeps vs shape =
    let flush : (put_all vs shape).flush ≡ shape.flush = put_all_keeps (λ (s : Shape). s.flush ≡ shape.flush) (λ v s same. same) vs shape refl in
    let sealed = put_all_sealed vs shape in (
      flush,
      λ out is within. (
        subst (λ (parts : List HeldPart). out.count ≤ length parts) (sym sealed) within,
        (λ i. first_from (drop (count_out (flush i)) (sealed i)) (put_all vs shape).memory.active)
            ∙ first_same (drop (count_out shape.flush) shape.memory.sealed) shape.memory.active (put_all vs shape).memory.active (put_all_from vs shape),
      ),
    )

emptied_keeps : (n : ℕ) (shape : Shape) → KeepsFlush shape (emptied n shape)
emptied_keeps n shape =
    (refl, λ out is within. (within, first_same (drop (count_out shape.flush) shape.memory.sealed) shape.memory.active (with_clear n shape.memory.active) refl))

sealed_keeps : (shape : Shape) → KeepsFlush shape (sealed_off shape)
sealed_keeps shape =
    let sealed = shape.memory.sealed in
    let active = shape.memory.active in
    let last = empty_from active.until in
    let long = length-append sealed (active ∷ []) in (
      refl,
      λ out is within. (
        omega (arith, within, long),
        ap (λ (o : Option Flushing). first_from (drop (count_out o) (sealed ++ active ∷ [])) last) is
            ∙ ap (λ (parts : List HeldPart). first_from parts last) (drop-append-le out.count sealed (active ∷ []) within)
            ∙ first_sealed (drop out.count sealed) active last
            ∙ ap (λ (o : Option Flushing). first_from (drop (count_out o) sealed) active) (sym is),
      ),
    )

same_keeps : (old new : Shape) → IsSameShape old new → KeepsFlush old new
same_keeps old new same = (
  same.flush,
  λ out is within. (
    subst (λ (m : Memory). out.count ≤ length m.sealed) (sym same.memory) within,
    λ i. first_from (drop (count_out (same.flush i)) (same.memory i).sealed) (same.memory i).active,
  ),
)

-- ---- all trees

-- of each tree
abbrev pub AreCovered : List Written → Forest → Type 0
AreCovered later trees = All (CoversSynced later) trees

pub covered_pushed : (later : List Written) (n : ℕ) (items : List BatchItem) (trees : Forest) → AreCovered later trees → AreCovered later (pushed n items trees)
unfolding pushed
covered_pushed later n items trees covered =
    All-map (CoversSynced later) (λ (k : Planted). record { id = k.id; shape = put_all (versions_of_items k.id n items) k.shape }) trees (λ i d lt.
    let k = get_or trees i d in covers_on later k.id k.shape (put_all (versions_of_items k.id n items) k.shape) (put_keeps (versions_of_items k.id n items) k.shape) (covered i d lt))

pub covered_altered : (later : List Written) (id : ℕ) (change : Shape → Shape) → ((i : ℕ) (shape : Shape) → CoversSynced later (record { id = i; shape = shape }) → CoversSynced later (record { id = i; shape = change shape }))
    → (trees : Forest) → AreCovered later trees → AreCovered later (altered_at id change trees)
covered_altered later id change keeps trees covered =
    All-map (CoversSynced later) (λ (k : Planted). record { id = k.id; shape = cond (k.id == id) (change k.shape) k.shape }) trees (λ i d lt.
    let k = get_or trees i d in by (k.id == id) k.id k.shape (covered i d lt))
  where
    by : (b : Bool) (i : ℕ) (shape : Shape) → CoversSynced later (record { id = i; shape = shape }) → CoversSynced later (record { id = i; shape = cond b (change shape) shape })
    by true i shape = keeps i shape
    by false i shape = λ covers. covers

pub covered_emptied : (later : List Written) (n id : ℕ) (trees : Forest) → AreCovered later trees → AreCovered later (altered_at id (emptied n) trees)
covered_emptied later n id = covered_altered later id (emptied n) (λ i shape. covers_on later i shape (emptied n shape) (emptied_keeps n shape))

pub covered_sealed : (later : List Written) (id : ℕ) (trees : Forest) → AreCovered later trees → AreCovered later (altered_at id sealed_off trees)
covered_sealed later id = covered_altered later id sealed_off (λ i shape. covers_on later i shape (sealed_off shape) (sealed_keeps shape))

pub covered_same : (later : List Written) (old new : Forest) → AreSameTrees old new → AreCovered later old → AreCovered later new
covered_same later [] [] same covered = covered
covered_same later [] (k ∷ new) same covered = absurd same
covered_same later (j ∷ old) [] same covered = absurd same
covered_same later (j ∷ old) (k ∷ new) same covered =
    All-cons (CoversSynced later) k new
    (covers_on later k.id j.shape k.shape (same_keeps j.shape k.shape same.1) (All-head (CoversSynced later) j old covered))
    (covered_same later old new same.2 (All-tail (CoversSynced later) j old covered))

pub covered_planted : (later : List Written) (id from : ℕ) (trees : Forest) → AreCovered later trees → AreCovered later (with_tree id from trees)
covered_planted later id from trees covered = All-push (CoversSynced later) trees (record { id = id; shape = bare_tree from }) covered (λ out is. let no : None ≡ Some out = is in absurd cc)

pub covered_without : (later : List Written) (id : ℕ) (trees : Forest) → AreCovered later trees → AreCovered later (without id trees)
covered_without later id trees covered = All-filter (λ (k : Planted). not (k.id == id)) (CoversSynced later) trees covered

-- where nothing waits, all that flushes need is that the parts which they take are there
abbrev pub AreInside : Forest → Type 0
AreInside trees = AreCovered [] trees

pub inside_of : (later : List Written) (trees : Forest) → AreCovered later trees → AreInside trees
inside_of later trees covered = λ i d lt out is. ((covered i d lt out is).0, All-nil (λ (b : Written). flush_end (get_or trees i d).shape ≤ b.number))

-- a batch more of a number that all of memory is below
pub covered_more : (later : List Written) (batch : Written) (trees : Forest) → IsForest trees → AreBefore batch.number trees → AreCovered later trees → AreCovered (later ++ batch ∷ []) trees
covered_more later batch trees forest before covered = λ i d lt out is.
    let k = get_or trees i d in
    let was = covered i d lt out is in
    let end = (end_inside k.shape (forest.each i d lt)).0 in
    let last = before i d lt in
    (was.0, All-push (λ (b : Written). flush_end k.shape ≤ b.number) later batch was.1 (omega (arith, end, last)))

-- ---- flushes

-- one more is out, of all sealed parts of its tree, where nothing waits
pub covered_begun : (id job watermark : ℕ) (trees : Forest) → AreCovered [] trees → AreCovered [] (altered_at id (flush_begun job watermark) trees)
covered_begun id job watermark = covered_altered [] id (flush_begun job watermark) (λ i shape covers out is.
    let all : length shape.memory.sealed ≡ out.count = ap (λ (o : Option Flushing). count_out o) is in
    (omega (arith, all), All-nil (λ (b : Written). flush_end (flush_begun job watermark shape) ≤ b.number)))

-- one is out no more
none_out : (later : List Written) (i : ℕ) (shape : Shape) → shape.flush ≡ None → CoversSynced later (record { id = i; shape = shape })
none_out later i shape none out is = let no : None ≡ Some out = sym none ∙ is in absurd cc

pub covered_dropped : (later : List Written) (id : ℕ) (trees : Forest) → AreCovered later trees → AreCovered later (altered_at id flush_dropped trees)
covered_dropped later id = covered_altered later id flush_dropped (λ i shape covers. none_out later i (flush_dropped shape) refl)

pub covered_finished : (later : List Written) (id : ℕ) (readers : List Reader) (out : Flushing) (trees : Forest) → AreCovered later trees → AreCovered later (altered_at id (flush_finished readers out) trees)
covered_finished later id readers out = covered_altered later id (flush_finished readers out) (λ i shape covers. none_out later i (flush_finished readers out shape) refl)
