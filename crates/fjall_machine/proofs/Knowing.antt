-- What is known of a task stays known: its flush is out as it was begun, or it is out no more.
use Rattle.std.proofs.Common.{◌≡◌, ◌≢◌, ℕ, ◌≤◌, ◌==◌, ◌&&◌, nat_lt, length, Bool, true, false, cond, List, Option, None, Some, unwrap_or, refl, sym, ap, subst, ◌∙◌, arith}
use Rattle.std.proofs.lemmas.Bool.{true≢false}
use Rattle.std.specs.Option.{option_map, option_or}
use Rattle.fjall_base.specs.Pairs.{Bytes}
use Rattle.fjall_table_reader.specs.Readers.{Reader}
use Rattle.fjall_journal.specs.Changes.{Change, Emptied, Items}
use Rattle.fjall_journal.specs.Ops.{BatchItem}
use Rattle.fjall_jobs.specs.Tasks.{Task}
use Rattle.fjall_tree.specs.Ingestions.{ingested, is_flush_due, stale}
use Rattle.fjall_tree.specs.Jobs.{IsFlushing, flush_begun, flush_dropped, flush_finished}
use Rattle.fjall_tree.specs.Puts.{bare_tree, put_all}
use Rattle.fjall_tree.specs.Trees.{Flushing, Shape, emptied, sealed_off}
use Rattle.fjall_files.specs.Journals.{Sealed}
use Rattle.fjall_manifest.specs.Records.{Fields}
use Rattle.fjall_trees.specs.Forests.{Forest, altered_at, tree_at, without}
use Rattle.fjall_trees.specs.Tables.{AreSameTrees, shape_in}
use Rattle.fjall_trees.specs.Writes.{pushed, versions_of_items, with_tree}
use Rattle.fjall_trees.proofs.Changing.{put_all_keeps}
use Rattle.fjall_trees.proofs.Others.{altered_here, dropped_here}
use Rattle.fjall_trees.proofs.Outstanding.{flushing_emptied, flushing_planted, flushing_pushed, flushing_rotated, flushing_same, other_shape, shape_left}
use Rattle.fjall_trees.proofs.Places.{each_by, tree_each}
use Rattle.fjall_trees.proofs.Changed.{tree_with}
use Rattle.fjall_meta.proofs.Slots.{same_id}
use Rattle.fjall_history.specs.Tickets.{Tickets}
use Rattle.fjall_machine.specs.Remembered.{KnowsTask, Remembered, flush_gone_in_memory, flush_out_in_memory, is_last_in_memory, journal_rotated_in_memory, poisoned, released_in_memory, retained, rotated_in_memory, with_change, with_creation, with_deletion, with_flush, with_sealed_in_memory, with_tickets, with_trees}
use Rattle.fjall_machine.specs.Ingesting.{with_ingestion}
use Rattle.fjall_machine.proofs.Lawful.{after_release, itself}
use Rattle.fjall_machine.proofs.SameTrees.{LeavesFlush, same_in}

-- ---- the flush of a keyspace's tree

flush_each : (change : ℕ → Shape → Shape) → ((id : ℕ) → LeavesFlush (change id)) → (id : ℕ) (trees : Forest) → (shape_in id (each_by change trees)).flush ≡ (shape_in id trees).flush
flush_each change leaves id trees = ap (λ (o : Option Shape). (unwrap_or o (bare_tree 0)).flush) (tree_each change id trees) ∙ by (tree_at id trees)
  where
    by : (o : Option Shape) → (unwrap_or (option_map (change id) o) (bare_tree 0)).flush ≡ (unwrap_or o (bare_tree 0)).flush
    by None = refl
    by (Some shape) = leaves id shape

pub flush_altered : (id other : ℕ) (change : Shape → Shape) → LeavesFlush change → (trees : Forest) → (shape_in id (altered_at other change trees)).flush ≡ (shape_in id trees).flush
flush_altered id other change leaves trees = flush_each (λ k shape. cond (k == other) (change shape) shape) (λ k. by (k == other)) id trees
  where
    by : (b : Bool) → LeavesFlush (λ shape. cond b (change shape) shape)
    by true shape = leaves shape
    by false shape = refl

pub flush_pushed : (n : ℕ) (items : List BatchItem) (id : ℕ) (trees : Forest) → (shape_in id (pushed n items trees)).flush ≡ (shape_in id trees).flush
unfolding pushed
flush_pushed n items id trees =
    flush_each (λ k. put_all (versions_of_items k n items)) (λ k shape. put_all_keeps (λ (s : Shape). s.flush ≡ shape.flush) (λ v s same. same) (versions_of_items k n items) shape refl) id trees

pub flush_planted : (id other from : ℕ) (trees : Forest) → (shape_in id (with_tree other from trees)).flush ≡ (shape_in id trees).flush
flush_planted id other from trees =
    ap (λ (o : Option Shape). (unwrap_or o (bare_tree 0)).flush) (tree_with id trees (record { id = other; shape = bare_tree from })) ∙ by (tree_at id trees) (other == id)
  where
    by : (o : Option Shape) (b : Bool) → (unwrap_or (option_or o (cond b (Some (bare_tree from)) None)) (bare_tree 0)).flush ≡ (unwrap_or o (bare_tree 0)).flush
    by (Some shape) b = refl
    by None true = refl
    by None false = refl

-- ---- what is known

-- where the flush that is out is the same, and what was begun stays so
pub known_on : (m n : Remembered) (task : Task) → m.next_job ≤ n.next_job → (shape_in task.keyspace n.trees).flush ≡ (shape_in task.keyspace m.trees).flush
    → (IsFlushing (shape_in task.keyspace m.trees) task → IsFlushing (shape_in task.keyspace n.trees) task) → KnowsTask m task → KnowsTask n task
known_on m n task le same keeps (given, out, some) = (omega (arith, given, le), λ is. keeps (out (ap (λ (o : Option Flushing). is_flush_due task.id o) (sym same) ∙ is)), some)

-- where no flush of its number is due in the one tree that changed
known_beside : (m n : Remembered) (task : Task) (id : ℕ) (change : Shape → Shape) → n.trees ≡ altered_at id change m.trees → m.next_job ≤ n.next_job
    → ((shape : Shape) → is_flush_due task.id (change shape).flush ≡ true → ⊥) → KnowsTask m task → KnowsTask n task
known_beside m n task id change is le none (given, out, some) = (omega (arith, given, le), subst Knows (sym is) (by (task.keyspace == id) refl), some)
  where
    Knows : Forest → Type 0
    Knows trees = is_flush_due task.id (shape_in task.keyspace trees).flush ≡ true → IsFlushing (shape_in task.keyspace trees) task

    here : (o : Option Shape) → is_flush_due task.id (unwrap_or (option_map change o) (bare_tree 0)).flush ≡ true → ⊥
    here None e = true≢false (sym e)
    here (Some shape) e = none shape e

    by : (b : Bool) → (task.keyspace == id) ≡ b → Knows (altered_at id change m.trees)
    by true e =
        let at : tree_at task.keyspace (altered_at id change m.trees) ≡ option_map change (tree_at id m.trees) =
        ap (λ (k : ℕ). tree_at k (altered_at id change m.trees)) (same_id task.keyspace id e) ∙ altered_here id change m.trees in
        λ f. absurd (here (tree_at id m.trees) (subst (λ (o : Option Shape). is_flush_due task.id (unwrap_or o (bare_tree 0)).flush ≡ true) at f))
    by false e =
        let differ : task.keyspace ≢ id = λ same. true≢false (sym (itself id) ∙ ap (λ (k : ℕ). k == id) (sym same) ∙ e) in
        subst (λ (s : Shape). is_flush_due task.id s.flush ≡ true → IsFlushing s task) (sym (other_shape id task.keyspace change m.trees differ)) out

both_of : (a b : Bool) → (a && b) ≡ true → (a ≡ true) × (b ≡ true)
both_of true b is = (refl, is)
both_of false b is = absurd (true≢false (sym is))

-- a flush that is stale takes nothing
stale_is_not_due : (id : ℕ) (flush : Option Flushing) → is_flush_due id (stale flush) ≡ true → ⊥
stale_is_not_due id None due = true≢false (sym due)
stale_is_not_due id (Some out) due = true≢false (sym (both_of (id == out.id) false due).1)

-- a tree that is dropped has none out
known_without : (m : Remembered) (task : Task) (id : ℕ) → KnowsTask m task → is_flush_due task.id (shape_in task.keyspace (without id m.trees)).flush ≡ true → IsFlushing (shape_in task.keyspace (without id m.trees)) task
known_without m task id (given, out, some) = by (task.keyspace == id) refl
  where
    by : (b : Bool) → (task.keyspace == id) ≡ b → is_flush_due task.id (shape_in task.keyspace (without id m.trees)).flush ≡ true → IsFlushing (shape_in task.keyspace (without id m.trees)) task
    by true e f =
        let gone : tree_at task.keyspace (without id m.trees) ≡ None = ap (λ (k : ℕ). tree_at k (without id m.trees)) (same_id task.keyspace id e) ∙ dropped_here id m.trees in
        absurd (true≢false (sym f ∙ ap (λ (o : Option Shape). is_flush_due task.id (unwrap_or o (bare_tree 0)).flush) gone))
    by false e f =
        let differ : task.keyspace ≢ id = λ same. true≢false (sym (itself id) ∙ ap (λ (k : ℕ). k == id) (sym same) ∙ e) in
        subst (λ (s : Shape). is_flush_due task.id s.flush ≡ true → IsFlushing s task) (sym (shape_left id task.keyspace m.trees differ)) out f

module _ (m : Remembered) (task : Task) where
  pub after_change : (change : Change) → KnowsTask m task → KnowsTask (with_change change m) task
  after_change (Items items) =
      known_on m (with_change (Items items) m) task (omega arith) (flush_pushed m.next items task.keyspace m.trees) (λ is. flushing_pushed task.keyspace m.trees task is m.next items)
  after_change (Emptied id) =
      known_on m (with_change (Emptied id) m) task (omega arith) (flush_altered task.keyspace id (emptied m.next) (λ shape. refl) m.trees) (λ is. flushing_emptied task.keyspace m.trees task is id m.next)

  pub after_creation : (name : Bytes) (options : List Bytes) → KnowsTask m task → KnowsTask (with_creation name options m) task
  after_creation name options =
      known_on m (with_creation name options m) task (omega arith) (flush_planted task.keyspace m.keyspaces.next m.next m.trees) (λ is. flushing_planted task.keyspace m.trees task is m.keyspaces.next m.next)

  pub after_deletion : (id : ℕ) → KnowsTask m task → KnowsTask (with_deletion id m) task
  after_deletion id knows = (knows.0, knows.1, knows.2)

  pub after_retained : (id : ℕ) → KnowsTask m task → KnowsTask (retained id m) task
  after_retained id knows = (knows.0, knows.1, knows.2)

  pub after_released : (id : ℕ) → KnowsTask m task → KnowsTask (released_in_memory id m) task
  after_released id knows = by (is_last_in_memory m id)
    where
      by : (last : Bool) → KnowsTask (after_release m id last) task
      by true = (knows.0, known_without m task id knows, knows.2)
      by false = (knows.0, knows.1, knows.2)

  pub after_rotation : (id : ℕ) → KnowsTask m task → KnowsTask (rotated_in_memory id m) task
  after_rotation id = known_on m (rotated_in_memory id m) task (omega arith) (flush_altered task.keyspace id sealed_off (λ shape. refl) m.trees) (λ is. flushing_rotated task.keyspace m.trees task is id)

  pub after_journal : (len : ℕ) → KnowsTask m task → KnowsTask (journal_rotated_in_memory len m) task
  after_journal len knows = (knows.0, knows.1, knows.2)

  pub after_read : (trees : Forest) → AreSameTrees m.trees trees → KnowsTask m task → KnowsTask (with_trees trees m) task
  after_read trees same =
      known_on m (with_trees trees m) task (omega arith) (same_in task.keyspace m.trees trees same).flush (λ is. flushing_same task.keyspace m.trees trees same task is)

  pub after_tickets : (tickets : Tickets) → KnowsTask m task → KnowsTask (with_tickets tickets m) task
  after_tickets tickets knows = (knows.0, knows.1, knows.2)

  pub after_begun : (id : ℕ) → KnowsTask m task → KnowsTask (flush_out_in_memory id m) task
  after_begun id knows =
      let lt = knows.0 in
      known_beside m (flush_out_in_memory id m) task id (flush_begun m.next_job m.tickets.watermark) refl (omega arith) (λ shape same. let at : task.id ≡ m.next_job = same_id task.id m.next_job (both_of (task.id == m.next_job) (nat_lt 0 (length shape.memory.sealed)) same).0 in omega (arith, lt, at)) knows

  pub after_dropped : (id : ℕ) → KnowsTask m task → KnowsTask (flush_gone_in_memory id m) task
  after_dropped id knows = known_beside m (flush_gone_in_memory id m) task id flush_dropped refl (omega arith) (λ shape none. true≢false (sym none)) knows

  pub after_finished : (id : ℕ) (out : Flushing) (readers : List Reader) (last : Fields) → KnowsTask m task → KnowsTask (with_flush id out readers last m) task
  after_finished id out readers last knows = known_beside m (with_flush id out readers last m) task id (flush_finished readers out) refl (omega arith) (λ shape none. true≢false (sym none)) knows

  -- a flush that an ingestion made stale is not due
  pub after_ingestion : (id : ℕ) (readers : List Reader) (last : Fields) → KnowsTask m task → KnowsTask (with_ingestion id readers last m) task
  after_ingestion id readers last knows =
      known_beside m (with_ingestion id readers last m) task id (ingested m.next readers) refl (omega arith) (λ shape due. stale_is_not_due task.id shape.flush due) knows

  pub after_evicted : (left : List Sealed) → KnowsTask m task → KnowsTask (with_sealed_in_memory left m) task
  after_evicted left knows = (knows.0, knows.1, knows.2)

  pub after_fault : KnowsTask m task → KnowsTask (poisoned m) task
  after_fault knows = (knows.0, knows.1, knows.2)
