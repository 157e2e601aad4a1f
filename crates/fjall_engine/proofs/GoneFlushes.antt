-- What stays true of memory whatever calls are served; so it does of a flush or a merge that it isn't out, once its number was given out.
use Rattle.std.proofs.Common.{◌≡◌, ◌≢◌, ℕ, ◌<◌, ◌≤◌, ◌==◌, Bool, true, false, cond, List, Option, None, Some, unwrap_or, refl, sym, ap, subst, ◌∙◌, arith}
use Rattle.std.proofs.lemmas.Bool.{true≢false}
use Rattle.std.specs.Option.{option_map, option_or}
use Rattle.fjall_base.specs.Pairs.{Bytes}
use Rattle.fjall_table_reader.specs.Readers.{Reader}
use Rattle.fjall_history.specs.declared.job.JobId.{JobId}
use Rattle.fjall_history.specs.Tickets.{Tickets}
use Rattle.fjall_jobs.specs.Tasks.{Task}
use Rattle.fjall_journal.specs.Changes.{Change, Emptied, Items}
use Rattle.fjall_journal.specs.Ops.{BatchItem}
use Rattle.fjall_tree.specs.Ingestions.{ingested, stale}
use Rattle.fjall_tree.specs.Jobs.{flush_begun, flush_dropped, flush_finished, is_flush_out, is_merge_out, merge_begun, merge_dropped, merge_finished}
use Rattle.fjall_tree.specs.Puts.{bare_tree, put_all}
use Rattle.fjall_tree.specs.Trees.{Flushing, IsSameShape, Merging, Shape, emptied, sealed_off, written}
use Rattle.fjall_files.specs.Journals.{Sealed}
use Rattle.fjall_trees.proofs.Changed.{tree_with}
use Rattle.fjall_machine.specs.Ingesting.{with_ingestion}
use Rattle.fjall_machine.specs.Machine.{is_flushing, is_merging}
use Rattle.fjall_machine.specs.Remembered.{IsFlushBegun, IsLawful, IsMergeBegun, KnowsTask, Remembered}
use Rattle.fjall_machine.specs.Remembered as memory
use Rattle.fjall_machine.proofs.BesideMerges.{beside_begun, beside_counted, beside_dropped, beside_finished}
use Rattle.fjall_machine.proofs.Knowing.{after_begun, after_change, after_creation, after_deletion, after_dropped, after_evicted, after_fault, after_finished, after_ingestion, after_journal, after_read, after_released, after_retained, after_rotation, after_tickets}
use Rattle.fjall_machine.proofs.Lawful.{after_release, itself}
use Rattle.fjall_machine.proofs.SameTrees.{same_in}
use Rattle.fjall_table.specs.Blocks.{Entry}
use Rattle.fjall_manifest.specs.Records.{Fields}
use Rattle.fjall_trees.specs.Forests.{Forest, Planted, altered_at, tree_at, without}
use Rattle.fjall_trees.specs.Tables.{AreSameTrees, shape_in}
use Rattle.fjall_trees.specs.Writes.{pushed, versions_of_items, with_tree}
use Rattle.fjall_trees.proofs.Changing.{put_all_keeps, tree_under}
use Rattle.fjall_trees.proofs.Others.{dropped_here}
use Rattle.fjall_trees.proofs.Outstanding.{shape_left}
use Rattle.fjall_trees.proofs.Places.{each_by, tree_each}
use Rattle.fjall_meta.proofs.Slots.{same_id}

-- Whatever is done to memory, this stays true of it.
pub record StaysTrue (P : Remembered → Type 0) : Type 0 where
  pub change : (m : Remembered) (change : Change) → P m → P (memory.with_change change m)
  pub creation : (m : Remembered) (name : Bytes) (options : List Bytes) → P m → P (memory.with_creation name options m)
  pub deletion : (m : Remembered) (id : ℕ) → P m → P (memory.with_deletion id m)
  pub retained : (m : Remembered) (id : ℕ) → P m → P (memory.retained id m)
  pub released : (m : Remembered) (id : ℕ) → P m → P (memory.released_in_memory id m)
  pub rotation : (m : Remembered) (id : ℕ) → P m → P (memory.rotated_in_memory id m)
  pub journal : (m : Remembered) (len : ℕ) → P m → P (memory.journal_rotated_in_memory len m)
  pub read : (m : Remembered) (trees : Forest) → AreSameTrees m.trees trees → P m → P (memory.with_trees trees m)
  pub tickets : (m : Remembered) (tickets : Tickets) → P m → P (memory.with_tickets tickets m)
  pub begun : (m : Remembered) (id : ℕ) → P m → P (memory.flush_out_in_memory id m)
  pub dropped : (m : Remembered) (id : ℕ) → P m → P (memory.flush_gone_in_memory id m)
  pub finished : (m : Remembered) (id : ℕ) (out : Flushing) (readers : List Reader) (last : Fields) → P m → P (memory.with_flush id out readers last m)
  pub merging : (m : Remembered) (id : ℕ) (trees : Forest) → AreSameTrees (memory.merge_out_in_memory id m).trees trees → P m → P (memory.with_trees trees (memory.merge_out_in_memory id m))
  pub unmerged : (m : Remembered) (id : ℕ) → P m → P (memory.merge_gone_in_memory id m)
  pub merged : (m : Remembered) (id : ℕ) (out : Merging) (readers : List Reader) (last : Fields) → P m → P (memory.with_merge id out readers last m)
  pub counted : (m : Remembered) → P m → P (memory.with_merge_done m)
  pub ingestion : (m : Remembered) (id : ℕ) (readers : List Reader) (last : Fields) → P m → P (with_ingestion id readers last m)
  pub evicted : (m : Remembered) (left : List Sealed) → P m → P (memory.with_sealed_in_memory left m)
  pub fault : (m : Remembered) → P m → P (memory.poisoned m)

-- what is known of a task does
pub task_stays : (task : Task) → StaysTrue (λ m. KnowsTask m task)
task_stays task = record {
  change = λ m. after_change m task;
  creation = λ m. after_creation m task;
  deletion = λ m. after_deletion m task;
  retained = λ m. after_retained m task;
  released = λ m. after_released m task;
  rotation = λ m. after_rotation m task;
  journal = λ m. after_journal m task;
  read = λ m. after_read m task;
  tickets = λ m. after_tickets m task;
  begun = λ m. after_begun m task;
  dropped = λ m. after_dropped m task;
  finished = λ m. after_finished m task;
  merging = λ m. beside_begun m task;
  unmerged = λ m. beside_dropped m task;
  merged = λ m. beside_finished m task;
  counted = λ m. beside_counted m task;
  ingestion = λ m. after_ingestion m task;
  evicted = λ m. after_evicted m task;
  fault = λ m. after_fault m task;
}

-- a number that was given out stays given out
pub given_stays : (n : ℕ) → StaysTrue (λ m. n < m.next_job)
given_stays n = record {
  change = λ m change. by_change m change;
  creation = λ m name options lt. lt;
  deletion = λ m id lt. lt;
  retained = λ m id lt. lt;
  released = λ m id lt. lt;
  rotation = λ m id lt. lt;
  journal = λ m len lt. lt;
  read = λ m trees same lt. lt;
  tickets = λ m tickets lt. lt;
  begun = λ m id lt. omega (arith, lt);
  dropped = λ m id lt. lt;
  finished = λ m id out readers last lt. lt;
  merging = λ m id trees same lt. omega (arith, lt);
  unmerged = λ m id lt. lt;
  merged = λ m id out readers last lt. lt;
  counted = λ m lt. lt;
  ingestion = λ m id readers last lt. lt;
  evicted = λ m left lt. lt;
  fault = λ m lt. lt;
}
  where
    by_change : (m : Remembered) (change : Change) → n < m.next_job → n < (memory.with_change change m).next_job
    by_change m change lt = lt

-- ---- what is out of a tree

-- A test of a tree tells whether the job of this number is out of it: an empty tree has none out, and whatever becomes of a tree, none
-- is out that wasn't, since each job that begins has a later number.
record TellsOut (number : ℕ) (is_out : Shape → Bool) : Type 0 where
  bare : (from : ℕ) → is_out (bare_tree from) ≡ false
  same : (old new : Shape) → IsSameShape old new → is_out new ≡ true → is_out old ≡ true
  written : (v : Entry) (shape : Shape) → is_out (written v shape) ≡ is_out shape
  emptied : (n : ℕ) (shape : Shape) → is_out (emptied n shape) ≡ true → is_out shape ≡ true
  sealed : (shape : Shape) → is_out (sealed_off shape) ≡ true → is_out shape ≡ true
  begun : (next watermark : ℕ) (shape : Shape) → number < next → is_out (flush_begun next watermark shape) ≡ true → is_out shape ≡ true
  dropped : (shape : Shape) → is_out (flush_dropped shape) ≡ true → is_out shape ≡ true
  finished : (readers : List Reader) (out : Flushing) (shape : Shape) → is_out (flush_finished readers out shape) ≡ true → is_out shape ≡ true
  merging : (next watermark : ℕ) (shape : Shape) → number < next → is_out (merge_begun next watermark shape) ≡ true → is_out shape ≡ true
  unmerged : (shape : Shape) → is_out (merge_dropped shape) ≡ true → is_out shape ≡ true
  merged : (readers : List Reader) (out : Merging) (shape : Shape) → is_out (merge_finished readers out shape) ≡ true → is_out shape ≡ true
  ingested : (n : ℕ) (readers : List Reader) (shape : Shape) → is_out (ingested n readers shape) ≡ true → is_out shape ≡ true

-- no job has the number of the next one
no_next : (number next : ℕ) → number < next → (number == next) ≡ true → ⊥
no_next number next lt is = let same = same_id number next is in omega (arith, lt, same)

stale_out : (number : ℕ) (flush : Option Flushing) → is_flush_out number (stale flush) ≡ true → is_flush_out number flush ≡ true
stale_out number None out = out
stale_out number (Some flush) out = out

tells_flush : (number : ℕ) → TellsOut number (λ shape. is_flush_out number shape.flush)
tells_flush number = record {
  bare = λ from. refl;
  same = λ old new alike is. ap (is_flush_out number) (sym alike.flush) ∙ is;
  written = λ v shape. refl;
  emptied = λ n shape is. is;
  sealed = λ shape is. is;
  begun = λ next watermark shape lt is. absurd (no_next number next lt is);
  dropped = λ shape is. absurd (true≢false (sym is));
  finished = λ readers out shape is. absurd (true≢false (sym is));
  merging = λ next watermark shape lt is. is;
  unmerged = λ shape is. is;
  merged = λ readers out shape is. is;
  ingested = λ n readers shape is. stale_out number shape.flush is;
}

tells_merge : (number : ℕ) → TellsOut number (λ shape. is_merge_out number shape.merge)
tells_merge number = record {
  bare = λ from. refl;
  same = λ old new alike is. ap (is_merge_out number) (sym alike.merge) ∙ is;
  written = λ v shape. refl;
  emptied = λ n shape is. is;
  sealed = λ shape is. is;
  begun = λ next watermark shape lt is. is;
  dropped = λ shape is. is;
  finished = λ readers out shape is. is;
  merging = λ next watermark shape lt is. absurd (no_next number next lt is);
  unmerged = λ shape is. absurd (true≢false (sym is));
  merged = λ readers out shape is. absurd (true≢false (sym is));
  ingested = λ n readers shape is. is;
}

-- ---- what is out of a keyspace's tree

module _ (number : ℕ) (is_out : Shape → Bool) (tells : TellsOut number is_out) (id : ℕ) (trees : Forest) where
  out_each : (change : ℕ → Shape → Shape) → ((shape : Shape) → is_out (change id shape) ≡ true → is_out shape ≡ true) → is_out (shape_in id (each_by change trees)) ≡ true → is_out (shape_in id trees) ≡ true
  out_each change back is = by (tree_at id trees) (ap (λ (o : Option Shape). is_out (unwrap_or o (bare_tree 0))) (sym (tree_each change id trees)) ∙ is)
    where
      by : (o : Option Shape) → is_out (unwrap_or (option_map (change id) o) (bare_tree 0)) ≡ true → is_out (unwrap_or o (bare_tree 0)) ≡ true
      by None is = is
      by (Some shape) is = back shape is

  -- where one tree changed
  out_altered : (other : ℕ) (change : Shape → Shape) → ((shape : Shape) → is_out (change shape) ≡ true → is_out shape ≡ true) → is_out (shape_in id (altered_at other change trees)) ≡ true → is_out (shape_in id trees) ≡ true
  out_altered other change back = out_each (λ k shape. cond (k == other) (change shape) shape) (λ shape. by (id == other) shape)
    where
      by : (b : Bool) (shape : Shape) → is_out (cond b (change shape) shape) ≡ true → is_out shape ≡ true
      by true shape is = back shape is
      by false shape is = is

  out_pushed : (n : ℕ) (items : List BatchItem) → is_out (shape_in id (pushed n items trees)) ≡ true → is_out (shape_in id trees) ≡ true
  unfolding pushed
  out_pushed n items =
      out_each (λ k. put_all (versions_of_items k n items))
      (λ shape is. sym (put_all_keeps (λ (s : Shape). is_out s ≡ is_out shape) (λ v s same. tells.written v s ∙ same) (versions_of_items id n items) shape refl) ∙ is)

  out_planted : (other from : ℕ) → is_out (shape_in id (with_tree other from trees)) ≡ true → is_out (shape_in id trees) ≡ true
  out_planted other from is =
      by (tree_at id trees) (other == id) (ap (λ (o : Option Shape). is_out (unwrap_or o (bare_tree 0))) (sym (tree_with id trees (record { id = other; shape = bare_tree from }))) ∙ is)
    where
      by : (o : Option Shape) (b : Bool) → is_out (unwrap_or (option_or o (cond b (Some (bare_tree from)) None)) (bare_tree 0)) ≡ true → is_out (unwrap_or o (bare_tree 0)) ≡ true
      by (Some shape) b is = is
      by None true is = absurd (true≢false (sym is ∙ tells.bare from))
      by None false is = is

  -- of a tree that is dropped none is out
  out_left : (other : ℕ) → is_out (shape_in id (without other trees)) ≡ true → is_out (shape_in id trees) ≡ true
  out_left other is = by (id == other) refl
    where
      by : (b : Bool) → (id == other) ≡ b → is_out (shape_in id trees) ≡ true
      by true e =
          let left : tree_at id (without other trees) ≡ None = ap (λ (k : ℕ). tree_at k (without other trees)) (same_id id other e) ∙ dropped_here other trees in
          absurd (true≢false (sym is ∙ ap (λ (o : Option Shape). is_out (unwrap_or o (bare_tree 0))) left ∙ tells.bare 0))
      by false e =
          let differ : id ≢ other = λ same. true≢false (sym (itself other) ∙ ap (λ (k : ℕ). k == other) (sym same) ∙ e) in
          subst (λ (s : Shape). is_out s ≡ true) (shape_left other id trees differ) is

  out_same : (new : Forest) → AreSameTrees trees new → is_out (shape_in id new) ≡ true → is_out (shape_in id trees) ≡ true
  out_same new alike = tells.same (shape_in id trees) (shape_in id new) (same_in id trees new alike)

-- ---- a job that isn't out

-- Its number was given out, and it isn't out of its keyspace's tree, as this tells.
abbrev IsGoneBy : (Shape → Bool) → JobId → Remembered → Type 0
IsGoneBy is_out job m = (job.number < m.next_job) × (is_out (shape_in job.keyspace_id m.trees) ≡ true → ⊥)

module _ (is_out : Shape → Bool) (job : JobId) (tells : TellsOut job.number is_out) where
  gone_on : (m n : Remembered) → m.next_job ≤ n.next_job → (is_out (shape_in job.keyspace_id n.trees) ≡ true → is_out (shape_in job.keyspace_id m.trees) ≡ true) → IsGoneBy is_out job m
      → IsGoneBy is_out job n
  gone_on m n le back (given, none) = (omega (arith, given, le), λ is. none (back is))

  gone_beside : (m : Remembered) (id : ℕ) (change : Shape → Shape) → ((shape : Shape) → is_out (change shape) ≡ true → is_out shape ≡ true) → IsGoneBy is_out job m
      → IsGoneBy is_out job (memory.with_trees (altered_at id change m.trees) m)
  gone_beside m id change back = gone_on m (memory.with_trees (altered_at id change m.trees) m) (omega arith) (out_altered job.number is_out tells job.keyspace_id m.trees id change back)

  gone_change : (m : Remembered) (change : Change) → IsGoneBy is_out job m → IsGoneBy is_out job (memory.with_change change m)
  gone_change m (Items items) = gone_on m (memory.with_change (Items items) m) (omega arith) (out_pushed job.number is_out tells job.keyspace_id m.trees m.next items)
  gone_change m (Emptied id) = gone_on m (memory.with_change (Emptied id) m) (omega arith) (out_altered job.number is_out tells job.keyspace_id m.trees id (emptied m.next) (tells.emptied m.next))

  gone_released : (m : Remembered) (id : ℕ) → IsGoneBy is_out job m → IsGoneBy is_out job (memory.released_in_memory id m)
  gone_released m id gone = by (memory.is_last_in_memory m id)
    where
      by : (last : Bool) → IsGoneBy is_out job (after_release m id last)
      by true = (gone.0, λ is. gone.1 (out_left job.number is_out tells job.keyspace_id m.trees id is))
      by false = (gone.0, gone.1)

  gone_begun : (m : Remembered) (id : ℕ) → IsGoneBy is_out job m → IsGoneBy is_out job (memory.flush_out_in_memory id m)
  gone_begun m id gone =
      gone_on m (memory.flush_out_in_memory id m) (omega arith)
      (out_altered job.number is_out tells job.keyspace_id m.trees id (flush_begun m.next_job m.tickets.watermark) (λ shape. tells.begun m.next_job m.tickets.watermark shape gone.0)) gone

  gone_merging : (m : Remembered) (id : ℕ) (trees : Forest) → AreSameTrees (memory.merge_out_in_memory id m).trees trees → IsGoneBy is_out job m → IsGoneBy is_out job (memory.with_trees trees (memory.merge_out_in_memory id m))
  gone_merging m id trees same gone =
      gone_on m (memory.with_trees trees (memory.merge_out_in_memory id m)) (omega arith)
      (λ is. out_altered job.number is_out tells job.keyspace_id m.trees id (merge_begun m.next_job m.tickets.watermark) (λ shape. tells.merging m.next_job m.tickets.watermark shape gone.0)
      (out_same job.number is_out tells job.keyspace_id (memory.merge_out_in_memory id m).trees trees same is)) gone

  all_gone : StaysTrue (IsGoneBy is_out job)
  all_gone = record {
    change = gone_change;
    creation = λ m name options. gone_on m (memory.with_creation name options m) (omega arith) (out_planted job.number is_out tells job.keyspace_id m.trees m.keyspaces.next m.next);
    deletion = λ m id gone. (gone.0, gone.1);
    retained = λ m id gone. (gone.0, gone.1);
    released = gone_released;
    rotation = λ m id. gone_beside m id sealed_off tells.sealed;
    journal = λ m len gone. (gone.0, gone.1);
    read = λ m trees same. gone_on m (memory.with_trees trees m) (omega arith) (out_same job.number is_out tells job.keyspace_id m.trees trees same);
    tickets = λ m tickets gone. (gone.0, gone.1);
    begun = gone_begun;
    dropped = λ m id. gone_beside m id flush_dropped tells.dropped;
    finished = λ m id out readers last. gone_beside m id (flush_finished readers out) (tells.finished readers out);
    merging = gone_merging;
    unmerged = λ m id. gone_beside m id merge_dropped tells.unmerged;
    merged = λ m id out readers last. gone_beside m id (merge_finished readers out) (tells.merged readers out);
    counted = λ m gone. (gone.0, gone.1);
    ingestion = λ m id readers last. gone_beside m id (ingested m.next readers) (tells.ingested m.next readers);
    evicted = λ m left gone. (gone.0, gone.1);
    fault = λ m gone. (gone.0, gone.1);
  }

-- its number was given out, and its flush isn't out of its keyspace's tree, or its merge
abbrev pub IsGone : JobId → Remembered → Type 0
IsGone job m = (job.number < m.next_job) × (is_flushing m.trees job ≡ true → ⊥)

abbrev pub IsMergeGone : JobId → Remembered → Type 0
IsMergeGone job m = (job.number < m.next_job) × (is_merging m.trees job ≡ true → ⊥)

pub gone_stays : (job : JobId) → StaysTrue (IsGone job)
gone_stays job = all_gone (λ shape. is_flush_out job.number shape.flush) job (tells_flush job.number)

pub merge_gone_stays : (job : JobId) → StaysTrue (IsMergeGone job)
merge_gone_stays job = all_gone (λ shape. is_merge_out job.number shape.merge) job (tells_merge job.number)

-- ---- a job that begins

-- a flush that begins leaves the merges that are out, and a merge the flushes
pub merges_before : (m : Remembered) (id : ℕ) (job : JobId) → is_merging (memory.flush_out_in_memory id m).trees job ≡ true → is_merging m.trees job ≡ true
merges_before m id job =
    out_altered job.number (λ shape. is_merge_out job.number shape.merge) (tells_merge job.number) job.keyspace_id m.trees id (flush_begun m.next_job m.tickets.watermark) (λ shape is. is)

pub flushes_before : (m : Remembered) (id : ℕ) (trees : Forest) → AreSameTrees (memory.merge_out_in_memory id m).trees trees → (job : JobId) → is_flushing trees job ≡ true → is_flushing m.trees job ≡ true
flushes_before m id trees same job is =
    let tells = tells_flush job.number in
    out_altered job.number (λ shape. is_flush_out job.number shape.flush) tells job.keyspace_id m.trees id (merge_begun m.next_job m.tickets.watermark) (λ shape here. here)
    (out_same job.number (λ shape. is_flush_out job.number shape.flush) tells job.keyspace_id (memory.merge_out_in_memory id m).trees trees same is)

-- the number of a flush that is out, or of a merge, was given out
pub flush_given : (m : Remembered) (job : JobId) → IsLawful m → is_flushing m.trees job ≡ true → job.number < m.next_job
flush_given m job lawful out = by (tree_at job.keyspace_id m.trees) refl out
  where
    begun : (flush : Option Flushing) → IsFlushBegun m.next_job m.tickets.watermark flush → is_flush_out job.number flush ≡ true → job.number < m.next_job
    begun None low is = absurd (true≢false (sym is))
    begun (Some flush) low is = let same = same_id job.number flush.id is in let given = low.0 in omega (arith, same, given)

    by : (found : Option Shape) → tree_at job.keyspace_id m.trees ≡ found → is_flush_out job.number (unwrap_or found (bare_tree 0)).flush ≡ true → job.number < m.next_job
    by None at is = absurd (true≢false (sym is))
    by (Some tree) at is = begun tree.flush (tree_under (λ (k : Planted). IsFlushBegun m.next_job m.tickets.watermark k.shape.flush) m.trees job.keyspace_id tree lawful.begun at) is

pub merge_given : (m : Remembered) (job : JobId) → IsLawful m → is_merging m.trees job ≡ true → job.number < m.next_job
merge_given m job lawful out = by (tree_at job.keyspace_id m.trees) refl out
  where
    begun : (merge : Option Merging) → IsMergeBegun m.next_job m.tickets.watermark merge → is_merge_out job.number merge ≡ true → job.number < m.next_job
    begun None low is = absurd (true≢false (sym is))
    begun (Some merge) low is = let same = same_id job.number merge.id is in let given = low.0 in omega (arith, same, given)

    by : (found : Option Shape) → tree_at job.keyspace_id m.trees ≡ found → is_merge_out job.number (unwrap_or found (bare_tree 0)).merge ≡ true → job.number < m.next_job
    by None at is = absurd (true≢false (sym is))
    by (Some tree) at is = begun tree.merge (tree_under (λ (k : Planted). IsMergeBegun m.next_job m.tickets.watermark k.shape.merge) m.trees job.keyspace_id tree lawful.merging at) is
