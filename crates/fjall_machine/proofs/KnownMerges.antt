-- What the state knows of a merge stays known, whatever step it takes.
use Rattle.std.proofs.Common.{◌≡◌, inl, inr, ℕ, ◌<◌, Bool, true, false, if◌then◌else◌, List, [], ◌∷◌, Option, None, Some, refl, sym, ap, subst, ◌∙◌, arith}
use Rattle.fjall_base.specs.Pairs.{Bytes}
use Rattle.fjall_base.specs.declared.error.Error.{Error}
use Rattle.fjall_base.specs.declared.error.Error.TheVariants.{Io, NumbersUsedUp, OutOfMemory, Poisoned, Storage, TooManyItems, ValueTooLong}
use Rattle.fjall_history.specs.declared.job.JobId.{JobId}
use Rattle.fjall_history.specs.declared.reply.Reply.{Reply}
use Rattle.fjall_history.specs.declared.reply.Reply.TheVariants.{Refused}
use Rattle.fjall_jobs.specs.Tasks.{Task}
use Rattle.fjall_tree.specs.Jobs.{IsMerging, merge_begun}
use Rattle.fjall_trees.specs.Maps.{store_of}
use Rattle.fjall_table.specs.Blocks.{Entry}
use Rattle.fjall_trees.specs.Forests.{Forest, Planted, altered_at}
use Rattle.fjall_trees.proofs.Changing.{tree_under}
use Rattle.fjall_trees.specs.Tables.{AreSameTrees, shape_in}
use Rattle.fjall_trees.proofs.Outstanding.{merging_same, merging_tree}
use Rattle.fjall_reading.specs.Ingestions.{KeyOp}
use Rattle.fjall_machine.specs.Shapes.{CallShape, OfChange, OfCount, OfCreation, OfDeletion, OfFlushBegin, OfFlushFinish, OfHandle, OfIngestion, OfJournalRotation, OfMaintenance, OfMergeBegin, OfMergeFinish, OfPersist, OfRead, OfRotation, OfTickets, OneLess, OneMore}
use Rattle.fjall_machine.specs.Machine as machine
use Rattle.fjall_machine.specs.Machine.{Answers, BeginsFlush, BeginsMerge, CreatesOrFinds, FinishesFlush, FinishesMerge, Ingests, IngestionFails, IngestsInto, MayFail, Refuses, State, StepOf, WorkFails, accepted, at_fault, begins_flush, begins_merge, created, deleted, due, evicted, flush_gone, flush_out, handled, is_flushing, is_living, is_long, is_merging, journal_rotated, journal_synced, merge_gone, options_in, present, released, rotated, rotates, takes_effect, target_size, with_sealed, parts_written_out}
use Rattle.fjall_machine.specs.Merging.{KnowsMerge}
use Rattle.fjall_machine.specs.Remembered.{IsLawful, MemoryStandsFor, Remembered, merge_out_in_memory}
use Rattle.fjall_machine.proofs.Flushing.{ids_stay}
use Rattle.fjall_machine.proofs.KeptMerges.{IsSound, Keeps, alike, changes, creates, deletes, flush_begins, flush_finishes, flush_goes, further, ingests, merge_begins, merge_finishes, merge_goes, poisoned, releases, rotates_one, same, some_gone, sound, synced}
use Rattle.fjall_machine.proofs.MergeSettings.{settings_agree}
use Rattle.fjall_machine.proofs.MergedTables.{begun_same}
use Rattle.fjall_machine.proofs.SameTrees.{all_same, along, back, same_altered_by}
use Rattle.fjall_machine.proofs.Standing.{next_agrees}

-- ---- steps that succeed

module _ (task : Task) (s t : State) where
  to : (u : State) → t ≡ u → Keeps task s u → Keeps task s t
  to u is keeps = subst (Keeps task s) (sym is) keeps

  made_or_found : (name : Bytes) (options : List Bytes) (id : ℕ) → CreatesOrFinds s name options id t → Keeps task s t
  made_or_found name options id (inl (had, found, is)) = same task s t is
  made_or_found name options id (inr (fresh, is, made)) = to (created s name options) made (creates task s name options)

  flush_begun : (id : ℕ) (reply : Reply) (begins : Bool) → BeginsFlush begins s id reply t → Keeps task s t
  flush_begun id reply true (told, left, is) =
      to (flush_out (journal_synced s) id) is (further task s (journal_synced s) (flush_out (journal_synced s) id) (synced task s) (flush_begins task (journal_synced s) id))
  flush_begun id reply false (told, is) = same task s t is

  flush_finished : IsSound s → (job : JobId) (reply : Reply) (out takes : Bool) → FinishesFlush out takes s job reply t → Keeps task s t
  flush_finished may job reply true true (told, well, parts, flushed, is) =
      let mid : State = record s { parts = parts } in
      to (evicted mid) is (further task s mid (evicted mid) (flush_finishes task s may.forest job.keyspace_id parts flushed) (alike task mid (evicted mid) refl refl refl refl))
  flush_finished may job reply true false (told, is) = to (flush_gone s job.keyspace_id) is (flush_goes task s job.keyspace_id)
  flush_finished may job reply false takes (told, is) = same task s t is

  merge_begun_now : (id : ℕ) (reply : Reply) (begins : Bool) → BeginsMerge begins s id reply t → Keeps task s t
  merge_begun_now id reply true (told, small, is) = to (machine.merge_out s id) is (merge_begins task s id)
  merge_begun_now id reply false (told, is) = same task s t is

  merge_finished : (job : JobId) (reply : Reply) (out lives : Bool) → FinishesMerge out lives s job reply t → Keeps task s t
  merge_finished job reply true true (told, well, parts, merged, is) = subst (Keeps task s) (sym is) (merge_finishes task s job.keyspace_id parts merged _)
  merge_finished job reply true false (told, is) = to (merge_gone s job.keyspace_id) is (merge_goes task s job.keyspace_id)
  merge_finished job reply false lives (told, is) = same task s t is

  handle_counted : (id : ℕ) → t ≡ released s id → Keeps task s t
  handle_counted id is = to (released s id) is (releases task s id)

-- behind a journal that was synced
module _ (task : Task) (s : State) (may : IsSound s) where
  ingests_synced : (id : ℕ) (items : List KeyOp) (mid : State) → Ingests (journal_synced s) id items mid → Keeps task s mid
  ingests_synced id items mid = by (is_long s.parts)
    where
      by : (b : Bool) → Ingests (if b then journal_rotated s else record s { parts = parts_written_out s.parts 0 }) id items mid → Keeps task s mid
      by true is =
          let now = journal_rotated s in
          further task s now mid (alike task s now refl refl refl refl) (ingests task now (record { forest = may.forest; small = may.small; until = may.until }) id items mid is)
      by false is =
          let now : State = record s { parts = parts_written_out s.parts 0 } in
          further task s now mid (alike task s now refl refl refl refl) (ingests task now (record { forest = may.forest; small = may.small; until = may.until }) id items mid is)

  ingested : (id : ℕ) (items : List KeyOp) (reply : Reply) (t : State) → IngestsInto id items s reply t → Keeps task s t
  ingested id [] reply t (told, is) = same task s t is
  ingested id (item ∷ items) reply t (told, left, mid, is, evicts) =
      to task s t (evicted mid) evicts (further task s mid (evicted mid) (ingests_synced id (item ∷ items) mid is) (alike task mid (evicted mid) refl refl refl refl))

  answers : (t : State) (shape : CallShape) (reply : Reply) → Answers s shape reply t → Keeps task s t
  answers t (OfChange change how) reply (told, is) = to task s t (accepted s change how) is (changes task s change how)
  answers t (OfIngestion id items) reply into = ingested id items reply t into
  answers t (OfCreation name options) reply (id, told, makes) = made_or_found task s t name options id makes
  answers t (OfDeletion id) reply (told, is) = subst (Keeps task s) (sym is) (deletes task s id (is_living (present s) id))
  answers t (OfHandle OneMore id) reply (told, is) = subst (Keeps task s) (sym is) (alike task s (handled OneMore s id) refl refl refl refl)
  answers t (OfHandle OneLess id) reply (told, is) = handle_counted task s t id is
  answers t (OfRotation id) reply (told, is) = subst (Keeps task s) (sym is) (rotates_one task s id (rotates s.parts.trees id))
  answers t OfJournalRotation reply (told, is) = to task s t (journal_rotated s) is (alike task s (journal_rotated s) refl refl refl refl)
  answers t (OfFlushBegin id) reply begun = flush_begun task s t id reply (begins_flush s.parts.trees id) begun
  answers t (OfFlushFinish job) reply finished = flush_finished task s t may job reply (is_flushing s.parts.trees job) (takes_effect s job) finished
  answers t (OfMergeBegin kind id) reply begun = merge_begun_now task s t id reply (begins_merge (present s) s.parts.trees kind id) begun
  answers t (OfMergeFinish job) reply finished = merge_finished task s t job reply (is_merging s.parts.trees job) (is_living (present s) job.keyspace_id) finished
  answers t OfMaintenance reply (told, is) = to task s t (evicted s) is (alike task s (evicted s) refl refl refl refl)
  answers t (OfRead view id query) reply (told, is) = same task s t is
  answers t (OfTickets call) reply (turns, is) = subst (Keeps task s) (sym is) (alike task s (record s { tickets = t.tickets }) refl refl refl refl)
  answers t (OfPersist mode) reply (told, is) = subst (Keeps task s) (sym is) (alike task s (record s { parts = parts_written_out s.parts 0 }) refl refl refl refl)
  answers t (OfCount count) reply (told, is) = same task s t is

  -- ---- steps that fail

  faults : (shape : CallShape) → Keeps task s (at_fault s shape)
  faults (OfChange change how) = same task s s refl
  faults (OfIngestion id items) = same task s s refl
  faults (OfCreation name options) = same task s s refl
  faults (OfDeletion id) = same task s s refl
  faults (OfHandle OneMore id) = same task s s refl
  faults (OfHandle OneLess id) = releases task s id
  faults (OfRotation id) = same task s s refl
  faults OfJournalRotation = same task s s refl
  faults (OfFlushBegin id) = same task s s refl
  faults (OfFlushFinish job) = same task s s refl
  faults (OfMergeBegin kind id) = same task s s refl
  faults (OfMergeFinish job) = same task s s refl
  faults OfMaintenance = same task s s refl
  faults (OfRead view id query) = same task s s refl
  faults (OfTickets call) = same task s s refl
  faults (OfPersist mode) = same task s s refl
  faults (OfCount count) = same task s s refl

  ingestion_fails : (id : ℕ) (items : List KeyOp) (t : State) → IngestionFails s id items t → Keeps task s t
  ingestion_fails id items t (inl is) = poisoned task s t is
  ingestion_fails id items t (inr (inl is)) = further task s (journal_synced s) t (synced task s) (poisoned task (journal_synced s) t is)
  ingestion_fails id items t (inr (inr (mid, left, is, evicts, last))) =
      let now = journal_synced s in
      let then_state = with_sealed left.parts.journals.sealed now in
      further task s then_state t (further task s now then_state (synced task s) (alike task now then_state refl refl refl refl)) (poisoned task then_state t last)

  work_fails : (t : State) (shape : CallShape) → WorkFails shape s t → Keeps task s t
  work_fails t (OfFlushBegin id) (begins, left, is) = poisoned task s t is
  work_fails t (OfFlushFinish job) (due, well, inl is) = poisoned task s t is
  work_fails t (OfFlushFinish job) (due, well, inr (parts, mid, flushed, evicts, is)) =
      let now : State = record s { parts = parts } in
      further task s mid t (further task s now mid (flush_finishes task s may.forest job.keyspace_id parts flushed) (some_gone task now mid evicts)) (poisoned task mid t is)
  work_fails t (OfMergeBegin kind id) (begins, left, is) = same task s t is
  work_fails t (OfMergeFinish job) (due, well, inl is) = poisoned task s t is
  work_fails t (OfMergeFinish job) (due, well, inr (parts, merged, is)) =
      let now : State = record s { parts = parts } in
      further task s now t (merge_finishes task s job.keyspace_id parts merged s.merges_done) (poisoned task now t is)
  work_fails t OfMaintenance (mid, evicts, is) = further task s mid t (some_gone task s mid evicts) (poisoned task mid t is)
  work_fails t (OfIngestion id []) fails = absurd fails
  work_fails t (OfIngestion id (item ∷ items)) (left, fails) = ingestion_fails id (item ∷ items) t fails
  work_fails t (OfChange change how) fails = absurd fails
  work_fails t (OfCreation name options) fails = absurd fails
  work_fails t (OfDeletion id) fails = absurd fails
  work_fails t (OfHandle call id) fails = absurd fails
  work_fails t (OfRotation id) fails = absurd fails
  work_fails t OfJournalRotation fails = absurd fails
  work_fails t (OfRead view id query) fails = absurd fails
  work_fails t (OfTickets call) fails = absurd fails
  work_fails t (OfPersist mode) fails = absurd fails
  work_fails t (OfCount count) fails = absurd fails

  fails : (t : State) (shape : CallShape) (error : Error) → MayFail shape error s t → Keeps task s t
  fails t shape (Io kind) (inl (changes, is)) = further task s (at_fault s shape) t (faults shape) (poisoned task (at_fault s shape) t is)
  fails t shape (Io kind) (inr (inl (reads, is))) = same task s t is
  fails t shape (Io kind) (inr (inr work)) = work_fails t shape work
  fails t shape OutOfMemory (takes, is) = same task s t is
  fails t shape (Storage told) (which, damaged, is) = same task s t is
  fails t shape ValueTooLong (long, is) = same task s t is
  fails t shape Poisoned (late, is) = same task s t is
  fails t shape NumbersUsedUp (used_up, is) = same task s t is
  fails t shape TooManyItems (none_left, is) = same task s t is
  fails t shape error none = absurd none

  refuses : (t : State) (shape : CallShape) (error : Error) (first : Option Error) → Refuses first shape error s t → Keeps task s t
  refuses t shape error (Some first) (why, is) = same task s t is
  refuses t shape error None may_fail = fails t shape error may_fail

  pub step_keeps : (shape : CallShape) (reply : Reply) (t : State) → StepOf s shape reply t → Keeps task s t
  step_keeps shape (Refused error) t step = refuses t shape error (due s shape) step
  step_keeps shape reply t (none, step) = answers t shape reply step

-- ---- what is known

pub stays_known : (target : ℕ) (task : Task) (s t : State) → Keeps task s t → KnowsMerge s target task → KnowsMerge t target task
stays_known target task s t keeps knows =
    let number = knows.given in
    let made = knows.made in
    let next = keeps.store.next in
    let jobs = keeps.jobs in
    record {
      given = omega (arith, number, jobs);
      made = omega (arith, made, next);
      target_is = λ lives.
          let before = keeps.store.settings made lives in
          knows.target_is before.0 ∙ ap target_size (sym before.1);
      begun = keeps.out number knows.begun;
    }

pub a_known_merge_stays : (m : Remembered) (table : ℕ) (s : State) → MemoryStandsFor m table s → (shape : CallShape) (reply : Reply) (t : State) → StepOf s shape reply t
    → (target : ℕ) (task : Task) → KnowsMerge s target task → KnowsMerge t target task
a_known_merge_stays m table s stands shape reply t step target task = stays_known target task s t (step_keeps task s (sound m table s stands) shape reply t step)

-- a keyspace whose tree has a merge out was given its id
out_given : (m : Remembered) → IsLawful m → (id : ℕ) (trees : Forest) → AreSameTrees (merge_out_in_memory id m).trees trees → (entries : List (List Entry)) (task : Task) → IsMerging (shape_in id trees) entries task → id < m.keyspaces.next
out_given m is id trees alike entries task merging =
    let given = all_same (λ q tables. q < m.keyspaces.next) (λ q a b same here. here) (merge_out_in_memory id m).trees trees alike (ids_stay m.keyspaces.next id (merge_begun m.next_job m.tickets.watermark) m.trees is.given) in
    tree_under (λ (k : Planted). k.id < m.keyspaces.next) trees id (shape_in id trees) given (merging_tree id trees entries task merging)

-- one that is begun, whatever is kept of the tables that it read
pub a_begun_merge_is_known : (m : Remembered) (table : ℕ) (s : State) → MemoryStandsFor m table s → (id : ℕ) (trees : Forest) → AreSameTrees (merge_out_in_memory id m).trees trees → (task : Task)
    → task.id ≡ m.next_job → task.keyspace ≡ id → IsMerging (shape_in id trees) (s.parts.entries id) task → KnowsMerge (machine.merge_out s id) (target_size (options_in (store_of m.keyspaces m.trees) id)) task
a_begun_merge_is_known m table s stands id trees alike task number at is =
    let job = stands.next_job in
    let next = next_agrees m table s stands in
    let new = (machine.merge_out s id).parts.trees in
    let begun : AreSameTrees new (merge_out_in_memory id m).trees =
    subst (λ (x : ℕ × ℕ). AreSameTrees (altered_at id (merge_begun x.0 x.1) s.parts.trees) (merge_out_in_memory id m).trees) (sym (λ i. (stands.next_job i, (stands.tickets i).watermark)))
    (same_altered_by id (merge_begun m.next_job m.tickets.watermark) (begun_same m.next_job m.tickets.watermark) s.parts.trees m.trees stands.trees) in
    let here = merging_same id trees new (back new trees (along new (merge_out_in_memory id m).trees trees begun alike)) (s.parts.entries id) task is in
    record {
      given = omega (arith, job, number);
      made = omega (arith, at, next, let lt = out_given m stands.lawful id trees alike (s.parts.entries id) task is in lt);
      target_is = λ lives.
          let living = subst (λ (k : ℕ). is_living (present s) k ≡ true) at lives in
          ap target_size (sym (settings_agree m table s stands id living) ∙ ap (options_in (present s)) (sym at));
      begun = λ out. subst (λ (k : ℕ). IsMerging (shape_in k new) (s.parts.entries k) task) (sym at) here;
    }
