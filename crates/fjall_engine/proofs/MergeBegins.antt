-- A merge that is to begin: where it leads a core and its disk, and what it serves.
use Rattle.std.proofs.Common.{◌≡◌, inr, ℕ, ◌+◌, ◌-◌, ◌^◌, ◌<◌, Bool, true, false, List, [], None, Option, Some, Result, Ok, Err, IfErr, IfOk, IfSome, IsTrue, MatchBool, OnErr, OnOk, refl, sym, ◌∙◌, ap, subst, arith}
use Rattle.std.proofs.lemmas.Bool.{true≢false}
use Rattle.fjall_base.specs.Disk.{Took}
use Rattle.fjall_base.specs.declared.error.Error.{Error}
use Rattle.fjall_base.specs.declared.error.Error.TheVariants.{Io, NumbersUsedUp, OutOfMemory, Storage}
use Rattle.fjall_table_reader.specs.Readers.{LooksOn, SomeTableIsWrong}
use Rattle.fjall_changes.proofs.KeptHomes.{homes_none}
use Rattle.fjall_files.proofs.Tidying.{stays_none}
use Rattle.fjall_history.specs.declared.reply.Reply.{Reply}
use Rattle.fjall_history.specs.declared.reply.Reply.TheVariants.{Began, Refused}
use Rattle.fjall_jobs.specs.declared.merge_job.MergeJob.{MergeJob}
use Rattle.fjall_jobs.specs.Merges.{merge_target, merge_task}
use Rattle.fjall_tree.specs.Jobs.{IsMerging, merge_begun}
use Rattle.fjall_recovery.specs.Refusals.{HasRisen}
use Rattle.fjall_machine.specs.declared.merge_kind.MergeKind.{MergeKind}
use Rattle.fjall_machine.specs.Machine.{Refuses, State, StepOf, is_among, options_in, target_size}
use Rattle.fjall_machine.specs.Machine as machine
use Rattle.fjall_machine.specs.Merging.{KnowsMerge}
use Rattle.fjall_machine.specs.Remembered.{merge_out_in_memory, with_trees}
use Rattle.fjall_machine.specs.Shapes.{OfMergeBegin}
use Rattle.fjall_machine.proofs.KnownMerges.{a_begun_merge_is_known}
use Rattle.fjall_table.specs.Blocks.{Entry}
use Rattle.fjall_table_reader.specs.Files.{IsRefused}
use Rattle.fjall_trees.specs.Tables.{AreReadOn, AreSameTrees, shape_in}
use Rattle.fjall_trees.proofs.Same.{same_trees}
use Rattle.fjall_engine.specs.Holding.{Held}
use Rattle.fjall_engine.specs.Crashes.{is_io}
use Rattle.fjall_engine.specs.Durables.{Durable}
use Rattle.fjall_engine.specs.Standing.{BeginsMergeAt, Looks, OnDisk, Owes, OwesMergeBegin, OwesRefusal, ReadsOn, Serves, StandsFor, StandsOn, begins_merge_in, held_due, job_of, merge_job_reply, store_in, tables_of}
use Rattle.fjall_engine.proofs.CrashesInRuns.{passes_on}
use Rattle.fjall_engine.proofs.DeviceFaults.{risen_blames}
use Rattle.fjall_engine.proofs.JournalWrites.{Leads}
use Rattle.fjall_engine.proofs.KeptEntries.{step_keeps}
use Rattle.fjall_engine.proofs.KeyspaceCalls.{recount_leads}
use Rattle.fjall_engine.proofs.LookedDisks.{damaged_there, looked_on}
use Rattle.fjall_engine.proofs.MergesOut.{carry_merge, merge_recounts}
use Rattle.fjall_engine.proofs.OwedMerges.{merge_begins_there}
use Rattle.fjall_engine.proofs.OwedStates.{looked_stands, same_due}
use Rattle.fjall_engine.proofs.OwedSteps.{owes_step}
use Rattle.fjall_engine.proofs.ReadCalls.{none_tried}
use Rattle.fjall_engine.proofs.Refusals.{no_sync}
use Rattle.fjall_engine.proofs.ServedCalls.{answer_serves, led_by, refusal_serves, served}
use Rattle.fjall_engine.proofs.TablesAtHome.{KeepsReads, keeps_looked, looked_lie, outside_same, trees_read}

-- ---- a merge that doesn't begin

module _ (core : Held) (kind : MergeKind) (id : ℕ) (none : held_due core (OfMergeBegin kind id) ≡ None) where
  pub no_merge_owes : begins_merge_in core kind id ≡ false → Owes core (OfMergeBegin kind id) (Began None) core
  no_merge_owes idle = (none, subst (λ (b : Bool). OwesMergeBegin b core id (Began None) core) (sym idle) (refl, refl))

  pub no_merge_serves : begins_merge_in core kind id ≡ false → Serves core (OfMergeBegin kind id) (Began None) core
  no_merge_serves idle =
      answer_serves core (OfMergeBegin kind id) (Began None) (λ begins. true≢false (sym begins ∙ idle)) (no_merge_owes idle)
      (subst (λ (b : Bool). MatchBool b (Took core.disk core.disk []) (core.disk ≡ core.disk)) (sym idle) refl) refl (λ s. refl) (λ s sync. sync)

  -- no number of a job is left
  pub no_job_owes : begins_merge_in core kind id ≡ true → core.memory.next_job ≡ 2 ^ 64 - 1 → Owes core (OfMergeBegin kind id) (Refused NumbersUsedUp) core
  no_job_owes begins used = subst (λ first. OwesRefusal first core (OfMergeBegin kind id) NumbersUsedUp core) (sym none) ((begins, used), refl)

  pub no_job_serves : begins_merge_in core kind id ≡ true → core.memory.next_job ≡ 2 ^ 64 - 1 → Serves core (OfMergeBegin kind id) (Refused NumbersUsedUp) core
  no_job_serves begins used =
      refusal_serves core (OfMergeBegin kind id) NumbersUsedUp refl
      (λ s stands. owes_step core core (OfMergeBegin kind id) (Refused NumbersUsedUp) s (λ reads. reads) (no_job_owes begins used) stands)

  -- memory is used up before a block is looked at
  pub no_memory_owes : begins_merge_in core kind id ≡ true → core.memory.next_job < 2 ^ 64 - 1 → Owes core (OfMergeBegin kind id) (Refused OutOfMemory) core
  no_memory_owes begins left =
      subst (λ first. OwesRefusal first core (OfMergeBegin kind id) OutOfMemory core) (sym none)
      ((begins, left), (begins, record { memory_is = refl; trees = same_trees core.memory.trees; catalog = refl; journal = refl; faults = omega arith }))

  pub no_memory_serves : begins_merge_in core kind id ≡ true → core.memory.next_job < 2 ^ 64 - 1 → Serves core (OfMergeBegin kind id) (Refused OutOfMemory) core
  no_memory_serves begins left =
      refusal_serves core (OfMergeBegin kind id) OutOfMemory refl
      (λ s stands. owes_step core core (OfMergeBegin kind id) (Refused OutOfMemory) s (λ reads. reads) (no_memory_owes begins left) stands)

-- ---- one that begins

-- What came of the work, whatever it answers: others of the keyspace's tables may be kept now, and where it gave a job its merge is out.
pub record Came (honest : Bool) (old new : Held) (id : ℕ) (result : Result MergeJob Error) : Type 0 where
  pub catalog : new.catalog ≡ old.catalog
  pub journal : new.journal ≡ old.journal
  pub begun : OnOk result (new.memory ≡ with_trees new.memory.trees (merge_out_in_memory id old.memory))
  pub trees : OnOk result (AreSameTrees (merge_out_in_memory id old.memory).trees new.memory.trees)
  pub named : IfOk result (λ job. ((merge_task job).id ≡ old.memory.next_job) × ((merge_task job).keyspace ≡ id))
  pub target : IfOk result (λ job. merge_target job ≡ target_size (options_in (store_in old) id))
  pub out : IsTrue honest → (entries : ℕ → List (List Entry)) → AreReadOn old.disk old.memory.trees entries
      → IfOk result (λ job. IsMerging (shape_in id new.memory.trees) (entries id) (merge_task job))
  pub unchanged : OnErr result (new.memory ≡ with_trees new.memory.trees old.memory)
  pub same : OnErr result (AreSameTrees old.memory.trees new.memory.trees)
  pub reads : IsTrue honest → (entries : ℕ → List (List Entry)) → AreReadOn old.disk old.memory.trees entries → AreReadOn new.disk new.memory.trees entries
  pub refused : IsTrue honest → (entries : ℕ → List (List Entry)) → AreReadOn old.disk old.memory.trees entries
      → IfErr result (IsRefused (SomeTableIsWrong old.disk (tables_of old id)) old.disk.faults new.disk.faults)
  pub cause : IfErr result (IsRefused (Unit {0}) old.disk.faults new.disk.faults)
  pub disk : LooksOn honest old.disk new.disk

module _ (honest : Bool) (old new : Held) (kind : MergeKind) (id : ℕ) (job : MergeJob) (came : Came honest old new id (Ok job)) (left : old.memory.next_job < 2 ^ 64 - 1) where
  abbrev reply : Reply
  reply = Began (Some (job_of (merge_task job)))

  -- the core with the merge out, before others of its tables were kept
  abbrev mid : Held
  mid = record old { memory = merge_out_in_memory id old.memory }

  held : new ≡ record mid { disk = new.disk; memory = with_trees new.memory.trees mid.memory }
  held = λ i. record { disk = new.disk; journal = came.journal i; catalog = came.catalog i; memory = came.begun i }

  begins_at : BeginsMergeAt old id new
  begins_at = record { memory_is = came.begun; trees = came.trees; catalog = came.catalog; journal = came.journal; faults = came.disk.later }

  pub out_owes : held_due old (OfMergeBegin kind id) ≡ None → begins_merge_in old kind id ≡ true → Owes old (OfMergeBegin kind id) reply new
  out_owes none begins = (
    none,
    subst (λ (b : Bool). OwesMergeBegin b old id reply new) (sym begins) ((λ i. Began (Some (record { number = came.named.0 i; keyspace_id = came.named.1 i }))), left, begins_at),
  )

  -- the trees have the tables still
  out_keeps : IsTrue honest → KeepsReads old new
  out_keeps h s stands reads =
      let lie = carry_merge (merge_begun old.memory.next_job old.memory.tickets.watermark) (λ shape. refl) id old.memory.trees old.disk s reads.tables in
      record {
        tables = looked_lie old.disk new.disk s (merge_out_in_memory id old.memory).trees new.memory.trees came.trees (came.reads h s.parts.entries (trees_read old s stands reads))
            (homes_none old.disk new.disk (came.disk.same h)) lie;
        writer = outside_same old new (ap (λ (c : Held). c.memory.poisoned) held) (ap (λ (c : Held). c.journal.name) held) reads.writer;
        recorded = reads.recorded;
      }

  -- it stands on as before
  out_leads : IsTrue honest → (entries : ℕ → List (List Entry)) (d : Durable) → StandsOn old entries d → Leads entries new d []
  out_leads h entries d on =
      let change = merge_begun old.memory.next_job old.memory.tickets.watermark in
      let first = recount_leads entries old mid d refl (merge_recounts change (λ shape. refl) id entries old (old.memory.next_job + 1)) on in
      let second = looked_on entries mid new first.0 held came.trees (came.disk.same h) first.1 in
      (second.0, second.1, passes_on d first.0 second.0 [] [] first.2 second.2)

  pub out_serves : held_due old (OfMergeBegin kind id) ≡ None → begins_merge_in old kind id ≡ true → IsTrue honest → Serves old (OfMergeBegin kind id) reply new
  out_serves none begins h =
      let shape = OfMergeBegin kind id in
      served old new shape reply (λ s t. step_keeps s t shape reply (λ is. is)) (λ s stands reads. owes_step old new shape reply s (λ rests. rests) (out_owes none begins) stands)
      (subst (λ (b : Bool). MatchBool b (Took old.disk new.disk []) (new.disk ≡ old.disk)) (sym begins) (came.disk.same h)) (stays_none old.disk new.disk (came.disk.same h)) (out_keeps h)
      (λ s d stands on tidy. came.disk.served h) (λ s d stands on. led_by new s d shape reply [] refl (λ sync. sync) (out_leads h s.parts.entries d on))

  -- the state that it is out in knows it
  pub out_known : IsTrue honest → (s : State) → StandsFor old s → ReadsOn old s → KnowsMerge (machine.merge_out s id) (merge_target job) (merge_task job)
  out_known h s stands reads =
      subst (λ (n : ℕ). KnowsMerge (machine.merge_out s id) n (merge_task job)) (sym came.target)
      (a_begun_merge_is_known old.memory old.catalog.next_table_id s stands.remembered id new.memory.trees came.trees (merge_task job) came.named.0 came.named.1
      (came.out h s.parts.entries (trees_read old s stands reads)))

-- ---- one that was to begin

module _ (honest : Bool) (old new : Held) (kind : MergeKind) (id : ℕ) (none : held_due old (OfMergeBegin kind id) ≡ None) (begins : begins_merge_in old kind id ≡ true)
    (left : old.memory.next_job < 2 ^ 64 - 1) where
  looks : (error : Error) → Came honest old new id (Err error) → Looks old new
  looks error came = record { memory_is = came.unchanged; trees = came.same; catalog = came.catalog; journal = came.journal; faults = came.disk.later }

  refusal_owes : (error : Error) → IsRefused (Unit {0}) old.disk.faults new.disk.faults error → Looks old new → OwesRefusal None old (OfMergeBegin kind id) error new
  refusal_owes (Io kind) rose looked = inr (inr (begins, left, looked, rose))
  refusal_owes OutOfMemory out looked = ((begins, left), (begins, looked))
  refusal_owes (Storage told) wrong looked = (wrong.0, inr (begins, left, looked))
  refusal_owes error bad looked = absurd bad

  pub nothing_owes : (error : Error) → Came honest old new id (Err error) → Owes old (OfMergeBegin kind id) (Refused error) new
  nothing_owes error came = subst (λ first. OwesRefusal first old (OfMergeBegin kind id) error new) (sym none) (refusal_owes error came.cause (looks error came))

  refusal_on : (error : Error) → IsRefused (Unit {0}) old.disk.faults new.disk.faults error → Took old.disk new.disk [] → OnDisk old (OfMergeBegin kind id) (Refused error) new
  refusal_on (Io kind) rose took = took
  refusal_on OutOfMemory out took = took
  refusal_on (Storage told) wrong took = took
  refusal_on error bad took = absurd bad

  refusal_rises : (error : Error) → IsRefused (Unit {0}) old.disk.faults new.disk.faults error → HasRisen old.disk.faults new.disk.faults error
  refusal_rises (Io kind) rose = rose
  refusal_rises error why = tt

  -- a wrong block is met in a keyspace that is damaged
  refusal_steps : (error : Error) → Came honest old new id (Err error) → IsTrue honest → (s : State) → StandsFor old s → ReadsOn old s
      → IsRefused (SomeTableIsWrong old.disk (tables_of old id)) old.disk.faults new.disk.faults error → (t : State) × StandsFor new t × StepOf s (OfMergeBegin kind id) (Refused error) t
  refusal_steps (Io fault) came h s stands reads why = owes_step old new (OfMergeBegin kind id) (Refused (Io fault)) s (λ rests. rests) (nothing_owes (Io fault) came) stands
  refusal_steps OutOfMemory came h s stands reads why = owes_step old new (OfMergeBegin kind id) (Refused OutOfMemory) s (λ rests. rests) (nothing_owes OutOfMemory came) stands
  refusal_steps (Storage told) came h s stands reads why = (
    s,
    looked_stands old new s (looks (Storage told) came) stands,
    subst (λ first. Refuses first (OfMergeBegin kind id) (Storage told) s s) (sym (same_due old s (OfMergeBegin kind id) stands ∙ none))
        (why.0, (merge_begins_there old s stands kind id none ∙ begins, damaged_there old s id reads why.1), refl),
  )
  refusal_steps error came h s stands reads why = absurd why

  pub nothing_serves : (error : Error) → Came honest old new id (Err error) → IsTrue honest → Serves old (OfMergeBegin kind id) (Refused error) new
  nothing_serves error came h =
      let shape = OfMergeBegin kind id in
      let took = came.disk.same h in
      let held : new ≡ record old { disk = new.disk; memory = with_trees new.memory.trees old.memory } =
      λ i. record { disk = new.disk; journal = came.journal i; catalog = came.catalog i; memory = came.unchanged i } in
      served old new shape (Refused error) (λ s t. step_keeps s t shape (Refused error) (λ is. is))
      (λ s stands reads. refusal_steps error came h s stands reads (came.refused h s.parts.entries (trees_read old s stands reads)))
      (refusal_on error came.cause took) (stays_none old.disk new.disk took)
      (keeps_looked old new came.same (λ s stands reads. came.reads h s.parts.entries (trees_read old s stands reads)) (homes_none old.disk new.disk took)
      (outside_same old new (ap (λ (c : Held). c.memory.poisoned) held) (ap (λ (c : Held). c.journal.name) held)))
      (λ s d stands on tidy. risen_blames error old.disk new.disk (refusal_rises error came.cause) (came.disk.served h))
      (λ s d stands on. led_by new s d shape (Refused error) [] (none_tried (is_io error)) (no_sync s shape error) (looked_on s.parts.entries old new d held came.same took on))

-- ---- whatever it answers

-- what is answered to the caller
abbrev pub shown : Result MergeJob Error → Result (Option MergeJob) Error
shown (Ok job) = Ok (Some job)
shown (Err error) = Err error

module _ (honest : Bool) (old new : Held) (kind : MergeKind) (id : ℕ) (none : held_due old (OfMergeBegin kind id) ≡ None) (begins : begins_merge_in old kind id ≡ true)
    (left : old.memory.next_job < 2 ^ 64 - 1) where
  pub begun_owes : (result : Result MergeJob Error) → Came honest old new id result → Owes old (OfMergeBegin kind id) (merge_job_reply (shown result)) new
  begun_owes (Ok job) came = out_owes honest old new kind id job came left none begins
  begun_owes (Err error) came = nothing_owes honest old new kind id none begins left error came

  pub begun_serves : (result : Result MergeJob Error) → Came honest old new id result → IsTrue honest → Serves old (OfMergeBegin kind id) (merge_job_reply (shown result)) new
  begun_serves (Ok job) came h = out_serves honest old new kind id job came left none begins h
  begun_serves (Err error) came h = nothing_serves honest old new kind id none begins left error came h

  pub begun_known : (result : Result MergeJob Error) → Came honest old new id result → IsTrue honest → (s : State) → StandsFor old s → ReadsOn old s
      → IfOk (shown result) (λ job. IfSome job (λ job. KnowsMerge (machine.merge_out s id) (merge_target job) (merge_task job)))
  begun_known (Ok job) came h s stands reads = out_known honest old new kind id job came left h s stands reads
  begun_known (Err error) came h s stands reads = tt
