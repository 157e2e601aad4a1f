-- What a worker's step or an ingestion owes is a step of the machine: of a flush or a merge that is to begin or to be finished, and of
-- maintenance.
use Rattle.std.proofs.Common.{◌≡◌, ◌⊎◌, inl, inr, ℕ, ◌+◌, ◌-◌, ◌^◌, ◌<◌, ◌≤◌, ◌==◌, ◌&&◌, ◌||◌, Bool, true, false, if◌then◌else◌, List, [], ◌∷◌, length, None, Some, nat_lt, nat_le, refl, sym, ◌∙◌, ap, subst, arith}
use Rattle.std.proofs.lemmas.Bool.{true≢false}
use Rattle.std.proofs.lemmas.Bool.Decides.{nat_tests}
use Rattle.fjall_base.specs.declared.error.Error.{Error}
use Rattle.fjall_journal.specs.Writer.{Journal}
use Rattle.fjall_journal.specs.Writer as writer
use Rattle.fjall_files.specs.Journals.{Sealed}
use Rattle.fjall_journal.specs.Rotations.{empty_journal}
use Rattle.fjall_history.specs.declared.job.JobId.{JobId}
use Rattle.fjall_history.specs.declared.reply.Reply.{Reply}
use Rattle.fjall_history.specs.declared.reply.Reply.TheVariants.{Began, Done, Flag, Refused}
use Rattle.fjall_manifest.specs.Records.{Fields, body}
use Rattle.fjall_history.specs.Histories.{number}
use Rattle.fjall_jobs.specs.declared.made_table.MadeTable.{MadeTable}
use Rattle.fjall_replay.specs.Known.{last_known}
use Rattle.fjall_meta.specs.declared.living.LivingKeyspace.{LivingKeyspace}
use Rattle.fjall_meta.specs.Keyspaces.{keyspace_at}
use Rattle.fjall_compaction.specs.IngestionPlans.{OnceIngested}
use Rattle.fjall_compaction.specs.Room.{IsTooLong, LacksNextId}
use Rattle.fjall_compaction.specs.Whole.{OnceWhole, last_flushed}
use Rattle.fjall_jobs.specs.Tasks.{IsFlushed}
use Rattle.fjall_tree.specs.Ingestions.{memory_task}
use Rattle.fjall_tree.specs.Jobs.{count_out}
use Rattle.fjall_tree.specs.Trees as lsm
use Rattle.fjall_memtable.specs.Parts.{Memory, clears_in, parts_of}
use Rattle.fjall_trees.specs.Tables.{shape_in}
use Rattle.fjall_machine.specs.Shapes.{CallShape, OfChange, OfCount, OfCreation, OfDeletion, OfFlushBegin, OfFlushFinish, OfHandle, OfIngestion, OfJournalRotation, OfMaintenance, OfMergeBegin, OfMergeFinish, OfPersist, OfRead, OfRotation, OfTickets}
use Rattle.fjall_machine.specs.Machine.{BeginsFlush, EvictsSome, FinishesFlush, Flushed, IngestionFails, Ingests, IngestsInto, IsPoisoned, FlushMeets, MayIngest, Parts, State, WorkFails, begins_flush, is_flushing, is_living, present, parts_written_out}
use Rattle.fjall_machine.specs.Machine as machine
use Rattle.fjall_machine.specs.Remembered.{Remembered, facts_of}
use Rattle.fjall_machine.specs.Remembered as memory
use Rattle.fjall_machine.proofs.Flushing.{a_begun_flush_stands, a_dropped_flush_stands, a_finished_flush_stands, an_eviction_stands, known_record, some_evicted, with_sealed_stands}
use Rattle.fjall_machine.proofs.Ascending.{may_ingest}
use Rattle.fjall_machine.proofs.Ingesting.{an_ingestion_stands}
use Rattle.fjall_machine.proofs.SameTrees.{same_in}
use Rattle.fjall_machine.proofs.Sizes.{beginning_agrees, out_agrees}
use Rattle.fjall_machine.proofs.Standing as law
use Rattle.fjall_reading.specs.Ingestions.{KeyOp}
use Rattle.fjall_engine.specs.Holding.{Held}
use Rattle.fjall_engine.specs.Standing.{AsksMemoryIn, Becomes, BeginsAt, EvictsInMemory, FinishesLateIn, FinishMeetsIn, FlushedInMemory, HasNoRoomIn, IngestedInMemory, IngestionPoisons, IsDueToFinishIn, OwesBegin, OwesFinish, OwesIngestion, Poisons, RestsOnTables, StandsFor, UsesUpIn, WorkPoisons, are_jobs_used_up_in, are_journals_used_up_in, evicted_in_memory, held_due, is_journal_long, journal_synced_in, next_name, store_in, takes_effect_in}
use Rattle.fjall_engine.proofs.OwedMerges.{merge_begins_there, merge_due_there, merge_number_there}
use Rattle.fjall_engine.proofs.OwedStates.{Answered, Steps, looked_stands, none_more, poisoned_stands, poisoned_state, same_due, still}

-- a number of 64 bits that isn't the last one
not_last : (n : ℕ) → n < 2 ^ 64 → (n == 2 ^ 64 - 1) ≡ false → n < 2 ^ 64 - 1
not_last n small other = let below : n < 2 ^ 64 - 1 = grind (arith, nat_tests, small, other) in below

module _ (old new : Held) (s : State) (stands : StandsFor old s) where
  abbrev table : ℕ
  table = old.catalog.next_table_id

  -- ---- a flush that begins

  pub long_agrees : machine.is_long s.parts ≡ is_journal_long old.journal
  long_agrees = λ i. nat_lt 64000000 (stands.journal i + stands.buffer i)

  used_up_agrees : machine.are_jobs_used_up s ≡ are_jobs_used_up_in old
  used_up_agrees = λ i. (stands.remembered.next_job i == 2 ^ 64 - 1) || (long_agrees i && nat_le (2 ^ 64 - 2) (stands.remembered.journals i).active)

  -- what stands in memory, and in the state, once the journal was synced, of a long one and of another
  abbrev synced_memory : Bool → Remembered
  synced_memory long = if long then memory.journal_rotated_in_memory (writer.written_out old.journal).len old.memory else old.memory

  abbrev synced_state : Bool → State
  synced_state long = if long then machine.journal_rotated s else record s { parts = parts_written_out s.parts 0 }

  abbrev synced_writer : Bool → Journal
  synced_writer long = if long then empty_journal (next_name old) else writer.written_out old.journal

  pub synced_stands : (long : Bool) → memory.MemoryStandsFor (synced_memory long) table (synced_state long)
  synced_stands true =
      law.a_journal_rotation_stands old.memory table s stands.remembered (writer.written_out old.journal).len (λ i. writer.counted (sym stands.journal i + sym stands.buffer i))
  synced_stands false = law.other_parts_stand old.memory table s stands.remembered (parts_written_out s.parts 0) stands.remembered.next_table refl refl refl refl

  pub synced_len : (long : Bool) → (synced_state long).parts.journal ≡ (synced_writer long).len
  synced_len true = refl
  synced_len false = none_more old.journal s.parts stands.journal stands.buffer

  pub synced_buffer : (long : Bool) → (synced_state long).parts.buffer ≡ length (synced_writer long).buffer
  synced_buffer true = refl
  synced_buffer false = refl

  -- a number of a job is left
  job_left : are_jobs_used_up_in old ≡ false → (synced_memory (is_journal_long old.journal)).next_job < 2 ^ 64 - 1
  job_left free = by (is_journal_long old.journal) (old.memory.next_job == 2 ^ 64 - 1) refl free
    where
      by : (long last : Bool) → (old.memory.next_job == 2 ^ 64 - 1) ≡ last → (last || (long && nat_le (2 ^ 64 - 2) old.memory.journals.active)) ≡ false → (synced_memory long).next_job < 2 ^ 64 - 1
      by true true is none = absurd (true≢false none)
      by false true is none = absurd (true≢false none)
      by true false is none = not_last old.memory.next_job stands.remembered.lawful.jobs is
      by false false is none = not_last old.memory.next_job stands.remembered.lawful.jobs is

  begun_stands : (id : ℕ) → are_jobs_used_up_in old ≡ false → BeginsAt old id new → StandsFor new (machine.flush_out (machine.journal_synced s) id)
  begun_stands id free begins =
      let long = is_journal_long old.journal in
      let m = synced_memory long in
      let t = machine.flush_out (synced_state long) id in
      subst (λ (b : Bool). StandsFor new (machine.flush_out (synced_state b) id)) (sym long_agrees) (record {
        remembered = subst (λ (x : Remembered). memory.MemoryStandsFor x new.catalog.next_table_id t) (sym begins.memory_is)
            (subst (λ c. memory.MemoryStandsFor (memory.flush_out_in_memory id m) c t) (ap (λ c. c.next_table_id) (sym begins.catalog)) (a_begun_flush_stands m table (synced_state long) (synced_stands long) id (job_left free)));
        journal = synced_len long ∙ ap (λ (j : Journal). j.len) (sym begins.journal);
        buffer = synced_buffer long ∙ ap (λ (j : Journal). length j.buffer) (sym begins.journal);
      })

  pub begin_steps : (id : ℕ) (reply : Reply) (begins : Bool) → begins_flush old.memory.trees id ≡ begins → held_due old (OfFlushBegin id) ≡ None → OwesBegin begins old id reply new → Answered new s (OfFlushBegin id) reply
  begin_steps id reply begins is none owes = by begins is owes
    where
      answers : (begins : Bool) (t : State) → begins_flush old.memory.trees id ≡ begins → BeginsFlush begins s id reply t → BeginsFlush (begins_flush s.parts.trees id) s id reply t
      answers begins t is at = subst (λ (b : Bool). BeginsFlush b s id reply t) (sym (beginning_agrees old.memory table s stands.remembered id ∙ is)) at

      by : (begins : Bool) → begins_flush old.memory.trees id ≡ begins → OwesBegin begins old id reply new → Answered new s (OfFlushBegin id) reply
      by true is (told, free, at) =
          let t = machine.flush_out (machine.journal_synced s) id in
          let same = told ∙ ap (λ (n : ℕ). Began (Some (record { number = n; keyspace_id = id }))) (sym stands.remembered.next_job) in
          (t, begun_stands id free at, (same_due old s (OfFlushBegin id) stands ∙ none, answers true t is (same, used_up_agrees ∙ free, refl)))
      by false is (told, same) = (s, still old new s same stands, (same_due old s (OfFlushBegin id) stands ∙ none, answers false s is (told, refl)))

  -- ---- a flush that is finished

  -- memory became what stands for a state of the same lengths
  becomes_stands : (after : Remembered) (t : State) → Becomes old after new → memory.MemoryStandsFor after table t → t.parts.journal ≡ s.parts.journal → t.parts.buffer ≡ s.parts.buffer → StandsFor new t
  becomes_stands after t becomes held journal buffer = record {
    remembered = subst (λ (m : Remembered). memory.MemoryStandsFor m new.catalog.next_table_id t) (sym becomes.memory_is) (subst (λ c. memory.MemoryStandsFor after c t) (ap (λ c. c.next_table_id) (sym becomes.catalog)) held);
    journal = journal ∙ stands.journal ∙ ap (λ (j : Journal). j.len) (sym becomes.journal);
    buffer = buffer ∙ stands.buffer ∙ ap (λ (j : Journal). length j.buffer) (sym becomes.journal);
  }

  -- the parts of the state once a flush is finished
  abbrev flushed_parts : (id : ℕ) (mid : Remembered) → FlushedInMemory old.memory id mid → Parts
  flushed_parts id mid f = machine.parts_flushed id f.begun.out f.tables f.made.lists f.readers s.parts

  flushed_there : (id : ℕ) (mid : Remembered) (f : FlushedInMemory old.memory id mid) → Flushed s.parts id (flushed_parts id mid f) × memory.MemoryStandsFor mid table (record s { parts = flushed_parts id mid f })
  flushed_there id mid f =
      let both = a_finished_flush_stands old.memory table s stands.remembered id f.task f.begun f.tables f.clears f.made f.k f.lives f.readers f.infos in
      (both.0, subst (λ (m : Remembered). memory.MemoryStandsFor m table (record s { parts = flushed_parts id mid f })) (sym f.is) both.1)

  finished : (job : JobId) (reply : Reply) → reply ≡ Flag true → old.memory.poisoned ≡ false → (mid : Remembered) → FlushedInMemory old.memory job.keyspace_id mid → Becomes old (evicted_in_memory mid) new
      → (t : State) × StandsFor new t × FinishesFlush true true s job reply t
  finished job reply told well mid f becomes =
      let id = job.keyspace_id in
      let parts = flushed_parts id mid f in
      let flushed = flushed_there id mid f in
      let t = machine.evicted (record s { parts = parts }) in
      (t, becomes_stands (evicted_in_memory mid) t becomes (an_eviction_stands mid table (record s { parts = parts }) flushed.1) refl refl, (told, stands.remembered.poisoned ∙ well, parts, flushed.0, refl))

  dropped : (job : JobId) → new ≡ record old { memory = memory.flush_gone_in_memory job.keyspace_id old.memory } → StandsFor new (machine.flush_gone s job.keyspace_id)
  dropped job is = subst (λ c. StandsFor c (machine.flush_gone s job.keyspace_id)) (sym is)
      (record { remembered = a_dropped_flush_stands old.memory table s stands.remembered job.keyspace_id; journal = stands.journal; buffer = stands.buffer })

  -- what is out of the state's trees, and lives there
  lives_agree : (id : ℕ) → is_living (present s) id ≡ is_living (store_in old) id
  lives_agree id = law.living_agree old.memory table s stands.remembered id

  pub takes_there : (job : JobId) → machine.takes_effect s job ≡ takes_effect_in old job
  takes_there job =
      let alike = same_in job.keyspace_id s.parts.trees old.memory.trees stands.remembered.trees in
      λ i. lives_agree job.keyspace_id i && nat_lt 0 (count_out (sym alike.flush i))

  out_there : (job : JobId) → is_flushing s.parts.trees job ≡ is_flushing old.memory.trees job
  out_there job = out_agrees old.memory table s stands.remembered job

  pub finish_steps : (job : JobId) (reply : Reply) (out : Bool) → is_flushing old.memory.trees job ≡ out → (takes : Bool) → takes_effect_in old job ≡ takes → held_due old (OfFlushFinish job) ≡ None
      → OwesFinish out takes old job reply new → Answered new s (OfFlushFinish job) reply
  finish_steps job reply out out_is takes takes_is none owes =
      let way = by out takes owes in
      (way.0, way.1, (same_due old s (OfFlushFinish job) stands ∙ none, subst (λ (b : Bool × Bool). FinishesFlush b.0 b.1 s job reply way.0) (sym (λ i. ((out_there job ∙ out_is) i, (takes_there job ∙ takes_is) i))) way.2))
    where
      by : (out takes : Bool) → OwesFinish out takes old job reply new → (t : State) × StandsFor new t × FinishesFlush out takes s job reply t
      by true true (told, well, mid, f, becomes) = finished job reply told well mid f becomes
      by true false (told, is) = (machine.flush_gone s job.keyspace_id, dropped job is, (told, refl))
      by false takes (told, same) = (s, still old new s same stands, (told, refl))

  -- ---- an ingestion

  journals_agree : machine.are_journals_used_up s ≡ are_journals_used_up_in old
  journals_agree = λ i. long_agrees i && nat_le (2 ^ 64 - 2) (stands.remembered.journals i).active

  -- a sync leaves the next number
  same_next : (long : Bool) → (synced_memory long).next ≡ old.memory.next
  same_next true = refl
  same_next false = refl

  module _ (id : ℕ) (item : KeyOp) (rest : List KeyOp) (none : held_due old (OfIngestion id (item ∷ rest)) ≡ None) where
    abbrev all : List KeyOp
    all = item ∷ rest

    abbrev long : Bool
    long = is_journal_long old.journal

    may : MayIngest (facts_of old.memory table) id all
    may = may_ingest (facts_of old.memory table) id all none

    small : (synced_memory long).next < 2 ^ 63
    small = let numbered = may.numbered in let same = same_next long in omega (arith, numbered, same)

    -- what was ingested behind the sync
    ingested_there : (mid : Remembered) → IngestedInMemory (journal_synced_in old) id all mid → (t : State) × Ingests (synced_state long) id all t × memory.MemoryStandsFor mid table t
    ingested_there mid f =
        let way = an_ingestion_stands (synced_memory long) table (synced_state long) (synced_stands long) id f.k f.lives all (λ same. let bad : ⊥ = cc in bad) small may.fits f.flushes f.made f.readers f.makes in
        (way.0, way.1, subst (λ (m : Remembered). memory.MemoryStandsFor m table way.0) (sym f.is) way.2)

    -- the state is synced as the core is
    ingests_there : (t : State) → Ingests (synced_state long) id all t → Ingests (machine.journal_synced s) id all t
    ingests_there t = subst (λ (b : Bool). Ingests (synced_state b) id all t) (sym long_agrees)

    ingested_stands : (mid : Remembered) (t : State) → Ingests (synced_state long) id all t → memory.MemoryStandsFor mid table t → new.memory ≡ evicted_in_memory mid → new.catalog ≡ old.catalog → new.journal ≡ synced_writer long
        → StandsFor new (machine.evicted t)
    ingested_stands mid t ingests held memory_is catalog journal = record {
      remembered = subst (λ (m : Remembered). memory.MemoryStandsFor m new.catalog.next_table_id (machine.evicted t)) (sym memory_is)
          (subst (λ c. memory.MemoryStandsFor (evicted_in_memory mid) c (machine.evicted t)) (ap (λ c. c.next_table_id) (sym catalog)) (an_eviction_stands mid table t held));
      journal = ap (λ (x : State). x.parts.journal) ingests.is ∙ synced_len long ∙ ap (λ (j : Journal). j.len) (sym journal);
      buffer = ap (λ (x : State). x.parts.buffer) ingests.is ∙ synced_buffer long ∙ ap (λ (j : Journal). length j.buffer) (sym journal);
    }

    some_ingested : (reply : Reply) → OwesIngestion id all old reply new → (t : State) × StandsFor new t × IngestsInto id all s reply t
    some_ingested reply (told, left, at) =
        let way = ingested_there at.mid at.ingested in (
          machine.evicted way.0,
          ingested_stands at.mid way.0 way.1 way.2 at.memory_is at.catalog at.journal,
          (told, journals_agree ∙ left, way.0, ingests_there way.0 way.1, refl),
        )

  pub ingestion_steps : (id : ℕ) (items : List KeyOp) (reply : Reply) → held_due old (OfIngestion id items) ≡ None → OwesIngestion id items old reply new → Answered new s (OfIngestion id items) reply
  ingestion_steps id [] reply none (told, same) = (s, still old new s same stands, (same_due old s (OfIngestion id []) stands ∙ none, (told, refl)))
  ingestion_steps id (item ∷ items) reply none owes =
      let way = some_ingested id item items none reply owes in
      (way.0, way.1, (same_due old s (OfIngestion id (item ∷ items)) stands ∙ none, way.2))

  -- ---- maintenance

  pub maintenance_steps : held_due old OfMaintenance ≡ None → Becomes old (evicted_in_memory old.memory) new → Steps new s OfMaintenance Done
  maintenance_steps none becomes =
      let t = machine.evicted s in
      (t, becomes_stands (evicted_in_memory old.memory) t becomes (an_eviction_stands old.memory table s stands.remembered) refl refl, (same_due old s OfMaintenance stands ∙ none, (refl, refl)))

  -- ---- faults

  -- what a core is after a fault, where this was left of it
  poisons : (left : Remembered) (t : State) → Poisons left old new → memory.MemoryStandsFor left table t → (u : State) × StandsFor new u × IsPoisoned t u
  poisons left t fault held = (poisoned_state new t, poisoned_stands left old new table t fault held, record { is = refl; trees = refl; entries = refl; records = refl; journals = refl })

  -- some journals went before it
  some_gone : (m left : Remembered) (t : State) → memory.MemoryStandsFor m table t → EvictsInMemory m left → Poisons left old new → (mid : State) × (u : State) × EvictsSome t mid × StandsFor new u × IsPoisoned mid u
  some_gone m left t held (gone, rest, stopped, is) fault =
      let mid = machine.with_sealed rest t in
      let way = poisons left mid fault (subst (λ (x : Remembered). memory.MemoryStandsFor x table mid) (sym is) (with_sealed_stands m table t held rest)) in
      (mid, way.0, some_evicted m table t held gone rest stopped, way.1, way.2)

  due_there : (job : JobId) → IsDueToFinishIn old job → machine.IsDueToFinish s job
  due_there job (out, takes) = (out_there job ∙ out, takes_there job ∙ takes)

  finish_fails : (job : JobId) → WorkPoisons old (OfFlushFinish job) new → (t : State) × StandsFor new t × WorkFails (OfFlushFinish job) s t
  finish_fails job (due, well, inl fault) =
      let way = poisons old.memory s fault stands.remembered in
      (way.0, way.1, (due_there job due, stands.remembered.poisoned ∙ well, inl way.2))
  finish_fails job (due, well, inr (mid, left, f, evicts, fault)) =
      let id = job.keyspace_id in
      let parts = flushed_parts id mid f in
      let flushed = flushed_there id mid f in
      let way = some_gone mid left (record s { parts = parts }) flushed.1 evicts fault in
      (way.1, way.3, (due_there job due, stands.remembered.poisoned ∙ well, inr (parts, way.0, flushed.0, way.2, way.4)))

  -- the state after a fault in one that was synced
  fails_synced : (left : State → State) (m : Remembered) → Poisons m old new → memory.MemoryStandsFor m table (left (synced_state (is_journal_long old.journal)))
      → (u : State) × StandsFor new u × IsPoisoned (left (machine.journal_synced s)) u
  fails_synced left m fault held =
      let way = poisons m (left (synced_state (is_journal_long old.journal))) fault held in
      (way.0, way.1, subst (λ (b : Bool). IsPoisoned (left (synced_state b)) way.0) (sym long_agrees) way.2)

  ingestion_fails : (id : ℕ) (item : KeyOp) (items : List KeyOp) → held_due old (OfIngestion id (item ∷ items)) ≡ None → IngestionPoisons old id (item ∷ items) new
      → (t : State) × StandsFor new t × IngestionFails s id (item ∷ items) t
  ingestion_fails id item items none (inl fault) = let way = poisons old.memory s fault stands.remembered in (way.0, way.1, inl way.2)
  ingestion_fails id item items none (inr (inl fault)) =
      let way = fails_synced (λ t. t) (journal_synced_in old) fault (synced_stands (is_journal_long old.journal)) in
      (way.0, way.1, inr (inl way.2))
  ingestion_fails id item items none (inr (inr (mid, left, f, (gone, after, stopped, is), fault))) =
      let there = ingested_there id item items none mid f in
      let sealed = left.journals.sealed in
      let same : sealed ≡ after = ap (λ (m : Remembered). m.journals.sealed) is in
      let way = fails_synced (machine.with_sealed sealed) (memory.with_sealed_in_memory sealed (journal_synced_in old)) fault
      (with_sealed_stands (journal_synced_in old) table (synced_state (is_journal_long old.journal)) (synced_stands (is_journal_long old.journal)) sealed) in (
        way.0,
        way.1,
        inr (inr (
          there.0,
          machine.with_sealed after there.0,
          ingests_there id item items none there.0 there.1,
          some_evicted mid table there.0 there.2 gone after stopped,
          subst (λ (l : List Sealed). IsPoisoned (machine.with_sealed l (machine.journal_synced s)) way.0) same way.2,
        )),
      )

  pub work_steps : (shape : CallShape) (error : Error) → held_due old shape ≡ None → (RestsOnTables old shape (Refused error) → ⊥) → WorkPoisons old shape new → (t : State) × StandsFor new t × WorkFails shape s t
  work_steps (OfFlushBegin id) error none bare (begins, free, fault) =
      let way = poisons old.memory s fault stands.remembered in
      (way.0, way.1, (beginning_agrees old.memory table s stands.remembered id ∙ begins, used_up_agrees ∙ free, way.2))
  work_steps (OfFlushFinish job) error none bare fails = finish_fails job fails
  work_steps (OfMergeBegin kind id) error none bare (begins, left, looks, rose) =
      (s, looked_stands old new s looks stands, (merge_begins_there old s stands kind id none ∙ begins, merge_number_there old s stands left, refl))
  work_steps (OfMergeFinish job) error none bare (due, well, fails) = absurd (bare due.0)
  work_steps OfMaintenance error none bare (left, evicts, fault) = let way = some_gone old.memory left s stands.remembered evicts fault in (way.1, way.3, (way.0, way.2, way.4))
  work_steps (OfIngestion id []) error none bare fails = absurd fails
  work_steps (OfIngestion id (item ∷ items)) error none bare (left, fails) =
      let way = ingestion_fails id item items none fails in
      (way.0, way.1, (journals_agree ∙ left, way.2))
  work_steps (OfChange change how) error none bare fails = absurd fails
  work_steps (OfCreation name options) error none bare fails = absurd fails
  work_steps (OfDeletion id) error none bare fails = absurd fails
  work_steps (OfHandle call id) error none bare fails = absurd fails
  work_steps (OfRotation id) error none bare fails = absurd fails
  work_steps OfJournalRotation error none bare fails = absurd fails
  work_steps (OfRead view id query) error none bare fails = absurd fails
  work_steps (OfTickets call) error none bare fails = absurd fails
  work_steps (OfPersist mode) error none bare fails = absurd fails
  work_steps (OfCount count) error none bare fails = absurd fails

-- ---- what is wanting

module _ (old : Held) (s : State) (stands : StandsFor old s) where
  abbrev at : ℕ
  at = old.catalog.next_table_id

  is_due : (job : JobId) → IsDueToFinishIn old job → machine.IsDueToFinish s job
  is_due job (out, takes) = (out_agrees old.memory at s stands.remembered job ∙ out, takes_there old old s stands job ∙ takes)

  pub same_asks : (shape : CallShape) → held_due old shape ≡ None → AsksMemoryIn old shape → machine.AsksMemory s shape
  same_asks (OfFlushBegin id) none (begins, free) = (beginning_agrees old.memory at s stands.remembered id ∙ begins, used_up_agrees old old s stands ∙ free)
  same_asks (OfFlushFinish job) none (due, well) = (is_due job due, stands.remembered.poisoned ∙ well)
  same_asks (OfMergeBegin kind id) none (begins, left) = (merge_begins_there old s stands kind id none ∙ begins, subst (λ (n : ℕ). n < 2 ^ 64 - 1) (sym stands.remembered.next_job) left)
  same_asks (OfMergeFinish job) none (due, well) = (merge_due_there old s stands job due, stands.remembered.poisoned ∙ well)
  same_asks (OfChange change how) none takes = takes
  same_asks (OfIngestion id items) none takes = takes
  same_asks (OfCreation name options) none takes = takes
  same_asks (OfDeletion id) none takes = takes
  same_asks (OfHandle call id) none takes = takes
  same_asks (OfRotation id) none takes = takes
  same_asks OfJournalRotation none takes = takes
  same_asks OfMaintenance none takes = takes
  same_asks (OfRead view id query) none takes = takes
  same_asks (OfTickets call) none takes = takes
  same_asks (OfPersist mode) none takes = takes
  same_asks (OfCount count) none takes = takes

  pub same_late : (shape : CallShape) → FinishesLateIn old shape → machine.FinishesLate s shape
  same_late (OfFlushFinish job) (due, ill) = (is_due job due, stands.remembered.poisoned ∙ ill)
  same_late (OfFlushBegin id) late = absurd late
  same_late (OfMergeBegin kind id) late = absurd late
  same_late (OfMergeFinish job) (due, ill) = (merge_due_there old s stands job due, stands.remembered.poisoned ∙ ill)
  same_late OfMaintenance late = absurd late
  same_late (OfIngestion id items) late = absurd late
  same_late (OfChange change how) late = absurd late
  same_late (OfCreation name options) late = absurd late
  same_late (OfDeletion id) late = absurd late
  same_late (OfHandle call id) late = absurd late
  same_late (OfRotation id) late = absurd late
  same_late OfJournalRotation late = absurd late
  same_late (OfRead view id query) late = absurd late
  same_late (OfTickets call) late = absurd late
  same_late (OfPersist mode) late = absurd late
  same_late (OfCount count) late = absurd late

  -- the memory of a keyspace's tree, the watermark and the last record are the state's
  same_whole : (Meets : Fields → Type 0) (id : ℕ) (items : List KeyOp) (k : LivingKeyspace) → keyspace_at id old.memory.keyspaces.living ≡ Some k
      → OnceWhole (shape_in id old.memory.trees) id old.memory.tickets.watermark old.memory.next items (last_known old.memory.records k) Meets
      → OnceWhole (shape_in id s.parts.trees) id s.tickets.watermark (number s.history) items (s.parts.records id) Meets
  same_whole Meets id items k lives once =
      let tree = shape_in id s.parts.trees in
      let alike = same_in id s.parts.trees old.memory.trees stands.remembered.trees in
      let record_is = known_record old.memory at s stands.remembered id k lives in
      record {
        flushes = once.flushes;
        flushed = subst (λ (x : ℕ × Memory). IsFlushed (memory_task id x.0 x.1) once.flushes (clears_in (parts_of x.1))) (λ i. ((sym stands.remembered.tickets i).watermark, alike.memory i)) once.flushed;
        holds = subst (λ (x : ℕ × Memory × Fields). OnceIngested x.0 items (last_flushed (record tree { memory = x.1 }) once.flushes x.2) Meets)
            (λ i. (sym stands.remembered.number i, alike.memory i, sym record_is i)) once.holds;
      }

  -- and so is a flush that is to be finished
  same_finish : (Meets : Fields → Type 0) (job : JobId) → FinishMeetsIn old job Meets → machine.FinishMeets s job Meets
  same_finish Meets job (due, well, (k, lives, meets)) =
      let id = job.keyspace_id in
      let alike = same_in id s.parts.trees old.memory.trees stands.remembered.trees in
      let tree = shape_in id s.parts.trees in
      let record_is = known_record old.memory at s stands.remembered id k lives in
      let there : FlushMeets (record tree { memory = (shape_in id old.memory.trees).memory; flush = (shape_in id old.memory.trees).flush }) (shape_in id old.memory.trees).flush (last_known old.memory.records k) Meets = meets in (
        is_due job due,
        stands.remembered.poisoned ∙ well,
        subst (λ (x : lsm.Shape × Fields). FlushMeets x.0 x.0.flush x.1 Meets)
            (λ i. (record tree { memory = alike.memory i; flush = alike.flush i }, sym record_is i)) there,
      )

  pub same_used : (shape : CallShape) (error : Error) → held_due old shape ≡ None → (RestsOnTables old shape (Refused error) → ⊥) → UsesUpIn old shape → machine.UsesUp s shape
  same_used (OfFlushBegin id) error none bare (begins, used) = (beginning_agrees old.memory at s stands.remembered id ∙ begins, used_up_agrees old old s stands ∙ used)
  same_used (OfFlushFinish job) error none bare meets = same_finish LacksNextId job meets
  same_used (OfMergeBegin kind id) error none bare (begins, used) = (merge_begins_there old s stands kind id none ∙ begins, stands.remembered.next_job ∙ used)
  same_used (OfMergeFinish job) error none bare (due, well, last) = absurd (bare due.0)
  same_used OfMaintenance error none bare used = absurd used
  same_used (OfIngestion id []) error none bare used = absurd used
  same_used (OfIngestion id (item ∷ items)) error none bare (inl used) = inl (journals_agree old old s stands ∙ used)
  same_used (OfIngestion id (item ∷ items)) error none bare (inr (k, lives, lacks)) = inr (same_whole LacksNextId id (item ∷ items) k lives lacks)
  same_used (OfChange change how) error none bare used = absurd used
  same_used (OfCreation name options) error none bare used = absurd used
  same_used (OfDeletion id) error none bare used = absurd used
  same_used (OfHandle call id) error none bare used = absurd used
  same_used (OfRotation id) error none bare used = absurd used
  same_used OfJournalRotation error none bare used = absurd used
  same_used (OfRead view id query) error none bare used = absurd used
  same_used (OfTickets call) error none bare used = absurd used
  same_used (OfPersist mode) error none bare used = absurd used
  same_used (OfCount count) error none bare used = absurd used

  pub same_room : (shape : CallShape) (error : Error) → (RestsOnTables old shape (Refused error) → ⊥) → HasNoRoomIn old shape → machine.HasNoRoom s shape
  same_room (OfFlushFinish job) error bare meets = same_finish IsTooLong job meets
  same_room (OfFlushBegin id) error bare room = absurd room
  same_room (OfMergeBegin kind id) error bare room = absurd room
  same_room (OfMergeFinish job) error bare (due, well, last) = absurd (bare due.0)
  same_room OfMaintenance error bare room = absurd room
  same_room (OfIngestion id []) error bare room = absurd room
  same_room (OfIngestion id (item ∷ items)) error bare (k, lives, lacks) = same_whole IsTooLong id (item ∷ items) k lives lacks
  same_room (OfChange change how) error bare room = absurd room
  same_room (OfCreation name options) error bare room = absurd room
  same_room (OfDeletion id) error bare room = absurd room
  same_room (OfHandle call id) error bare room = absurd room
  same_room (OfRotation id) error bare room = absurd room
  same_room OfJournalRotation error bare room = absurd room
  same_room (OfRead view id query) error bare room = absurd room
  same_room (OfTickets call) error bare room = absurd room
  same_room (OfPersist mode) error bare room = absurd room
  same_room (OfCount count) error bare room = absurd room
