-- The beginning of a flush: what came of its sync, where it leads a core and its disk, and what it serves.
use Rattle.std.proofs.Common.{◌≡◌, ◌≢◌, ◌⊎◌, inr, ℕ, ◌+◌, ◌<◌, ◌-◌, ◌^◌, ◌==◌, ◌&&◌, ◌||◌, arith, Bool, true, false, if◌then◌else◌, is_none, nat_le, nat_lt, List, [], length, None, Option, Some, Result, Ok, Err, IfErr, MatchBool, OnErr, OnOk, refl, sym, ◌∙◌, ap, subst}
use Rattle.std.proofs.lemmas.Bool.{lt-ltb, ltb-true, ltb_from_iff, true≢false}
use Rattle.fjall_base.specs.Store.{Store, fold, kept}
use Rattle.fjall_base.specs.Disk.{HasCause, IsNoFolder, LeavesOnly, Meaning, OnlyFaults, Took, TookPart, state_in}
use Rattle.fjall_base.specs.declared.error.Error.{Error}
use Rattle.fjall_base.specs.declared.error.Error.TheVariants.{Io, NumbersUsedUp, OutOfMemory}
use Rattle.fjall_files.specs.Tidy.{IsTidy, StaysTidy}
use Rattle.fjall_files.proofs.Tidying.{stays_start}
use Rattle.fjall_history.specs.declared.job.JobId.{JobId}
use Rattle.fjall_history.specs.declared.reply.Reply.{Reply}
use Rattle.fjall_history.specs.declared.reply.Reply.TheVariants.{Began, Refused}
use Rattle.fjall_jobs.specs.declared.flush_job.FlushJob.{FlushJob}
use Rattle.fjall_jobs.specs.Flushes.{flush_task}
use Rattle.fjall_jobs.specs.Tasks.{Task}
use Rattle.fjall_journal.specs.declared.persist_mode.PersistMode.TheVariants.{SyncAll}
use Rattle.fjall_journal.specs.Writer.{IsIo, Journal, PersistTook, counted, persist_steps, written_out}
use Rattle.fjall_tree.specs.Jobs.{IsFlushing, flush_of}
use Rattle.fjall_journal.specs.Rotations.{RotationTook, empty_journal, rotating}
use Rattle.fjall_memtable.specs.Parts as part
use Rattle.fjall_changes.specs.Journaling.{ForWriting, IsWriting, KeepsHomes, KeepsKeyspaces, LeavesRoot, after_persist}
use Rattle.fjall_changes.specs.Rotations.{ForRotating, KeepsSyncedKeyspaces, LeavesRotation, rotated}
use Rattle.fjall_changes.proofs.KeepingKeyspaces.{journal_apart}
use Rattle.fjall_changes.proofs.KeptHomes.{persisted_homes, rotated_homes, unpersisted_homes, unrotated_homes}
use Rattle.fjall_compaction.proofs.FlushFinishing.{begun_with}
use Rattle.fjall_recovery.specs.Halves.{is_of_keyspaces}
use Rattle.fjall_recovery.specs.Places.{Journaling}
use Rattle.fjall_machine.specs.Machine.{begins_flush, first_due, rotation_refusals}
use Rattle.fjall_machine.specs.Remembered.{KnowsTask, Remembered, facts_of, flush_out_in_memory, journal_rotated_in_memory, poisoned}
use Rattle.fjall_machine.specs.Shapes.{OfFlushBegin}
use Rattle.fjall_machine.proofs.Dues.{behind_true, below, neither}
use Rattle.fjall_machine.proofs.Sizes.{beginning_agrees}
use Rattle.fjall_table.specs.Blocks.{Entry}
use Rattle.fjall_trees.specs.Tables.{shape_in}
use Rattle.fjall_engine.specs.Holding.{Held}
use Rattle.fjall_engine.specs.CallParts.{Begins, SyncsAll, WentSynced}
use Rattle.fjall_engine.specs.Crashes.{is_io}
use Rattle.fjall_engine.specs.Durables.{Durable, Knows, Lies}
use Rattle.fjall_engine.specs.Standing.{BeginsAt, HandsOver, Owes, OwesBegin, OwesRefusal, Poisons, RotatesJournal, Serves, StandsOn, SyncFailed, SyncTook, are_jobs_used_up_in, held_due, is_journal_long, job_of, next_name, store_with_tables}
use Rattle.fjall_engine.proofs.BegunFlushes.{begun_knows, begun_store, carry_begun}
use Rattle.fjall_engine.proofs.DeviceFaults.{served_on}
use Rattle.fjall_engine.proofs.JournalRotations.{turn_empty, turn_fails, turn_knows, turn_leaves, turn_lies, turn_served}
use Rattle.fjall_engine.proofs.JournalWrites.{Leads, Settles, held_on, present_of, settles_on, stands_well}
use Rattle.fjall_engine.proofs.OwedSteps.{owes_step}
use Rattle.fjall_engine.proofs.Persists.{part_of}
use Rattle.fjall_engine.proofs.Refusals.{no_sync, none_due}
use Rattle.fjall_engine.proofs.ServedCalls.{led_by, memory_owes, memory_serves, refusal_serves, serves_by, still_led}
use Rattle.fjall_engine.proofs.Syncs.{hand_leaves, same_of, sync_empty, sync_knows, sync_lies, synced_passes, unpersist_leads}
use Rattle.fjall_engine.proofs.TablesAtHome.{KeepsReads, all_stay, carry_all, carry_along, keeps_homes, keeps_same, outside_ill}

-- ---- numbers

-- the length that a writer tells stops at the greatest number, and says as well whether the journal is long
pub told_long : (journal : Journal) (long : Bool) (pos : ℕ) → pos ≡ counted (journal.len + length journal.buffer) → long ≡ nat_lt 64000000 pos → long ≡ is_journal_long journal
told_long journal long pos is at = at ∙ ap (nat_lt 64000000) is ∙ same (journal.len + length journal.buffer)
  where
    same : (n : ℕ) → nat_lt 64000000 (counted n) ≡ nat_lt 64000000 n
    same n = ltb_from_iff (λ e. let lt = ltb-true 64000000 (counted n) e in omega (arith, lt), λ lt. lt-ltb 64000000 (counted n) (omega (arith, lt)))

-- so it is of what is told of numbers
pub told_used : (core : Held) (long used : Bool) → long ≡ is_journal_long core.journal → used ≡ ((core.memory.next_job == 2 ^ 64 - 1) || (long && nat_le (2 ^ 64 - 2) core.memory.journals.active))
    → used ≡ are_jobs_used_up_in core
told_used core long used same is = is ∙ ap (λ b. (core.memory.next_job == 2 ^ 64 - 1) || (b && nat_le (2 ^ 64 - 2) core.memory.journals.active)) same

-- where numbers are left a long journal has a next one
pub has_next : (core : Held) → are_jobs_used_up_in core ≡ false → is_journal_long core.journal ≡ true → core.memory.journals.active < 2 ^ 64 - 2
has_next core free long =
    let used = nat_le (2 ^ 64 - 2) core.memory.journals.active in
    below core.memory.journals.active (2 ^ 64 - 2)
    (behind_true (is_journal_long core.journal) used long (neither (core.memory.next_job == 2 ^ 64 - 1) (is_journal_long core.journal && used) free).1)

-- ---- what came of the sync

-- what the disk took of a sync that was done, and of one that failed, by whether the journal is long
abbrev DoneBy : (long : Bool) → Held → Held → Type 0
DoneBy long old new =
    MatchBool long (Took old.disk new.disk (rotating old.disk old.journal (next_name old))) (Took old.disk new.disk (persist_steps old.journal SyncAll))

abbrev FailedBy : (long : Bool) → Held → Held → Type 0
FailedBy long old new =
    MatchBool long (RotationTook old.disk new.disk old.journal new.journal (next_name old))
    (TookPart old.disk new.disk old.journal.name old.journal.buffer ⊎ Took old.disk new.disk (persist_steps old.journal SyncAll))

-- of a long journal, which was rotated
module _ (honest : Type 0) (old new : Held) (long : is_journal_long old.journal ≡ true) (catalog : new.catalog ≡ old.catalog) where
  abbrev ForEach : (Journaling → Type 0) → Type 0
  ForEach Holds = honest → ForRotating old.disk old.journal old.memory.journals.active Holds

  pub long_synced : (result : Result Unit Error) → OnOk result (new.memory ≡ journal_rotated_in_memory (written_out old.journal).len old.memory)
      → OnOk result (new.journal ≡ empty_journal (next_name old)) → OnErr result (new.memory ≡ old.memory)
      → IfErr result (λ e. (IsIo e → ⊥) → (new.journal ≡ old.journal) × (new.disk ≡ old.disk)) → HasCause old.disk new.disk result
      → (honest → OnOk result (Took old.disk new.disk (rotating old.disk old.journal (next_name old))))
      → (honest → OnErr result (RotationTook old.disk new.disk old.journal new.journal (next_name old)))
      → ForEach (λ j. LeavesOnly old.disk new.disk (LeavesRotation (state_in old.disk) j)) → ForEach (λ j. OnOk result (IsWriting (state_in new.disk) new.journal (rotated j)))
      → ForEach (λ j. KeepsSyncedKeyspaces old.disk new.disk) → ForEach (λ j. IsNoFolder (state_in old.disk (next_name old)).now → new.disk.misuses ≡ old.disk.misuses)
      → (honest → StaysTidy old.disk new.disk) → SyncsAll honest old result new
  long_synced (Ok done) memory journal unchanged untouched cause took part leaves lies elsewhere served kinds = (
    record {
      memory_is = memory ∙ ap (λ (b : Bool). if b then journal_rotated_in_memory (written_out old.journal).len old.memory else old.memory) (sym long);
      catalog = catalog;
      journal = journal ∙ ap (λ (b : Bool). if b then empty_journal (next_name old) else written_out old.journal) (sym long);
      faults = cause.later;
    },
    λ h. subst (λ (b : Bool). DoneBy b old new) (sym long) (took h),
    λ h. subst (λ (b : Bool). WentSynced b true old new) (sym long)
        (record { leaves = leaves h; lies = λ e. lies h; elsewhere = elsewhere h; served = served h; kinds = kinds h }),
  )
  long_synced (Err (Io kind)) memory journal unchanged untouched cause took part leaves lies elsewhere served kinds = (
    unchanged,
    catalog,
    cause.cause,
    λ h. subst (λ (b : Bool). FailedBy b old new) (sym long) (part h),
    λ h. subst (λ (b : Bool). WentSynced b false old new) (sym long)
        (record { leaves = leaves h; lies = λ e. absurd (true≢false (sym e)); elsewhere = elsewhere h; served = served h; kinds = kinds h }),
  )
  long_synced (Err OutOfMemory) memory journal unchanged untouched cause took part leaves lies elsewhere served kinds =
      let same = untouched (λ io. io) in
      (λ i. record { disk = same.1 i; journal = same.0 i; catalog = catalog i; memory = unchanged i }, refl)
  long_synced (Err error) memory journal unchanged untouched cause took part leaves lies elsewhere served kinds = absurd cause.cause

-- of another one
module _ (honest : Type 0) (old new : Held) (short : is_journal_long old.journal ≡ false) (catalog : new.catalog ≡ old.catalog) (memory : new.memory ≡ old.memory) where
  abbrev ForAny : (Journaling → Type 0) → Type 0
  ForAny Holds = honest → ForWriting old.disk old.journal Holds

  pub short_synced : (result : Result Unit Error) → OnOk result (new.journal ≡ written_out old.journal) → OnlyFaults old.disk new.disk result
      → (honest → OnOk result (Took old.disk new.disk (persist_steps old.journal SyncAll)))
      → (honest → OnErr result (PersistTook old.journal new.journal SyncAll old.disk new.disk))
      → ForAny (λ j. LeavesOnly old.disk new.disk (LeavesRoot (state_in old.disk) j j.later))
      → ForAny (λ j. OnOk result (IsWriting (state_in new.disk) new.journal (after_persist SyncAll j))) → ForAny (λ j. KeepsKeyspaces old.disk new.disk)
      → ForAny (λ j. new.disk.misuses ≡ old.disk.misuses) → (honest → StaysTidy old.disk new.disk) → SyncsAll honest old result new
  short_synced (Ok done) journal cause took left leaves lies elsewhere served kinds = (
    record {
      memory_is = memory ∙ ap (λ (b : Bool). if b then journal_rotated_in_memory (written_out old.journal).len old.memory else old.memory) (sym short);
      catalog = catalog;
      journal = journal ∙ ap (λ (b : Bool). if b then empty_journal (next_name old) else written_out old.journal) (sym short);
      faults = cause.later;
    },
    λ h. subst (λ (b : Bool). DoneBy b old new) (sym short) (took h),
    λ h. subst (λ (b : Bool). WentSynced b true old new) (sym short) (record {
      leaves = leaves h;
      lies = λ e. lies h;
      elsewhere = elsewhere h;
      homes = λ out. persisted_homes old.journal old.disk new.disk out SyncAll (took h);
      served = served h;
      kinds = kinds h;
      took = λ _. took h;
      left = λ e. absurd (true≢false e);
    }),
  )
  short_synced (Err (Io kind)) journal cause took left leaves lies elsewhere served kinds = (
    memory,
    catalog,
    cause.cause,
    λ h. subst (λ (b : Bool). FailedBy b old new) (sym short) (part_of old new new.journal SyncAll (left h)),
    λ h. subst (λ (b : Bool). WentSynced b false old new) (sym short) (record {
      leaves = leaves h;
      lies = λ e. absurd (true≢false (sym e));
      elsewhere = elsewhere h;
      homes = λ out. unpersisted_homes old.journal old.disk new.disk out new.journal SyncAll (left h);
      served = served h;
      kinds = kinds h;
      took = λ e. absurd (true≢false (sym e));
      left = λ _. left h;
    }),
  )
  short_synced (Err error) journal cause took left leaves lies elsewhere served kinds = absurd cause.cause

-- memory is as before where it failed
pub unsynced_memory : (honest : Type 0) (old new : Held) (error : Error) → SyncsAll honest old (Err error) new → new.memory ≡ old.memory
unsynced_memory honest old new (Io kind) synced = synced.0
unsynced_memory honest old new error synced = ap (λ (h : Held). h.memory) synced.0

-- ---- what came of the beginning

-- what is known of a flush that has just begun
begun_known : (m : Remembered) (id : ℕ) (task : Task) → begins_flush m.trees id ≡ true
    → task ≡ flush_of m.next_job id m.tickets.watermark (shape_in id m.trees).memory.sealed → IsFlushing (shape_in id (flush_out_in_memory id m).trees) task
    → KnowsTask (flush_out_in_memory id m) task
begun_known m id task begins is out =
    let shape = shape_in id m.trees in
    let some : shape.memory.sealed ≢ [] = λ none. true≢false (sym begins ∙ ap (λ (sealed : List part.HeldPart). nat_lt 0 (length sealed) && is_none shape.flush) none) in
    let at : task.id ≡ m.next_job = ap (λ (t : Task). t.id) is in (
      omega (arith, at),
      λ _. subst (λ (k : ℕ). IsFlushing (shape_in k (flush_out_in_memory id m).trees) task) (sym (ap (λ (t : Task). t.keyspace) is)) out,
      λ none. begun_with shape.memory.sealed some (sym (ap (λ (t : Task). t.runs) is) ∙ none),
    )

-- in memory with this journal sealed, or not
abbrev sealed_if : (long : Bool) (len : ℕ) → Remembered → Remembered
sealed_if long len m = if long then journal_rotated_in_memory len m else m

known_sealed : (long : Bool) (len : ℕ) (m : Remembered) (task : Task) → KnowsTask m task → KnowsTask (sealed_if long len m) task
known_sealed true len m task knows = (knows.0, knows.1, knows.2)
known_sealed false len m task knows = knows

-- it is the same whether the journal is sealed before the flush begins or behind it
sealed_behind : (long : Bool) (len id : ℕ) (m : Remembered) → sealed_if long len (flush_out_in_memory id m) ≡ flush_out_in_memory id (sealed_if long len m)
sealed_behind true len id m = refl
sealed_behind false len id m = refl

module _ (honest : Type 0) (old : Held) (id : ℕ) (free : are_jobs_used_up_in old ≡ false) where
  -- the core with the flush out, before the journal is synced
  abbrev pub mid : Held
  mid = record old { memory = flush_out_in_memory id old.memory }

  -- the sync did to the disk what is said of the core of before
  went_before : (long done : Bool) (left : Held) (m : Remembered) → WentSynced long done mid left → WentSynced long done old (record left { memory = m })
  went_before true done left m went = went
  went_before false done left m went = went

  pub begin_done : (job : FlushJob) (new : Held) → begins_flush old.memory.trees id ≡ true
      → flush_task job ≡ flush_of old.memory.next_job id old.memory.tickets.watermark (shape_in id old.memory.trees).memory.sealed
      → IsFlushing (shape_in id (flush_out_in_memory id old.memory).trees) (flush_task job) → SyncsAll honest mid (Ok tt) new → Begins honest old id (Ok job) new
  begin_done job new begins is out (synced, took, went) =
      let len = (written_out old.journal).len in
      let known = known_sealed (is_journal_long old.journal) len (flush_out_in_memory id old.memory) (flush_task job) (begun_known old.memory id (flush_task job) begins is out) in (
        ap job_of is,
        subst (λ (m : Remembered). KnowsTask m (flush_task job)) (sym synced.memory_is) known,
        free,
        record { memory_is = synced.memory_is ∙ sealed_behind (is_journal_long old.journal) len id old.memory; catalog = synced.catalog; journal = synced.journal; faults = synced.faults },
        took,
        λ h. went_before (is_journal_long old.journal) true new new.memory (went h),
      )

  -- the flush was taken back, and where the disk failed, the core was poisoned
  abbrev TakenBack : Held → Error → Held → Type 0
  TakenBack left error new =
      let back : Held = record left { memory = old.memory } in
      new ≡ (if is_io error then record back { memory = poisoned back.memory } else back)

  pub begin_failed : (error : Error) (left new : Held) → SyncsAll honest mid (Err error) left → TakenBack left error new → Begins honest old id (Err error) new
  begin_failed (Io kind) left new synced is =
      subst (λ (h : Held). Begins honest old id (Err (Io kind)) h) (sym is)
      (free, record { memory_is = refl; faults = synced.2 }, synced.3, λ h. went_before (is_journal_long old.journal) false left (poisoned old.memory) (synced.4 h))
  begin_failed NumbersUsedUp left new synced is = let only : NumbersUsedUp ≡ OutOfMemory = synced.1 in absurd cc
  begin_failed error left new synced is = (is ∙ ap (λ (h : Held). record h { memory = old.memory }) synced.0, synced.1, free)

-- ---- where it leads

-- from where a core stands that has nothing to be synced, to where it stands with the flush out
begun_there : (entries : ℕ → List (List Entry)) (mid new : Held) (id : ℕ) (base : Store) → new ≡ record mid { memory = flush_out_in_memory id mid.memory } → mid.memory.poisoned ≡ false
    → (lies : Lies mid (held_on mid base [])) → lies.journals.later ≡ [] → Knows mid entries lies.journals lies.tree
    → kept (fold base []) ≡ kept (store_with_tables entries mid) → StandsOn new entries (held_on new base [])
begun_there entries mid new id base is well lies none knows present =
    let m = mid.memory in
    let begun : Held = record mid { memory = flush_out_in_memory id m } in
    let after : Lies begun (held_on begun base []) = record {
      journals = lies.journals;
      records = lies.records;
      tree = lies.tree;
      writing = lies.writing;
      in_tree = lies.in_tree;
      told = lies.told;
      last = lies.last;
      keyspaces = lies.keyspaces;
      made = lies.made;
      waits = lies.waits;
      next = lies.next;
    } in
    subst (λ (h : Held). StandsOn h entries (held_on h base [])) (sym is)
    (stands_well entries begun base [] well after (begun_knows entries mid id lies.journals lies.tree none knows)
    (present ∙ begun_store entries m.keyspaces id m.next_job m.tickets.watermark m.trees))

module _ (entries : ℕ → List (List Entry)) (old new : Held) (id : ℕ) (d : Durable) (well : old.memory.poisoned ≡ false) where
  -- what stands in memory without the flush
  abbrev before : Bool → Held
  before long = record new { memory = sealed_if long (written_out old.journal).len old.memory }

  is_begun : (long : Bool) → is_journal_long old.journal ≡ long → BeginsAt old id new → new ≡ record (before long) { memory = flush_out_in_memory id (before long).memory }
  is_begun long is at =
      let memory : new.memory ≡ flush_out_in_memory id (before long).memory = at.memory_is ∙ ap (λ (b : Bool). flush_out_in_memory id (sealed_if b (written_out old.journal).len old.memory)) is in
      λ i. record new { memory = memory i }

  is_written : (long : Bool) → is_journal_long old.journal ≡ long → BeginsAt old id new → new.journal ≡ (if long then empty_journal (next_name old) else written_out old.journal)
  is_written long is at = at.journal ∙ ap (λ (b : Bool). if b then empty_journal (next_name old) else written_out old.journal) is

  -- it was done: nothing is pending
  pub begun_settles : (long : Bool) → is_journal_long old.journal ≡ long → BeginsAt old id new → WentSynced long true old new → StandsOn old entries d → Settles entries new d []
  begun_settles true is at went = settles_on entries old new d [] (λ base pending on.
      let lies = on.lies well in
      let mid = before true in
      let turns : RotatesJournal old mid = record { memory_is = refl; catalog = at.catalog; journal = is_written true is at; faults = at.faults } in
      let there = turn_lies old mid base pending lies turns went in
      let knows = turn_knows old mid base pending lies entries turns went (on.knows well) in
      let still = begun_there entries mid new id (fold base pending) (is_begun true is at) well there (turn_empty old mid base pending lies turns went) knows
      (present_of entries old (held_on old base pending) false well on) in
      (held_on new (fold base pending) [], still, synced_passes old new base pending (turn_leaves old mid base pending lies true went) still.rests, refl))
  begun_settles false is at went = settles_on entries old new d [] (λ base pending on.
      let lies = on.lies well in
      let mid = before false in
      let hands : HandsOver old mid = record { memory_is = refl; catalog = at.catalog; journal = is_written false is at; faults = at.faults } in
      let same = same_of old mid hands in
      let there = sync_lies old mid base pending same lies went in
      let knows = sync_knows entries old mid base pending same lies went (on.knows well) in
      let still = begun_there entries mid new id (fold base pending) (is_begun false is at) well there (sync_empty old mid base pending same lies went) knows
      (present_of entries old (held_on old base pending) false well on) in
      (held_on new (fold base pending) [], still, synced_passes old new base pending (hand_leaves old mid SyncAll true base pending lies went) still.rests, refl))

  -- the sync failed
  pub unbegun_leads : (long : Bool) → Poisons old.memory old new → WentSynced long false old new → StandsOn old entries d → Leads entries new d []
  unbegun_leads true fault went = turn_fails entries old new d well fault went
  unbegun_leads false fault went = unpersist_leads entries old new SyncAll d well fault went

-- ---- the call

-- what is due, as it was looked for in a core's memory
pub begin_due : (view core : Held) (id : ℕ) → view ≡ core → (first : Option Error) → first ≡ first_due (rotation_refusals (facts_of view.memory 0) id) → held_due core (OfFlushBegin id) ≡ first
begin_due view core id same first is = ap (λ (h : Held). first_due (rotation_refusals (facts_of h.memory 0) id)) (sym same) ∙ sym is

module _ (old new : Held) (id : ℕ) (none : held_due old (OfFlushBegin id) ≡ None) where
  is_well : old.memory.poisoned ≡ false
  is_well = (none_due (rotation_refusals (facts_of old.memory old.catalog.next_table_id) id) none).1.1.0

  -- ---- a flush that doesn't begin

  pub idle_owes : begins_flush old.memory.trees id ≡ false → new ≡ old → Owes old (OfFlushBegin id) (Began None) new
  idle_owes idle same = (none, subst (λ (b : Bool). OwesBegin b old id (Began None) new) (sym idle) (refl, same))

  pub idle_serves : begins_flush old.memory.trees id ≡ false → new ≡ old → Serves old (OfFlushBegin id) (Began None) new
  idle_serves idle same =
      let disk : new.disk ≡ old.disk = ap (λ (h : Held). h.disk) same in
      serves_by old new (OfFlushBegin id) (Began None) (idle_owes idle same) (λ reads. reads)
      (subst (λ (b : Bool). MatchBool b (SyncTook old new) (new.disk ≡ old.disk)) (sym idle) disk) (subst (λ (m : Meaning). StaysTidy old.disk m) (sym disk) (stays_start old.disk))
      (keeps_same old new same) (λ s d stands on tidy. ap (λ (m : Meaning). m.misuses) disk)
      (λ s d stands on. still_led old new s d (OfFlushBegin id) (Began None) refl
      (λ syncs. true≢false (sym syncs ∙ beginning_agrees old.memory old.catalog.next_table_id s stands.remembered id ∙ idle)) same on)

  -- ---- one that begins

  next_apart : are_jobs_used_up_in old ≡ false → is_journal_long old.journal ≡ true → is_of_keyspaces (next_name old) ≡ false
  next_apart free long = let small = has_next old free long in journal_apart (old.memory.journals.active + 1) (omega (arith, small))

  went_kinds : (long done : Bool) → WentSynced long done old new → StaysTidy old.disk new.disk
  went_kinds true done went = went.kinds
  went_kinds false done went = went.kinds

  -- no call was one that no disk can serve, where nothing stands in the way
  went_served : (long done : Bool) → is_journal_long old.journal ≡ long → are_jobs_used_up_in old ≡ false → WentSynced long done old new → (entries : ℕ → List (List Entry)) (d : Durable)
      → StandsOn old entries d → IsTidy (state_in old.disk) → new.disk.misuses ≡ old.disk.misuses
  went_served true done is free went entries d on tidy = turn_served entries old new d done is_well (has_next old free is) went on tidy
  went_served false done is free went entries d on tidy = served_on entries old new.disk d is_well went.served on

  -- the homes stay
  homes_synced : (long : Bool) → is_journal_long old.journal ≡ long → are_jobs_used_up_in old ≡ false → DoneBy long old new → WentSynced long true old new
      → is_of_keyspaces old.journal.name ≡ false → KeepsHomes old.disk new.disk
  homes_synced true is free took went out = rotated_homes old.disk new.disk old.journal (next_name old) out (next_apart free is) took
  homes_synced false is free took went out = went.homes out

  homes_unsynced : (long : Bool) → is_journal_long old.journal ≡ long → are_jobs_used_up_in old ≡ false → FailedBy long old new → WentSynced long false old new
      → is_of_keyspaces old.journal.name ≡ false → KeepsHomes old.disk new.disk
  homes_unsynced true is free took went out = unrotated_homes old.disk new.disk old.journal (next_name old) out (next_apart free is) new.journal took
  homes_unsynced false is free took went out = went.homes out

  -- the writer goes on outside of keyspaces' folders
  outside_synced : (long : Bool) → is_journal_long old.journal ≡ long → are_jobs_used_up_in old ≡ false → BeginsAt old id new → is_of_keyspaces old.journal.name ≡ false
      → is_of_keyspaces new.journal.name ≡ false
  outside_synced long is free at out = ap (λ (j : Journal). is_of_keyspaces j.name) (at.journal ∙ ap (λ (b : Bool). if b then empty_journal (next_name old) else written_out old.journal) is) ∙ by long is
    where
      by : (b : Bool) → is_journal_long old.journal ≡ b → is_of_keyspaces (if b then empty_journal (next_name old) else written_out old.journal).name ≡ false
      by true long = next_apart free long
      by false short = out

  begun_trees : BeginsAt old id new → new.memory.trees ≡ (flush_out_in_memory id old.memory).trees
  begun_trees at = ap (λ (m : Remembered). m.trees) at.memory_is ∙ by (is_journal_long old.journal)
    where
      by : (b : Bool) → (flush_out_in_memory id (sealed_if b (written_out old.journal).len old.memory)).trees ≡ (flush_out_in_memory id old.memory).trees
      by true = refl
      by false = refl

  -- its disk keeps the tables
  begun_keeps : are_jobs_used_up_in old ≡ false → BeginsAt old id new → SyncTook old new → WentSynced (is_journal_long old.journal) true old new → KeepsReads old new
  begun_keeps free at took went =
      keeps_homes old new
      (carry_along old.memory.trees (flush_out_in_memory id old.memory).trees new.memory.trees (begun_trees at) (carry_begun id old.memory.next_job old.memory.tickets.watermark old.memory.trees))
      (λ s stands reads. all_stay old.disk new.disk new.memory.trees (homes_synced (is_journal_long old.journal) refl free took went (reads.writer is_well)))
      (λ out well. outside_synced (is_journal_long old.journal) refl free at (out is_well))

  unbegun_keeps : are_jobs_used_up_in old ≡ false → Poisons old.memory old new → SyncFailed old new → WentSynced (is_journal_long old.journal) false old new → KeepsReads old new
  unbegun_keeps free fault took went =
      keeps_homes old new (carry_all old.memory.trees new.memory.trees (ap (λ (m : Remembered). m.trees) fault.memory_is))
      (λ s stands reads. all_stay old.disk new.disk new.memory.trees (homes_unsynced (is_journal_long old.journal) refl free took went (reads.writer is_well)))
      (outside_ill old new (ap (λ (m : Remembered). m.poisoned) fault.memory_is))

-- the reply to a beginning
abbrev pub begun_reply : Result FlushJob Error → Reply
begun_reply (Ok job) = Began (Some (job_of (flush_task job)))
begun_reply (Err error) = Refused error

module _ (honest : Type 0) (old new : Held) (id : ℕ) (none : held_due old (OfFlushBegin id) ≡ None) (begins : begins_flush old.memory.trees id ≡ true) where
  used_owes : are_jobs_used_up_in old ≡ true → Owes old (OfFlushBegin id) (Refused NumbersUsedUp) old
  used_owes used = subst (λ first. OwesRefusal first old (OfFlushBegin id) NumbersUsedUp old) (sym none) ((begins, used), refl)

  pub begun_owes : (result : Result FlushJob Error) → Begins honest old id result new → Owes old (OfFlushBegin id) (begun_reply result) new
  begun_owes (Ok job) b =
      (none, subst (λ (is : Bool). OwesBegin is old id (Began (Some (job_of (flush_task job)))) new) (sym begins) (ap (λ (j : JobId). Began (Some j)) b.0, b.2, b.3))
  begun_owes (Err (Io kind)) b = subst (λ first. OwesRefusal first old (OfFlushBegin id) (Io kind) new) (sym none) (inr (inr (begins, b.0, b.1)))
  begun_owes (Err NumbersUsedUp) b = subst (λ (h : Held). Owes old (OfFlushBegin id) (Refused NumbersUsedUp) h) (sym b.0) (used_owes b.1)
  begun_owes (Err error) b =
      subst (λ (h : Held). Owes old (OfFlushBegin id) (Refused error) h) (sym b.0)
      (subst (λ e. Owes old (OfFlushBegin id) (Refused e) old) (sym b.1) (memory_owes old (OfFlushBegin id) (begins, b.2) none))

  pub begun_serves : (result : Result FlushJob Error) → Begins honest old id result new → honest → Serves old (OfFlushBegin id) (begun_reply result) new
  begun_serves (Ok job) b h =
      let long = is_journal_long old.journal in
      let well = is_well old new id none in
      let reply : Reply = Began (Some (job_of (flush_task job))) in
      serves_by old new (OfFlushBegin id) reply (begun_owes (Ok job) b) (λ reads. reads)
      (subst (λ (is : Bool). MatchBool is (SyncTook old new) (new.disk ≡ old.disk)) (sym begins) (b.4 h)) (went_kinds old new id none long true (b.5 h))
      (begun_keeps old new id none b.2 b.3 (b.4 h) (b.5 h))
      (λ s d stands on tidy. went_served old new id none long true refl b.2 (b.5 h) s.parts.entries d on tidy)
      (λ s d stands on. let led = begun_settles s.parts.entries old new id d well long refl b.3 (b.5 h) on in (led.0, led.1, (led.2, λ _. led.3)))
  begun_serves (Err (Io kind)) b h =
      let long = is_journal_long old.journal in
      let well = is_well old new id none in
      serves_by old new (OfFlushBegin id) (Refused (Io kind)) (begun_owes (Err (Io kind)) b) (λ reads. reads) (b.2 h)
      (went_kinds old new id none long false (b.3 h)) (unbegun_keeps old new id none b.0 b.1 (b.2 h) (b.3 h))
      (λ s d stands on tidy. record { rose = b.1.faults; served = went_served old new id none long false refl b.0 (b.3 h) s.parts.entries d on tidy })
      (λ s d stands on. led_by new s d (OfFlushBegin id) (Refused (Io kind)) [] refl (no_sync s (OfFlushBegin id) (Io kind))
      (unbegun_leads s.parts.entries old new id d well long b.1 (b.3 h) on))
  begun_serves (Err NumbersUsedUp) b h =
      subst (λ (x : Held). Serves old (OfFlushBegin id) (Refused NumbersUsedUp) x) (sym b.0)
      (refusal_serves old (OfFlushBegin id) NumbersUsedUp refl (λ s stands. owes_step old old (OfFlushBegin id) (Refused NumbersUsedUp) s (λ reads. reads) (used_owes b.1) stands))
  begun_serves (Err error) b h =
      subst (λ (x : Held). Serves old (OfFlushBegin id) (Refused error) x) (sym b.0)
      (subst (λ e. Serves old (OfFlushBegin id) (Refused e) old) (sym b.1) (memory_serves old (OfFlushBegin id) (begins, b.2) none))

  pub begun_known_task : (job : FlushJob) → Begins honest old id (Ok job) new → KnowsTask new.memory (flush_task job)
  begun_known_task job b = b.1
