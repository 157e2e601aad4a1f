-- What came of finishing a merge is what the call owes, and a crash leaves what it may.
use Rattle.std.proofs.Common.{◌≡◌, inl, inr, ℕ, ◌+◌, ◌≤◌, ◌==◌, ◌&&◌, Bool, true, false, if◌then◌else◌, List, [], Option, Some, Result, String, Vec, Ok, Err, MatchBool, length, map, take, refl, sym, ◌∙◌, ap, subst}
use Rattle.std.specs.declared.alloc.Global.{Global}
use Rattle.std.proofs.lemmas.Bool.{eq-eqb}
use Rattle.fjall_base.specs.Store.{kept}
use Rattle.fjall_base.specs.Disk.{Meaning}
use Rattle.fjall_base.specs.declared.error.Error.{Error}
use Rattle.fjall_base.specs.declared.error.Error.TheVariants.{Io, NumbersUsedUp, OutOfMemory, Poisoned, TooManyItems}
use Rattle.fjall_table_reader.proofs.Several.{length_read}
use Rattle.fjall_files.specs.Names.{keyspace_folder}
use Rattle.fjall_files.specs.Regions.{Within}
use Rattle.fjall_files.proofs.Made.{within_both}
use Rattle.fjall_files.proofs.Tidying.{stays_both, stays_start}
use Rattle.fjall_history.specs.declared.job.JobId.{JobId}
use Rattle.fjall_history.specs.declared.reply.Reply.{Reply}
use Rattle.fjall_history.specs.declared.reply.Reply.TheVariants.{Flag, Refused}
use Rattle.fjall_jobs.specs.declared.merge_made.MergeMade.{MergeMade}
use Rattle.fjall_jobs.specs.Made.{merge_clears, merge_tables, merged_target, merged_task}
use Rattle.fjall_jobs.specs.Tasks.{Task}
use Rattle.fjall_journal.specs.Writer.{Journal, counted}
use Rattle.fjall_replay.specs.Known.{last_known}
use Rattle.fjall_tree.specs.Jobs.{IsMerging, merge_dropped}
use Rattle.fjall_tree.specs.Trees.{Merging, ReadsAll}
use Rattle.fjall_tree.proofs.Staying.{input_sorted}
use Rattle.fjall_compaction.specs.Merges.{Merge, record_after_merge}
use Rattle.fjall_meta.specs.declared.living.LivingKeyspace.{LivingKeyspace}
use Rattle.fjall_meta.specs.Keyspaces.{keyspace_at}
use Rattle.fjall_machine.specs.Machine.{FinishesMerge, LacksMergeIds, LacksMergeRoom, MayLack, Merged, Parts, State, StepOf, is_living, is_merging, options_in, present, target_size}
use Rattle.fjall_machine.specs.Machine as machine
use Rattle.fjall_machine.specs.Merging.{AreTaken, KnowsMerge, counted_as, keyspace_of}
use Rattle.fjall_machine.specs.Remembered.{Remembered, merge_gone_in_memory, with_merge, with_merge_done}
use Rattle.fjall_machine.specs.Remembered as memory
use Rattle.fjall_machine.specs.Shapes.{CallShape, OfMergeFinish}
use Rattle.fjall_machine.proofs.Flushing.{known_record}
use Rattle.fjall_machine.proofs.MergeFinishing.{merge_there}
use Rattle.fjall_machine.proofs.MergeSettings.{merges_are_out}
use Rattle.fjall_machine.proofs.Merging.{a_counted_merge_stands, a_dropped_merge_stands, finished_stands, made_there, merged_there}
use Rattle.fjall_machine.proofs.Merging as law
use Rattle.fjall_machine.proofs.SameTrees.{altered_tables, infos_same, same_in}
use Rattle.fjall_machine.proofs.Standing.{living_agree}
use Rattle.fjall_manifest.specs.Records.{Fields}
use Rattle.fjall_trees.specs.Forests.{Planted}
use Rattle.fjall_trees.specs.Tables.{shape_in}
use Rattle.fjall_trees.proofs.Changing.{tree_under}
use Rattle.fjall_trees.proofs.Outstanding.{merging_same, merging_tree}
use Rattle.fjall_engine.specs.Holding.{Held}
use Rattle.fjall_engine.specs.CallParts.{MergedAsMade, Merges, PutsMerge, TakesAway, TookAway, WroteMerge}
use Rattle.fjall_engine.specs.Crashes.{BlamesDevice, IsSync, attempt, is_io}
use Rattle.fjall_engine.specs.Standing.{Becomes, IsDueToMergeIn, LacksAtIn, LeadsOn, MergeTook, MergedInMemory, OnDisk, Owes, OwesMerge, Poisons, ReadsOn, Serves, ServesWhere, StandsFor, job_of, store_in, store_with_tables, AreRecorded}
use Rattle.fjall_engine.proofs.CrashesInRuns.{passes_still}
use Rattle.fjall_engine.proofs.DeviceFaults.{refusal_blames}
use Rattle.fjall_engine.proofs.FinishedFlushes.{becomes_both, both_true, done_reply, led_on, rose_later}
use Rattle.fjall_engine.proofs.KeyspaceCalls.{recount_leads}
use Rattle.fjall_engine.proofs.MadeMerges.{merged_of}
use Rattle.fjall_engine.proofs.MergedTables.{away_lie, put_reads, unput_reads}
use Rattle.fjall_engine.proofs.MergesOnDisk.{HasMade, IsPut, IsTakenAway, MayMerge, away_serves, entries_after, kept_leads, living_keyspace, lives_so, merged_leads, put_serves, unput_leads}
use Rattle.fjall_engine.proofs.MergesOnDisk as on_disk
use Rattle.fjall_engine.proofs.MergesOut.{merge_recounts}
use Rattle.fjall_engine.proofs.OwedStates.{poisoned_stands, poisoned_state}
use Rattle.fjall_engine.proofs.Refusals.{no_attempt, no_sync}
use Rattle.fjall_engine.proofs.TablesAtHome as at_home
use Rattle.fjall_engine.proofs.TablesAtHome.{keeps_disk, outside_ill, outside_same, trees_read}
use Rattle.fjall_engine.proofs.RecordedTables.{recorded_altered, recorded_merge}

-- the call that finishes what was made
abbrev pub finishing : MergeMade → CallShape
finishing made = OfMergeFinish (job_of (merged_task made))

-- where a core goes on from a state
abbrev pub GoesOn : Held → State → CallShape → Reply → Held → Type 0
GoesOn old s shape reply new = (t : State) × StandsFor new t × ReadsOn new t × StepOf s shape reply t × LeadsOn old s shape reply new t

-- ---- a core that stays as it was

stays : (core : Held) (s : State) (shape : CallShape) (reply : Reply) → attempt s shape reply ≡ [] → (IsSync s shape reply → ⊥) → BlamesDevice reply core.disk core.disk → StandsFor core s → ReadsOn core s → StepOf s shape reply s
    → GoesOn core s shape reply core
stays core s shape reply none unsynced blames stands reads step =
    (s, stands, reads, step, led_on core core s s shape reply none unsynced (stays_start core.disk) (λ d on tidy. blames) (λ d on. (d, on, passes_still d on.rests)))

-- a refusal that is no fault
refuses : (core : Held) (s : State) (shape : CallShape) (error : Error) → is_io error ≡ false → StandsFor core s → ReadsOn core s → StepOf s shape (Refused error) s → GoesOn core s shape (Refused error) core
refuses core s shape error other = stays core s shape (Refused error) (no_attempt s shape error other) (no_sync s shape error) (refusal_blames error core.disk other)

-- ---- a merge that is stale

-- it isn't out any more
pub stale_owes : (core : Held) (job : JobId) → is_merging core.memory.trees job ≡ false → Owes core (OfMergeFinish job) (Flag false) core
stale_owes core job none = (refl, subst (λ (b : Bool). OwesMerge b (is_living (store_in core) job.keyspace_id) core job (Flag false) core) (sym none) (refl, refl))

pub stale_serves : (core : Held) (job : JobId) → is_merging core.memory.trees job ≡ false → Serves core (OfMergeFinish job) (Flag false) core
stale_serves core job none = record {
  disk = subst (λ (b : Bool). MatchBool (b && is_living (store_in core) job.keyspace_id) (MergeTook core job.keyspace_id core) (core.disk ≡ core.disk)) (sym none) refl;
  goes_on = λ s stands reads.
      let out = merges_are_out core.memory core.catalog.next_table_id s stands.remembered job ∙ none in
      stays core s (OfMergeFinish job) (Flag false) refl (λ sync. sync) refl stands reads
      (refl, subst (λ (b : Bool). FinishesMerge b (is_living (present s) job.keyspace_id) s job (Flag false) s) (sym out) (refl, refl));
}

-- its keyspace was deleted: it is out no more
abbrev pub gone_from : Held → ℕ → Held
gone_from core id = record core { memory = merge_gone_in_memory id core.memory }

pub gone_owes : (core : Held) (job : JobId) → is_merging core.memory.trees job ≡ true → is_living (store_in core) job.keyspace_id ≡ false → Owes core (OfMergeFinish job) (Flag false) (gone_from core job.keyspace_id)
gone_owes core job out deleted =
    (refl, subst (λ (b : Bool × Bool). OwesMerge b.0 b.1 core job (Flag false) (gone_from core job.keyspace_id)) (sym (λ i. (out i, deleted i))) (refl, refl))

pub gone_serves : (core : Held) (job : JobId) → is_merging core.memory.trees job ≡ true → is_living (store_in core) job.keyspace_id ≡ false
    → Serves core (OfMergeFinish job) (Flag false) (gone_from core job.keyspace_id)
gone_serves core job out deleted =
    let id = job.keyspace_id in
    let new = gone_from core id in
    record {
      disk = subst (λ (b : Bool). MatchBool b (MergeTook core id new) (core.disk ≡ core.disk)) (sym (ap (λ (b : Bool). b && is_living (store_in core) id) out ∙ deleted)) refl;
      goes_on = λ s stands reads.
          let table = core.catalog.next_table_id in
          let t = machine.merge_gone s id in
          let out_there = merges_are_out core.memory table s stands.remembered job ∙ out in
          let deleted_there = living_agree core.memory table s stands.remembered id ∙ deleted in
          let kept_reads =
          keeps_disk core new refl (λ disk x lie. altered_tables (at_home.Lies disk x) core.memory.trees lie id merge_dropped (λ shape. refl)) (outside_same core new refl refl) s stands reads in (
            t,
            record { remembered = a_dropped_merge_stands core.memory table s stands.remembered id; journal = stands.journal; buffer = stands.buffer },
            record { tables = kept_reads.tables; writer = kept_reads.writer; recorded = recorded_altered id merge_dropped (λ shape. refl) s.parts reads.recorded },
            (refl, subst (λ (b : Bool × Bool). FinishesMerge b.0 b.1 s job (Flag false) t) (sym (λ i. (out_there i, deleted_there i))) (refl, refl)),
            led_on core new s t (OfMergeFinish job) (Flag false) refl (λ sync. sync) (stays_start core.disk) (λ d on tidy. refl)
                (λ d on. recount_leads s.parts.entries core new d refl (merge_recounts merge_dropped (λ shape. refl) id s.parts.entries core core.memory.next_job) on),
          );
    }

-- ---- a core that is poisoned

pub late_owes : (core : Held) (job : JobId) → IsDueToMergeIn core job → core.memory.poisoned ≡ true → Owes core (OfMergeFinish job) (Refused Poisoned) core
late_owes core job due ill = ((due, ill), refl)

pub late_serves : (core : Held) (job : JobId) → IsDueToMergeIn core job → core.memory.poisoned ≡ true → Serves core (OfMergeFinish job) (Refused Poisoned) core
late_serves core job (out, lives) ill = record {
  disk = refl;
  goes_on = λ s stands reads.
      let table = core.catalog.next_table_id in
      refuses core s (OfMergeFinish job) Poisoned refl stands reads
      (((merges_are_out core.memory table s stands.remembered job ∙ out, living_agree core.memory table s stands.remembered job.keyspace_id ∙ lives), stands.remembered.poisoned ∙ ill), refl);
}

-- ---- one that is finished

-- the tables of a keyspace that lives, and of which a merge is out, are those that its record lists
recorded : (core : Held) (s : State) → StandsFor core s → ReadsOn core s → (id : ℕ) (task : Task) → IsMerging (shape_in id s.parts.trees) (s.parts.entries id) task
    → (k : LivingKeyspace) → keyspace_at id core.memory.keyspaces.living ≡ Some k → map (λ t. t.info) (shape_in id core.memory.trees).tables ≡ (last_known core.memory.records k).tables
recorded core s stands reads id task begun k at =
    infos_same (shape_in id s.parts.trees).tables (shape_in id core.memory.trees).tables (same_in id s.parts.trees core.memory.trees stands.remembered.trees).tables
    ∙ tree_under (λ (q : Planted). map (λ t. t.info) q.shape.tables ≡ (s.parts.records q.id).tables) s.parts.trees id (shape_in id s.parts.trees) reads.recorded
    (merging_tree id s.parts.trees (s.parts.entries id) task begun)
    ∙ ap (λ (r : Fields). r.tables) (known_record core.memory core.catalog.next_table_id s stands.remembered id k at)

-- after the removal memory is as it was but for the count
counts_more : (mid after new : Held) → after ≡ record mid { disk = after.disk } → mid.disk.faults ≤ after.disk.faults → new ≡ record after { memory = with_merge_done after.memory } → Becomes mid (with_merge_done mid.memory) new
counts_more mid after new same later is = record {
  memory_is = ap (λ (h : Held). h.memory) is ∙ ap (λ (h : Held). with_merge_done h.memory) same;
  catalog = ap (λ (h : Held). h.catalog) is ∙ ap (λ (h : Held). h.catalog) same;
  journal = ap (λ (h : Held). h.journal) is ∙ ap (λ (h : Held). h.journal) same;
  faults = subst (λ (h : Held). mid.disk.faults ≤ h.disk.faults) (sym is) later;
}

module _ (honest : Type 0) (old new : Held) (made : MergeMade) (may : MayMerge old made) where
  abbrev task : Task
  task = merged_task made

  abbrev job : JobId
  job = job_of task

  abbrev id : ℕ
  id = keyspace_of made

  abbrev k : LivingKeyspace
  k = living_keyspace old id may.living

  at : keyspace_at id old.memory.keyspaces.living ≡ Some k
  at = lives_so old id may.living

  abbrev out : Merging
  out = (merge_there task.id (shape_in id old.memory.trees).merge may.out).0

  was : (shape_in id old.memory.trees).merge ≡ Some out
  was = (merge_there task.id (shape_in id old.memory.trees).merge may.out).1

  due : IsDueToMergeIn old job
  due = (may.out, may.living)

  -- ---- what it owes

  abbrev in_memory : (mid : Held) → MergedAsMade old.memory made mid.memory → MergedInMemory old.memory id mid.memory
  in_memory mid merged =
      let fin = merged k out at was in
      record { k = k; lives = at; out = out; was = was; tables = merge_tables made; clears = merge_clears made; readers = fin.readers; infos = fin.are.infos; is = fin.is }

  lacks : (Lacks : Fields → Merge → Type 0) → Lacks (last_known old.memory.records k) (counted_as out made) → LacksAtIn old job Lacks
  lacks Lacks less = (due, may.well, (k, at, (out, was, merge_tables made, merge_clears made, less)))

  unput_owes : (error : Error) → PutsMerge honest old made (Err error) new → Owes old (finishing made) (Refused error) new
  unput_owes (Io kind) (fault, wrote) = inr (inr (due, may.well, inl fault))
  unput_owes OutOfMemory (same, why) = ((due, may.well), same)
  unput_owes NumbersUsedUp (same, why) = (lacks LacksMergeIds (why k out at was), same)
  unput_owes TooManyItems (same, why) = (lacks LacksMergeRoom (why k out at was), same)
  unput_owes error (same, why) = absurd (why k out at was)

  kept_owes : (error : Error) (mid : Held) (taken : Vec (String Global) Global) → PutsMerge honest old made (Ok taken) mid → TakesAway honest mid taken.items (Err error) new → Owes old (finishing made) (Refused error) new
  kept_owes (Io kind) mid taken (merged, becomes, are, wrote) (same, rose, took, later) =
      inr (inr (
        due,
        may.well,
        inr (
          mid.memory,
          in_memory mid merged,
          record { memory_is = ap (λ (h : Held). h.memory) same; faults = rose_later old.disk.faults mid.disk.faults new.disk.faults becomes.faults later rose },
        ),
      ))
  kept_owes error mid taken put bad = absurd bad

  pub finished_owes : (result : Result Unit Error) → Merges honest old made result new → Owes old (finishing made) (done_reply result) new
  finished_owes (Ok _) (taken, mid, after, (merged, becomes, are, wrote), (same, later, took), is) = (
    refl,
    subst (λ (b : Bool × Bool). OwesMerge b.0 b.1 old job (Flag true) new) (sym (λ i. (may.out i, may.living i)))
        (refl, may.well, mid.memory, in_memory mid merged, becomes_both old mid new mid.memory (with_merge_done mid.memory) becomes (counts_more mid after new same later is)),
  )
  finished_owes (Err error) (inl unput) = unput_owes error unput
  finished_owes (Err error) (inr (taken, mid, put, away)) = kept_owes error mid taken put away

  -- ---- states that know it

  module _ (s : State) (stands : StandsFor old s) (reads : ReadsOn old s) (known : KnowsMerge s (merged_target made) (merged_task made)) where
    abbrev table : ℕ
    table = old.catalog.next_table_id

    out_there : is_merging s.parts.trees job ≡ true
    out_there = merges_are_out old.memory table s stands.remembered job ∙ may.out

    lives_there : is_living (present s) id ≡ true
    lives_there = living_agree old.memory table s stands.remembered id ∙ may.living

    well_there : s.poisoned ≡ false
    well_there = stands.remembered.poisoned ∙ may.well

    -- it was begun with its task, by what its tables have
    abbrev begun : IsMerging (shape_in id old.memory.trees) (s.parts.entries id) task
    begun = merging_same id s.parts.trees old.memory.trees stands.remembered.trees (s.parts.entries id) task (known.begun out_there)

    sized : merged_target made ≡ target_size (options_in (present s) id)
    sized = known.target_is lives_there

    all_read : ReadsAll old.disk (shape_in id old.memory.trees) (s.parts.entries id)
    all_read =
        tree_under (λ (q : Planted). ReadsAll old.disk q.shape (s.parts.entries q.id)) old.memory.trees id (shape_in id old.memory.trees) (trees_read old s stands reads)
        (merging_tree id old.memory.trees (s.parts.entries id) task begun)

    -- so what was made of it is known
    pub has : HasMade old made s.parts.entries
    has = record { may = may; begun = begun; merged = merged_of made (input_sorted old.disk (shape_in id old.memory.trees) (s.parts.entries id) task all_read begun) }

    abbrev out_of : Merging
    out_of = has.begun.out

    abbrev does : Merge
    does = counted_as out_of made

    abbrev there : LivingKeyspace
    there = on_disk.living_there old made s.parts.entries has

    lives_so_there : keyspace_at id old.memory.keyspaces.living ≡ Some there
    lives_so_there = on_disk.lives_there old made s.parts.entries has

    abbrev last : Fields
    last = on_disk.last old made s.parts.entries has

    -- ---- what it lacks

    lacks_there : (Lacks : Fields → Merge → Type 0) → Lacks last does → machine.LacksAt s job Lacks
    lacks_there Lacks less = (
      (out_there, lives_there),
      well_there,
      subst (λ (x : Option Merging × ℕ × Fields). MayLack x.0 x.1 id (shape_in id s.parts.trees) (s.parts.entries id) x.2 Lacks)
          (λ i. (
            sym (law.out_there old.memory table s stands.remembered id (merged_target made) task has.begun (merge_tables made) (merge_clears made) has.merged) i,
            sized i,
            sym (known_record old.memory table s stands.remembered id there lives_so_there) i,
          ))
          (merge_tables made, merge_clears made, made_there old.memory table s stands.remembered id (merged_target made) task has.begun (merge_tables made) (merge_clears made) has.merged, less),
    )

    unput_step : (error : Error) → PutsMerge honest old made (Err error) new → is_io error ≡ false → StepOf s (finishing made) (Refused error) s
    unput_step (Io kind) unput other = let bad : ⊥ = cc in absurd bad
    unput_step OutOfMemory (same, why) other = (((out_there, lives_there), well_there), refl)
    unput_step NumbersUsedUp (same, why) other = (lacks_there LacksMergeIds (why there out_of lives_so_there has.begun.is), refl)
    unput_step TooManyItems (same, why) other = (lacks_there LacksMergeRoom (why there out_of lives_so_there has.begun.is), refl)
    unput_step error (same, why) other = absurd (why there out_of lives_so_there has.begun.is)

    -- a fault stopped the writing
    pub goes_unput : (kind : _) → Poisons old.memory old new → WroteMerge old.memory made old.disk new.disk false → GoesOn old s (finishing made) (Refused (Io kind)) new
    goes_unput kind fault wrote =
        let kept_reads = unput_reads old new made s stands reads has false wrote fault in
        let lawful = stands.remembered.lawful in (
          poisoned_state new s,
          poisoned_stands old.memory old new table s fault stands.remembered,
          record { tables = kept_reads.tables; writer = kept_reads.writer; recorded = kept_reads.recorded },
          inr (inr ((out_there, lives_there), well_there, inl (record { is = refl; trees = refl; entries = refl; records = refl; journals = refl }))),
          led_on old new s (poisoned_state new s) (finishing made) (Refused (Io kind)) refl (λ sync. sync) wrote.kinds
              (λ d on tidy. record { rose = fault.faults; served = put_serves old made s.parts.entries has d lawful on new false wrote tidy })
              (λ d on. unput_leads old made s.parts.entries has d lawful on new wrote fault),
        )

    -- ---- once it was written

    module _ (mid : Held) (fin : IsPut old made s.parts.entries has mid) (becomes : Becomes old mid.memory mid) (wrote : WroteMerge old.memory made old.disk mid.disk true) where
      abbrev parts_with : Parts
      parts_with = machine.parts_merged id out_of (merge_tables made) (merge_clears made) has.merged.lists fin.readers s.parts

      abbrev state_with : State
      state_with = record s { parts = parts_with }

      -- what memory holds then
      abbrev memory_with : Remembered
      memory_with = with_merge id out_of fin.readers (record_after_merge does last) old.memory

      held_with : memory.MemoryStandsFor memory_with table state_with
      held_with =
          let each = sym (length_read old.disk (shape_in id old.memory.trees).tables (s.parts.entries id) all_read.tables) in
          finished_stands old.memory table s stands.remembered id (merged_target made) task has.begun (merge_tables made) (merge_clears made) has.merged there lives_so_there fin.readers fin.are.infos each

      merged_so : Merged s id parts_with
      merged_so = merged_there old.memory table s stands.remembered id (merged_target made) task has.begun (merge_tables made) (merge_clears made) has.merged there lives_so_there fin.readers fin.are.infos sized

      stands_with : StandsFor mid state_with
      stands_with = record {
        remembered = subst (λ (x : Remembered). memory.MemoryStandsFor x mid.catalog.next_table_id state_with) (sym fin.is)
            (subst (λ (n : ℕ). memory.MemoryStandsFor memory_with n state_with) (ap (λ c. c.next_table_id) (sym becomes.catalog)) held_with);
        journal = stands.journal ∙ ap (λ (j : Journal). j.len) (sym becomes.journal);
        buffer = stands.buffer ∙ ap (λ (j : Journal). length j.buffer) (sym becomes.journal);
      }

      -- the keyspace's last record counts the new tables, and those of others stay
      records_grown : (state_with.parts.records id).next_table_id ≡ (s.parts.records id).next_table_id + length (merge_tables made)
      records_grown = ap (λ (b : Bool). (if b then record_after_merge does (s.parts.records id) else s.parts.records id).next_table_id) (eq-eqb id id refl)

      records_other : (other : ℕ) → (other == id) ≡ false → state_with.parts.records other ≡ s.parts.records other
      records_other other e = ap (λ (b : Bool). if b then record_after_merge does (s.parts.records id) else s.parts.records other) e

      recorded_with : AreRecorded parts_with
      recorded_with = recorded_merge (target_size (options_in (present s) id)) id s.parts parts_with (shape_in id s.parts.trees).merge merged_so reads.recorded

      reads_with : ReadsOn mid state_with
      reads_with = put_reads old mid made s stands reads has wrote fin becomes state_with refl refl records_grown records_other recorded_with

      -- the present store is the same
      same_present : kept (store_with_tables s.parts.entries old) ≡ kept (store_with_tables (entries_after old made s.parts.entries has) mid)
      same_present = sym stands.remembered.present ∙ stands_with.remembered.present

      told : map (λ t. t.info) (shape_in id old.memory.trees).tables ≡ last.tables
      told = recorded old s stands reads id task (known.begun out_there) there lives_so_there

      module _ (taken : List (String Global)) (are : AreTaken id last out_of taken) where
        away_of : (done : Bool) → TookAway taken mid.disk new.disk done → IsTakenAway old mid new made s.parts.entries has done
        away_of done took = record { wrote = wrote; fin = fin; becomes = becomes; taken = taken; are = are; away = took }

        still_there : (done : Bool) → TookAway taken mid.disk new.disk done → at_home.LieThere new.disk state_with mid.memory.trees
        still_there done took = away_lie old mid made s stands reads has wrote fin becomes told taken are new.disk done took state_with stands_with reads_with

        -- ---- it was done

        abbrev state_done : State
        state_done = record state_with { merges_done = counted (s.merges_done + 1) }

        pub goes_on : Becomes mid (with_merge_done mid.memory) new → TookAway taken mid.disk new.disk true → GoesOn old s (finishing made) (Flag true) new
        goes_on done took =
            let lawful = stands.remembered.lawful in
            let away = away_of true took in (
              state_done,
              record {
                remembered = subst (λ (x : Remembered). memory.MemoryStandsFor x new.catalog.next_table_id state_done) (sym done.memory_is)
                    (subst (λ (n : ℕ). memory.MemoryStandsFor (with_merge_done mid.memory) n state_done) (ap (λ c. c.next_table_id) (sym done.catalog))
                    (a_counted_merge_stands mid.memory mid.catalog.next_table_id state_with stands_with.remembered));
                journal = stands_with.journal ∙ ap (λ (j : Journal). j.len) (sym done.journal);
                buffer = stands_with.buffer ∙ ap (λ (j : Journal). length j.buffer) (sym done.journal);
              },
              record {
                tables = subst (λ (x : Remembered). at_home.LieThere new.disk state_done x.trees) (sym done.memory_is) (still_there true took);
                writer = outside_same mid new (ap (λ (x : Remembered). x.poisoned) done.memory_is) (ap (λ (j : Journal). j.name) done.journal) reads_with.writer;
                recorded = reads_with.recorded;
              },
              (refl, subst (λ (b : Bool × Bool). FinishesMerge b.0 b.1 s job (Flag true) state_done) (sym (λ i. (out_there i, lives_there i))) (refl, well_there, parts_with, merged_so, refl)),
              led_on old new s state_done (finishing made) (Flag true) refl (λ sync. sync) (stays_both old.disk mid.disk new.disk wrote.kinds took.kinds)
                  (λ d on tidy. away_serves old made s.parts.entries has d lawful on mid new true away tidy)
                  (λ d on. merged_leads old made s.parts.entries has d lawful on mid new away done same_present),
            )

        -- ---- a fault kept the tables that it took from being removed

        pub goes_kept : (kind : _) → Poisons mid.memory mid new → mid.disk.faults ≤ new.disk.faults → TookAway taken mid.disk new.disk false → GoesOn old s (finishing made) (Refused (Io kind)) new
        goes_kept kind fault later took =
            let lawful = stands.remembered.lawful in
            let away = away_of false took in
            let t = poisoned_state new state_with in (
              t,
              poisoned_stands mid.memory mid new mid.catalog.next_table_id state_with fault stands_with.remembered,
              record {
                tables = subst (λ (x : Remembered). at_home.LieThere new.disk t x.trees) (sym fault.memory_is) (still_there false took);
                writer = outside_ill mid new (ap (λ (x : Remembered). x.poisoned) fault.memory_is) reads_with.writer;
                recorded = reads_with.recorded;
              },
              inr (inr ((out_there, lives_there), well_there, inr (parts_with, merged_so, record { is = refl; trees = refl; entries = refl; records = refl; journals = refl }))),
              led_on old new s t (finishing made) (Refused (Io kind)) refl (λ sync. sync) (stays_both old.disk mid.disk new.disk wrote.kinds took.kinds)
                  (λ d on tidy. record {
                    rose = rose_later old.disk.faults mid.disk.faults new.disk.faults becomes.faults later fault.faults;
                    served = away_serves old made s.parts.entries has d lawful on mid new false away tidy;
                  })
                  (λ d on. kept_leads old made s.parts.entries has d lawful on mid new away fault same_present),
            )

  -- ---- what came of it

  abbrev Meets : State → Type 0
  Meets s = KnowsMerge s (merged_target made) (merged_task made)

  -- the names of the tables that it took
  abbrev AreNames : List (String Global) → Type 0
  AreNames taken = AreTaken id (last_known old.memory.records k) out taken

  abbrev took_ids : List ℕ
  took_ids = map (λ t. t.id) (take out.tables (last_known old.memory.records k).tables)

  within : (mid : Held) (done : Bool) (taken : List (String Global)) → WroteMerge old.memory made old.disk mid.disk true → AreNames taken → TookAway taken mid.disk new.disk done → Within (keyspace_folder id) old.disk new.disk
  within mid done taken wrote names took = within_both (keyspace_folder id) old.disk mid.disk new.disk wrote.within (took.within id took_ids names)

  unchanged : (error : Error) → is_io error ≡ false → OnDisk old (finishing made) (Refused error) old → PutsMerge honest old made (Err error) new → new ≡ old → ServesWhere Meets old (finishing made) (Refused error) new
  unchanged error other disk unput same = subst (λ (h : Held). ServesWhere Meets old (finishing made) (Refused error) h) (sym same) (record {
    disk = disk;
    goes_on = λ s stands reads known. refuses old s (finishing made) error other stands reads (unput_step s stands reads known error unput other);
  })

  unput_serves : (error : Error) → PutsMerge honest old made (Err error) new → honest → ServesWhere Meets old (finishing made) (Refused error) new
  unput_serves (Io kind) (fault, wrote) h = record { disk = (wrote h).within; goes_on = λ s stands reads known. goes_unput s stands reads known kind fault (wrote h) }
  unput_serves OutOfMemory (same, why) h = unchanged OutOfMemory refl refl (same, why) same
  unput_serves NumbersUsedUp (same, why) h = unchanged NumbersUsedUp refl refl (same, why) same
  unput_serves TooManyItems (same, why) h = unchanged TooManyItems refl refl (same, why) same
  unput_serves error (same, why) h = absurd (why k out at was)

  kept_serves : (error : Error) (mid : Held) (taken : Vec (String Global) Global) → PutsMerge honest old made (Ok taken) mid → TakesAway honest mid taken.items (Err error) new → honest
      → ServesWhere Meets old (finishing made) (Refused error) new
  kept_serves (Io kind) mid taken (merged, becomes, are, wrote) (same, rose, took, later) h = record {
    disk = within mid false taken.items (wrote h) (are k out at was) (took h);
    goes_on = λ s stands reads known.
        let there = lives_so_there s stands reads known in
        let is = (has s stands reads known).begun.is in
        goes_kept s stands reads known mid (merged _ _ there is) becomes (wrote h) taken.items (are _ _ there is) kind (record { memory_is = ap (λ (x : Held). x.memory) same; faults = rose }) later (took h);
  }
  kept_serves error mid taken put bad h = absurd bad

  done_serves : (mid after : Held) (taken : Vec (String Global) Global) → PutsMerge honest old made (Ok taken) mid → TakesAway honest mid taken.items (Ok tt) after → new ≡ record after { memory = with_merge_done after.memory } → honest
      → ServesWhere Meets old (finishing made) (Flag true) new
  done_serves mid after taken (merged, becomes, are, wrote) (same, later, took) is h =
      let gone = subst (λ (x : Meaning). TookAway taken.items mid.disk x true) (sym (ap (λ (x : Held). x.disk) is)) (took h) in
      let counts = counts_more mid after new same later is in
      record {
        disk = subst (λ (b : Bool). MatchBool b (MergeTook old id new) (new.disk ≡ old.disk)) (sym (both_true (is_merging old.memory.trees job) (is_living (store_in old) id) may.out may.living))
            (record { left = mid.memory; merged = in_memory mid merged; within = within mid true taken.items (wrote h) (are k out at was) gone; gone = gone.gone refl id took_ids (are k out at was) });
        goes_on = λ s stands reads known.
            let there = lives_so_there s stands reads known in
            let out_is = (has s stands reads known).begun.is in
            goes_on s stands reads known mid (merged _ _ there out_is) becomes (wrote h) taken.items (are _ _ there out_is) counts gone;
      }

  pub finished_serves : (result : Result Unit Error) → Merges honest old made result new → honest → ServesWhere Meets old (finishing made) (done_reply result) new
  finished_serves (Ok _) (taken, mid, after, put, away, is) h = done_serves mid after taken put away is h
  finished_serves (Err error) (inl unput) h = unput_serves error unput h
  finished_serves (Err error) (inr (taken, mid, put, away)) h = kept_serves error mid taken put away h
