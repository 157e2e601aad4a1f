-- Jobs that are kept stay known, whatever calls are served.
use Rattle.std.proofs.Common.{◌≡◌, ◌⊎◌, inl, inr, ℕ, ◌+◌, ◌-◌, ◌<◌, ◌^◌, All, Bool, true, false, if◌then◌else◌, get_or, List, [], ◌∷◌, ◌++◌, take, drop, Option, Some, None, unwrap_or, zero, suc, refl, sym, ◌∙◌, ap, subst, arith}
use Rattle.std.specs.List.{slice_get}
use Rattle.std.specs.Option.{option_map}
use Rattle.std.proofs.lemmas.Bool.{true≢false}
use Rattle.std.proofs.lemmas.List.Elements.{All-nil, All-push}
use Rattle.fjall_base.proofs.Codecs.{some_is}
use Rattle.fjall_base.specs.declared.error.Error.{Error}
use Rattle.fjall_base.specs.declared.error.Error.TheVariants.{Io, NumbersUsedUp, OutOfMemory, Poisoned, Storage, TooManyItems, ValueTooLong}
use Rattle.fjall_table_reader.specs.Readers.{Reader}
use Rattle.fjall_history.specs.declared.job.JobId.{JobId}
use Rattle.fjall_history.specs.declared.reply.Reply.{Reply}
use Rattle.fjall_history.specs.declared.reply.Reply.TheVariants.{Began, Flag, Refused}
use Rattle.fjall_history.specs.Queries.{Get, Page, Query}
use Rattle.fjall_jobs.specs.Flushes.{flush_task}
use Rattle.fjall_jobs.specs.Tasks.{Task}
use Rattle.fjall_compaction.specs.Flushes.{record_after_flush}
use Rattle.fjall_journal.specs.Changes.{Change, Emptied, Items}
use Rattle.fjall_journal.specs.Writer.{written_out}
use Rattle.fjall_compaction.specs.Whole.{last_ingested}
use Rattle.fjall_replay.specs.Known.{last_known}
use Rattle.fjall_reading.specs.Ingestions.{KeyOp}
use Rattle.fjall_files.specs.Journals.{staying}
use Rattle.fjall_compaction.specs.MergeFinishing.{merge_out}
use Rattle.fjall_compaction.specs.Merges as merges
use Rattle.fjall_tree.specs.Jobs.{flush_dropped, flush_finished, is_flush_out, is_merge_out, merge_dropped, merge_finished}
use Rattle.fjall_tree.specs.Puts.{bare_tree}
use Rattle.fjall_tree.specs.Trees.{Shape as Tree}
use Rattle.fjall_machine.specs.Machine.{begins_flush, flush_with, is_flushing, is_living, is_merging, rotates}
use Rattle.fjall_machine.specs.declared.call.Call.{Call}
use Rattle.fjall_machine.specs.declared.call.Call.TheVariants.{FlushBegin, FlushFinish, MajorBegin, MergeBegin, MergeFinish}
use Rattle.fjall_machine.specs.declared.merge_kind.MergeKind.{MergeKind}
use Rattle.fjall_machine.specs.Places.{job_begun, resolved}
use Rattle.fjall_machine.specs.Remembered.{IsLawful, KnowsTask, Remembered}
use Rattle.fjall_machine.specs.Remembered as memory
use Rattle.fjall_machine.specs.Shapes.{Clone, Close, Collect, Count, DiskSpace, Entries, Exists, Flushes, JournalSpace, Keyspaces, MergesDone, MergesOut, Next, OfChange, OfCount, OfCreation, OfDeletion, OfFlushBegin, OfFlushFinish, OfHandle, OfIngestion, OfMergeBegin, OfMergeFinish, OfJournalRotation, OfMaintenance, OfPersist, OfRead, OfRotation, OfTickets, OneLess, OneMore, Open, OpenTickets, Persistence, SealedMemtables, CallShape, Tables, TablesL0, ToFlush, Visible, WriteBuffer, shape_of}
use Rattle.fjall_machine.specs.Shapes as shapes
use Rattle.fjall_trees.specs.Forests.{Forest, altered_at, tree_at}
use Rattle.fjall_trees.specs.Tables.{shape_in}
use Rattle.fjall_trees.proofs.Others.{altered_here}
use Rattle.fjall_engine.specs.declared.jobs.Job.{Job}
use Rattle.fjall_engine.specs.declared.jobs.Job.TheVariants.{Flush, Merge}
use Rattle.fjall_engine.specs.declared.jobs.JobBegin.{JobBegin}
use Rattle.fjall_engine.specs.declared.jobs.JobBegin.TheVariants as begins
use Rattle.fjall_engine.specs.declared.jobs.JobKind.{JobKind}
use Rattle.fjall_engine.specs.declared.jobs.JobKind.TheVariants as kinds
use Rattle.fjall_engine.specs.Holding.{Held}
use Rattle.fjall_engine.specs.Jobs.{IsFlushKnown, IsGivenBack, IsJobKnown, IsPlain, IsSameJob, Keeps, KeepsJobs, KeepsOthers, begin_of, begun_kind, finish_of, is_kept, is_named, is_out}
use Rattle.fjall_engine.proofs.FoundJobs.{any_last, any_more, any_without, at_place, named_like, same_name, without_one}
use Rattle.fjall_engine.proofs.GoneFlushes.{IsGone, IsMergeGone, StaysTrue, flush_given, flushes_before, given_stays, gone_stays, merge_given, merge_gone_stays, merges_before, task_stays}
use Rattle.fjall_engine.specs.Standing.{EvictsInMemory, FindsDisorder, FlushedInMemory, Gives, GivesRead, HeldCount, IngestedInMemory, IngestionPoisons, Looks, LooksAt, MergedInMemory, Owes, OwesBegin, OwesChange, OwesFailure, OwesFinish, OwesIngestion, OwesMerge, OwesMergeBegin, OwesRefusal, RanOut, WorkPoisons, memory_at_fault, begins_merge_in, evicted_in_memory, held_due, is_journal_long, journal_synced_in, store_in, tables_of, takes_effect_in}

-- ---- what stays true of memory

module _ (Knows : Remembered → Type 0) (stays : StaysTrue Knows) (old new : Held) where
  becomes : (m : Remembered) → new.memory ≡ m → Knows m → Knows new.memory
  becomes m is knows = subst Knows (sym is) knows

  same_core : new ≡ old → Knows old.memory → Knows new.memory
  same_core same = becomes old.memory (ap (λ (h : Held). h.memory) same)

  fault_knows : (shape : CallShape) → Knows old.memory → Knows (memory_at_fault shape old.memory)
  fault_knows (OfHandle OneLess id) knows = stays.released old.memory id knows
  fault_knows (OfHandle OneMore id) knows = knows
  fault_knows (OfChange change how) knows = knows
  fault_knows (OfIngestion id items) knows = knows
  fault_knows (OfCreation name options) knows = knows
  fault_knows (OfDeletion id) knows = knows
  fault_knows (OfRotation id) knows = knows
  fault_knows OfJournalRotation knows = knows
  fault_knows (OfFlushBegin id) knows = knows
  fault_knows (OfFlushFinish job) knows = knows
  fault_knows (OfMergeBegin kind id) knows = knows
  fault_knows (OfMergeFinish job) knows = knows
  fault_knows OfMaintenance knows = knows
  fault_knows (OfRead view id query) knows = knows
  fault_knows (OfTickets call) knows = knows
  fault_knows (OfPersist mode) knows = knows
  fault_knows (OfCount count) knows = knows

  looks_knows : Looks old new → Knows old.memory → Knows new.memory
  looks_knows looks knows = becomes (memory.with_trees new.memory.trees old.memory) looks.memory_is (stays.read old.memory new.memory.trees looks.trees knows)

  looked_knows : (tables : List Reader) → LooksAt tables old new → Knows old.memory → Knows new.memory
  looked_knows [] same knows = same_core same knows
  looked_knows (t ∷ tables) looks knows = looks_knows looks knows

  evicts_knows : (m left : Remembered) → EvictsInMemory m left → Knows m → Knows left
  evicts_knows m left (gone, rest, stopped, is) knows = subst Knows (sym is) (stays.evicted m rest knows)

  flushed_knows : (id : ℕ) (mid : Remembered) → FlushedInMemory old.memory id mid → Knows old.memory → Knows mid
  flushed_knows id mid f knows = subst Knows (sym f.is) (stays.finished old.memory id f.begun.out f.readers (record_after_flush (flush_with (shape_in id old.memory.trees) f.begun.out f.tables) (last_known old.memory.records f.k)) knows)

  merged_knows : (id : ℕ) (mid : Remembered) → MergedInMemory old.memory id mid → Knows old.memory → Knows mid
  merged_knows id mid f knows = subst Knows (sym f.is) (stays.merged old.memory id f.out f.readers (merges.record_after_merge (merge_out f.out f.tables f.clears) (last_known old.memory.records f.k)) knows)

  -- the journal was synced, or sealed
  sealed_knows : (long : Bool) (len : ℕ) → Knows old.memory → Knows (if long then memory.journal_rotated_in_memory len old.memory else old.memory)
  sealed_knows true len knows = stays.journal old.memory len knows
  sealed_knows false len knows = knows

  synced_knows : Knows old.memory → Knows (journal_synced_in old)
  synced_knows knows = sealed_knows (is_journal_long old.journal) (written_out old.journal).len knows

  ingested_knows : (id : ℕ) (items : List KeyOp) (mid : Remembered) → IngestedInMemory (journal_synced_in old) id items mid → Knows old.memory → Knows mid
  ingested_knows id items mid f knows =
      let m = journal_synced_in old in
      subst Knows (sym f.is) (stays.ingestion m id f.readers (last_ingested m.next (shape_in id m.trees) f.flushes f.made (last_known m.records f.k)) (synced_knows knows))

  ingestion_knows : (id : ℕ) (items : List KeyOp) → IngestionPoisons old id items new → Knows old.memory → Knows new.memory
  ingestion_knows id items (inl fault) knows = becomes (memory.poisoned old.memory) fault.memory_is (stays.fault old.memory knows)
  ingestion_knows id items (inr (inl fault)) knows = becomes (memory.poisoned (journal_synced_in old)) fault.memory_is (stays.fault (journal_synced_in old) (synced_knows knows))
  ingestion_knows id items (inr (inr (mid, left, f, evicts, fault))) knows =
      let m = memory.with_sealed_in_memory left.journals.sealed (journal_synced_in old) in
      becomes (memory.poisoned m) fault.memory_is (stays.fault m (stays.evicted (journal_synced_in old) left.journals.sealed (synced_knows knows)))

  work_knows : (shape : CallShape) → WorkPoisons old shape new → Knows old.memory → Knows new.memory
  work_knows (OfFlushBegin id) (begins, free, fault) knows = becomes (memory.poisoned old.memory) fault.memory_is (stays.fault old.memory knows)
  work_knows (OfFlushFinish job) (due, well, inl fault) knows = becomes (memory.poisoned old.memory) fault.memory_is (stays.fault old.memory knows)
  work_knows (OfFlushFinish job) (due, well, inr (mid, left, f, evicts, fault)) knows =
      becomes (memory.poisoned left) fault.memory_is (stays.fault left (evicts_knows mid left evicts (flushed_knows job.keyspace_id mid f knows)))
  work_knows (OfMergeBegin kind id) (begins, numbered, looks, rose) knows = looks_knows looks knows
  work_knows (OfMergeFinish job) (due, well, inl fault) knows = becomes (memory.poisoned old.memory) fault.memory_is (stays.fault old.memory knows)
  work_knows (OfMergeFinish job) (due, well, inr (mid, f, fault)) knows = becomes (memory.poisoned mid) fault.memory_is (stays.fault mid (merged_knows job.keyspace_id mid f knows))
  work_knows OfMaintenance (left, evicts, fault) knows = becomes (memory.poisoned left) fault.memory_is (stays.fault left (evicts_knows old.memory left evicts knows))
  work_knows (OfIngestion id []) fails knows = absurd fails
  work_knows (OfIngestion id (item ∷ items)) (left, fails) knows = ingestion_knows id (item ∷ items) fails knows
  work_knows (OfChange change how) fails knows = absurd fails
  work_knows (OfCreation name options) fails knows = absurd fails
  work_knows (OfDeletion id) fails knows = absurd fails
  work_knows (OfHandle call id) fails knows = absurd fails
  work_knows (OfRotation id) fails knows = absurd fails
  work_knows OfJournalRotation fails knows = absurd fails
  work_knows (OfRead view id query) fails knows = absurd fails
  work_knows (OfTickets call) fails knows = absurd fails
  work_knows (OfPersist mode) fails knows = absurd fails
  work_knows (OfCount count) fails knows = absurd fails

  out_knows : (shape : CallShape) → RanOut old shape new → Knows old.memory → Knows new.memory
  out_knows (OfHandle OneLess id) (same, later) knows = becomes old.memory (ap (λ (h : Held). h.memory) same) knows
  out_knows (OfHandle OneMore id) same knows = same_core same knows
  out_knows (OfChange change how) same knows = same_core same knows
  out_knows (OfIngestion id items) same knows = same_core same knows
  out_knows (OfCreation name options) same knows = same_core same knows
  out_knows (OfDeletion id) same knows = same_core same knows
  out_knows (OfRotation id) same knows = same_core same knows
  out_knows OfJournalRotation same knows = same_core same knows
  out_knows (OfFlushBegin id) same knows = same_core same knows
  out_knows (OfFlushFinish job) same knows = same_core same knows
  out_knows (OfMergeBegin kind id) (begins, looks) knows = looks_knows looks knows
  out_knows (OfMergeFinish job) same knows = same_core same knows
  out_knows OfMaintenance same knows = same_core same knows
  out_knows (OfRead view id query) looks knows = looked_knows (tables_of old id) looks knows
  out_knows (OfTickets call) same knows = same_core same knows
  out_knows (OfPersist mode) same knows = same_core same knows
  out_knows (OfCount count) same knows = same_core same knows

  disorder_knows : (shape : CallShape) → FindsDisorder old shape new → Knows old.memory → Knows new.memory
  disorder_knows (OfMergeBegin kind id) (begins, numbered, looks) knows = looks_knows looks knows
  disorder_knows (OfMergeFinish job) (out, same) knows = same_core same knows
  disorder_knows shape none knows = absurd none

  failure_knows : (shape : CallShape) (error : Error) → OwesFailure old shape error new → Knows old.memory → Knows new.memory
  failure_knows shape (Io kind) (inl (changes, fault)) knows =
      becomes (memory.poisoned (memory_at_fault shape old.memory)) fault.memory_is (stays.fault (memory_at_fault shape old.memory) (fault_knows shape knows))
  failure_knows shape (Io kind) (inr (inl (reads, looks, rose))) knows = looks_knows looks knows
  failure_knows shape (Io kind) (inr (inr fails)) knows = work_knows shape fails knows
  failure_knows shape OutOfMemory (takes, out) knows = out_knows shape out knows
  failure_knows shape (Storage told) (is, inl (reads, looks)) knows = looks_knows looks knows
  failure_knows shape (Storage told) (is, inr found) knows = disorder_knows shape found knows
  failure_knows shape ValueTooLong (long, same) knows = same_core same knows
  failure_knows shape Poisoned (late, same) knows = same_core same knows
  failure_knows shape NumbersUsedUp (used, same) knows = same_core same knows
  failure_knows shape TooManyItems (room, same) knows = same_core same knows
  failure_knows shape error bad knows = absurd bad

  refusal_knows : (shape : CallShape) (error : Error) (first : Option Error) → OwesRefusal first old shape error new → Knows old.memory → Knows new.memory
  refusal_knows shape error (Some first) (is, same) knows = same_core same knows
  refusal_knows shape error None failure knows = failure_knows shape error failure knows

  change_knows : (change : Change) (how : Persistence) → OwesChange old change how new → Knows old.memory → Knows new.memory
  change_knows (Items []) how same knows = same_core same knows
  change_knows (Items (item ∷ items)) how grows knows = becomes (memory.with_change (Items (item ∷ items)) old.memory) grows.memory_is (stays.change old.memory (Items (item ∷ items)) knows)
  change_knows (Emptied id) how grows knows = becomes (memory.with_change (Emptied id) old.memory) grows.memory_is (stays.change old.memory (Emptied id) knows)

  rotation_knows : (id : ℕ) (seals : Bool) → new ≡ (if seals then record old { memory = memory.rotated_in_memory id old.memory } else old) → Knows old.memory → Knows new.memory
  rotation_knows id true is knows = becomes (memory.rotated_in_memory id old.memory) (ap (λ (h : Held). h.memory) is) (stays.rotation old.memory id knows)
  rotation_knows id false is knows = same_core is knows

  begin_knows : (id : ℕ) (reply : Reply) (begins : Bool) → OwesBegin begins old id reply new → Knows old.memory → Knows new.memory
  begin_knows id reply true (told, free, at) knows =
      becomes (memory.flush_out_in_memory id (journal_synced_in old)) at.memory_is (stays.begun (journal_synced_in old) id (synced_knows knows))
  begin_knows id reply false (told, same) knows = same_core same knows

  finish_knows : (job : JobId) (reply : Reply) (out takes : Bool) → OwesFinish out takes old job reply new → Knows old.memory → Knows new.memory
  finish_knows job reply true true (told, well, mid, f, at) knows =
      becomes (evicted_in_memory mid) at.memory_is (stays.evicted mid (staying (memory.flushed_by mid.keyspaces mid.records) mid.journals.sealed) (flushed_knows job.keyspace_id mid f knows))
  finish_knows job reply true false (told, is) knows = becomes (memory.flush_gone_in_memory job.keyspace_id old.memory) (ap (λ (h : Held). h.memory) is) (stays.dropped old.memory job.keyspace_id knows)
  finish_knows job reply false takes (told, same) knows = same_core same knows

  merge_begin_knows : (id : ℕ) (reply : Reply) (begins : Bool) → OwesMergeBegin begins old id reply new → Knows old.memory → Knows new.memory
  merge_begin_knows id reply true (told, numbered, at) knows =
      becomes (memory.with_trees new.memory.trees (memory.merge_out_in_memory id old.memory)) at.memory_is (stays.merging old.memory id new.memory.trees at.trees knows)
  merge_begin_knows id reply false (told, same) knows = same_core same knows

  merge_knows : (job : JobId) (reply : Reply) (out lives : Bool) → OwesMerge out lives old job reply new → Knows old.memory → Knows new.memory
  merge_knows job reply true true (told, well, mid, f, at) knows = becomes (memory.with_merge_done mid) at.memory_is (stays.counted mid (merged_knows job.keyspace_id mid f knows))
  merge_knows job reply true false (told, is) knows = becomes (memory.merge_gone_in_memory job.keyspace_id old.memory) (ap (λ (h : Held). h.memory) is) (stays.unmerged old.memory job.keyspace_id knows)
  merge_knows job reply false lives (told, same) knows = same_core same knows

  ingest_knows : (id : ℕ) (items : List KeyOp) (reply : Reply) → OwesIngestion id items old reply new → Knows old.memory → Knows new.memory
  ingest_knows id [] reply (told, same) knows = same_core same knows
  ingest_knows id (item ∷ items) reply (told, left, at) knows =
      let mid = at.mid in
      becomes (evicted_in_memory mid) at.memory_is
      (stays.evicted mid (staying (memory.flushed_by mid.keyspaces mid.records) mid.journals.sealed) (ingested_knows id (item ∷ items) mid at.ingested knows))

  gives_knows : (shape : CallShape) (reply : Reply) → Gives old shape reply new → Knows old.memory → Knows new.memory
  gives_knows (OfChange change how) reply (told, owes) knows = change_knows change how owes knows
  gives_knows (OfIngestion id items) reply owes knows = ingest_knows id items reply owes knows
  gives_knows (OfCreation name options) reply (id, told, inl (found, same)) knows = same_core same knows
  gives_knows (OfCreation name options) reply (id, told, inr (fresh, is, creates)) knows = becomes (memory.with_creation name options old.memory) creates.memory_is (stays.creation old.memory name options knows)
  gives_knows (OfDeletion id) reply (told, inl (gone, same)) knows = same_core same knows
  gives_knows (OfDeletion id) reply (told, inr (living, deletes)) knows = becomes (memory.with_deletion id old.memory) deletes.memory_is (stays.deletion old.memory id knows)
  gives_knows (OfHandle OneMore id) reply (told, is) knows = becomes (memory.retained id old.memory) (ap (λ (h : Held). h.memory) is) (stays.retained old.memory id knows)
  gives_knows (OfHandle OneLess id) reply (told, counts) knows = becomes (memory.released_in_memory id old.memory) counts.memory_is (stays.released old.memory id knows)
  gives_knows (OfRotation id) reply (told, is) knows = rotation_knows id (rotates old.memory.trees id) is knows
  gives_knows OfJournalRotation reply (told, turns) knows =
      becomes (memory.journal_rotated_in_memory (written_out old.journal).len old.memory) turns.memory_is (stays.journal old.memory (written_out old.journal).len knows)
  gives_knows (OfFlushBegin id) reply begins knows = begin_knows id reply (begins_flush old.memory.trees id) begins knows
  gives_knows (OfFlushFinish job) reply finishes knows = finish_knows job reply (is_flushing old.memory.trees job) (takes_effect_in old job) finishes knows
  gives_knows (OfMergeBegin kind id) reply begins knows = merge_begin_knows id reply (begins_merge_in old kind id) begins knows
  gives_knows (OfMergeFinish job) reply finishes knows = merge_knows job reply (is_merging old.memory.trees job) (is_living (store_in old) job.keyspace_id) finishes knows
  gives_knows OfMaintenance reply (told, at) knows =
      becomes (evicted_in_memory old.memory) at.memory_is (stays.evicted old.memory (staying (memory.flushed_by old.memory.keyspaces old.memory.records) old.memory.journals.sealed) knows)
  gives_knows (OfRead view id query) reply (told, looks) knows = looked_knows (tables_of old id) looks knows
  gives_knows (OfTickets call) reply (turns, is) knows = becomes (memory.with_tickets new.memory.tickets old.memory) (ap (λ (h : Held). h.memory) is) (stays.tickets old.memory new.memory.tickets knows)
  gives_knows (OfPersist mode) reply (told, hands) knows = becomes old.memory hands.memory_is knows
  gives_knows (OfCount count) reply (told, same) knows = same_core same knows

  -- whatever call is served
  pub owed_stays : (shape : CallShape) (reply : Reply) → Owes old shape reply new → Knows old.memory → Knows new.memory
  owed_stays shape (Refused error) owes knows = refusal_knows shape error (held_due old shape) owes knows
  owed_stays shape reply (none, gives) knows = gives_knows shape reply gives knows

-- ---- a job that is known

-- what is known of a flush stays known
pub flush_known : (old new : Held) (shape : CallShape) (reply : Reply) → Owes old shape reply new → (task : Task) → KnowsTask old.memory task → KnowsTask new.memory task
flush_known old new shape reply owes task = owed_stays (λ m. KnowsTask m task) (task_stays task) old new shape reply owes

module _ (old new : Held) (shape : CallShape) (reply : Reply) (owes : Owes old shape reply new) where
  -- so with each that is kept
  still_known : (kept : Job) → IsFlushKnown old.memory kept → IsFlushKnown new.memory kept
  still_known (Flush kept) known = flush_known old new shape reply owes (flush_task kept) known
  still_known (Merge kept) known = tt

  pub all_known : (jobs : List Job) → All (λ kept. IsFlushKnown old.memory kept) jobs → All (λ kept. IsFlushKnown new.memory kept) jobs
  all_known jobs known i d lt = still_known (get_or jobs i d) (known i d lt)

  -- a job that isn't out before a call isn't out behind it
  gone_on : (kind : JobKind) (job : JobId) → job.number < old.memory.next_job → is_out old.memory kind job ≡ false → is_out new.memory kind job ≡ true → ⊥
  gone_on kinds.Flush job given none = (owed_stays (IsGone job) (gone_stays job) old new shape reply owes (given, λ is. true≢false (sym is ∙ none))).1
  gone_on kinds.Merge job given none = (owed_stays (IsMergeGone job) (merge_gone_stays job) old new shape reply owes (given, λ is. true≢false (sym is ∙ none))).1

  -- it stays known where that stays kept which is out
  pub name_known : (jobs others : List Job) (job : JobId) → ((kind : JobKind) → is_out new.memory kind job ≡ true → is_kept kind job jobs ≡ true → is_kept kind job others ≡ true)
      → IsJobKnown old.memory jobs job → IsJobKnown new.memory others job
  name_known jobs others job carry known = record {
    given = owed_stays (λ m. job.number < m.next_job) (given_stays job.number) old new shape reply owes known.given;
    kept = λ kind. by kind (is_out old.memory kind job) refl;
  }
    where
      by : (kind : JobKind) (out : Bool) → is_out old.memory kind job ≡ out → is_out new.memory kind job ≡ true → is_kept kind job others ≡ true
      by kind false none out = absurd (gone_on kind job known.given none out)
      by kind true is out = carry kind out (known.kept kind is)

-- a reply more
at_reply : (replies : List Reply) (reply : Reply) (place : ℕ) (other : Reply) → slice_get (replies ++ reply ∷ []) place ≡ Some other → (slice_get replies place ≡ Some other) ⊎ (reply ≡ other)
at_reply [] reply zero other is = inr (some_is reply other is)
at_reply [] reply (suc place) other is = let no : None ≡ Some other = is in absurd cc
at_reply (r ∷ replies) reply zero other is = inl is
at_reply (r ∷ replies) reply (suc place) other is = at_reply replies reply place other is

-- ---- plain calls

-- the counts, reads and calls on tickets begin no job
count_begins : (core : Held) (count : Count) (job : JobId) → HeldCount core count (Began (Some job)) → ⊥
count_begins core Keyspaces job told = let bad : ⊥ = cc in bad
count_begins core shapes.Names job (names, told, all, sorted) = let bad : ⊥ = cc in bad
count_begins core (Exists name) job told = let bad : ⊥ = cc in bad
count_begins core Next job told = let bad : ⊥ = cc in bad
count_begins core Visible job told = let bad : ⊥ = cc in bad
count_begins core shapes.Journals job told = let bad : ⊥ = cc in bad
count_begins core JournalSpace job told = let bad : ⊥ = cc in bad
count_begins core OpenTickets job told = let bad : ⊥ = cc in bad
count_begins core (Entries id) job told = let bad : ⊥ = cc in bad
count_begins core (SealedMemtables id) job told = let bad : ⊥ = cc in bad
count_begins core WriteBuffer job told = let bad : ⊥ = cc in bad
count_begins core (shapes.WantsRotation id) job told = let bad : ⊥ = cc in bad
count_begins core (Tables id) job told = let bad : ⊥ = cc in bad
count_begins core (TablesL0 id) job told = let bad : ⊥ = cc in bad
count_begins core (DiskSpace id) job told = let bad : ⊥ = cc in bad
count_begins core Flushes job told = let bad : ⊥ = cc in bad
count_begins core MergesOut job told = let bad : ⊥ = cc in bad
count_begins core MergesDone job told = let bad : ⊥ = cc in bad
count_begins core ToFlush job (ids, told, ascend, is) = let bad : ⊥ = cc in bad

read_begins : (old : Held) (view : _) (id : ℕ) (query : Query) (job : JobId) (tables : List Reader) → GivesRead tables old view id query (Began (Some job)) → ⊥
read_begins old view id (Get key) job [] told = let bad : ⊥ = cc in bad
read_begins old view id (Page range back max) job [] (found, told, is) = let bad : ⊥ = cc in bad
read_begins old view id (Get key) job (t ∷ tables) (found, told) = let bad : ⊥ = cc in bad
read_begins old view id (Page range back max) job (t ∷ tables) (found, told) = let bad : ⊥ = cc in bad

finish_begins : (old new : Held) (named job : JobId) (out takes : Bool) → OwesFinish out takes old named (Began (Some job)) new → ⊥
finish_begins old new named job true true (told, well, mid, f, at) = let bad : ⊥ = cc in bad
finish_begins old new named job true false (told, is) = let bad : ⊥ = cc in bad
finish_begins old new named job false takes (told, same) = let bad : ⊥ = cc in bad

merge_begins : (old new : Held) (named job : JobId) (out lives : Bool) → OwesMerge out lives old named (Began (Some job)) new → ⊥
merge_begins old new named job true true (told, well, mid, f, at) = let bad : ⊥ = cc in bad
merge_begins old new named job true false (told, is) = let bad : ⊥ = cc in bad
merge_begins old new named job false lives (told, same) = let bad : ⊥ = cc in bad

-- a call that begins no job
abbrev pub BeginsNone : CallShape → Type 0
BeginsNone (OfFlushBegin id) = ⊥
BeginsNone (OfMergeBegin kind id) = ⊥
BeginsNone shape = Unit {0}

-- no such call is answered with a job
pub none_begun : (old new : Held) (shape : CallShape) (job : JobId) → BeginsNone shape → Gives old shape (Began (Some job)) new → ⊥
none_begun old new (OfChange change how) job other (told, owes) = let bad : ⊥ = cc in bad
none_begun old new (OfIngestion id []) job other (told, same) = let bad : ⊥ = cc in bad
none_begun old new (OfIngestion id (item ∷ items)) job other (told, left, at) = let bad : ⊥ = cc in bad
none_begun old new (OfCreation name options) job other (id, told, owes) = let bad : ⊥ = cc in bad
none_begun old new (OfDeletion id) job other (told, owes) = let bad : ⊥ = cc in bad
none_begun old new (OfHandle OneMore id) job other (told, is) = let bad : ⊥ = cc in bad
none_begun old new (OfHandle OneLess id) job other (told, counts) = let bad : ⊥ = cc in bad
none_begun old new (OfRotation id) job other (told, is) = let bad : ⊥ = cc in bad
none_begun old new OfJournalRotation job other (told, turns) = let bad : ⊥ = cc in bad
none_begun old new (OfFlushBegin id) job other begins = absurd other
none_begun old new (OfFlushFinish named) job other finishes = finish_begins old new named job (is_flushing old.memory.trees named) (takes_effect_in old named) finishes
none_begun old new (OfMergeBegin kind id) job other begins = absurd other
none_begun old new (OfMergeFinish named) job other finishes = merge_begins old new named job (is_merging old.memory.trees named) (is_living (store_in old) named.keyspace_id) finishes
none_begun old new OfMaintenance job other (told, at) = let bad : ⊥ = cc in bad
none_begun old new (OfRead view id query) job other (told, looks) = read_begins old view id query job (tables_of old id) told
none_begun old new (OfTickets Open) job other ((told, turns), is) = let bad : ⊥ = cc in bad
none_begun old new (OfTickets (Clone id)) job other ((instant, at, told, turns), is) = let bad : ⊥ = cc in bad
none_begun old new (OfTickets (Close id)) job other ((told, turns), is) = let bad : ⊥ = cc in bad
none_begun old new (OfTickets Collect) job other ((told, turns), is) = let bad : ⊥ = cc in bad
none_begun old new (OfPersist mode) job other (told, hands) = let bad : ⊥ = cc in bad
none_begun old new (OfCount count) job other (told, same) = count_begins old count job told

-- ---- what is kept behind a call

module _ (old new : Held) (jobs : List Job) (replies : List Reply) (keeps : KeepsJobs old.memory jobs replies) (shape : CallShape) (reply : Reply) (owes : Owes old shape reply new) where
  -- another list of jobs that are known, which has those that are out, and the one that began
  pub keeps_with : (others : List Job) → All (λ kept. IsFlushKnown new.memory kept) others
      → ((kind : JobKind) (job : JobId) → is_out new.memory kind job ≡ true → is_kept kind job jobs ≡ true → is_kept kind job others ≡ true)
      → ((job : JobId) → reply ≡ Began (Some job) → IsJobKnown new.memory others job) → KeepsJobs new.memory others (replies ++ reply ∷ [])
  keeps_with others known carry began = record { known = known; named = λ place job told. by place job (at_reply replies reply place (Began (Some job)) told) }
    where
      by : (place : ℕ) (job : JobId) → (slice_get replies place ≡ Some (Began (Some job))) ⊎ (reply ≡ Began (Some job)) → IsJobKnown new.memory others job
      by place job (inl told) = name_known old new shape reply owes jobs others job (λ kind. carry kind job) (keeps.named place job told)
      by place job (inr is) = began job is

  -- the jobs that were kept are known still
  kept_known : All (λ kept. IsFlushKnown new.memory kept) jobs
  kept_known = all_known old new shape reply owes jobs keeps.known

  -- the list stays as it is, where no job began
  same_list : (others : List Job) → others ≡ jobs → ((job : JobId) → reply ≡ Began (Some job) → ⊥) → KeepsJobs new.memory others (replies ++ reply ∷ [])
  same_list others same none =
      subst (λ (l : List Job). KeepsJobs new.memory l (replies ++ reply ∷ [])) (sym same) (keeps_with jobs kept_known (λ kind job out kept. kept) (λ job is. absurd (none job is)))

  -- a call that begins no job is answered with none
  unbegun : BeginsNone shape → (job : JobId) → reply ≡ Began (Some job) → ⊥
  unbegun none job is = none_begun old new shape job none (subst (λ (r : Reply). Owes old shape r new) is owes).1

  -- a call that begins no job, and leaves the list as it is
  pub keeps_on : BeginsNone shape → KeepsJobs new.memory jobs (replies ++ reply ∷ [])
  keeps_on none = same_list jobs refl (unbegun none)

-- ---- a job that begins

-- It is named by the next number, and no merge has that.
begun_flush : (old new : Held) (id : ℕ) (job : JobId) → IsLawful old.memory → Owes old (OfFlushBegin id) (Began (Some job)) new → (job.number < new.memory.next_job) × (is_merging new.memory.trees job ≡ true → ⊥)
begun_flush old new id job lawful (none, gives) = by (begins_flush old.memory.trees id) gives
  where
    synced_trees : (long : Bool) (len : ℕ) → (if long then memory.journal_rotated_in_memory len old.memory else old.memory).trees ≡ old.memory.trees
    synced_trees true len = refl
    synced_trees false len = refl

    synced_next : (long : Bool) (len : ℕ) → (if long then memory.journal_rotated_in_memory len old.memory else old.memory).next_job ≡ old.memory.next_job
    synced_next true len = refl
    synced_next false len = refl

    by : (begins : Bool) → OwesBegin begins old id (Began (Some job)) new → (job.number < new.memory.next_job) × (is_merging new.memory.trees job ≡ true → ⊥)
    by true (told, free, at) =
        let named : job ≡ record { number = old.memory.next_job; keyspace_id = id } = cc in
        let number : job.number ≡ old.memory.next_job = ap (λ (j : JobId). j.number) named in
        let next : new.memory.next_job ≡ old.memory.next_job + 1 = ap (λ (m : Remembered). m.next_job) at.memory_is ∙ ap (λ (n : ℕ). n + 1) (synced_next (is_journal_long old.journal) (written_out old.journal).len) in (
          omega (arith, number, next),
          λ out.
              let there = merges_before (journal_synced_in old) id job (ap (λ (m : Remembered). is_merging m.trees job) (sym at.memory_is) ∙ out) in
              let given = merge_given old.memory job lawful (ap (λ (trees : Forest). is_merging trees job) (sym (synced_trees (is_journal_long old.journal) (written_out old.journal).len)) ∙ there) in
              omega (arith, given, number),
        )
    by false (told, same) = let bad : ⊥ = cc in absurd bad

-- the same of a merge, and no flush has it
begun_merge : (old new : Held) (kind : MergeKind) (id : ℕ) (job : JobId) → IsLawful old.memory → Owes old (OfMergeBegin kind id) (Began (Some job)) new → (job.number < new.memory.next_job) × (is_flushing new.memory.trees job ≡ true → ⊥)
begun_merge old new kind id job lawful (none, gives) = by (begins_merge_in old kind id) gives
  where
    by : (begins : Bool) → OwesMergeBegin begins old id (Began (Some job)) new → (job.number < new.memory.next_job) × (is_flushing new.memory.trees job ≡ true → ⊥)
    by true (told, numbered, at) =
        let named : job ≡ record { number = old.memory.next_job; keyspace_id = id } = cc in
        let number : job.number ≡ old.memory.next_job = ap (λ (j : JobId). j.number) named in
        let next : new.memory.next_job ≡ old.memory.next_job + 1 = ap (λ (m : Remembered). m.next_job) at.memory_is in (
          omega (arith, number, next),
          λ out. let given = flush_given old.memory job lawful (flushes_before old.memory id new.memory.trees at.trees job out) in omega (arith, given, number),
        )
    by false (told, same) = let bad : ⊥ = cc in absurd bad

-- It was given out, and no job of another kind is out under it.
begun_alone : (old new : Held) (begin : JobBegin) (id : ℕ) (job : JobId) → IsLawful old.memory → Owes old (begin_of begin id) (Began (Some job)) new
    → (job.number < new.memory.next_job) × ((kind : JobKind) → is_out new.memory kind job ≡ true → kind ≡ begun_kind begin)
begun_alone old new begins.Flush id job lawful owes = let fresh = begun_flush old new id job lawful owes in (fresh.0, by fresh.1)
  where
    by : (is_merging new.memory.trees job ≡ true → ⊥) → (kind : JobKind) → is_out new.memory kind job ≡ true → kind ≡ kinds.Flush
    by none kinds.Flush out = refl
    by none kinds.Merge out = absurd (none out)
begun_alone old new (begins.Merge kind) id job lawful owes = let fresh = begun_merge old new kind id job lawful owes in (fresh.0, by fresh.1)
  where
    by : (is_flushing new.memory.trees job ≡ true → ⊥) → (kind : JobKind) → is_out new.memory kind job ≡ true → kind ≡ kinds.Merge
    by none kinds.Flush out = absurd (none out)
    by none kinds.Merge out = refl

module _ (old new : Held) (begin : JobBegin) (id : ℕ) (jobs others : List Job) (replies : List Reply) (keeps : KeepsJobs old.memory jobs replies) (lawful : IsLawful old.memory) where
  one_more : (began : JobId) → Owes old (begin_of begin id) (Began (Some began)) new → Keeps (begun_kind begin) new.memory (Began (Some began)) jobs others → KeepsJobs new.memory others (replies ++ Began (Some began) ∷ [])
  one_more began owes (kept, is, knows, name) =
      let shape = begin_of begin id in
      let reply = Began (Some began) in
      let known = All-push (λ (k : Job). IsFlushKnown new.memory k) jobs kept (kept_known old new jobs replies keeps shape reply owes) knows in
      keeps_with old new jobs replies keeps shape reply owes others (subst (λ (l : List Job). All (λ k. IsFlushKnown new.memory k) l) (sym is) known)
      (λ kind q out was. ap (is_kept kind q) is ∙ any_more (is_named kind q) jobs kept was) (λ q told. by q told)
    where
      by : (q : JobId) → Began (Some began) ≡ Began (Some q) → IsJobKnown new.memory others q
      by q told =
          let same : began ≡ q = cc in
          let fresh = begun_alone old new begin id began lawful owes in
          subst (IsJobKnown new.memory others) same (record {
            given = fresh.0;
            kept = λ kind out. ap (is_kept kind began) is ∙ any_last (is_named kind began) jobs kept (subst (λ (k : JobKind). is_named k began kept ≡ true) (sym (fresh.1 kind out)) name);
          })

  pub keeps_begun : (reply : Reply) → Owes old (begin_of begin id) reply new → Keeps (begun_kind begin) new.memory reply jobs others → KeepsJobs new.memory others (replies ++ reply ∷ [])
  keeps_begun (Began (Some began)) owes more = one_more began owes more
  keeps_begun (Began None) owes alike = same_list old new jobs replies keeps (begin_of begin id) (Began None) owes others alike (λ job is. let bad : ⊥ = cc in bad)
  keeps_begun reply owes alike = same_list old new jobs replies keeps (begin_of begin id) reply owes others alike (λ job is. let bad : ⊥ = cc in bad)

-- ---- a job that is finished

-- what a change of one tree makes of what is told of it
tree_here : (id : ℕ) (change : Tree → Tree) (Holds : Tree → Type 0) → Holds (bare_tree 0) → ((tree : Tree) → Holds (change tree)) → (trees : Forest) → Holds (shape_in id (altered_at id change trees))
tree_here id change Holds bare has trees = subst (λ (o : Option Tree). Holds (unwrap_or o (bare_tree 0))) (sym (altered_here id change trees)) (by (tree_at id trees))
  where
    by : (o : Option Tree) → Holds (unwrap_or (option_map change o) (bare_tree 0))
    by None = bare
    by (Some tree) = has tree

-- behind an answer its flush isn't out
flush_ended : (old new : Held) (job : JobId) (done : Bool) → Owes old (OfFlushFinish job) (Flag done) new → is_flushing new.memory.trees job ≡ false
flush_ended old new job done (none, gives) = by (is_flushing old.memory.trees job) refl (takes_effect_in old job) gives
  where
    gone : (change : Tree → Tree) → ((tree : Tree) → (change tree).flush ≡ None) → is_flushing (altered_at job.keyspace_id change old.memory.trees) job ≡ false
    gone change none = tree_here job.keyspace_id change (λ tree. is_flush_out job.number tree.flush ≡ false) refl (λ tree. ap (is_flush_out job.number) (none tree)) old.memory.trees

    by : (out : Bool) → is_flushing old.memory.trees job ≡ out → (takes : Bool) → OwesFinish out takes old job (Flag done) new → is_flushing new.memory.trees job ≡ false
    by true is true (told, well, mid, f, at) =
        ap (λ (m : Remembered). is_flushing m.trees job) at.memory_is ∙ ap (λ (m : Remembered). is_flushing m.trees job) f.is ∙ gone (flush_finished f.readers f.begun.out) (λ tree. refl)
    by true is false (told, at) = ap (λ (h : Held). is_flushing h.memory.trees job) at ∙ gone flush_dropped (λ tree. refl)
    by false is takes (told, same) = ap (λ (h : Held). is_flushing h.memory.trees job) same ∙ is

-- and so of its merge
merge_ended : (old new : Held) (job : JobId) (done : Bool) → Owes old (OfMergeFinish job) (Flag done) new → is_merging new.memory.trees job ≡ false
merge_ended old new job done (none, gives) = by (is_merging old.memory.trees job) refl (is_living (store_in old) job.keyspace_id) gives
  where
    gone : (change : Tree → Tree) → ((tree : Tree) → (change tree).merge ≡ None) → is_merging (altered_at job.keyspace_id change old.memory.trees) job ≡ false
    gone change none = tree_here job.keyspace_id change (λ tree. is_merge_out job.number tree.merge ≡ false) refl (λ tree. ap (is_merge_out job.number) (none tree)) old.memory.trees

    by : (out : Bool) → is_merging old.memory.trees job ≡ out → (lives : Bool) → OwesMerge out lives old job (Flag done) new → is_merging new.memory.trees job ≡ false
    by true is true (told, well, mid, f, at) =
        ap (λ (m : Remembered). is_merging m.trees job) at.memory_is ∙ ap (λ (m : Remembered). is_merging m.trees job) f.is ∙ gone (merge_finished f.readers f.out) (λ tree. refl)
    by true is false (told, at) = ap (λ (h : Held). is_merging h.memory.trees job) at ∙ gone merge_dropped (λ tree. refl)
    by false is lives (told, same) = ap (λ (h : Held). is_merging h.memory.trees job) same ∙ is

-- neither it is out
ended : (old new : Held) (kind : JobKind) (job : JobId) (done : Bool) → Owes old (finish_of kind job) (Flag done) new → is_out new.memory kind job ≡ false
ended old new kinds.Flush job done owes = flush_ended old new job done owes
ended old new kinds.Merge job done owes = merge_ended old new job done owes

-- A list without the job of this kind and name, which is out no more; or with it once more.
module _ (jobs : List Job) (kind : JobKind) (job : JobId) (kept : Job) (name : is_named kind job kept ≡ true) (place : ℕ) (at : slice_get jobs place ≡ Some kept) where
  abbrev rest : List Job
  rest = take place jobs ++ drop (place + 1) jobs

  one_less : (m : Remembered) → is_out m kind job ≡ false → (k : JobKind) (q : JobId) → is_out m k q ≡ true → is_kept k q jobs ≡ true → is_kept k q rest ≡ true
  one_less m none k q out was = by (is_named k q kept) refl
    where
      by : (b : Bool) → is_named k q kept ≡ b → is_kept k q rest ≡ true
      by true is = let same = same_name k kind q job kept is name in absurd (true≢false (sym out ∙ (λ i. is_out m (same.0 i) (same.1 i)) ∙ none))
      by false other = any_without (is_named k q) jobs place kept at other was

  one_back : (back : Job) → IsSameJob kept back → (k : JobKind) (q : JobId) → is_kept k q jobs ≡ true → is_kept k q (rest ++ back ∷ []) ≡ true
  one_back back same k q was = by (is_named k q kept) refl
    where
      by : (b : Bool) → is_named k q kept ≡ b → is_kept k q (rest ++ back ∷ []) ≡ true
      by true is = any_last (is_named k q) rest back (named_like kept back same k q ∙ is)
      by false other = any_more (is_named k q) rest back (any_without (is_named k q) jobs place kept at other was)

-- what was given back
gave_none : (kept : Job) (reply : Reply) → IsGivenBack kept reply None → (done : Bool) × (reply ≡ Flag done)
gave_none kept (Flag done) given = (done, refl)
gave_none kept (Refused error) given = absurd given
gave_none kept reply given = absurd given

pub gave_back : (kept : Job) (reply : Reply) (back : Job) → IsGivenBack kept reply (Some back) → IsSameJob kept back
gave_back kept (Flag done) back given = let no : Some back ≡ None = given in absurd cc
gave_back kept (Refused error) back given = given
gave_back kept reply back given = absurd given

known_like : (m : Remembered) (kept back : Job) → IsSameJob kept back → IsFlushKnown m kept → IsFlushKnown m back
known_like m (Flush kept) (Flush back) same known = subst (KnowsTask m) (sym same) known
known_like m (Merge kept) (Merge back) same known = tt
known_like m (Flush kept) (Merge back) same known = absurd same
known_like m (Merge kept) (Flush back) same known = absurd same

finish_begins_none : (kind : JobKind) (job : JobId) → BeginsNone (finish_of kind job)
finish_begins_none kinds.Flush job = tt
finish_begins_none kinds.Merge job = tt

module _ (old new : Held) (kind : JobKind) (job : JobId) (reply : Reply) (jobs others : List Job) (replies : List Reply) (keeps : KeepsJobs old.memory jobs replies) (owes : Owes old (finish_of kind job) reply new) where
  none_began : (q : JobId) → reply ≡ Began (Some q) → ⊥
  none_began = unbegun old new jobs replies keeps (finish_of kind job) reply owes (finish_begins_none kind job)

  -- another list of jobs that are known, which has those that are out
  other_list : (list : List Job) → others ≡ list → All (λ kept. IsFlushKnown new.memory kept) list
      → ((k : JobKind) (q : JobId) → is_out new.memory k q ≡ true → is_kept k q jobs ≡ true → is_kept k q list ≡ true) → KeepsJobs new.memory others (replies ++ reply ∷ [])
  other_list list is known carry =
      subst (λ (l : List Job). KeepsJobs new.memory l (replies ++ reply ∷ [])) (sym is) (keeps_with old new jobs replies keeps (finish_of kind job) reply owes list known carry (λ q told. absurd (none_began q told)))

  all : All (λ kept. IsFlushKnown new.memory kept) jobs
  all = kept_known old new jobs replies keeps (finish_of kind job) reply owes

  pub keeps_finished : KeepsOthers kind job reply jobs others → KeepsJobs new.memory others (replies ++ reply ∷ [])
  keeps_finished (inl alike) = same_list old new jobs replies keeps (finish_of kind job) reply owes others alike none_began
  keeps_finished (inr (kept, left, (name, place, at, is), inl (alike, given))) =
      let told = gave_none kept reply given in
      let gone = ended old new kind job told.0 (subst (λ (r : Reply). Owes old (finish_of kind job) r new) told.1 owes) in
      other_list (take place jobs ++ drop (place + 1) jobs) (alike ∙ is) (without_one (λ (k : Job). IsFlushKnown new.memory k) jobs place all)
      (one_less jobs kind job kept name place at new.memory gone)
  keeps_finished (inr (kept, left, (name, place, at, is), inr (back, alike, given))) =
      let same = gave_back kept reply back given in
      let P = λ (k : Job). IsFlushKnown new.memory k in
      let others_left = take place jobs ++ drop (place + 1) jobs in
      other_list (others_left ++ back ∷ []) (alike ∙ ap (λ (l : List Job). l ++ back ∷ []) is)
      (All-push P others_left back (without_one P jobs place all) (known_like new.memory kept back same (at_place P jobs place kept all at)))
      (λ k q out was. one_back jobs kind job kept name place at back same k q was)

-- ---- the job that a finish names

-- the number of a job that is out isn't the greatest
out_given : (m : Remembered) (kind : JobKind) (job : JobId) → IsLawful m → is_out m kind job ≡ true → job.number < 2 ^ 64 - 1
out_given m kinds.Flush job lawful out = let given = flush_given m job lawful out in let last = lawful.jobs in omega (arith, given, last)
out_given m kinds.Merge job lawful out = let given = merge_given m job lawful out in let last = lawful.jobs in omega (arith, given, last)

-- a name that the replies told
names_known : (m : Remembered) (jobs : List Job) (replies : List Reply) → KeepsJobs m jobs replies → (place : ℕ) → (job_begun (slice_get replies place)).number < 2 ^ 64 - 1 → IsJobKnown m jobs (job_begun (slice_get replies place))
names_known m jobs replies keeps place = by (slice_get replies place) refl
  where
    by : (o : Option Reply) → slice_get replies place ≡ o → (job_begun o).number < 2 ^ 64 - 1 → IsJobKnown m jobs (job_begun o)
    by (Some (Began (Some job))) told given = keeps.named place job told
    by (Some (Began None)) told given = let bad : ⊥ = omega (arith, given) in absurd bad
    by (Some reply) told given = let bad : ⊥ = omega (arith, given) in absurd bad
    by None told given = let bad : ⊥ = omega (arith, given) in absurd bad

finish_named : (replies : List Reply) (call : Call) (job : JobId) → FlushFinish job ≡ resolved replies call → (place : ℕ) × (job ≡ job_begun (slice_get replies place))
finish_named replies (FlushFinish named) job is = let same : job ≡ job_begun (slice_get replies named.number) = cc in (named.number, same)
finish_named replies call job is = let bad : ⊥ = cc in absurd bad

merge_named : (replies : List Reply) (call : Call) (job : JobId) → MergeFinish job ≡ resolved replies call → (place : ℕ) × (job ≡ job_begun (slice_get replies place))
merge_named replies (MergeFinish named) job is = let same : job ≡ job_begun (slice_get replies named.number) = cc in (named.number, same)
merge_named replies call job is = let bad : ⊥ = cc in absurd bad

-- the job that a finish in a list names is kept where it is out
named_kept : (m : Remembered) (jobs : List Job) (replies : List Reply) → IsLawful m → KeepsJobs m jobs replies → (kind : JobKind) (job : JobId) → (place : ℕ) × (job ≡ job_begun (slice_get replies place)) → is_out m kind job ≡ true
    → is_kept kind job jobs ≡ true
named_kept m jobs replies lawful keeps kind job at out =
    (subst (λ (j : JobId). j.number < 2 ^ 64 - 1 → IsJobKnown m jobs j) (sym at.1) (names_known m jobs replies keeps at.0) (out_given m kind job lawful out)).kept kind out

pub flush_kept : (m : Remembered) (jobs : List Job) (replies : List Reply) → IsLawful m → KeepsJobs m jobs replies → (call : Call) (job : JobId) → FlushFinish job ≡ resolved replies call → is_out m kinds.Flush job ≡ true
    → is_kept kinds.Flush job jobs ≡ true
flush_kept m jobs replies lawful keeps call job is = named_kept m jobs replies lawful keeps kinds.Flush job (finish_named replies call job is)

pub merge_kept : (m : Remembered) (jobs : List Job) (replies : List Reply) → IsLawful m → KeepsJobs m jobs replies → (call : Call) (job : JobId) → MergeFinish job ≡ resolved replies call → is_out m kinds.Merge job ≡ true
    → is_kept kinds.Merge job jobs ≡ true
merge_kept m jobs replies lawful keeps call job is = named_kept m jobs replies lawful keeps kinds.Merge job (merge_named replies call job is)

-- ---- calls

-- a call that is none of the five
pub plain_call : (call : Call) → ((id : ℕ) → call ≡ FlushBegin id → ⊥) → ((job : JobId) → call ≡ FlushFinish job → ⊥) → ((id : ℕ) → call ≡ MergeBegin id → ⊥)
    → ((id : ℕ) → call ≡ MajorBegin id → ⊥) → ((job : JobId) → call ≡ MergeFinish job → ⊥) → IsPlain (shape_of call)
plain_call (FlushBegin id) begins finishes merges majors ends = absurd (begins id refl)
plain_call (FlushFinish job) begins finishes merges majors ends = absurd (finishes job refl)
plain_call (MergeBegin id) begins finishes merges majors ends = absurd (merges id refl)
plain_call (MajorBegin id) begins finishes merges majors ends = absurd (majors id refl)
plain_call (MergeFinish job) begins finishes merges majors ends = absurd (ends job refl)
plain_call call begins finishes merges majors ends = tt

pub plain_begins : (shape : CallShape) → IsPlain shape → BeginsNone shape
plain_begins (OfFlushBegin id) plain = plain
plain_begins (OfMergeBegin kind id) plain = plain
plain_begins shape plain = tt

-- no job is kept before the first call
pub none_kept : (m : Remembered) (jobs : List Job) (replies : List Reply) → jobs ≡ [] → replies ≡ [] → KeepsJobs m jobs replies
none_kept m jobs replies no_jobs no_replies = record {
  known = subst (λ (l : List Job). All (λ kept. IsFlushKnown m kept) l) (sym no_jobs) (All-nil (λ (kept : Job). IsFlushKnown m kept));
  named = λ place job told. let no : None ≡ Some (Began (Some job)) = sym (ap (λ (l : List Reply). slice_get l place) no_replies) ∙ told in absurd cc;
}
