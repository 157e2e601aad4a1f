-- What a core stands for, and what its calls owe.
use Rattle.std.specs.Prelude.{All, Bool, ◌==◌, ◌||◌, ◌^◌, ◌-◌, count_by, map, nat_lt, ◌≡◌, ◌⊎◌, ℕ, ◌+◌, ◌<◌, ◌≤◌, ◌&&◌, true, false, nat_le, not, if◌then◌else◌, List, [], ◌∷◌, ◌++◌, length, codes, IfSome, MatchBool, MatchOption, Option, Some, None, is_none, take, Result, Ok, Err, OnOk, IsPermutation, IsSorted, Vec}
use Rattle.std.specs.FinMap.{len, values}
use Rattle.std.specs.List.Sorted.{IsStrictlyIncreasing}
use Rattle.std.specs.declared.alloc.Global.{Global}
use Rattle.fjall_base.specs.Pairs.{Bytes, byte_order}
use Rattle.fjall_base.specs.Store.{Store, Command, kept}
use Rattle.fjall_base.specs.Disk.{Meaning, Name, Took, TookPart, LeavesOnly, state_in}
use Rattle.fjall_base.specs.Disk as disk
use Rattle.fjall_base.specs.Errors.{Rose}
use Rattle.fjall_base.specs.declared.error.Error.{Error}
use Rattle.fjall_base.specs.declared.error.Error.TheVariants.{Io, NumbersUsedUp, OutOfMemory, Poisoned, Storage, TooManyItems, ValueTooLong}
use Rattle.fjall_base.specs.declared.error.Refused.{Refused as Refusal}
use Rattle.fjall_base.specs.declared.error.StorageError.TheVariants.{TableDamaged}
use Rattle.fjall_files.specs.Regions.{IsSafe, Within}
use Rattle.fjall_files.specs.Tidy.{StaysTidy}
use Rattle.fjall_recovery.specs.Amid.{HoldsAmid}
use Rattle.fjall_journal.specs.declared.persist_mode.PersistMode.{PersistMode}
use Rattle.fjall_journal.specs.declared.persist_mode.PersistMode.TheVariants.{SyncAll}
use Rattle.fjall_journal.specs.Writer.{BatchTook, Journal, after_command, batch_steps, counted, goes_out, persist_steps, written_out}
use Rattle.fjall_files.specs.Names.{journal_name, keyspace_folder, table_name}
use Rattle.fjall_recovery.specs.Halves.{is_of_keyspaces}
use Rattle.fjall_table.specs.Blocks.{Entry}
use Rattle.fjall_table_reader.specs.Readers.{AreRead, Reader, SomeTableIsWrong}
use Rattle.fjall_manifest.specs.Records.{Fields}
use Rattle.fjall_jobs.specs.declared.flush_job.FlushJob.{FlushJob}
use Rattle.fjall_jobs.specs.declared.flush_made.FlushMade.{FlushMade}
use Rattle.fjall_jobs.specs.declared.made_table.MadeTable.{MadeTable}
use Rattle.fjall_jobs.specs.declared.merge_job.MergeJob.{MergeJob}
use Rattle.fjall_jobs.specs.declared.merge_made.MergeMade.{MergeMade}
use Rattle.fjall_jobs.specs.Flushes.{flush_task}
use Rattle.fjall_jobs.specs.Merges.{merge_task}
use Rattle.fjall_jobs.specs.Tasks.{IsFlushed, Task}
use Rattle.fjall_tree.specs.Jobs.{IsFlushing, count_out}
use Rattle.fjall_tree.specs.Trees.{Merging, is_l0}
use Rattle.fjall_compaction.specs.Flushes.{flushed_infos, record_after_flush}
use Rattle.fjall_manifest.specs.Changes.{AreGone}
use Rattle.fjall_compaction.specs.Merges.{Merge}
use Rattle.fjall_compaction.specs.Merges as merges
use Rattle.fjall_compaction.specs.MergeFinishing as merging
use Rattle.fjall_replay.specs.Known.{AreListed, last_known}
use Rattle.fjall_meta.specs.declared.living.LivingKeyspace.{LivingKeyspace}
use Rattle.fjall_meta.specs.Keyspaces.{id_of, keyspace_at}
use Rattle.fjall_manifest.specs.declared.catalog.Catalog.{Catalog}
use Rattle.fjall_manifest.specs.Updates.{IsTableGone}
use Rattle.fjall_trees.specs.Maps.{pairs_in, store_of}
use Rattle.fjall_trees.specs.MapTables.{store_with}
use Rattle.fjall_recovery.specs.Folders.{Contents}
use Rattle.fjall_recovery.specs.Held.{Holds, store_of_folder}
use Rattle.fjall_opening.specs.Opened.{ComesBack}
use Rattle.fjall_changes.specs.Removals.{RemovesOwn}
use Rattle.fjall_files.specs.Evictions.{StoppedBehind, TookEvictions, evicting}
use Rattle.fjall_files.specs.Journals.{Sealed, bytes_of, names_of, staying, waited_for}
use Rattle.fjall_journal.specs.Rotations.{RotationTook, empty_journal, rotating}
use Rattle.fjall_trees.specs.Tables.{AreSameTrees, shape_in}
use Rattle.fjall_journal.specs.Changes.{Change, Items, Emptied, change_text}
use Rattle.fjall_history.specs.declared.job.JobId.{JobId}
use Rattle.fjall_history.specs.declared.ticket.Ticket.{Ticket}
use Rattle.fjall_history.specs.declared.reply.Reply.{Reply}
use Rattle.fjall_history.specs.declared.reply.Reply.TheVariants.{Began, Done, Ids, Value, Pairs, Number, Names, Flag, Opened, Refused}
use Rattle.fjall_history.specs.declared.ticket.View.{View}
use Rattle.fjall_history.specs.Queries.{Get, Page, Query, Tells}
use Rattle.fjall_machine.specs.declared.call.Call.{Call}
use Rattle.fjall_machine.specs.declared.merge_kind.MergeKind.{MergeKind}
use Rattle.fjall_machine.specs.Shapes.{Count, DiskSpace, Exists, Flushes, JournalSpace, Keyspaces, Next, OfChange, OfCount, OfCreation, OfDeletion, OfFlushBegin, OfFlushFinish, OfHandle, OfIngestion, OfJournalRotation, OfMergeBegin, OfMergeFinish, MergesDone, MergesOut, OfMaintenance, OfPersist, OfRead, OfRotation, OfTickets, OneLess, OneMore, OpenTickets, Persistence, Entries, SealedMemtables, CallShape, Tables, TablesL0, ToFlush, Visible, WriteBuffer, shape_of}
use Rattle.fjall_machine.specs.Shapes as shapes
use Rattle.fjall_machine.specs.Machine.{Parts, State, StepOf, Run, TakesMemory, ChangesDisk, FlushMeets, ReadsTables, TooLong, TurnsTickets, begins_flush, present, due_in, buffer_size, flush_count, LacksMergeIds, LacksMergeRoom, begins_merge, flush_with, names_one, is_among, is_flushing, is_living, is_merging, merge_count, mode_in, rotates, table_space, tables_space, version_count, wants_rotation}
use Rattle.fjall_machine.specs.Merging.{KnowsMerge}
use Rattle.fjall_machine.specs.Remembered.{IsLawful, KnowsTask, Remembered, facts_of, flushed_by, instant_in, is_last_in_memory, with_change, with_creation, with_deletion, with_tickets, with_trees, retained, released_in_memory, rotated_in_memory, poisoned}
use Rattle.fjall_machine.specs.Remembered as memory
use Rattle.fjall_machine.specs.Evicting.{going_in}
use Rattle.fjall_machine.specs.Ingesting as ingesting
use Rattle.fjall_compaction.specs.Whole.{LacksIds, LacksRecordRoom}
use Rattle.fjall_compaction.specs.Room.{IsTooLong, LacksNextId}
use Rattle.fjall_reading.specs.Ingestions.{KeyOp}
use Rattle.fjall_engine.specs.Durables.{Durable, Knows, StandsAmid, Passes, CrashLeavesPending, Lies, MakesPresent, StaysFinished}
use Rattle.fjall_engine.specs.Crashes.{BlamesDevice, CallPasses, RunOn, SafeSince, Tried, IsSyncAt, SafeAt, commands_asked}
use Rattle.fjall_engine.specs.Holding.{Held}

-- the keyspaces that stand in memory, with their names and options, and what their trees show without tables
abbrev pub store_in : Held → Store
store_in core = store_of core.memory.keyspaces core.memory.trees

-- The state is one that the core may be in.
pub record StandsFor (core : Held) (s : State) : Type 0 where
  pub remembered : memory.MemoryStandsFor core.memory core.catalog.next_table_id s
  pub journal : s.parts.journal ≡ core.journal.len
  pub buffer : s.parts.buffer ≡ length core.journal.buffer

-- the store that its trees show with their tables, where these have these entries
abbrev pub store_with_tables : (ℕ → List (List Entry)) → Held → Store
store_with_tables entries core = store_with entries core.memory.keyspaces core.memory.trees

-- The core stands on this disk, with this base and this pending, where its tables have these entries: whatever a crash leaves is
-- the base with a beginning of what is pending, in a folder whose making was finished. While no fault has poisoned it, both lie on
-- the disk as it knows, and it knows its keyspaces' homes.
pub record StandsOn (core : Held) (entries : ℕ → List (List Entry)) (d : Durable) : Type 0 where
  pub same : d.meaning ≡ core.disk
  pub rests : CrashLeavesPending d
  pub finished : StaysFinished (state_in d.meaning)
  pub lies : core.memory.poisoned ≡ false → Lies core d
  pub knows : (well : core.memory.poisoned ≡ false) → Knows core entries (lies well).journals (lies well).tree
  pub present : MakesPresent core.memory.poisoned d (store_with_tables entries core)

-- ---- what it reads

-- On this disk the tables of a keyspace, whose id is never 0, have these entries, but for wrong blocks, which a damaged keyspace alone
-- may have. Each is one of the keyspace's own, of an id below the next one, and no two have the same.
pub record LieAtHome (disk : Meaning) (id next : ℕ) (entries : List (List Entry)) (is_damaged : Bool) (tables : List Reader) : Type 0 where
  pub positive : 0 < id
  pub read : AreRead disk tables entries
  pub named : AreListed id next tables
  pub damage : SomeTableIsWrong disk tables → is_damaged ≡ true

-- the tables of each tree are those that the last record of its keyspace lists, in the same order
abbrev pub AreRecorded : Parts → Type 0
AreRecorded parts = All (λ k. map (λ t. t.info) k.shape.tables ≡ (parts.records k.id).tables) parts.trees

-- Its disk has the tables of all its trees, as the state says, whose records list them; and while no fault has poisoned it, its writer
-- goes on in a file outside of keyspaces' folders.
pub record ReadsOn (core : Held) (s : State) : Type 0 where
  pub tables : All (λ k. LieAtHome core.disk k.id (s.parts.records k.id).next_table_id (s.parts.entries k.id) (is_among s.damaged k.id) k.shape.tables) core.memory.trees
  pub writer : core.memory.poisoned ≡ false → is_of_keyspaces core.journal.name ≡ false
  pub recorded : AreRecorded s.parts

-- ---- what calls owe, whatever the disk is

-- the refusal that is due for a call of this core
abbrev pub held_due : Held → CallShape → Option Error
held_due core shape = due_in (facts_of core.memory core.catalog.next_table_id) shape

-- the mode of a change
abbrev pub mode_of : Held → Persistence → Option PersistMode
mode_of core how = mode_in (store_in core) how

-- the text of a change's batch
abbrev pub text_of : Held → Change → List ℕ
text_of core change = change_text change core.memory.next

-- the name of the journal that comes next
abbrev pub next_name : Held → Name
next_name core = journal_name (core.memory.journals.active + 1)

-- what is in memory after a fault of the disk, but that the core is poisoned: a handle is counted less all the same
abbrev pub memory_at_fault : CallShape → Remembered → Remembered
memory_at_fault (OfHandle OneLess id) m = released_in_memory id m
memory_at_fault shape m = m

-- A fault of the disk has poisoned the core, and what is in memory is this.
pub record Poisons (left : Remembered) (old new : Held) : Type 0 where
  pub memory_is : new.memory ≡ poisoned left
  pub faults : Rose old.disk.faults new.disk.faults

-- A read has looked at the disk, and of tables more is kept in memory, perhaps.
pub record Looks (old new : Held) : Type 0 where
  pub memory_is : new.memory ≡ with_trees new.memory.trees old.memory
  pub trees : AreSameTrees old.memory.trees new.memory.trees
  pub catalog : new.catalog ≡ old.catalog
  pub journal : new.journal ≡ old.journal
  pub faults : old.disk.faults ≤ new.disk.faults

-- so a read of a keyspace with these tables; without any it leaves all as it was
abbrev pub LooksAt : List Reader → Held → Held → Type 0
LooksAt [] old new = new ≡ old
LooksAt (t ∷ tables) old new = Looks old new

-- The change stands in memory, under the next number. The batch's text is in the journal's file with all that
-- waited or, where the change has no mode, waits too while that is less than 8,192 bytes, and the disk is left alone.
pub record Grows (old : Held) (change : Change) (how : Persistence) (new : Held) : Type 0 where
  pub memory_is : new.memory ≡ with_change change old.memory
  pub catalog : new.catalog ≡ old.catalog
  pub journal : new.journal ≡ after_command (is_none (mode_of old how)) old.journal (text_of old change)
  pub faults : old.disk.faults ≤ new.disk.faults
  pub waits : goes_out (is_none (mode_of old how)) (length (old.journal.buffer ++ text_of old change)) ≡ false → new.disk ≡ old.disk

-- All that waited in the buffer is in the journal's file; memory is as before.
pub record HandsOver (old new : Held) : Type 0 where
  pub memory_is : new.memory ≡ old.memory
  pub catalog : new.catalog ≡ old.catalog
  pub journal : new.journal ≡ written_out old.journal
  pub faults : old.disk.faults ≤ new.disk.faults

-- The keyspaces changed to these in memory, all that waited in the buffer is in the journal's file, and this is the id
-- that tree 0's next table gets.
pub record Alters (old : Held) (after : Remembered) (table : ℕ) (new : Held) : Type 0 where
  pub memory_is : new.memory ≡ after
  pub lawful : IsLawful after
  pub next_table : new.catalog.next_table_id ≡ table
  pub journal : new.journal ≡ written_out old.journal
  pub faults : old.disk.faults ≤ new.disk.faults

-- a keyspace more, made under the next number
abbrev pub Creates : Held → Bytes → List Bytes → Held → Type 0
Creates old name options new = Alters old (with_creation name options old.memory) (old.catalog.next_table_id + 1) new

-- a keyspace less; where one is left, tree 0 has a new table
abbrev pub Deletes : Held → ℕ → Held → Type 0
Deletes old id new =
    Alters old (with_deletion id old.memory) (if nat_le 2 (len (store_in old).names) then old.catalog.next_table_id + 1 else old.catalog.next_table_id) new

-- handles were counted anew, and nothing else
pub record Counts (old : Held) (after : Remembered) (new : Held) : Type 0 where
  pub memory_is : new.memory ≡ after
  pub catalog : new.catalog ≡ old.catalog
  pub journal : new.journal ≡ old.journal
  pub faults : old.disk.faults ≤ new.disk.faults

-- The active journal is sealed with all that waited, and an empty one of the next number begins.
pub record RotatesJournal (old new : Held) : Type 0 where
  pub memory_is : new.memory ≡ memory.journal_rotated_in_memory (written_out old.journal).len old.memory
  pub catalog : new.catalog ≡ old.catalog
  pub journal : new.journal ≡ empty_journal (next_name old)
  pub faults : old.disk.faults ≤ new.disk.faults

-- the tables of a keyspace
abbrev pub tables_of : Held → ℕ → List Reader
tables_of core id = (shape_in id core.memory.trees).tables

-- whether a merge of a keyspace begins
abbrev pub begins_merge_in : Held → MergeKind → ℕ → Bool
begins_merge_in core kind id = begins_merge (store_in core) core.memory.trees kind id

-- Where memory ran out nothing has changed; a release, a read of tables, and a merge that was to begin, has looked at the disk by then.
abbrev pub RanOut : Held → CallShape → Held → Type 0
RanOut old (OfHandle OneLess id) new = (new ≡ record old { disk = new.disk }) × (old.disk.faults ≤ new.disk.faults)
RanOut old (OfMergeBegin kind id) new = (begins_merge_in old kind id ≡ true) × Looks old new
RanOut old (OfRead view id query) new = LooksAt (tables_of old id) old new
RanOut old shape new = new ≡ old

-- ---- flushes and evictions

-- the active journal is longer than 64,000,000 bytes with what waits
abbrev pub is_journal_long : Journal → Bool
is_journal_long journal = nat_lt 64000000 (journal.len + length journal.buffer)

-- no number of a job is left, or none of a journal where the journal is rotated
abbrev pub are_jobs_used_up_in : Held → Bool
are_jobs_used_up_in core = (core.memory.next_job == 2 ^ 64 - 1) || (is_journal_long core.journal && nat_le (2 ^ 64 - 2) core.memory.journals.active)

-- what is in memory once the journal is synced, which is rotated where it is long
abbrev pub journal_synced_in : Held → Remembered
journal_synced_in core = if is_journal_long core.journal then memory.journal_rotated_in_memory (written_out core.journal).len core.memory else core.memory

-- A flush of all sealed memtables of a keyspace is out, and all that waited is in the journal's file; a long one was sealed.
pub record BeginsAt (old : Held) (id : ℕ) (new : Held) : Type 0 where
  pub memory_is : new.memory ≡ memory.flush_out_in_memory id (journal_synced_in old)
  pub catalog : new.catalog ≡ old.catalog
  pub journal : new.journal ≡ (if is_journal_long old.journal then empty_journal (next_name old) else written_out old.journal)
  pub faults : old.disk.faults ≤ new.disk.faults

-- what comes of a flush that is to begin
abbrev pub OwesBegin : Bool → Held → ℕ → Reply → Held → Type 0
OwesBegin true old id reply new = (reply ≡ Began (Some (record { number = old.memory.next_job; keyspace_id = id }))) × (are_jobs_used_up_in old ≡ false) × BeginsAt old id new
OwesBegin false old id reply new = (reply ≡ Began None) × (new ≡ old)

-- What is in memory once a flush of a keyspace that lives is finished, which was out: what was made of the task that it was begun
-- with, with readers of its table under the next id, at level 0, and the keyspace's record after it.
pub record FlushedInMemory (old : Remembered) (id : ℕ) (new : Remembered) : Type 0 where
  pub k : LivingKeyspace
  pub lives : keyspace_at id old.keyspaces.living ≡ Some k
  pub task : Task
  pub begun : IsFlushing (shape_in id old.trees) task
  pub tables : List MadeTable
  pub clears : List ℕ
  pub made : IsFlushed task tables clears
  pub readers : List Reader
  pub infos : map (λ t. t.info) readers ≡ flushed_infos (last_known old.records k).next_table_id tables
  pub is : new ≡ memory.with_flush id begun.out readers (record_after_flush (flush_with (shape_in id old.trees) begun.out tables) (last_known old.records k)) old

-- the oldest sealed journals are gone, up to the first that some keyspace that lives hasn't flushed
abbrev pub evicted_in_memory : Remembered → Remembered
evicted_in_memory m = memory.with_sealed_in_memory (staying (flushed_by m.keyspaces m.records) m.journals.sealed) m

-- an eviction that stopped before its end: the oldest are gone, up to one that nobody wants either
abbrev pub EvictsInMemory : Remembered → Remembered → Type 0
EvictsInMemory old new =
    (gone left : List Sealed) × StoppedBehind (flushed_by old.keyspaces old.records) old.journals.sealed left gone × (new ≡ memory.with_sealed_in_memory left old)

-- Memory is this, and neither the catalog nor the journal's writer changed.
pub record Becomes (old : Held) (after : Remembered) (new : Held) : Type 0 where
  pub memory_is : new.memory ≡ after
  pub catalog : new.catalog ≡ old.catalog
  pub journal : new.journal ≡ old.journal
  pub faults : old.disk.faults ≤ new.disk.faults

-- no number of a journal is left where the journal is rotated before an ingestion
abbrev pub are_journals_used_up_in : Held → Bool
are_journals_used_up_in core = is_journal_long core.journal && nat_le (2 ^ 64 - 2) core.memory.journals.active

-- What is in memory once items are ingested into a keyspace that lives: with readers of what was made of its memory and of exactly the
-- items, under the next ids and at level 0, and the keyspace's record after it.
pub record IngestedInMemory (old : Remembered) (id : ℕ) (items : List KeyOp) (new : Remembered) : Type 0 where
  pub k : LivingKeyspace
  pub lives : keyspace_at id old.keyspaces.living ≡ Some k
  pub flushes : List MadeTable
  pub made : List MadeTable
  pub readers : List Reader
  pub makes : ingesting.MakesIngestion (shape_in id old.trees) id old.tickets.watermark old.next items (last_known old.records k) flushes made readers
  pub is : new ≡ ingesting.with_ingestion id readers (ingesting.last_ingested old.next (shape_in id old.trees) flushes made (last_known old.records k)) old

-- Items were ingested, behind a sync of the journal, of which a long one was sealed; and journals are gone that nobody wants any more.
pub record IngestsAt (old : Held) (id : ℕ) (items : List KeyOp) (new : Held) : Type 0 where
  pub mid : Remembered
  pub ingested : IngestedInMemory (journal_synced_in old) id items mid
  pub memory_is : new.memory ≡ evicted_in_memory mid
  pub catalog : new.catalog ≡ old.catalog
  pub journal : new.journal ≡ (if is_journal_long old.journal then empty_journal (next_name old) else written_out old.journal)
  pub faults : old.disk.faults ≤ new.disk.faults

-- what comes of an ingestion: of no items nothing
abbrev pub OwesIngestion : ℕ → List KeyOp → Held → Reply → Held → Type 0
OwesIngestion id [] old reply new = (reply ≡ Done) × (new ≡ old)
OwesIngestion id (item ∷ items) old reply new = (reply ≡ Done) × (are_journals_used_up_in old ≡ false) × IngestsAt old id (item ∷ items) new

-- What a fault leaves of an ingestion in memory: all as it was, once the journal was synced or before; where the ingestion reached the
-- disk, some journals may be gone that nobody wants behind it.
abbrev pub IngestionPoisons : Held → ℕ → List KeyOp → Held → Type 0
IngestionPoisons old id items new =
    Poisons old.memory old new
    ⊎ (Poisons (journal_synced_in old) old new
    ⊎ ((mid left : Remembered) × IngestedInMemory (journal_synced_in old) id items mid × EvictsInMemory mid left × Poisons (memory.with_sealed_in_memory left.journals.sealed (journal_synced_in old)) old new))

-- whether the flush of this job takes effect once it is finished: its keyspace lives, and no ingestion has taken its memtables
abbrev pub takes_effect_in : Held → JobId → Bool
takes_effect_in core job = is_living (store_in core) job.keyspace_id && nat_lt 0 (count_out (shape_in job.keyspace_id core.memory.trees).flush)

-- What comes of a flush that is to be finished: it takes effect, and journals that nobody wants any more are removed; or it is stale,
-- where it isn't out, and where it takes no effect, and then it is out no more.
abbrev pub OwesFinish : (out takes : Bool) → Held → JobId → Reply → Held → Type 0
OwesFinish true true old job reply new =
    (reply ≡ Flag true) × (old.memory.poisoned ≡ false) × (mid : Remembered) × FlushedInMemory old.memory job.keyspace_id mid × Becomes old (evicted_in_memory mid) new
OwesFinish true false old job reply new = (reply ≡ Flag false) × (new ≡ record old { memory = memory.flush_gone_in_memory job.keyspace_id old.memory })
OwesFinish false takes old job reply new = (reply ≡ Flag false) × (new ≡ old)

-- ---- merges

-- A merge of all tables of a keyspace, and of all clears of its record, is out; of the tables more is kept in memory, perhaps.
pub record BeginsMergeAt (old : Held) (id : ℕ) (new : Held) : Type 0 where
  pub memory_is : new.memory ≡ with_trees new.memory.trees (memory.merge_out_in_memory id old.memory)
  pub trees : AreSameTrees (memory.merge_out_in_memory id old.memory).trees new.memory.trees
  pub catalog : new.catalog ≡ old.catalog
  pub journal : new.journal ≡ old.journal
  pub faults : old.disk.faults ≤ new.disk.faults

-- what comes of a merge that is to begin
abbrev pub OwesMergeBegin : Bool → Held → ℕ → Reply → Held → Type 0
OwesMergeBegin true old id reply new =
    (reply ≡ Began (Some (record { number = old.memory.next_job; keyspace_id = id }))) × (old.memory.next_job < 2 ^ 64 - 1) × BeginsMergeAt old id new
OwesMergeBegin false old id reply new = (reply ≡ Began None) × (new ≡ old)

-- What is in memory once a merge of a keyspace that lives is finished, which was out: readers of tables under the next ids, at level 0
-- no more, in the place of those that it took, and the keyspace's record after it. What those tables hold a disk that lies may have made up.
pub record MergedInMemory (old : Remembered) (id : ℕ) (new : Remembered) : Type 0 where
  pub k : LivingKeyspace
  pub lives : keyspace_at id old.keyspaces.living ≡ Some k
  pub out : Merging
  pub was : (shape_in id old.trees).merge ≡ Some out
  pub tables : List MadeTable
  pub clears : List ℕ
  pub readers : List Reader
  pub infos : map (λ t. t.info) readers ≡ merges.merged_infos (last_known old.records k).next_table_id tables
  pub is : new ≡ memory.with_merge id out readers (merges.record_after_merge (merging.merge_out out tables clears) (last_known old.records k)) old

-- What comes of a merge that is to be finished: it takes effect, and is counted; or it is stale, where it isn't out, and where its
-- keyspace was deleted, and then it is out no more.
abbrev pub OwesMerge : (out lives : Bool) → Held → JobId → Reply → Held → Type 0
OwesMerge true true old job reply new =
    (reply ≡ Flag true) × (old.memory.poisoned ≡ false) × (mid : Remembered) × MergedInMemory old.memory job.keyspace_id mid × Becomes old (memory.with_merge_done mid) new
OwesMerge true false old job reply new = (reply ≡ Flag false) × (new ≡ record old { memory = memory.merge_gone_in_memory job.keyspace_id old.memory })
OwesMerge false lives old job reply new = (reply ≡ Flag false) × (new ≡ old)

-- the merge of this job would take effect, but for a fault that has poisoned the core, or for want of something
abbrev pub IsDueToMergeIn : Held → JobId → Type 0
IsDueToMergeIn core job = (is_merging core.memory.trees job ≡ true) × (is_living (store_in core) job.keyspace_id ≡ true)

-- the flush of this job would take effect, but for a fault that has poisoned the core, or for want of something
abbrev pub IsDueToFinishIn : Held → JobId → Type 0
IsDueToFinishIn core job = (is_flushing core.memory.trees job ≡ true) × (takes_effect_in core job ≡ true)

-- the last record of a keyspace that lives
abbrev pub LastIs : Held → ℕ → (Fields → Type 0) → Type 0
LastIs core id Holds = (k : LivingKeyspace) × (keyspace_at id core.memory.keyspaces.living ≡ Some k) × Holds (last_known core.memory.records k)

-- What a fault leaves of a worker's step: of a flush that begins nothing but the poison; a flush or a merge that is finished took effect
-- in memory or it didn't; and some journals may be gone that nobody wants. One that a merge meets as it begins poisons nothing.
abbrev pub WorkPoisons : Held → CallShape → Held → Type 0
WorkPoisons old (OfFlushBegin id) new = (begins_flush old.memory.trees id ≡ true) × (are_jobs_used_up_in old ≡ false) × Poisons old.memory old new
WorkPoisons old (OfFlushFinish job) new =
    IsDueToFinishIn old job × (old.memory.poisoned ≡ false)
    × (Poisons old.memory old new ⊎ ((mid left : Remembered) × FlushedInMemory old.memory job.keyspace_id mid × EvictsInMemory mid left × Poisons left old new))
WorkPoisons old (OfMergeBegin kind id) new =
    (begins_merge_in old kind id ≡ true) × (old.memory.next_job < 2 ^ 64 - 1) × Looks old new × Rose old.disk.faults new.disk.faults
WorkPoisons old (OfMergeFinish job) new =
    IsDueToMergeIn old job × (old.memory.poisoned ≡ false)
    × (Poisons old.memory old new ⊎ ((mid : Remembered) × MergedInMemory old.memory job.keyspace_id mid × Poisons mid old new))
WorkPoisons old (OfIngestion id []) new = ⊥
WorkPoisons old (OfIngestion id (item ∷ items)) new = (are_journals_used_up_in old ≡ false) × IngestionPoisons old id (item ∷ items) new
WorkPoisons old OfMaintenance new = (left : Remembered) × EvictsInMemory old.memory left × Poisons left old new
WorkPoisons old shape new = ⊥

-- a merge is to be finished, and what was made of it lacks something
abbrev pub LacksAtIn : Held → JobId → (Fields → Merge → Type 0) → Type 0
LacksAtIn old job Lacks =
    IsDueToMergeIn old job × (old.memory.poisoned ≡ false)
    × LastIs old job.keyspace_id
    (λ last. (out : Merging) × ((shape_in job.keyspace_id old.memory.trees).merge ≡ Some out) × (tables : List MadeTable) × (clears : List ℕ) × Lacks last (merging.merge_out out tables clears))

-- a flush is to be finished, and what it may have made meets this with the record after it
abbrev pub FinishMeetsIn : Held → JobId → (Fields → Type 0) → Type 0
FinishMeetsIn old job Meets =
    let tree = shape_in job.keyspace_id old.memory.trees in
    IsDueToFinishIn old job × (old.memory.poisoned ≡ false) × LastIs old job.keyspace_id (λ last. FlushMeets tree tree.flush last Meets)

-- A worker's step or an ingestion that needs a number of which none is left: a job's, a journal's, or that of a keyspace's next table, whose
-- record has room.
abbrev pub UsesUpIn : Held → CallShape → Type 0
UsesUpIn old (OfFlushBegin id) = (begins_flush old.memory.trees id ≡ true) × (are_jobs_used_up_in old ≡ true)
UsesUpIn old (OfFlushFinish job) = FinishMeetsIn old job LacksNextId
UsesUpIn old (OfMergeBegin kind id) = (begins_merge_in old kind id ≡ true) × (old.memory.next_job ≡ 2 ^ 64 - 1)
UsesUpIn old (OfMergeFinish job) = LacksAtIn old job LacksMergeIds
UsesUpIn old (OfIngestion id []) = ⊥
UsesUpIn old (OfIngestion id (item ∷ items)) =
    (are_journals_used_up_in old ≡ true)
    ⊎ LastIs old id (LacksIds (shape_in id old.memory.trees) id old.memory.tickets.watermark old.memory.next (item ∷ items))
UsesUpIn old shape = ⊥

-- the record of a keyspace whose flush or merge is to be finished has no room for the tables and the clears
abbrev pub HasNoRoomIn : Held → CallShape → Type 0
HasNoRoomIn old (OfFlushFinish job) = FinishMeetsIn old job IsTooLong
HasNoRoomIn old (OfMergeFinish job) = LacksAtIn old job LacksMergeRoom
HasNoRoomIn old (OfIngestion id []) = ⊥
HasNoRoomIn old (OfIngestion id (item ∷ items)) =
    LastIs old id (LacksRecordRoom (shape_in id old.memory.trees) id old.memory.tickets.watermark old.memory.next (item ∷ items))
HasNoRoomIn old shape = ⊥

-- a flush or a merge that is to be finished in a poisoned core, and isn't stale
abbrev pub FinishesLateIn : Held → CallShape → Type 0
FinishesLateIn old (OfFlushFinish job) = IsDueToFinishIn old job × (old.memory.poisoned ≡ true)
FinishesLateIn old (OfMergeFinish job) = IsDueToMergeIn old job × (old.memory.poisoned ≡ true)
FinishesLateIn old shape = ⊥

-- A call that asks for memory: a worker's step only where there is one to make, no fault has poisoned the core, and the numbers of jobs and
-- journals that it takes are left.
abbrev pub AsksMemoryIn : Held → CallShape → Type 0
AsksMemoryIn core (OfFlushBegin id) = (begins_flush core.memory.trees id ≡ true) × (are_jobs_used_up_in core ≡ false)
AsksMemoryIn core (OfFlushFinish job) = IsDueToFinishIn core job × (core.memory.poisoned ≡ false)
AsksMemoryIn core (OfMergeBegin kind id) = (begins_merge_in core kind id ≡ true) × (core.memory.next_job < 2 ^ 64 - 1)
AsksMemoryIn core (OfMergeFinish job) = IsDueToMergeIn core job × (core.memory.poisoned ≡ false)
AsksMemoryIn core shape = TakesMemory shape

-- A merge that was to begin met a wrong block, or the blocks of one that is out, as a disk that lies gave them, are in no order.
abbrev pub FindsDisorder : Held → CallShape → Held → Type 0
FindsDisorder old (OfMergeBegin kind id) new = (begins_merge_in old kind id ≡ true) × (old.memory.next_job < 2 ^ 64 - 1) × Looks old new
FindsDisorder old (OfMergeFinish job) new = (is_merging old.memory.trees job ≡ true) × (new ≡ old)
FindsDisorder old shape new = ⊥

-- A call of whose reply a disk that lies may tell anything: a read of a keyspace that has tables, a merge that was to begin and met a wrong
-- block, and one that is out, unless it is stale.
abbrev pub RestsOnTables : Held → CallShape → Reply → Type 0
RestsOnTables core (OfMergeBegin kind id) (Refused (Storage told)) = begins_merge_in core kind id ≡ true
RestsOnTables core (OfMergeFinish job) (Flag false) = ⊥
RestsOnTables core (OfMergeFinish job) reply = is_merging core.memory.trees job ≡ true
RestsOnTables core shape reply = ReadsTables core.memory.trees shape

-- ---- refusals

-- Where no refusal is due, a fault may be told, or want of memory, or that an option's value is too long to be stored; a read of a
-- keyspace that has tables, or a merge of it, may tell of a fault, or of a wrong block; and a worker's step that the core is poisoned, or
-- that no number or no room is left.
abbrev pub OwesFailure : Held → CallShape → Error → Held → Type 0
OwesFailure old shape (Io kind) new =
    (ChangesDisk (facts_of old.memory old.catalog.next_table_id) (length old.journal.buffer) shape × Poisons (memory_at_fault shape old.memory) old new)
    ⊎ ((ReadsTables old.memory.trees shape × Looks old new × Rose old.disk.faults new.disk.faults) ⊎ WorkPoisons old shape new)
OwesFailure old shape OutOfMemory new = AsksMemoryIn old shape × RanOut old shape new
OwesFailure old shape (Storage told) new = (told ≡ TableDamaged) × ((ReadsTables old.memory.trees shape × Looks old new) ⊎ FindsDisorder old shape new)
OwesFailure old shape ValueTooLong new = TooLong (store_in old) shape × (new ≡ old)
OwesFailure old shape Poisoned new = FinishesLateIn old shape × (new ≡ old)
OwesFailure old shape NumbersUsedUp new = UsesUpIn old shape × (new ≡ old)
OwesFailure old shape TooManyItems new = HasNoRoomIn old shape × (new ≡ old)
OwesFailure old shape error new = ⊥

-- a refusal is the one that is due, and changes nothing
abbrev pub OwesRefusal : Option Error → Held → CallShape → Error → Held → Type 0
OwesRefusal (Some first) old shape error new = (error ≡ first) × (new ≡ old)
OwesRefusal None old shape error new = OwesFailure old shape error new

-- a change that nothing refused stands in memory, and its batch in the journal; one of no items changes nothing
abbrev pub OwesChange : Held → Change → Persistence → Held → Type 0
OwesChange old (Items []) how new = new ≡ old
OwesChange old (Items (item ∷ items)) how new = Grows old (Items (item ∷ items)) how new
OwesChange old (Emptied id) how new = Grows old (Emptied id) how new

-- a name that a keyspace has answers its id; another one's keyspace was made
abbrev pub OwesCreation : Held → Bytes → List Bytes → ℕ → Held → Type 0
OwesCreation old name options id new =
    ((id_of name old.memory.keyspaces.living ≡ Some id) × (new ≡ old))
    ⊎ ((names_one (store_in old) name ≡ false) × (id ≡ old.memory.keyspaces.next) × Creates old name options new)

abbrev pub OwesDeletion : Held → ℕ → Held → Type 0
OwesDeletion old id new = ((is_living (store_in old) id ≡ false) × (new ≡ old)) ⊎ ((is_living (store_in old) id ≡ true) × Deletes old id new)

-- of one keyspace, or of all that live with all journals
abbrev pub space_in : Held → Option ℕ → ℕ
space_in core (Some id) = table_space (shape_in id core.memory.trees)
space_in core None = counted (tables_space (store_in core) core.memory.trees + counted (bytes_of core.memory.journals.sealed + core.journal.len))

-- counts from memory
abbrev pub HeldCount : Held → Count → Reply → Type 0
HeldCount core Keyspaces reply = reply ≡ Number (length core.memory.keyspaces.living)
HeldCount core shapes.Names reply = (names : Vec Bytes Global) × (reply ≡ Names names) × IsPermutation (values (store_in core).names) names.items × IsSorted byte_order names.items
HeldCount core (Exists name) reply = reply ≡ Flag (names_one (store_in core) name)
HeldCount core Next reply = reply ≡ Number core.memory.next
HeldCount core Visible reply = reply ≡ Number core.memory.next
HeldCount core shapes.Journals reply = reply ≡ Number (length core.memory.journals.sealed + 1)
HeldCount core JournalSpace reply = reply ≡ Number (counted (bytes_of core.memory.journals.sealed + core.journal.len))
HeldCount core OpenTickets reply = reply ≡ Number (len core.memory.tickets.instants)
HeldCount core (Entries id) reply = reply ≡ Number (counted (version_count (shape_in id core.memory.trees)))
HeldCount core (SealedMemtables id) reply = reply ≡ Number (length (shape_in id core.memory.trees).memory.sealed)
HeldCount core WriteBuffer reply = reply ≡ Number (counted (buffer_size (store_in core) core.memory.trees))
HeldCount core (shapes.WantsRotation id) reply = reply ≡ Flag (wants_rotation (store_in core) core.memory.trees id)
HeldCount core (Tables id) reply = reply ≡ Number (length (shape_in id core.memory.trees).tables)
HeldCount core (TablesL0 id) reply = reply ≡ Number (count_by (λ t. is_l0 t.info.level) (shape_in id core.memory.trees).tables)
HeldCount core (DiskSpace id) reply = reply ≡ Number (space_in core id)
HeldCount core Flushes reply = reply ≡ Number (flush_count (store_in core) core.memory.trees)
HeldCount core MergesOut reply = reply ≡ Number (merge_count core.memory.trees)
HeldCount core MergesDone reply = reply ≡ Number core.memory.merges_done
HeldCount core ToFlush reply = (ids : Vec ℕ Global) × (reply ≡ Ids ids) × IsStrictlyIncreasing ids.items × (ids.items ≡ waited_for (flushed_by core.memory.keyspaces core.memory.records) core.memory.journals.sealed)

-- an answer to such a query
abbrev pub IsAnswerTo : Query → Reply → Type 0
IsAnswerTo (Get key) reply = (found : Option Bytes) × (reply ≡ Value found)
IsAnswerTo (Page range back max) reply = (found : Vec (Bytes × Bytes) Global) × (reply ≡ Pairs found)

-- What a read gives of a keyspace with these tables: without any, what stands in memory. Of what tables hold any disk may tell
-- anything; one that returns what it holds tells what they hold.
abbrev pub GivesRead : List Reader → Held → View → ℕ → Query → Reply → Type 0
GivesRead [] old view id query reply = Tells query (pairs_in id (instant_in old.memory view) old.memory.trees) reply
GivesRead (t ∷ tables) old view id query reply = IsAnswerTo query reply

-- where nothing refuses it, a call gives such a reply, and leaves this
abbrev pub Gives : Held → CallShape → Reply → Held → Type 0
Gives old (OfChange change how) reply new = (reply ≡ Done) × OwesChange old change how new
Gives old (OfIngestion id items) reply new = OwesIngestion id items old reply new
Gives old (OfCreation name options) reply new = (id : ℕ) × (reply ≡ Number id) × OwesCreation old name options id new
Gives old (OfDeletion id) reply new = (reply ≡ Done) × OwesDeletion old id new
Gives old (OfHandle OneMore id) reply new = (reply ≡ Done) × (new ≡ record old { memory = retained id old.memory })
Gives old (OfHandle OneLess id) reply new = (reply ≡ Done) × Counts old (released_in_memory id old.memory) new
Gives old (OfRotation id) reply new = (reply ≡ Flag (rotates old.memory.trees id)) × (new ≡ (if rotates old.memory.trees id then record old { memory = rotated_in_memory id old.memory } else old))
Gives old OfJournalRotation reply new = (reply ≡ Done) × RotatesJournal old new
Gives old (OfFlushBegin id) reply new = OwesBegin (begins_flush old.memory.trees id) old id reply new
Gives old (OfFlushFinish job) reply new = OwesFinish (is_flushing old.memory.trees job) (takes_effect_in old job) old job reply new
Gives old (OfMergeBegin kind id) reply new = OwesMergeBegin (begins_merge_in old kind id) old id reply new
Gives old (OfMergeFinish job) reply new = OwesMerge (is_merging old.memory.trees job) (is_living (store_in old) job.keyspace_id) old job reply new
Gives old OfMaintenance reply new = (reply ≡ Done) × Becomes old (evicted_in_memory old.memory) new
Gives old (OfRead view id query) reply new = GivesRead (tables_of old id) old view id query reply × LooksAt (tables_of old id) old new
Gives old (OfTickets call) reply new =
    TurnsTickets old.memory.next old.memory.tickets call reply new.memory.tickets × (new ≡ record old { memory = with_tickets new.memory.tickets old.memory })
Gives old (OfPersist mode) reply new = (reply ≡ Done) × HandsOver old new
Gives old (OfCount count) reply new = HeldCount old count reply × (new ≡ old)

-- What a call owes whatever the disk is: each refusal for its cause, with what it leaves, and each answer from memory, but for what
-- tables hold.
abbrev pub Owes : Held → CallShape → Reply → Held → Type 0
Owes old shape (Refused error) new = OwesRefusal (held_due old shape) old shape error new
Owes old shape reply new = (held_due old shape ≡ None) × Gives old shape reply new

-- calls one after another
abbrev pub OwesAll : Held → List Call → List Reply → Held → Type 0
OwesAll old [] [] new = new ≡ old
OwesAll old (call ∷ calls) (reply ∷ replies) new = (mid : Held) × Owes old (shape_of call) reply mid × OwesAll mid calls replies new
OwesAll old calls replies new = ⊥

-- ---- what a disk takes of calls that returns what it holds

-- what a disk took of a read of a keyspace with these tables: nothing, though it was looked at where there are some
abbrev pub DiskRead : List Reader → Held → Held → Type 0
DiskRead [] old new = new.disk ≡ old.disk
DiskRead (t ∷ tables) old new = Took old.disk new.disk []

-- what the disk took of a persist in this mode, where it failed
abbrev pub PersistFailed : Held → PersistMode → Held → Type 0
PersistFailed old mode new = TookPart old.disk new.disk old.journal.name old.journal.buffer ⊎ Took old.disk new.disk (persist_steps old.journal mode)

-- what the disk took of a sync of the journal before a flush, where it failed
abbrev pub SyncFailed : Held → Held → Type 0
SyncFailed old new = MatchBool (is_journal_long old.journal) (RotationTook old.disk new.disk old.journal new.journal (next_name old)) (PersistFailed old SyncAll new)

-- and where it was done
abbrev pub SyncTook : Held → Held → Type 0
SyncTook old new =
    MatchBool (is_journal_long old.journal) (Took old.disk new.disk (rotating old.disk old.journal (next_name old))) (Took old.disk new.disk (persist_steps old.journal SyncAll))

-- what the disk took of an eviction that stopped: the oldest journals are gone, and of the next one the file may be
abbrev pub EvictionStopped : Remembered → Meaning → Meaning → Type 0
EvictionStopped m old new = (left gone : List Sealed) × (stopped : StoppedBehind (flushed_by m.keyspaces m.records) m.journals.sealed left gone) × TookEvictions old new gone stopped.next

-- Wherever the core stood, there was a moment of the call at which a crash left just what was pending, and from then on a crash leaves all of it.
abbrev pub KeepsPending : Held → CallShape → Held → Type 0
KeepsPending old shape new = (s : State) (d : Durable) → StandsFor old s → StandsOn old s.parts.entries d → SafeSince d [] (commands_asked s shape) new.disk

-- What the disk took of a creation or a deletion that failed behind its sync of the journal: that sync, and then what changed in `keyspaces`
-- alone. All that was pending is safe.
pub record ChangeStopped (old : Held) (shape : CallShape) (new : Held) : Type 0 where
  pub synced : Meaning
  pub sync : Took old.disk synced (persist_steps old.journal SyncAll)
  pub within : Within (codes "keyspaces") synced new.disk
  pub pending : KeepsPending old shape new

-- What the disk took of a flush that was finished, where the eviction behind it stopped.
pub record FlushStopped (old : Held) (id : ℕ) (new : Held) : Type 0 where
  pub mid : Meaning
  pub left : Remembered
  pub flushed : FlushedInMemory old.memory id left
  pub within : Within (keyspace_folder id) old.disk mid
  pub evicted : EvictionStopped left mid new.disk

-- What the disk took of an ingestion that failed behind its sync of the journal: that sync, and then what changed within the keyspace's folder
-- alone; or all that, and an eviction that stopped. All that was pending is safe.
pub record IngestionStopped (old : Held) (id : ℕ) (items : List KeyOp) (new : Held) : Type 0 where
  pub synced : Held
  pub sync : SyncTook old synced
  pub mid : Meaning
  pub within : Within (keyspace_folder id) synced.disk mid
  pub evicted : (new.disk ≡ mid) ⊎ ((left : Remembered) × IngestedInMemory (journal_synced_in old) id items left × EvictionStopped left mid new.disk)
  pub pending : KeepsPending old (OfIngestion id items) new

-- What the disk took of a call where it failed: some of what it takes of one that was done, in the same order. So nothing that was in the
-- journal is cut off it.
abbrev pub DiskFailed : Held → CallShape → Held → Type 0
DiskFailed old (OfChange change how) new = BatchTook (mode_of old how) old.disk new.disk old.journal (text_of old change)
DiskFailed old (OfIngestion id items) new = SyncFailed old new ⊎ IngestionStopped old id items new
DiskFailed old (OfCreation name options) new = PersistFailed old SyncAll new ⊎ ChangeStopped old (OfCreation name options) new
DiskFailed old (OfDeletion id) new = PersistFailed old SyncAll new ⊎ ChangeStopped old (OfDeletion id) new
DiskFailed old (OfHandle OneMore id) new = ⊥
DiskFailed old (OfHandle OneLess id) new = Within (codes "keyspaces") old.disk new.disk
DiskFailed old (OfRotation id) new = ⊥
DiskFailed old OfJournalRotation new = RotationTook old.disk new.disk old.journal new.journal (next_name old)
DiskFailed old (OfFlushBegin id) new = SyncFailed old new
DiskFailed old (OfFlushFinish job) new = Within (keyspace_folder job.keyspace_id) old.disk new.disk ⊎ FlushStopped old job.keyspace_id new
DiskFailed old (OfMergeBegin kind id) new = Took old.disk new.disk []
DiskFailed old (OfMergeFinish job) new = Within (keyspace_folder job.keyspace_id) old.disk new.disk
DiskFailed old OfMaintenance new = EvictionStopped old.memory old.disk new.disk
DiskFailed old (OfRead view id query) new = Took old.disk new.disk []
DiskFailed old (OfTickets call) new = ⊥
DiskFailed old (OfPersist mode) new = PersistFailed old mode new
DiskFailed old (OfCount count) new = ⊥

-- the table that the catalog names is safe in tree 0's folder
abbrev pub HasTable : disk.DiskState → Catalog → Type 0
HasTable state c = IfSome c.table (λ t. (bytes : List ℕ) × IsSafe state (table_name 0 t.id) bytes)

-- Tree 0 has another table: the one of before stands there no more, and wherever the core stood, the one that the catalog
-- names now is safe there.
pub record ReplacesTable (old new : Held) : Type 0 where
  pub gone : IsTableGone (state_in new.disk) old.catalog
  pub there : (s : State) (d : Durable) → StandsFor old s → StandsOn old s.parts.entries d → HasTable (state_in new.disk) new.catalog

-- With the last handle of a deleted keyspace its folder is removed for good, unless it holds anything but the engine's own
-- files, or the core is poisoned. With each other one nothing is done.
abbrev pub RemovesLast : Held → ℕ → Held → Type 0
RemovesLast old id new = MatchBool (is_last_in_memory old.memory id && not old.memory.poisoned) (RemovesOwn id old.disk new.disk × Within (codes "keyspaces") old.disk new.disk) (new.disk ≡ old.disk)

-- what a disk took of a call that memory ran out in: nothing, though a release, a read of tables, or a merge that was to begin, has
-- looked at it
abbrev pub DiskLooked : Held → CallShape → Held → Type 0
DiskLooked old (OfHandle OneLess id) new = Took old.disk new.disk []
DiskLooked old (OfMergeBegin kind id) new = Took old.disk new.disk []
DiskLooked old (OfRead view id query) new = DiskRead (tables_of old id) old new
DiskLooked old shape new = new.disk ≡ old.disk

-- what the disk took of an eviction of all sealed journals that nobody wants
abbrev pub EvictionTook : Remembered → Meaning → Meaning → Type 0
EvictionTook m old new = Took old new (evicting (state_in old) (names_of (going_in m)))

-- What the disk took of a flush that was finished: within the keyspace's folder, where the record that it appended says what is known of
-- the keyspace now, and then an eviction.
pub record FlushTook (old : Held) (id : ℕ) (new : Held) : Type 0 where
  pub mid : Meaning
  pub left : Remembered
  pub flushed : FlushedInMemory old.memory id left
  pub within : Within (keyspace_folder id) old.disk mid
  pub evicted : EvictionTook left mid new.disk

-- What the disk took of a merge that was finished: within the keyspace's folder, where the record that it appended says what is known of
-- the keyspace now, and where the tables are gone that it took.
pub record MergeTook (old : Held) (id : ℕ) (new : Held) : Type 0 where
  pub left : Remembered
  pub merged : MergedInMemory old.memory id left
  pub within : Within (keyspace_folder id) old.disk new.disk
  pub gone : AreGone (state_in new.disk) id (map (λ t. t.id) (take merged.out.tables (last_known old.memory.records merged.k).tables))

-- What the disk took of an ingestion: the sync of the journal, or its rotation; what it wrote within the keyspace's folder, where the
-- record that it appended says what is known of the keyspace now; and then an eviction.
pub record IngestionTook (old : Held) (id : ℕ) (items : List KeyOp) (new : Held) : Type 0 where
  pub synced : Held
  pub sync : SyncTook old synced
  pub mid : Meaning
  pub within : Within (keyspace_folder id) synced.disk mid
  pub left : Remembered
  pub ingested : IngestedInMemory (journal_synced_in old) id items left
  pub evicted : EvictionTook left mid new.disk

-- What the disk took of a call that was done: of a change the batch's text behind what waited in the buffer, where it doesn't
-- wait too, and a sync where its mode asks for one; of a creation of a name that none had, and of a deletion of a keyspace that
-- lived, another table of tree 0, where the clause on crashes tells the rest; of a release the removal of files; of a rotation of
-- the journal the buffer, its sync, and the next journal with its name; of a flush that begins a sync or a rotation of the journal, of
-- one that is finished its table, its record and an eviction; of a merge that is finished its tables, its record and the removal of those
-- that it took; of an ingestion all that a flush takes, with a sync; of a persist the buffer, and a sync where its mode asks for
-- one; and else nothing.
abbrev pub DiskTook : Held → CallShape → Held → Type 0
DiskTook old (OfChange (Items []) how) new = new.disk ≡ old.disk
DiskTook old (OfChange (Items (item ∷ items)) how) new = Took old.disk new.disk (batch_steps (mode_of old how) old.journal (text_of old (Items (item ∷ items))))
DiskTook old (OfChange (Emptied id) how) new = Took old.disk new.disk (batch_steps (mode_of old how) old.journal (text_of old (Emptied id)))
DiskTook old (OfIngestion id []) new = new.disk ≡ old.disk
DiskTook old (OfIngestion id (item ∷ items)) new = IngestionTook old id (item ∷ items) new
DiskTook old (OfCreation name options) new = MatchOption (id_of name old.memory.keyspaces.living) (ReplacesTable old new) (λ found. new.disk ≡ old.disk)
DiskTook old (OfDeletion id) new = MatchBool (is_living (store_in old) id) (ReplacesTable old new) (new.disk ≡ old.disk)
DiskTook old (OfHandle OneMore id) new = new.disk ≡ old.disk
DiskTook old (OfHandle OneLess id) new = RemovesLast old id new
DiskTook old (OfRotation id) new = new.disk ≡ old.disk
DiskTook old OfJournalRotation new = Took old.disk new.disk (rotating old.disk old.journal (next_name old))
DiskTook old (OfFlushBegin id) new = MatchBool (begins_flush old.memory.trees id) (SyncTook old new) (new.disk ≡ old.disk)
DiskTook old (OfFlushFinish job) new =
    MatchBool (is_flushing old.memory.trees job && takes_effect_in old job) (FlushTook old job.keyspace_id new) (new.disk ≡ old.disk)
DiskTook old (OfMergeBegin kind id) new = MatchBool (begins_merge_in old kind id) (Took old.disk new.disk []) (new.disk ≡ old.disk)
DiskTook old (OfMergeFinish job) new =
    MatchBool (is_merging old.memory.trees job && is_living (store_in old) job.keyspace_id) (MergeTook old job.keyspace_id new) (new.disk ≡ old.disk)
DiskTook old OfMaintenance new = EvictionTook old.memory old.disk new.disk
DiskTook old (OfRead view id query) new = DiskRead (tables_of old id) old new
DiskTook old (OfTickets call) new = new.disk ≡ old.disk
DiskTook old (OfPersist mode) new = Took old.disk new.disk (persist_steps old.journal mode)
DiskTook old (OfCount count) new = new.disk ≡ old.disk

abbrev pub OnDisk : Held → CallShape → Reply → Held → Type 0
OnDisk old shape (Refused (Io kind)) new = DiskFailed old shape new
OnDisk old shape (Refused OutOfMemory) new = DiskLooked old shape new
OnDisk old shape (Refused (Storage told)) new = DiskLooked old shape new
OnDisk old shape (Refused error) new = new.disk ≡ old.disk
OnDisk old shape reply new = DiskTook old shape new

-- Whichever state the core stood for, the call steps to one that it stands for now.
abbrev pub Steps : Held → CallShape → Reply → Held → Type 0
Steps old shape reply new = (s : State) → StandsFor old s → (t : State) × StandsFor new t × StepOf s shape reply t

-- From that state, whatever base and pending the core stood on, a crash during the call or after it leaves what a step to this one
-- may leave.
abbrev pub LeadsOn : Held → State → CallShape → Reply → Held → State → Type 0
LeadsOn old s shape reply new t = (d : Durable) → StandsOn old s.parts.entries d → (e : Durable) × StandsOn new t.parts.entries e × CallPasses s d shape reply e

-- One call over a disk that returns what it holds. The disk took what such a call writes. Whatever state the core stood for, whose
-- tables its disk had, it goes on by a step of the machine, its disk has the tables still, and a crash leaves what it may.
pub record Serves (old : Held) (shape : CallShape) (reply : Reply) (new : Held) : Type 0 where
  pub disk : OnDisk old shape reply new
  pub goes_on : (s : State) → StandsFor old s → ReadsOn old s → (t : State) × StandsFor new t × ReadsOn new t × StepOf s shape reply t × LeadsOn old s shape reply new t

-- The same of whatever state that meets this, of all those that the core stood for.
pub record ServesWhere (Meets : State → Type 0) (old : Held) (shape : CallShape) (reply : Reply) (new : Held) : Type 0 where
  pub disk : OnDisk old shape reply new
  pub goes_on : (s : State) → StandsFor old s → ReadsOn old s → Meets s → (t : State) × StandsFor new t × ReadsOn new t × StepOf s shape reply t × LeadsOn old s shape reply new t

-- the reply to a change or to a sync
abbrev pub reply_of : Result Unit Error → Reply
reply_of (Ok _) = Done
reply_of (Err error) = Refused error

-- the reply to a read
abbrev pub value_reply : Result (Option Bytes) Error → Reply
value_reply (Ok found) = Value found
value_reply (Err error) = Refused error

-- the reply to a read of pairs
abbrev pub pairs_reply : Result (Vec (Bytes × Bytes) Global) Error → Reply
pairs_reply (Ok found) = Pairs found
pairs_reply (Err error) = Refused error

-- the reply to a creation
abbrev pub number_reply : Result ℕ Error → Reply
number_reply (Ok n) = Number n
number_reply (Err error) = Refused error

-- the job of that task
abbrev pub job_of : Task → JobId
job_of task = record { number = task.id; keyspace_id = task.keyspace }

-- Memory knows the flush of this task, if a flush of its name would take effect.
abbrev pub KnowsIfDue : Held → Task → Type 0
KnowsIfDue core task = IsDueToFinishIn core (job_of task) → KnowsTask core.memory task

-- The state knows the merge of this task, if a merge of its name would take effect.
abbrev pub KnowsMergeIfDue : Held → ℕ → Task → State → Type 0
KnowsMergeIfDue core target task s = IsDueToMergeIn core (job_of task) → KnowsMerge s target task

-- the reply to a flush that is to begin
abbrev pub job_reply : Result (Option FlushJob) Error → Reply
job_reply (Ok None) = Began None
job_reply (Ok (Some job)) = Began (Some (job_of (flush_task job)))
job_reply (Err error) = Refused error

-- the reply to a flush that is to be finished
abbrev pub finish_reply : Result Bool (Refusal FlushMade) → Reply
finish_reply (Ok done) = Flag done
finish_reply (Err refused) = Refused refused.error

-- the reply to a flush or a merge that is to begin, where memory is used up: none begins, or it is refused
abbrev pub no_job_reply : Result Unit Error → Reply
no_job_reply (Ok _) = Began None
no_job_reply (Err error) = Refused error

-- the reply to a merge that is to begin
abbrev pub merge_job_reply : Result (Option MergeJob) Error → Reply
merge_job_reply (Ok None) = Began None
merge_job_reply (Ok (Some job)) = Began (Some (job_of (merge_task job)))
merge_job_reply (Err error) = Refused error

-- the reply to a merge that is to be finished
abbrev pub merge_reply : Result Bool (Refusal MergeMade) → Reply
merge_reply (Ok done) = Flag done
merge_reply (Err refused) = Refused refused.error

-- the reply to a question for keyspaces
abbrev pub ids_reply : Result (Vec ℕ Global) Error → Reply
ids_reply (Ok ids) = Ids ids
ids_reply (Err error) = Refused error

-- the reply to a rotation
abbrev pub flag_reply : Result Bool Error → Reply
flag_reply (Ok flag) = Flag flag
flag_reply (Err error) = Refused error

-- the reply to an opening of a ticket
abbrev pub ticket_reply : Result Ticket Error → Reply
ticket_reply (Ok ticket) = Opened ticket
ticket_reply (Err error) = Refused error

-- the reply to a list of names
abbrev pub names_reply : Result (Vec Bytes Global) Error → Reply
names_reply (Ok names) = Names names
names_reply (Err error) = Refused error

-- Calls one after another over a disk that returns what it holds, as a run of the machine.
abbrev pub Runs : Held → List Call → List Reply → Held → Type 0
Runs old calls replies new = (s : State) → StandsFor old s → ReadsOn old s → (t : State) × StandsFor new t × ReadsOn new t × Run s calls replies t

-- Calls one after another over a disk that may crash. At any moment a crash leaves the base with a beginning of what was
-- pending and what was tried. After a sync that succeeded it leaves all that was tried up to that call. Each step put at a
-- name only what may stand there.
pub record RunsOn (old : Held) (calls : List Call) (replies : List Reply) (new : Held) (s : State) (d : Durable) : Type 0 where
  pub tried : List Command
  pub state : State
  pub durable : Durable
  pub stands : StandsFor new state
  pub reads : ReadsOn new state
  pub on : StandsOn new state.parts.entries durable
  pub run : RunOn s d calls replies tried state durable
  pub accepted : Tried s tried state
  pub any_moment : LeavesOnly old.disk new.disk (StandsAmid d.base [] (d.pending ++ tried))
  pub synced : (i : ℕ) → IsSyncAt s d calls replies tried state durable run i → SafeAt s d calls replies i tried durable new.disk
  pub kinds : StaysTidy old.disk new.disk

-- the same from whatever state, base and pending the core stood for and on
abbrev pub RunsSafely : Held → List Call → List Reply → Held → Type 0
RunsSafely old calls replies new = (s : State) (d : Durable) → StandsFor old s → ReadsOn old s → StandsOn old s.parts.entries d → RunsOn old calls replies new s d

-- ---- closing

-- The disk holds a folder of this store, whatever a crash leaves of it; where that folder's making was cut short, so is
-- whatever may come back in a folder that is made anew.
abbrev pub HoldsStore : disk.DiskState → Store → Type 0
HoldsStore state store = (folder : Option Contents) × Holds state folder × ComesBack state folder × (store ≡ store_of_folder folder)

-- What closing owes whatever the disk is: the cause of each refusal; a poisoned core leaves the disk alone.
abbrev pub OwesClosing : Held → Result Unit Error → Meaning → Type 0
OwesClosing old (Ok _) disk = (old.memory.poisoned ≡ false) × (old.disk.faults ≤ disk.faults)
OwesClosing old (Err (Io kind)) disk = (old.memory.poisoned ≡ false) × Rose old.disk.faults disk.faults
OwesClosing old (Err Poisoned) disk = (old.memory.poisoned ≡ true) × (disk ≡ old.disk)
OwesClosing old (Err error) disk = ⊥

-- and on the disk: the buffer is written out and the journal synced
abbrev pub ClosesDisk : Held → Result Unit Error → Meaning → Type 0
ClosesDisk old (Ok _) disk = Took old.disk disk (persist_steps old.journal SyncAll)
ClosesDisk old (Err (Io kind)) disk = TookPart old.disk disk old.journal.name old.journal.buffer ⊎ Took old.disk disk (persist_steps old.journal SyncAll)
ClosesDisk old (Err error) disk = disk ≡ old.disk

-- What closing leaves: a crash during it leaves the base with a beginning of what was pending, and so does an opening on
-- the disk that it gave back. Where it succeeds, that disk holds the present store. The device is to blame for `Io`, and
-- each step put at a name only what may stand there.
pub record Closes (s : State) (d : Durable) (result : Result Unit Error) (disk : Meaning) : Type 0 where
  pub after : Durable
  pub same : after.meaning ≡ disk
  pub passes : Passes d [] after
  pub amid : HoldsAmid (state_in disk) after.base after.pending
  pub closed : OnOk result (HoldsStore (state_in disk) (kept (present s)))
  pub device : BlamesDevice (reply_of result) d.meaning disk
  pub kinds : StaysTidy d.meaning disk

-- the same from whatever state, base and pending the core stood for and on
abbrev pub ClosesSafely : Held → Result Unit Error → Meaning → Type 0
ClosesSafely core result disk = (s : State) (d : Durable) → StandsFor core s → ReadsOn core s → StandsOn core s.parts.entries d → Closes s d result disk
