-- Calls by their shape: what all that is said of calls speaks of.
use Rattle.std.specs.Prelude.{ℕ, List, [], ◌∷◌, Option}
use Rattle.fjall_base.specs.Pairs.{Bytes}
use Rattle.fjall_journal.specs.Ops.{BatchItem}
use Rattle.fjall_journal.specs.Changes.{Change, Items, Emptied}
use Rattle.fjall_journal.specs.declared.op.Op.TheVariants as ops
use Rattle.fjall_journal.specs.declared.persist_mode.PersistMode.{PersistMode}
use Rattle.fjall_reading.specs.Ingestions.{KeyOp}
use Rattle.fjall_history.specs.declared.job.JobId.{JobId}
use Rattle.fjall_history.specs.declared.ticket.View.{View}
use Rattle.fjall_history.specs.Queries.{Query, Get, Page}
use Rattle.fjall_machine.specs.declared.call.Call.{Call}
use Rattle.fjall_machine.specs.declared.merge_kind.MergeKind.{MergeKind}
use Rattle.fjall_machine.specs.declared.merge_kind.MergeKind.TheVariants.{Due, Major}
use Rattle.fjall_machine.specs.declared.call.Call.TheVariants as calls
use Rattle.fjall_machine.specs.declared.call.Call.TheVariants.{Keyspace, DeleteKeyspace, Retain, Release, Insert, Remove, RemoveWeak, Clear, CommitBatch, Ingest, RotateMemtable, RotateJournal, FlushBegin, FlushFinish, MergeBegin, MajorBegin, MergeFinish, Maintenance, GetAt, PageAt, Snapshot, CloneSnapshot, CloseSnapshot, Gc, Persist, KeyspaceCount, ListKeyspaceNames, KeyspaceExists, Seqno, VisibleSeqno, JournalCount, JournalDiskSpace, OpenSnapshots, ApproximateLen, SealedMemtableCount, WriteBufferSize, TableCount, L0TableCount, OutstandingFlushes, ActiveCompactions, CompactionsCompleted, KeyspacesToFlush}

-- How a change is persisted: as the option of the keyspace of this id says, or by a mode or none that came with it.
pub data Persistence : Type 0 where
  AsKeyspace : (id : ℕ) → Persistence
  ByMode : (mode : Option PersistMode) → Persistence

-- a handle of a keyspace more is counted, or one less
pub data HandleCall : Type 0 where
  OneMore : HandleCall
  OneLess : HandleCall

-- a ticket is opened, at the visible number or where another one reads, or closed; or the watermark is raised
pub data TicketCall : Type 0 where
  Open : TicketCall
  Clone : (id : ℕ) → TicketCall
  Close : (id : ℕ) → TicketCall
  Collect : TicketCall

-- what is counted, or is a plain function of the state
pub data Count : Type 0 where
  Keyspaces : Count
  Names : Count
  Exists : (name : Bytes) → Count
  Next : Count
  Visible : Count
  Journals : Count
  JournalSpace : Count
  OpenTickets : Count
  Entries : (id : ℕ) → Count
  SealedMemtables : (id : ℕ) → Count
  WriteBuffer : Count
  WantsRotation : (id : ℕ) → Count
  Tables : (id : ℕ) → Count
  TablesL0 : (id : ℕ) → Count
  DiskSpace : (id : Option ℕ) → Count
  Flushes : Count
  MergesOut : Count
  MergesDone : Count
  ToFlush : Count

-- A change is one command with its batch; an ingestion is one command too, of items of one keyspace; a rotation seals a keyspace's active memtable, one of the journal the active journal; a
-- flush is begun of a keyspace, and finished by its job, and so is a merge, which is begun where it is due, or as a major one; maintenance removes sealed journals; a read is a query on a keyspace's map
-- in a view.
pub data CallShape : Type 0 where
  OfChange : (change : Change) (how : Persistence) → CallShape
  OfIngestion : (id : ℕ) (items : List KeyOp) → CallShape
  OfCreation : (name : Bytes) (options : List Bytes) → CallShape
  OfDeletion : (id : ℕ) → CallShape
  OfHandle : (call : HandleCall) (id : ℕ) → CallShape
  OfRotation : (id : ℕ) → CallShape
  OfJournalRotation : CallShape
  OfFlushBegin : (id : ℕ) → CallShape
  OfFlushFinish : (job : JobId) → CallShape
  OfMergeBegin : (kind : MergeKind) (id : ℕ) → CallShape
  OfMergeFinish : (job : JobId) → CallShape
  OfMaintenance : CallShape
  OfRead : (view : View) (id : ℕ) (query : Query) → CallShape
  OfTickets : (call : TicketCall) → CallShape
  OfPersist : (mode : PersistMode) → CallShape
  OfCount : (count : Count) → CallShape

-- a write of one key, which is persisted as its keyspace says
abbrev pub of_write : BatchItem → CallShape
of_write item = OfChange (Items (item ∷ [])) (AsKeyspace item.0)

-- a clear of a keyspace, which is persisted as that says
abbrev pub of_clear : ℕ → CallShape
of_clear id = OfChange (Emptied id) (AsKeyspace id)

abbrev pub shape_of : Call → CallShape
shape_of (Keyspace name options) = OfCreation name options
shape_of (DeleteKeyspace id) = OfDeletion id
shape_of (Retain id) = OfHandle OneMore id
shape_of (Release id) = OfHandle OneLess id
shape_of (Insert id key value) = of_write (id, key, ops.Put value)
shape_of (Remove id key) = of_write (id, key, ops.Remove)
shape_of (RemoveWeak id key) = of_write (id, key, ops.RemoveWeak)
shape_of (Clear id) = of_clear id
shape_of (CommitBatch items mode) = OfChange (Items items.items) (ByMode mode)
shape_of (Ingest id items) = OfIngestion id items.items
shape_of (RotateMemtable id) = OfRotation id
shape_of RotateJournal = OfJournalRotation
shape_of (FlushBegin id) = OfFlushBegin id
shape_of (FlushFinish job) = OfFlushFinish job
shape_of (MergeBegin id) = OfMergeBegin Due id
shape_of (MajorBegin id) = OfMergeBegin Major id
shape_of (MergeFinish job) = OfMergeFinish job
shape_of Maintenance = OfMaintenance
shape_of (GetAt view id key) = OfRead view id (Get key)
shape_of (PageAt view id range back max) = OfRead view id (Page range back max)
shape_of Snapshot = OfTickets Open
shape_of (CloneSnapshot ticket) = OfTickets (Clone ticket.id)
shape_of (CloseSnapshot ticket) = OfTickets (Close ticket.id)
shape_of Gc = OfTickets Collect
shape_of (Persist mode) = OfPersist mode
shape_of KeyspaceCount = OfCount Keyspaces
shape_of ListKeyspaceNames = OfCount Names
shape_of (KeyspaceExists name) = OfCount (Exists name)
shape_of Seqno = OfCount Next
shape_of VisibleSeqno = OfCount Visible
shape_of JournalCount = OfCount Journals
shape_of JournalDiskSpace = OfCount JournalSpace
shape_of OpenSnapshots = OfCount OpenTickets
shape_of (ApproximateLen id) = OfCount (Entries id)
shape_of (SealedMemtableCount id) = OfCount (SealedMemtables id)
shape_of WriteBufferSize = OfCount WriteBuffer
shape_of (calls.WantsRotation id) = OfCount (WantsRotation id)
shape_of (TableCount id) = OfCount (Tables id)
shape_of (L0TableCount id) = OfCount (TablesL0 id)
shape_of (calls.DiskSpace id) = OfCount (DiskSpace id)
shape_of OutstandingFlushes = OfCount Flushes
shape_of ActiveCompactions = OfCount MergesOut
shape_of CompactionsCompleted = OfCount MergesDone
shape_of KeyspacesToFlush = OfCount ToFlush
