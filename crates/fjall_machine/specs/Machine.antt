-- The engine as a machine: what each call may answer, and the state after it.
use Rattle.std.specs.Prelude.{◌≡◌, ◌≢◌, ◌⊎◌, ℕ, ◌+◌, ◌-◌, ◌<◌, ◌≤◌, Any, Bool, IsTrue, count_by, map, take, true, false, nat_le, nat_lt, not, ◌==◌, ◌||◌, ◌&&◌, ◌^◌, if◌then◌else◌, List, [], ◌∷◌, ◌++◌, codes, drop, filter, is_some, length, Option, None, Some, is_none, unwrap_or, IsPermutation, IsSorted, Vec}
use Rattle.std.specs.List.{list_all, list_any, sum_by}
use Rattle.std.specs.List.Sorted.{IsStrictlyIncreasing}
use Rattle.byteorder.specs.Endian.{little_number}
use Rattle.std.specs.Str.{bytes_eq}
use Rattle.std.specs.Ordering.{is_lt, nat_cmp}
use Rattle.std.specs.FinMap.{FinMap, contains_key, empty, entries, get, insert, len, remove, values}
use Rattle.std.specs.declared.alloc.Global.{Global}
use Rattle.fjall_base.specs.Pairs.{Bytes, Pairs, byte_order}
use Rattle.fjall_base.specs.Store.{Store, Options, Create, Delete, apply, kept, map_at}
use Rattle.fjall_base.specs.declared.error.Error.{Error}
use Rattle.fjall_base.specs.declared.error.Error.TheVariants.{Io, Storage, Poisoned, KeyspaceDeleted, KeyEmpty, KeyOrder, KeyTooLong, ValueTooLong, InvalidName, OutOfMemory, NumbersUsedUp, UnknownKeyspace, SnapshotClosed, TooManyItems}
use Rattle.fjall_base.specs.declared.error.StorageError.TheVariants.{TableDamaged}
use Rattle.fjall_journal.specs.declared.persist_mode.PersistMode.{PersistMode}
use Rattle.fjall_journal.specs.declared.persist_mode.PersistMode.TheVariants.{Buffer}
use Rattle.fjall_journal.specs.Writer.{counted, goes_out}
use Rattle.fjall_journal.specs.Changes.{Change, Items, Emptied, change_text, command_of}
use Rattle.fjall_journal.specs.Ops.{BatchItem, are_too_many, bytes_in, items_refusal}
use Rattle.fjall_journal.specs.Ops as ops
use Rattle.fjall_files.specs.Journals.{Journals, Sealed, bytes_of, may_go, next_journal, staying, waited_for}
use Rattle.fjall_files.specs.Places.{marked}
use Rattle.fjall_table.specs.Blocks.{Entry}
use Rattle.fjall_memtable.specs.Entries.{size_of}
use Rattle.fjall_memtable.specs.Parts.{clears_in, holds_nothing, parts_of, versions_in}
use Rattle.fjall_tree.specs.Ingestions.{ingested}
use Rattle.fjall_tree.specs.Trees as lsm
use Rattle.fjall_tree.specs.Jobs.{count_out, flush_begun, flush_dropped, flush_end, flush_finished, flush_of, is_flush_out, is_merge_out, merge_begun, merge_dropped, merge_finished, merge_of}
use Rattle.fjall_tree.specs.Trees.{Flushing, Merging, emptied, is_l0, sealed_off}
use Rattle.fjall_trees.specs.Forests.{Forest, altered_at, tree_at}
use Rattle.fjall_trees.specs.Forests as forests
use Rattle.fjall_trees.specs.Tables.{entries_with, shape_in}
use Rattle.fjall_trees.specs.Writes.{pushed, with_tree}
use Rattle.fjall_table_reader.specs.Readers.{Reader}
use Rattle.fjall_manifest.specs.Catalog.{fields, first_of}
use Rattle.fjall_meta.specs.Contents.{is_beyond}
use Rattle.fjall_compaction.specs.Flushes.{flushed_infos, record_after_flush}
use Rattle.fjall_compaction.specs.Flushes as flushes
use Rattle.fjall_compaction.specs.Ingests.{batch_items, ingestion}
use Rattle.fjall_compaction.specs.Whole.{LacksIds, LacksRecordRoom, MakesIngestion, last_ingested}
use Rattle.fjall_jobs.specs.declared.made_table.MadeTable.{MadeTable}
use Rattle.fjall_jobs.specs.Merges.{IsMerged}
use Rattle.fjall_jobs.specs.Tasks.{IsFlushed, Task}
use Rattle.fjall_compaction.specs.Merges.{Merge}
use Rattle.fjall_compaction.specs.Merges as merges
use Rattle.fjall_compaction.specs.Room.{IsTooLong, LacksNextId}
use Rattle.fjall_compaction.specs.MergeFinishing as merging
use Rattle.fjall_manifest.specs.Records.{Fields, body}
use Rattle.fjall_reading.specs.Ingestions.{AreWritable, KeyOp, KeysAscend}
use Rattle.fjall_options.specs.Options.{is_set, value_of}
use Rattle.fjall_meta.specs.Keyspaces.{is_name}
use Rattle.fjall_meta.specs.Replays.{option_pairs}
use Rattle.fjall_history.specs.declared.job.JobId.{JobId}
use Rattle.fjall_history.specs.declared.ticket.View.{View}
use Rattle.fjall_history.specs.declared.ticket.View.TheVariants.{Present, At}
use Rattle.fjall_history.specs.declared.reply.Reply.{Reply}
use Rattle.fjall_history.specs.declared.reply.Reply.TheVariants.{Began, Done, Ids, Number, Names, Flag, Opened, Refused}
use Rattle.fjall_history.specs.Histories.{History, grown, latest, number, plain, view}
use Rattle.fjall_history.specs.Tickets.{Tickets, cloning_refusal, closed, closing_refusal, collected, is_open, no_tickets, opened, opening_refusal}
use Rattle.fjall_history.specs.Moves.{Times}
use Rattle.fjall_history.specs.Queries.{Tells}
use Rattle.fjall_machine.specs.declared.call.Call.{Call}
use Rattle.fjall_machine.specs.declared.merge_kind.MergeKind.{MergeKind}
use Rattle.fjall_machine.specs.declared.merge_kind.MergeKind.TheVariants.{Due, Major}
use Rattle.fjall_machine.specs.Shapes.{AsKeyspace, ByMode, Clone, Close, Collect, Count, DiskSpace, Exists, Flushes, HandleCall, JournalSpace, Keyspaces, Next, OfChange, OfCount, OfCreation, OfDeletion, OfFlushBegin, OfFlushFinish, OfIngestion, OfMergeBegin, OfMergeFinish, MergesDone, MergesOut, OfHandle, OfJournalRotation, OfMaintenance, OfPersist, OfRead, OfRotation, OfTickets, OneLess, OneMore, Open, OpenTickets, Persistence, Entries, SealedMemtables, CallShape, Tables, TablesL0, TicketCall, ToFlush, Visible, WriteBuffer, shape_of}
use Rattle.fjall_machine.specs.Shapes as shapes

-- The journals, the sealed ones and the active one: of each its number, up to which number each keyspace has changes in it, and
-- of a sealed one how many bytes its file has. How many bytes the active journal's file has, how many wait in the buffer, the id
-- that tree 0's next table gets, and the trees of the keyspaces that are read: of each its tables, its memtables, sealed ones and an
-- active one, and the flush and the merge that are out of it, where they are. By their ids, what the tables of keyspaces hold, table by table, and
-- what the last record of each keyspace that lives says.
pub record Parts : Type 0 where
  pub journals : Journals
  pub journal : ℕ
  pub buffer : ℕ
  pub table : ℕ
  pub trees : Forest
  pub entries : ℕ → List (List Entry)
  pub records : ℕ → Fields

-- The history, whether a fault of the disk has poisoned the engine, how many handles of each keyspace are counted, the
-- deleted keyspaces whose last maps are still read, the keyspaces that have a table with a wrong block, the tickets, the number
-- that the next job gets, how many merges were finished and took effect, and the parts that its counts, its reads and its jobs speak
-- of. No call changes which keyspaces are damaged: an id is never given anew.
pub record State : Type 0 where
  pub history : History
  pub poisoned : Bool
  pub handles : FinMap nat_cmp ℕ
  pub lasting : List ℕ
  pub damaged : List ℕ
  pub tickets : Tickets
  pub next_job : ℕ
  pub merges_done : ℕ
  pub parts : Parts

-- Just opened, where these keyspaces have a table with a wrong block: no ticket was given out, and the watermark is that of none.
abbrev pub opened_state : Store → List ℕ → ℕ → Parts → State
opened_state store damaged base parts = record {
  history = record { opened = store; base = base; accepted = [] };
  poisoned = false;
  handles = empty;
  lasting = [];
  damaged = damaged;
  tickets = collected base no_tickets;
  next_job = 0;
  merges_done = 0;
  parts = parts;
}

-- the store after all that was accepted
abbrev pub present : State → Store
present s = latest s.history

-- its history and its tickets
abbrev pub times : State → Times
times s = record { history = s.history; tickets = s.tickets }

-- the instant at which an open ticket reads
abbrev pub instant_of : Tickets → ℕ → ℕ
instant_of tickets id = unwrap_or (get tickets.instants id) 0

-- the maps that a view shows: those of the present, or after the commands numbered below the ticket's instant
abbrev pub maps_in : State → View → FinMap nat_cmp Pairs
maps_in s Present = (present s).maps
maps_in s (At ticket) = (view s.history (instant_of s.tickets ticket.id)).maps

-- all that waited is in the file, with some bytes more
abbrev pub parts_written_out : Parts → ℕ → Parts
parts_written_out parts more = record parts { journal = counted (parts.journal + (parts.buffer + more)); buffer = 0 }

-- so many bytes more were written: they and all that waited are in the file, or they wait too
abbrev pub parts_written : Bool → Parts → ℕ → Parts
parts_written out parts more = record parts {
  journal = if out then counted (parts.journal + (parts.buffer + more)) else parts.journal;
  buffer = if out then 0 else parts.buffer + more;
}

-- ---- keyspaces

-- no keyspace ever had the id
abbrev pub is_unknown : Store → ℕ → Bool
is_unknown s id = id == 0 || nat_le s.next id

-- the id has a name
abbrev pub is_living : Store → ℕ → Bool
is_living s id = contains_key s.names id

-- the id has no name any more
abbrev pub is_deleted : Store → ℕ → Bool
is_deleted s id = not (is_living s id)

-- a keyspace has this name
abbrev pub names_one : Store → Bytes → Bool
names_one s name = list_any (λ other. bytes_eq other name) (values s.names)

-- the id is among these
abbrev pub is_among : List ℕ → ℕ → Bool
is_among ids id = list_any (λ other. other == id) ids

-- how many handles of the keyspace are counted
abbrev pub handles_of : FinMap nat_cmp ℕ → ℕ → ℕ
handles_of handles id = unwrap_or (get handles id) 0

-- one handle more, and one less
abbrev pub one_more : FinMap nat_cmp ℕ → ℕ → FinMap nat_cmp ℕ
one_more handles id = insert handles id (handles_of handles id + 1)

abbrev pub one_less : FinMap nat_cmp ℕ → ℕ → FinMap nat_cmp ℕ
one_less handles id = if handles_of handles id == 1 then remove handles id else insert handles id (handles_of handles id - 1)

-- no more of the deleted keyspaces is read than those but this one
abbrev pub without_id : List ℕ → ℕ → List ℕ
without_id ids id = filter (λ other. not (other == id)) ids

-- these settings say that writes are persisted by hand
abbrev pub is_by_hand : Options → Bool
is_by_hand options = is_set (unwrap_or (value_of (codes "manual_journal_persist") options) [])

-- the keyspace lives, and its writes are persisted by hand
abbrev pub persists_by_hand : Store → ℕ → Bool
persists_by_hand s id = is_living s id && is_by_hand (unwrap_or (get s.options id) [])

-- ---- what refuses a call

-- What refusals look at: the store, the next number, whether the engine is poisoned, the deleted keyspaces that are still read,
-- how many handles are counted, the tickets, the id of tree 0's next table, and the number of the active journal.
pub record Facts : Type 0 where
  pub store : Store
  pub next : ℕ
  pub poisoned : Bool
  pub lasting : List ℕ
  pub handles : FinMap nat_cmp ℕ
  pub tickets : Tickets
  pub table : ℕ
  pub active : ℕ

abbrev pub facts : State → Facts
facts s = record { store = present s; next = number s.history; poisoned = s.poisoned; lasting = s.lasting; handles = s.handles; tickets = s.tickets; table = s.parts.table; active = s.parts.journals.active }

-- the first refusal whose cause holds
abbrev pub first_due : List (Bool × Error) → Option Error
first_due [] = None
first_due (refusal ∷ refusals) = if refusal.0 then Some refusal.1 else first_due refusals

-- some item is of a keyspace that never was, or that lives no more
abbrev pub some_unknown : Store → List BatchItem → Bool
some_unknown s items = list_any (λ item. is_unknown s item.0) items

abbrev pub some_deleted : Store → List BatchItem → Bool
some_deleted s items = list_any (λ item. is_deleted s item.0) items

-- The refusals of a change by these items, cause by cause over all of them: keys have 1 to 65,535 bytes, values at most
-- 4,294,967,295, a batch has at most 4,294,967,295 items, and numbers lie below 2^63.
abbrev pub items_refusals : Facts → List BatchItem → List (Bool × Error)
items_refusals f items =
    (ops.some_key_empty items, KeyEmpty)
    ∷ (ops.some_key_too_long items, KeyTooLong)
    ∷ (ops.some_value_too_long items, ValueTooLong)
    ∷ (some_unknown f.store items, UnknownKeyspace)
    ∷ (some_deleted f.store items, KeyspaceDeleted)
    ∷ (f.poisoned, Poisoned)
    ∷ (are_too_many items, TooManyItems)
    ∷ (nat_le (2 ^ 63) f.next, NumbersUsedUp)
    ∷ []

-- some key is empty, or has more than 65,535 bytes, or some value more than 4,294,967,295
abbrev pub some_key_empty : List KeyOp → Bool
some_key_empty items = list_any (λ item. length item.0 == 0) items

abbrev pub some_key_too_long : List KeyOp → Bool
some_key_too_long items = list_any (λ item. nat_le (2 ^ 16) (length item.0)) items

abbrev pub some_value_too_long : List KeyOp → Bool
some_value_too_long items = list_any (λ item. nat_le (2 ^ 32) (length (bytes_in item.1))) items

-- each key is below the next one
abbrev pub do_ascend : List KeyOp → Bool
do_ascend [] = true
do_ascend (item ∷ []) = true
do_ascend (item ∷ next ∷ items) = is_lt (byte_order item.0 next.0) && do_ascend (next ∷ items)

-- The refusals of an ingestion, cause by cause over all items: those of a change by them, and that the keys don't ascend.
abbrev pub ingestion_refusals : Facts → ℕ → List KeyOp → List (Bool × Error)
ingestion_refusals f id items =
    (some_key_empty items, KeyEmpty)
    ∷ (some_key_too_long items, KeyTooLong)
    ∷ (some_value_too_long items, ValueTooLong)
    ∷ (not (do_ascend items), KeyOrder)
    ∷ (is_unknown f.store id, UnknownKeyspace)
    ∷ (is_deleted f.store id, KeyspaceDeleted)
    ∷ (f.poisoned, Poisoned)
    ∷ (nat_le (2 ^ 32) (length items), TooManyItems)
    ∷ (nat_le (2 ^ 63) f.next, NumbersUsedUp)
    ∷ []

-- No key and no value is one that can't be written, the keys ascend, a batch might have the items, their keyspace lives, no fault has
-- poisoned the engine, and a number is left.
pub record MayIngest (f : Facts) (id : ℕ) (items : List KeyOp) : Type 0 where
  pub ascend : KeysAscend items
  pub writable : AreWritable items
  pub fits : items_refusal (batch_items id items) ≡ None
  pub lives : is_living f.store id ≡ true
  pub well : f.poisoned ≡ false
  pub numbered : f.next < 2 ^ 63

-- the refusals of a change that empties a keyspace
abbrev pub clear_refusals : Facts → ℕ → List (Bool × Error)
clear_refusals f id = (is_unknown f.store id, UnknownKeyspace) ∷ (is_deleted f.store id, KeyspaceDeleted) ∷ (f.poisoned, Poisoned) ∷ (nat_le (2 ^ 63) f.next, NumbersUsedUp) ∷ []

-- the refusals of a change
abbrev pub change_refusals : Facts → Change → List (Bool × Error)
change_refusals f (Items items) = items_refusals f items
change_refusals f (Emptied id) = clear_refusals f id

-- the refusals of a rotation of a keyspace's memtable, and of a flush or a merge that is to begin
abbrev pub rotation_refusals : Facts → ℕ → List (Bool × Error)
rotation_refusals f id = (is_unknown f.store id, UnknownKeyspace) ∷ (is_deleted f.store id, KeyspaceDeleted) ∷ (f.poisoned, Poisoned) ∷ []

-- The refusals of a rotation of the journal. The numbers of journals end below the greatest u64.
abbrev pub journal_refusals : Facts → List (Bool × Error)
journal_refusals f = (f.poisoned, Poisoned) ∷ (nat_le (2 ^ 64 - 2) f.active, NumbersUsedUp) ∷ []

-- the keyspace lives, or is deleted and still read
abbrev pub is_read : Facts → ℕ → Bool
is_read f id = is_living f.store id || is_among f.lasting id

-- the refusals of a read of a keyspace
abbrev pub read_refusals : Facts → ℕ → List (Bool × Error)
read_refusals f id = (is_unknown f.store id, UnknownKeyspace) ∷ (not (is_read f id), KeyspaceDeleted) ∷ []

-- before these, that of a ticket that isn't open
abbrev pub view_refusals : Facts → View → ℕ → List (Bool × Error)
view_refusals f Present id = read_refusals f id
view_refusals f (At ticket) id = (not (is_open f.tickets ticket.id), SnapshotClosed) ∷ read_refusals f id

-- Numbers end at 2^63, and ids at the greatest u64. Where a keyspace is left, a change of the keyspaces takes an id for
-- the table of all of them.
abbrev pub are_used_up : Facts → Bool → Bool
are_used_up f leaves_any = nat_le (2 ^ 63) f.next || (leaves_any && (f.table == 2 ^ 64 - 1))

-- The refusals of a creation. A name that a keyspace has is refused by nothing.
abbrev pub creation_refusals : Facts → Bytes → List (Bool × Error)
creation_refusals f name =
    (not (is_name name), InvalidName)
    ∷ (not (names_one f.store name) && f.poisoned, Poisoned)
    ∷ (not (names_one f.store name) && (are_used_up f true || (f.store.next == 2 ^ 64 - 1)), NumbersUsedUp)
    ∷ []

-- The refusals of a deletion. A keyspace that is deleted already is refused by nothing.
abbrev pub deletion_refusals : Facts → ℕ → List (Bool × Error)
deletion_refusals f id =
    (is_unknown f.store id, UnknownKeyspace)
    ∷ (is_living f.store id && f.poisoned, Poisoned)
    ∷ (is_living f.store id && are_used_up f (nat_le 2 (len f.store.names)), NumbersUsedUp)
    ∷ []

-- the refusals of counting a handle more, or less
abbrev pub handle_refusals : Facts → HandleCall → ℕ → List (Bool × Error)
handle_refusals f OneMore id = (is_unknown f.store id, UnknownKeyspace) ∷ (not (is_read f id), KeyspaceDeleted) ∷ (handles_of f.handles id == 2 ^ 64 - 1, NumbersUsedUp) ∷ []
handle_refusals f OneLess id = (is_unknown f.store id, UnknownKeyspace) ∷ (handles_of f.handles id == 0, UnknownKeyspace) ∷ []

-- the refusal of a call on tickets
abbrev pub ticket_refusal : Tickets → TicketCall → Option Error
ticket_refusal t Open = opening_refusal t
ticket_refusal t (Clone id) = cloning_refusal id t
ticket_refusal t (Close id) = closing_refusal id t
ticket_refusal t Collect = None

-- The refusal that is due for a call, before memory or the disk is asked for anything. A change of no items is refused by
-- nothing, and so is an ingestion of none.
abbrev pub due_in : Facts → CallShape → Option Error
due_in f (OfChange (Items []) how) = None
due_in f (OfChange (Items (item ∷ items)) how) = first_due (items_refusals f (item ∷ items))
due_in f (OfChange (Emptied id) how) = first_due (clear_refusals f id)
due_in f (OfIngestion id []) = None
due_in f (OfIngestion id (item ∷ items)) = first_due (ingestion_refusals f id (item ∷ items))
due_in f (OfCreation name options) = first_due (creation_refusals f name)
due_in f (OfDeletion id) = first_due (deletion_refusals f id)
due_in f (OfHandle call id) = first_due (handle_refusals f call id)
due_in f (OfRotation id) = first_due (rotation_refusals f id)
due_in f OfJournalRotation = first_due (journal_refusals f)
due_in f (OfFlushBegin id) = first_due (rotation_refusals f id)
due_in f (OfFlushFinish job) = None
due_in f (OfMergeBegin kind id) = first_due (rotation_refusals f id)
due_in f (OfMergeFinish job) = None
due_in f OfMaintenance = first_due ((f.poisoned, Poisoned) ∷ [])
due_in f (OfRead view id query) = first_due (view_refusals f view id)
due_in f (OfTickets call) = ticket_refusal f.tickets call
due_in f (OfPersist mode) = first_due ((f.poisoned, Poisoned) ∷ [])
due_in f (OfCount count) = None

abbrev pub due : State → CallShape → Option Error
due s shape = due_in (facts s) shape

-- a question that takes memory: the answer is a list
abbrev pub IsListed : Count → Type 0
IsListed shapes.Names = Unit {0}
IsListed ToFlush = Unit {0}
IsListed count = ⊥

abbrev pub OpensTicket : TicketCall → Type 0
OpensTicket Open = Unit {0}
OpensTicket (Clone id) = Unit {0}
OpensTicket (Close id) = ⊥
OpensTicket Collect = ⊥

-- a call that takes memory
abbrev pub TakesMemory : CallShape → Type 0
TakesMemory (OfChange (Items (item ∷ items)) how) = Unit {0}
TakesMemory (OfChange (Emptied id) how) = Unit {0}
TakesMemory (OfIngestion id (item ∷ items)) = Unit {0}
TakesMemory (OfCreation name options) = Unit {0}
TakesMemory (OfDeletion id) = Unit {0}
TakesMemory (OfHandle call id) = Unit {0}
TakesMemory (OfRotation id) = Unit {0}
TakesMemory OfJournalRotation = Unit {0}
TakesMemory (OfFlushBegin id) = Unit {0}
TakesMemory (OfFlushFinish job) = Unit {0}
TakesMemory (OfMergeBegin kind id) = Unit {0}
TakesMemory (OfMergeFinish job) = Unit {0}
TakesMemory (OfRead view id query) = Unit {0}
TakesMemory (OfTickets call) = OpensTicket call
TakesMemory (OfCount count) = IsListed count
TakesMemory shape = ⊥

-- The mode of a change: the one that it was given or, for a write of one key, none where its keyspace persists by hand, and
-- else the one that hands the buffer to the system.
abbrev pub mode_in : Store → Persistence → Option PersistMode
mode_in s (AsKeyspace id) = if persists_by_hand s id then None else Some Buffer
mode_in s (ByMode mode) = mode

-- a change leaves the journal's buffer, in which so many bytes wait: it has a mode, or 8,192 bytes or more wait with it
abbrev pub leaves_buffer : Facts → ℕ → Change → Persistence → Bool
leaves_buffer f waiting change how = goes_out (is_none (mode_in f.store how)) (waiting + length (change_text change f.next))

-- A call that changes the disk, where so many bytes wait in the journal's buffer. What flushes, merges, ingestions and
-- maintenance change is said below.
abbrev pub ChangesDisk : Facts → ℕ → CallShape → Type 0
ChangesDisk f waiting (OfChange (Items (item ∷ items)) how) = leaves_buffer f waiting (Items (item ∷ items)) how ≡ true
ChangesDisk f waiting (OfChange (Emptied id) how) = leaves_buffer f waiting (Emptied id) how ≡ true
ChangesDisk f waiting (OfCreation name options) = Unit {0}
ChangesDisk f waiting (OfDeletion id) = Unit {0}
ChangesDisk f waiting (OfHandle OneLess id) = Unit {0}
ChangesDisk f waiting OfJournalRotation = Unit {0}
ChangesDisk f waiting (OfPersist mode) = Unit {0}
ChangesDisk f waiting shape = ⊥

-- The engine is poisoned, and of its parts the trees, what their tables hold, the last records and what is known of the journals are
-- as before. How many bytes are in the active one's file, and how many wait, is not known.
pub record IsPoisoned (old new : State) : Type 0 where
  pub is : new ≡ record old { poisoned = true; parts = new.parts }
  pub trees : new.parts.trees ≡ old.parts.trees
  pub entries : new.parts.entries ≡ old.parts.entries
  pub records : new.parts.records ≡ old.parts.records
  pub journals : new.parts.journals ≡ old.parts.journals

-- the settings of some keyspace have a value of 2^32 bytes or more, for which no table has room
abbrev pub HasLongOption : Store → Type 0
HasLongOption s = (id : ℕ) × (options : Options) × (get s.options id ≡ Some options) × Any (λ pair. 2 ^ 32 ≤ length pair.1) options

-- a creation or a deletion writes the settings of all keyspaces that live after it
abbrev pub TooLong : Store → CallShape → Type 0
TooLong s (OfCreation name options) = HasLongOption (kept (apply s (Create name (option_pairs options))))
TooLong s (OfDeletion id) = HasLongOption (kept (apply s (Delete id)))
TooLong s shape = ⊥

-- ---- what a call does

-- What a change of that number makes of the trees: each item is a version more in the active memtable of its keyspace; a
-- keyspace that is emptied has a clear more there.
abbrev pub changed : ℕ → Change → Forest → Forest
changed n (Items items) trees = pushed n items trees
changed n (Emptied id) trees = altered_at id (emptied n) trees

-- what it makes of the journals: the watermarks of the active one are raised
abbrev pub with_marks : ℕ → Change → Journals → Journals
with_marks n change j = record j { watermarks = marked n change j.watermarks }

-- A change was made: it is the next command, its batch is in the journal's file with all that waited, or waits too, and it
-- stands in the trees and is marked in the journal.
abbrev pub made : State → Change → Persistence → State
made s change how = record s {
  history = grown s.history (plain (command_of change));
  parts = record (parts_written (leaves_buffer (facts s) s.parts.buffer change how) s.parts (length (change_text change (number s.history)))) {
    trees = changed (number s.history) change s.parts.trees;
    journals = with_marks (number s.history) change s.parts.journals;
  };
}

-- a change was accepted; one of no items is none
abbrev pub accepted : State → Change → Persistence → State
accepted s (Items []) how = s
accepted s (Items (item ∷ items)) how = made s (Items (item ∷ items)) how
accepted s (Emptied id) how = made s (Emptied id) how

-- what records say, with that of one keyspace changed
abbrev pub records_with : ℕ → Fields → (ℕ → Fields) → ℕ → Fields
records_with id new records other = if other == id then new else records other

-- A keyspace of this name was made: that is the next command; the journal is written out, tree 0 has a new table, and the
-- keyspace has a tree of nothing, and its first record.
abbrev pub created : State → Bytes → List Bytes → State
created s name options = record s {
  history = grown s.history (plain (Create name (option_pairs options)));
  parts = record (parts_written_out s.parts 0) {
    table = s.parts.table + 1;
    trees = with_tree (present s).next (number s.history) s.parts.trees;
    records = records_with (present s).next (fields (first_of (number s.history))) s.parts.records;
  };
}

-- The keyspace was deleted: that is the next command. Its last map is still read. Where a keyspace is left, tree 0 has a
-- new table.
abbrev pub deleted : State → ℕ → State
deleted s id = record s {
  history = grown s.history (plain (Delete id));
  lasting = s.lasting ++ id ∷ [];
  parts = record (parts_written_out s.parts 0) { table = if nat_le 2 (len (present s).names) then s.parts.table + 1 else s.parts.table };
}

-- the last handle of a deleted keyspace is counted
abbrev pub is_last : State → ℕ → Bool
is_last s id = is_deleted (present s) id && (handles_of s.handles id == 1)

-- a handle less is counted, and with the last one of a deleted keyspace its map is read no more, and its tree is gone
abbrev pub released : State → ℕ → State
released s id = record s {
  handles = one_less s.handles id;
  lasting = if is_last s id then without_id s.lasting id else s.lasting;
  parts = record s.parts { trees = if is_last s id then forests.without id s.parts.trees else s.parts.trees };
}

abbrev pub handled : HandleCall → State → ℕ → State
handled OneMore s id = record s { handles = one_more s.handles id }
handled OneLess s id = released s id

-- the active memtable of a keyspace holds something: a version or a clear
abbrev pub holds_some : Option lsm.Shape → Bool
holds_some None = false
holds_some (Some tree) = not (holds_nothing tree.memory.active)

-- whether a rotation seals a memtable of the keyspace
abbrev pub rotates : Forest → ℕ → Bool
rotates trees id = holds_some (tree_at id trees)

-- the active memtable of a keyspace is sealed, an empty one begins, and the watermark is raised
abbrev pub rotated : State → ℕ → State
rotated s id = record s {
  tickets = collected (number s.history) s.tickets;
  parts = record s.parts { trees = altered_at id sealed_off s.parts.trees };
}

-- The active journal is sealed with all that waited, and an empty one of the next number begins.
abbrev pub journal_rotated : State → State
journal_rotated s = record s {
  parts = record s.parts { journals = next_journal (counted (s.parts.journal + s.parts.buffer)) s.parts.journals; journal = 0; buffer = 0 };
}

-- ---- flushes

-- whether a sealed memtable stands that no flush that is out takes
abbrev pub waits_for_flush : lsm.Shape → Bool
waits_for_flush tree = nat_lt (count_out tree.flush) (length tree.memory.sealed)

-- whether a flush of the keyspace begins: a sealed memtable stands, and no flush of it is out
abbrev pub begins_flush : Forest → ℕ → Bool
begins_flush trees id = nat_lt 0 (length (shape_in id trees).memory.sealed) && is_none (shape_in id trees).flush

-- The active journal is longer than 64,000,000 bytes with what waits: a flush begins behind a rotation of it.
abbrev pub is_long : Parts → Bool
is_long parts = nat_lt 64000000 (parts.journal + parts.buffer)

-- no number of a job is left, or none of a journal where the journal is rotated
abbrev pub are_jobs_used_up : State → Bool
are_jobs_used_up s = (s.next_job == 2 ^ 64 - 1) || (is_long s.parts && nat_le (2 ^ 64 - 2) s.parts.journals.active)

-- all that waited is in the journal's file, which is sealed where it is long
abbrev pub journal_synced : State → State
journal_synced s = if is_long s.parts then journal_rotated s else record s { parts = parts_written_out s.parts 0 }

-- a flush of all sealed memtables of the keyspace is out, under the next number, and with the watermark of now
abbrev pub flush_out : State → ℕ → State
flush_out s id = record s {
  next_job = s.next_job + 1;
  parts = record s.parts { trees = altered_at id (flush_begun s.next_job s.tickets.watermark) s.parts.trees };
}

-- What comes of a flush that is to begin: all that was accepted is synced, and it is out; or there is none to begin.
abbrev pub BeginsFlush : Bool → State → ℕ → Reply → State → Type 0
BeginsFlush true old id reply new =
    (reply ≡ Began (Some (record { number = old.next_job; keyspace_id = id }))) × (are_jobs_used_up old ≡ false) × (new ≡ flush_out (journal_synced old) id)
BeginsFlush false old id reply new = (reply ≡ Began None) × (new ≡ old)

-- whether the flush of this job is out
abbrev pub is_flushing : Forest → JobId → Bool
is_flushing trees job = is_flush_out job.number (shape_in job.keyspace_id trees).flush

-- what a flush that is out of a keyspace's tree was begun with
abbrev pub task_of : ℕ → lsm.Shape → Flushing → Task
task_of id tree out = flush_of out.id id out.watermark (take out.count tree.memory.sealed)

-- the flush of a keyspace's tree that is out, with these tables: it covers all changes below where the memtables begin that it leaves
abbrev pub flush_with : lsm.Shape → Flushing → List MadeTable → flushes.Flush
flush_with tree out tables = record { number = flush_end tree - 1; tables = tables; clears = clears_in (take out.count tree.memory.sealed) }

-- the parts once the flush of a keyspace is finished that is out, which made these tables, of these entries and with these readers
abbrev pub parts_flushed : ℕ → Flushing → List MadeTable → List (List Entry) → List Reader → Parts → Parts
parts_flushed id out tables lists readers parts = record parts {
  trees = altered_at id (flush_finished readers out) parts.trees;
  entries = entries_with id (parts.entries id ++ lists) parts.entries;
  records = records_with id (record_after_flush (flush_with (shape_in id parts.trees) out tables) (parts.records id)) parts.records;
}

-- A flush that was out is finished: of its memtables one table was made, of exactly the versions that its watermark doesn't hide, and
-- none where no version is left. It stands behind all other tables, at level 0 and under the next id, the clears stand in the record,
-- and the memtables are gone.
pub record FlushesOne (old : Parts) (id : ℕ) (out : Flushing) (new : Parts) : Type 0 where
  pub tables : List MadeTable
  pub made : IsFlushed (task_of id (shape_in id old.trees) out) tables (clears_in (take out.count (shape_in id old.trees).memory.sealed))
  pub readers : List Reader
  pub infos : map (λ t. t.info) readers ≡ flushed_infos (old.records id).next_table_id tables
  pub is : new ≡ parts_flushed id out tables made.lists readers old

abbrev pub FlushesIn : Option Flushing → Parts → ℕ → Parts → Type 0
FlushesIn None old id new = ⊥
FlushesIn (Some out) old id new = FlushesOne old id out new

-- the flush of the keyspace that is out is finished
abbrev pub Flushed : Parts → ℕ → Parts → Type 0
Flushed old id new = FlushesIn (shape_in id old.trees).flush old id new

-- no flush of the keyspace is out any more
abbrev pub flush_gone : State → ℕ → State
flush_gone s id = record s { parts = record s.parts { trees = altered_at id flush_dropped s.parts.trees } }

-- whether no journal is wanted for the changes of a keyspace up to a number: it doesn't live, or they stand in its tables
abbrev pub is_flushed : State → ℕ → ℕ → Bool
is_flushed s id lsn = not (is_living (present s) id) || not (is_beyond (s.parts.records id).persisted lsn)

-- with these sealed journals
abbrev pub with_sealed : List Sealed → State → State
with_sealed sealed s = record s { parts = record s.parts { journals = record s.parts.journals { sealed = sealed } } }

-- The oldest sealed journals are gone, up to the first that some keyspace that lives hasn't flushed.
abbrev pub evicted : State → State
evicted s = with_sealed (staying (is_flushed s) s.parts.journals.sealed) s

-- Whether the flush of this job takes effect once it is finished: its keyspace lives, and no ingestion has taken the memtables that it
-- was begun with.
abbrev pub takes_effect : State → JobId → Bool
takes_effect s job = is_living (present s) job.keyspace_id && nat_lt 0 (count_out (shape_in job.keyspace_id s.parts.trees).flush)

-- What comes of a flush that is to be finished. Where it is out and takes effect, journals that nobody wants any more are removed. Where
-- it isn't out it is stale, and nothing changes; one that takes no effect is stale too, and out no more.
abbrev pub FinishesFlush : (out takes : Bool) → State → JobId → Reply → State → Type 0
FinishesFlush true true old job reply new =
    (reply ≡ Flag true) × (old.poisoned ≡ false) × (parts : Parts) × Flushed old.parts job.keyspace_id parts × (new ≡ evicted (record old { parts = parts }))
FinishesFlush true false old job reply new = (reply ≡ Flag false) × (new ≡ flush_gone old job.keyspace_id)
FinishesFlush false takes old job reply new = (reply ≡ Flag false) × (new ≡ old)

-- some of the oldest sealed journals that nobody wants are gone
abbrev pub EvictsSome : State → State → Type 0
EvictsSome old new =
    (gone left : List Sealed) × (old.parts.journals.sealed ≡ gone ++ left) × IsTrue (list_all (may_go (is_flushed old)) gone) × (new ≡ with_sealed left old)

-- ---- merges

-- from how many tables at level 0 on these settings want a merge
abbrev pub l0_threshold : Options → ℕ
l0_threshold options = little_number 1 (unwrap_or (value_of (codes "leveled_l0_threshold") options) [])

-- the size at which these settings close a table that a merge makes
abbrev pub target_size : Options → ℕ
target_size options = little_number 8 (unwrap_or (value_of (codes "leveled_target_size") options) [])

-- the settings of a keyspace
abbrev pub options_in : Store → ℕ → Options
options_in s id = unwrap_or (get s.options id) []

-- how many tables at level 0 a merge of a keyspace with these settings wants: one that is due as many as they say, a major one none
abbrev pub least_of : MergeKind → Options → ℕ
least_of Due options = l0_threshold options
least_of Major options = 0

-- whether a merge of a tree begins that wants so many tables at level 0: it has a table and so many there, and no merge of it is out
abbrev pub begins_merging : ℕ → lsm.Shape → Bool
begins_merging least tree = nat_lt 0 (length tree.tables) && (nat_le least (count_by (λ t. is_l0 t.info.level) tree.tables) && is_none tree.merge)

-- whether a merge of the keyspace begins
abbrev pub begins_merge : Store → Forest → MergeKind → ℕ → Bool
begins_merge s trees kind id = begins_merging (least_of kind (options_in s id)) (shape_in id trees)

-- a merge of all tables of the keyspace, and of all clears of its record, is out, under the next number, and with the watermark of now
abbrev pub merge_out : State → ℕ → State
merge_out s id = record s {
  next_job = s.next_job + 1;
  parts = record s.parts { trees = altered_at id (merge_begun s.next_job s.tickets.watermark) s.parts.trees };
}

-- What comes of a merge that is to begin: it is out; or there is none to begin.
abbrev pub BeginsMerge : Bool → State → ℕ → Reply → State → Type 0
BeginsMerge true old id reply new =
    (reply ≡ Began (Some (record { number = old.next_job; keyspace_id = id }))) × (old.next_job < 2 ^ 64 - 1) × (new ≡ merge_out old id)
BeginsMerge false old id reply new = (reply ≡ Began None) × (new ≡ old)

-- whether the merge of this job is out
abbrev pub is_merging : Forest → JobId → Bool
is_merging trees job = is_merge_out job.number (shape_in job.keyspace_id trees).merge

-- what a merge that is out of a keyspace's tree was begun with, where its tables have these entries
abbrev pub merge_task_of : ℕ → lsm.Shape → List (List Entry) → Merging → Task
merge_task_of id tree entries out = merge_of out.id id out.watermark (take out.tables entries) (take out.clears tree.clears)

-- The parts once the merge of a keyspace is finished that is out, which made these tables, of these entries and with these readers, and
-- left these clears.
abbrev pub parts_merged : ℕ → Merging → List MadeTable → List ℕ → List (List Entry) → List Reader → Parts → Parts
parts_merged id out tables clears lists readers parts = record parts {
  trees = altered_at id (merge_finished readers out) parts.trees;
  entries = entries_with id (lists ++ drop out.tables (parts.entries id)) parts.entries;
  records = records_with id (merges.record_after_merge (merging.merge_out out tables clears) (parts.records id)) parts.records;
}

-- A merge that was out is finished: of the tables that it was begun with others were made, closed at the target size, of exactly the
-- versions that its watermark neither hides nor has spent; they stand in the place of those, at level 1 and under the next ids, and of
-- the clears that it was begun with those stay that its watermark doesn't reach. What came since stays.
pub record MergesOne (target : ℕ) (old : Parts) (id : ℕ) (out : Merging) (new : Parts) : Type 0 where
  pub tables : List MadeTable
  pub clears : List ℕ
  pub made : IsMerged target (merge_task_of id (shape_in id old.trees) (old.entries id) out) tables clears
  pub readers : List Reader
  pub infos : map (λ t. t.info) readers ≡ merges.merged_infos (old.records id).next_table_id tables
  pub is : new ≡ parts_merged id out tables clears made.lists readers old

abbrev pub MergesIn : Option Merging → ℕ → Parts → ℕ → Parts → Type 0
MergesIn None target old id new = ⊥
MergesIn (Some out) target old id new = MergesOne target old id out new

-- the merge of the keyspace that is out is finished, whose tables are closed at the target size of its settings
abbrev pub Merged : State → ℕ → Parts → Type 0
Merged old id new = MergesIn (shape_in id old.parts.trees).merge (target_size (options_in (present old) id)) old.parts id new

-- no merge of the keyspace is out any more
abbrev pub merge_gone : State → ℕ → State
merge_gone s id = record s { parts = record s.parts { trees = altered_at id merge_dropped s.parts.trees } }

-- What comes of a merge that is to be finished. Where it is out and its keyspace lives, it takes effect. Where it isn't out it is stale,
-- and nothing changes; one of a keyspace that was deleted is stale too, and out no more.
abbrev pub FinishesMerge : (out lives : Bool) → State → JobId → Reply → State → Type 0
FinishesMerge true true old job reply new =
    (reply ≡ Flag true) × (old.poisoned ≡ false)
    × (parts : Parts) × Merged old job.keyspace_id parts × (new ≡ record old { merges_done = counted (old.merges_done + 1); parts = parts })
FinishesMerge true false old job reply new = (reply ≡ Flag false) × (new ≡ merge_gone old job.keyspace_id)
FinishesMerge false lives old job reply new = (reply ≡ Flag false) × (new ≡ old)

-- how many merges are out
abbrev pub merge_count : Forest → ℕ
merge_count trees = count_by (λ k. is_some k.shape.merge) trees

-- ---- ingestions

-- no number of a journal is left where the journal is rotated before it
abbrev pub are_journals_used_up : State → Bool
are_journals_used_up s = is_long s.parts && nat_le (2 ^ 64 - 2) s.parts.journals.active

-- the parts after an ingestion under this number into a keyspace, for which these tables were made, of these entries and with these readers
abbrev pub parts_ingested : (id n : ℕ) → (flushes made : List MadeTable) → List (List Entry) → List Reader → Parts → Parts
parts_ingested id n flushes made lists readers parts = record parts {
  trees = altered_at id (ingested n readers) parts.trees;
  entries = entries_with id (parts.entries id ++ lists) parts.entries;
  records = records_with id (last_ingested n (shape_in id parts.trees) flushes made (parts.records id)) parts.records;
}

-- The items were ingested into the keyspace: that is the next command. All that the keyspace had in memory stands in a table, and the
-- items in one of their own.
pub record Ingests (old : State) (id : ℕ) (items : List KeyOp) (new : State) : Type 0 where
  pub flushes : List MadeTable
  pub made : List MadeTable
  pub readers : List Reader
  pub makes : MakesIngestion (shape_in id old.parts.trees) id old.tickets.watermark (number old.history) items (old.parts.records id) flushes made readers
  pub is : new ≡ record old {
    history = grown old.history (plain (ingestion id items));
    parts = parts_ingested id (number old.history) flushes made (makes.flushed.lists ++ makes.are.0) readers old.parts;
  }

-- ---- keyspaces that are made

-- a name that a keyspace has answers its id; another one's keyspace gets the next id
abbrev pub CreatesOrFinds : State → Bytes → List Bytes → ℕ → State → Type 0
CreatesOrFinds old name options id new =
    ((names_one (present old) name ≡ true) × (get (present old).names id ≡ Some name) × (new ≡ old))
    ⊎ ((names_one (present old) name ≡ false) × (id ≡ (present old).next) × (new ≡ created old name options))

-- The next ticket reads at the visible number, or where another one does. A closed one is named by none any more. The
-- watermark that was raised is told.
abbrev pub TurnsTickets : ℕ → Tickets → TicketCall → Reply → Tickets → Type 0
TurnsTickets visible old Open reply new = (reply ≡ Opened (record { id = old.next; instant = visible })) × (new ≡ opened visible old)
TurnsTickets visible old (Clone id) reply new =
    (instant : ℕ) × (get old.instants id ≡ Some instant) × (reply ≡ Opened (record { id = old.next; instant = instant })) × (new ≡ opened instant old)
TurnsTickets visible old (Close id) reply new = (reply ≡ Done) × (new ≡ closed visible id old)
TurnsTickets visible old Collect reply new = (reply ≡ Number new.watermark) × (new ≡ collected visible old)

-- how many versions a tree has, in its tables and in its memtables
abbrev pub version_count : lsm.Shape → ℕ
version_count tree = sum_by (λ t. t.info.entry_count) tree.tables + length (versions_in (parts_of tree.memory))

-- the sizes of all versions in its memtables, and of those in the active one: of each its key, its value and 16 bytes
abbrev pub memtable_size : lsm.Shape → ℕ
memtable_size tree = sum_by size_of (versions_in (parts_of tree.memory))

abbrev pub active_size : lsm.Shape → ℕ
active_size tree = sum_by size_of tree.memory.active.versions

-- the sizes of the memtables of all keyspaces that live
abbrev pub buffer_size : Store → Forest → ℕ
buffer_size s trees = sum_by (λ e. counted (memtable_size (shape_in e.0 trees))) (entries s.names)

-- up to which size these settings let a memtable grow
abbrev pub max_memtable_size : Options → ℕ
max_memtable_size options = little_number 8 (unwrap_or (value_of (codes "max_memtable_size") options) [])

-- the keyspace lives, and its active memtable is larger than its settings let it grow
abbrev pub wants_rotation : Store → Forest → ℕ → Bool
wants_rotation s trees id = is_living s id && nat_lt (max_memtable_size (unwrap_or (get s.options id) [])) (counted (active_size (shape_in id trees)))

-- how many bytes the files of a tree's tables have
abbrev pub table_space : lsm.Shape → ℕ
table_space tree = counted (sum_by (λ t. t.info.file_len) tree.tables)

-- the files of the tables of all keyspaces that live
abbrev pub tables_space : Store → Forest → ℕ
tables_space s trees = sum_by (λ e. table_space (shape_in e.0 trees)) (entries s.names)

-- how many keyspaces that live have a sealed memtable that no flush that is out takes
abbrev pub flush_count : Store → Forest → ℕ
flush_count s trees = count_by (λ e. waits_for_flush (shape_in e.0 trees)) (entries s.names)

-- of one keyspace, or of all that live with all journals
abbrev pub space_of : State → Option ℕ → ℕ
space_of s (Some id) = table_space (shape_in id s.parts.trees)
space_of s None = counted (tables_space (present s) s.parts.trees + counted (bytes_of s.parts.journals.sealed + s.parts.journal))

-- counts are functions of the state
abbrev pub CountIs : State → Count → Reply → Type 0
CountIs s Keyspaces reply = reply ≡ Number (len (present s).names)
CountIs s shapes.Names reply = (names : Vec Bytes Global) × (reply ≡ Names names) × IsPermutation (values (present s).names) names.items × IsSorted byte_order names.items
CountIs s (Exists name) reply = reply ≡ Flag (names_one (present s) name)
CountIs s Next reply = reply ≡ Number (number s.history)
CountIs s Visible reply = reply ≡ Number (number s.history)
CountIs s shapes.Journals reply = reply ≡ Number (length s.parts.journals.sealed + 1)
CountIs s JournalSpace reply = reply ≡ Number (counted (bytes_of s.parts.journals.sealed + s.parts.journal))
CountIs s OpenTickets reply = reply ≡ Number (len s.tickets.instants)
CountIs s (Entries id) reply = reply ≡ Number (counted (version_count (shape_in id s.parts.trees)))
CountIs s (SealedMemtables id) reply = reply ≡ Number (length (shape_in id s.parts.trees).memory.sealed)
CountIs s WriteBuffer reply = reply ≡ Number (counted (buffer_size (present s) s.parts.trees))
CountIs s (shapes.WantsRotation id) reply = reply ≡ Flag (wants_rotation (present s) s.parts.trees id)
CountIs s (Tables id) reply = reply ≡ Number (length (shape_in id s.parts.trees).tables)
CountIs s (TablesL0 id) reply = reply ≡ Number (count_by (λ t. is_l0 t.info.level) (shape_in id s.parts.trees).tables)
CountIs s (DiskSpace id) reply = reply ≡ Number (space_of s id)
CountIs s Flushes reply = reply ≡ Number (flush_count (present s) s.parts.trees)
CountIs s MergesOut reply = reply ≡ Number (merge_count s.parts.trees)
CountIs s MergesDone reply = reply ≡ Number s.merges_done
CountIs s ToFlush reply = (ids : Vec ℕ Global) × (reply ≡ Ids ids) × IsStrictlyIncreasing ids.items × (ids.items ≡ waited_for (is_flushed s) s.parts.journals.sealed)

-- What comes of an ingestion: of no items nothing; of some, once all that waited was synced, the next command, and journals that nobody
-- wants any more are removed.
abbrev pub IngestsInto : ℕ → List KeyOp → State → Reply → State → Type 0
IngestsInto id [] old reply new = (reply ≡ Done) × (new ≡ old)
IngestsInto id (item ∷ items) old reply new =
    (reply ≡ Done) × (are_journals_used_up old ≡ false) × (mid : State) × Ingests (journal_synced old) id (item ∷ items) mid × (new ≡ evicted mid)

-- where nothing refuses it, a call may give this reply, and leaves this
abbrev pub Answers : State → CallShape → Reply → State → Type 0
Answers old (OfChange change how) reply new = (reply ≡ Done) × (new ≡ accepted old change how)
Answers old (OfIngestion id items) reply new = IngestsInto id items old reply new
Answers old (OfCreation name options) reply new = (id : ℕ) × (reply ≡ Number id) × CreatesOrFinds old name options id new
Answers old (OfDeletion id) reply new = (reply ≡ Done) × (new ≡ (if is_living (present old) id then deleted old id else old))
Answers old (OfHandle call id) reply new = (reply ≡ Done) × (new ≡ handled call old id)
Answers old (OfRotation id) reply new = (reply ≡ Flag (rotates old.parts.trees id)) × (new ≡ (if rotates old.parts.trees id then rotated old id else old))
Answers old OfJournalRotation reply new = (reply ≡ Done) × (new ≡ journal_rotated old)
Answers old (OfFlushBegin id) reply new = BeginsFlush (begins_flush old.parts.trees id) old id reply new
Answers old (OfFlushFinish job) reply new = FinishesFlush (is_flushing old.parts.trees job) (takes_effect old job) old job reply new
Answers old (OfMergeBegin kind id) reply new = BeginsMerge (begins_merge (present old) old.parts.trees kind id) old id reply new
Answers old (OfMergeFinish job) reply new = FinishesMerge (is_merging old.parts.trees job) (is_living (present old) job.keyspace_id) old job reply new
Answers old OfMaintenance reply new = (reply ≡ Done) × (new ≡ evicted old)
Answers old (OfRead view id query) reply new = Tells query (map_at (maps_in old view) id) reply × (new ≡ old)
Answers old (OfTickets call) reply new = TurnsTickets (number old.history) old.tickets call reply new.tickets × (new ≡ record old { tickets = new.tickets })
Answers old (OfPersist mode) reply new = (reply ≡ Done) × (new ≡ record old { parts = parts_written_out old.parts 0 })
Answers old (OfCount count) reply new = CountIs old count reply × (new ≡ old)

-- ---- what may go wrong

-- What a refused call leaves. None of these takes anything with it.
abbrev pub let_go : State → CallShape → State
let_go s shape = s

-- What a call leaves that meets a fault of the disk, but that it poisons the engine: a handle is counted less all the same, since
-- what the keyspace held may be gone with its last one.
abbrev pub at_fault : State → CallShape → State
at_fault s (OfHandle OneLess id) = released s id
at_fault s shape = s

-- the keyspace has a table
abbrev pub HasTables : ℕ → Forest → Type 0
HasTables id trees = (shape_in id trees).tables ≢ []

-- A read of a keyspace that has a table: it may ask the disk. What a merge reads that is to begin is said below.
abbrev pub ReadsTables : Forest → CallShape → Type 0
ReadsTables trees (OfRead view id query) = HasTables id trees
ReadsTables trees shape = ⊥

-- a read of a keyspace one of whose tables has a wrong block, or a merge of it that is to begin
abbrev pub ReadsDamaged : State → CallShape → Type 0
ReadsDamaged s (OfMergeBegin kind id) = (begins_merge (present s) s.parts.trees kind id ≡ true) × (is_among s.damaged id ≡ true)
ReadsDamaged s (OfRead view id query) = HasTables id s.parts.trees × (is_among s.damaged id ≡ true)
ReadsDamaged s shape = ⊥

-- the flush of this job would take effect, but for a fault that has poisoned the engine, or for want of something
abbrev pub IsDueToFinish : State → JobId → Type 0
IsDueToFinish s job = (is_flushing s.parts.trees job ≡ true) × (takes_effect s job ≡ true)

-- the merge of this job would take effect, but for a fault that has poisoned the engine, or for want of something
abbrev pub IsDueToMerge : State → JobId → Type 0
IsDueToMerge s job = (is_merging s.parts.trees job ≡ true) × (is_living (present s) job.keyspace_id ≡ true)

-- What a fault leaves of an ingestion, but that it poisons the engine: of what is read nothing changed; all that waited in the journal's
-- file may be there, a long journal may be sealed, and where the ingestion reached the disk, some journals may be gone that nobody wants
-- behind it.
abbrev pub IngestionFails : State → ℕ → List KeyOp → State → Type 0
IngestionFails old id items new =
    let synced = journal_synced old in
    IsPoisoned old new
    ⊎ (IsPoisoned synced new ⊎ ((mid left : State) × Ingests synced id items mid × EvictsSome mid left × IsPoisoned (with_sealed left.parts.journals.sealed synced) new))

-- What a fault leaves of a worker's step, but that it poisons the engine: of a flush that begins nothing; a flush or a merge that is
-- finished took effect or it didn't; and some journals may be gone that nobody wants. One that a merge meets as it begins, in a read,
-- leaves all as it was, and poisons nothing.
abbrev pub WorkFails : CallShape → State → State → Type 0
WorkFails (OfFlushBegin id) old new = (begins_flush old.parts.trees id ≡ true) × (are_jobs_used_up old ≡ false) × IsPoisoned old new
WorkFails (OfFlushFinish job) old new =
    IsDueToFinish old job × (old.poisoned ≡ false)
    × (IsPoisoned old new ⊎ ((parts : Parts) × (mid : State) × Flushed old.parts job.keyspace_id parts × EvictsSome (record old { parts = parts }) mid × IsPoisoned mid new))
WorkFails (OfMergeBegin kind id) old new = (begins_merge (present old) old.parts.trees kind id ≡ true) × (old.next_job < 2 ^ 64 - 1) × (new ≡ old)
WorkFails (OfMergeFinish job) old new =
    IsDueToMerge old job × (old.poisoned ≡ false)
    × (IsPoisoned old new ⊎ ((parts : Parts) × Merged old job.keyspace_id parts × IsPoisoned (record old { parts = parts }) new))
WorkFails (OfIngestion id []) old new = ⊥
WorkFails (OfIngestion id (item ∷ items)) old new = (are_journals_used_up old ≡ false) × IngestionFails old id (item ∷ items) new
WorkFails OfMaintenance old new = (mid : State) × EvictsSome old mid × IsPoisoned mid new
WorkFails shape old new = ⊥

-- the record after a merge has room, and too few ids are left for the tables that it made
abbrev pub LacksMergeIds : Fields → Merge → Type 0
LacksMergeIds last m = LacksNextId (merges.record_after_merge m last)

-- a record has no room for the tables and the clears that a merge leaves in it
abbrev pub LacksMergeRoom : Fields → Merge → Type 0
LacksMergeRoom last m = IsTooLong (merges.record_after_merge m last)

-- what some merge that is out of a tree may make of its task, whose tables are closed at this size, meets this with a record
abbrev pub MayLack : Option Merging → (target id : ℕ) → lsm.Shape → List (List Entry) → Fields → (Fields → Merge → Type 0) → Type 0
MayLack None target id tree entries last Lacks = ⊥
MayLack (Some out) target id tree entries last Lacks =
    (tables : List MadeTable) × (clears : List ℕ) × IsMerged target (merge_task_of id tree entries out) tables clears × Lacks last (merging.merge_out out tables clears)

-- A merge is to be finished, and what it made lacks something.
abbrev pub LacksAt : State → JobId → (Fields → Merge → Type 0) → Type 0
LacksAt s job Lacks =
    let id = job.keyspace_id in
    let tree = shape_in id s.parts.trees in
    IsDueToMerge s job × (s.poisoned ≡ false) × MayLack tree.merge (target_size (options_in (present s) id)) id tree (s.parts.entries id) (s.parts.records id) Lacks

-- what a flush of this tree that is out may have made, one table at most, meets this with the record after it
abbrev pub FlushMeets : lsm.Shape → Option Flushing → Fields → (Fields → Type 0) → Type 0
FlushMeets tree None last Meets = ⊥
FlushMeets tree (Some out) last Meets = (tables : List MadeTable) × (length tables ≤ 1) × Meets (record_after_flush (flush_with tree out tables) last)

-- A flush is to be finished, and what it may have made meets this with the record after it.
abbrev pub FinishMeets : State → JobId → (Fields → Type 0) → Type 0
FinishMeets s job Meets =
    let tree = shape_in job.keyspace_id s.parts.trees in
    IsDueToFinish s job × (s.poisoned ≡ false) × FlushMeets tree tree.flush (s.parts.records job.keyspace_id) Meets

-- A worker's step or an ingestion that needs a number of which none is left: a job's, a journal's, or that of a keyspace's next table, whose
-- record has room.
abbrev pub UsesUp : State → CallShape → Type 0
UsesUp s (OfFlushBegin id) = (begins_flush s.parts.trees id ≡ true) × (are_jobs_used_up s ≡ true)
UsesUp s (OfFlushFinish job) = FinishMeets s job LacksNextId
UsesUp s (OfMergeBegin kind id) = (begins_merge (present s) s.parts.trees kind id ≡ true) × (s.next_job ≡ 2 ^ 64 - 1)
UsesUp s (OfMergeFinish job) = LacksAt s job LacksMergeIds
UsesUp s (OfIngestion id []) = ⊥
UsesUp s (OfIngestion id (item ∷ items)) =
    (are_journals_used_up s ≡ true) ⊎ LacksIds (shape_in id s.parts.trees) id s.tickets.watermark (number s.history) (item ∷ items) (s.parts.records id)
UsesUp s shape = ⊥

-- The record of a keyspace whose flush or merge is to be finished, or into which items are ingested, has no room for the tables and the
-- clears.
abbrev pub HasNoRoom : State → CallShape → Type 0
HasNoRoom s (OfFlushFinish job) = FinishMeets s job IsTooLong
HasNoRoom s (OfMergeFinish job) = LacksAt s job LacksMergeRoom
HasNoRoom s (OfIngestion id []) = ⊥
HasNoRoom s (OfIngestion id (item ∷ items)) =
    LacksRecordRoom (shape_in id s.parts.trees) id s.tickets.watermark (number s.history) (item ∷ items) (s.parts.records id)
HasNoRoom s shape = ⊥

-- a flush or a merge that is to be finished in a poisoned engine, and isn't stale
abbrev pub FinishesLate : State → CallShape → Type 0
FinishesLate s (OfFlushFinish job) = IsDueToFinish s job × (s.poisoned ≡ true)
FinishesLate s (OfMergeFinish job) = IsDueToMerge s job × (s.poisoned ≡ true)
FinishesLate s shape = ⊥

-- A call that asks for memory: a worker's step only where there is one to make, no fault has poisoned the engine, and the numbers of jobs
-- and journals that it takes are left.
abbrev pub AsksMemory : State → CallShape → Type 0
AsksMemory s (OfFlushBegin id) = (begins_flush s.parts.trees id ≡ true) × (are_jobs_used_up s ≡ false)
AsksMemory s (OfFlushFinish job) = IsDueToFinish s job × (s.poisoned ≡ false)
AsksMemory s (OfMergeBegin kind id) = (begins_merge (present s) s.parts.trees kind id ≡ true) × (s.next_job < 2 ^ 64 - 1)
AsksMemory s (OfMergeFinish job) = IsDueToMerge s job × (s.poisoned ≡ false)
AsksMemory s shape = TakesMemory shape

-- Where none is due, the disk may fail, memory run out, a read meet a wrong block, an option's value be too long to be stored, or a
-- worker's step find the engine poisoned, or no number or no room left. A fault in a call that changes the disk poisons the engine; one
-- in a read changes nothing.
abbrev pub MayFail : CallShape → Error → State → State → Type 0
MayFail shape (Io kind) old new =
    (ChangesDisk (facts old) old.parts.buffer shape × IsPoisoned (at_fault old shape) new) ⊎ ((ReadsTables old.parts.trees shape × (new ≡ let_go old shape)) ⊎ WorkFails shape old new)
MayFail shape OutOfMemory old new = AsksMemory old shape × (new ≡ let_go old shape)
MayFail shape (Storage told) old new = (told ≡ TableDamaged) × ReadsDamaged old shape × (new ≡ let_go old shape)
MayFail shape ValueTooLong old new = TooLong (present old) shape × (new ≡ let_go old shape)
MayFail shape Poisoned old new = FinishesLate old shape × (new ≡ let_go old shape)
MayFail shape NumbersUsedUp old new = UsesUp old shape × (new ≡ let_go old shape)
MayFail shape TooManyItems old new = HasNoRoom old shape × (new ≡ let_go old shape)
MayFail shape error old new = ⊥

-- a refusal is the one that is due, and changes nothing
abbrev pub Refuses : Option Error → CallShape → Error → State → State → Type 0
Refuses (Some first) shape error old new = (error ≡ first) × (new ≡ let_go old shape)
Refuses None shape error old new = MayFail shape error old new

-- ---- steps

-- one step of a call of this shape
abbrev pub StepOf : State → CallShape → Reply → State → Type 0
StepOf old shape (Refused error) new = Refuses (due old shape) shape error old new
StepOf old shape reply new = (due old shape ≡ None) × Answers old shape reply new

-- From old, the engine may give this reply, and go on to new.
abbrev pub Step : State → Call → Reply → State → Type 0
Step old call reply new = StepOf old (shape_of call) reply new

-- these replies to these calls, one step after another
abbrev pub Run : State → List Call → List Reply → State → Type 0
Run s [] [] t = t ≡ s
Run s (call ∷ calls) (reply ∷ replies) t = (mid : State) × Step s call reply mid × Run mid calls replies t
Run s calls replies t = ⊥
