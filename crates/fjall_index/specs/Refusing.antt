-- Why calls of an index are refused.
use Rattle.std.specs.Prelude.{◌≡◌, ◌⊎◌, ℕ, Bool, true, List, [], Option, None, Some, Result, Ok, Err, map, unwrap_or}
use Rattle.std.specs.FinMap.{get}
use Rattle.fjall_base.specs.Limits.{item_refusal}
use Rattle.fjall_base.specs.Pairs.{Bytes, Pairs, lookup}
use Rattle.fjall_base.specs.Store.{map_at}
use Rattle.fjall_base.specs.declared.error.Error.{Error}
use Rattle.fjall_base.specs.declared.error.Error.TheVariants.{KeyTooLong, OutOfMemory, TransactionOpen}
use Rattle.fjall_journal.specs.Ops.{BatchItem, item_in, items_refusal}
use Rattle.fjall_reading.specs.Readers.{all_of}
use Rattle.fjall_tx.specs.declared.outcome.CommitOutcome.{CommitOutcome}
use Rattle.fjall_tx.specs.declared.outcome.CommitOutcome.TheVariants as outcomes
use Rattle.fjall_history.specs.Histories.{commits}
use Rattle.fjall_history.specs.declared.reply.Reply.TheVariants.{Opened, Refused}
use Rattle.fjall_history.specs.declared.ticket.Ticket.{Ticket}
use Rattle.fjall_history.specs.declared.ticket.View.{View}
use Rattle.fjall_history.specs.declared.ticket.View.TheVariants.{At}
use Rattle.fjall_machine.specs.Machine.{State, StepOf, present}
use Rattle.fjall_machine.specs.Shapes.{OfTickets, Open}
use Rattle.fjall_core.specs.Commits.{change_of}
use Rattle.fjall_core.specs.CoreStanding.{Owes}
use Rattle.fjall_core.specs.Holding.{Held}
use Rattle.fjall_core.specs.Shown.{IsReaderRefusal, IsRefusedFor, Shows}
use Rattle.fjall_core.specs.Standing.{CommitStep, StandFor, CoreState, history_of}
use Rattle.fjall_core.specs.Transactions.{Kept, MeetsSome, Tx, transaction_begun, no_marks, with_own_items}
use Rattle.fjall_index_entries.specs.Index.{FieldOf, field_in}
use Rattle.fjall_index_entries.specs.Putting.{has_long_entry, put_items}
use Rattle.fjall_index_entries.specs.Repairs.{AreRepairs, lacks_long}
use Rattle.fjall_index_entries.specs.declared.error.IndexError.{IndexError}
use Rattle.fjall_index_entries.specs.declared.error.IndexError.TheVariants.{Engine, IndexStale, SameKeyspace}
use Rattle.fjall_index.specs.declared.indexed_tx.IndexedTx.{IndexedTx}
use Rattle.fjall_index.specs.Changes.{IsOutcomeOf, batch_of}
use Rattle.fjall_index.specs.Changing.{HasWritten}
use Rattle.fjall_index.specs.Rebuilding.{HasRepaired}
use Rattle.fjall_index.specs.Standing.{putting}

-- a refusal of the engine of which this is so
abbrev pub OfEngine : (Error → Type 0) → IndexError → Type 0
OfEngine IsSo (Engine error) = IsSo error
OfEngine IsSo IndexStale = ⊥
OfEngine IsSo SameKeyspace = ⊥

-- such a one, or that of a stale index
abbrev pub OfEngineOrStale : (Error → Type 0) → IndexError → Type 0
OfEngineOrStale IsSo (Engine error) = IsSo error
OfEngineOrStale IsSo IndexStale = Unit {0}
OfEngineOrStale IsSo SameKeyspace = ⊥

-- such a one, or that of two keyspaces which are one
abbrev pub OfEngineOrSame : (Error → Type 0) → IndexError → Type 0
OfEngineOrSame IsSo (Engine error) = IsSo error
OfEngineOrSame IsSo IndexStale = ⊥
OfEngineOrSame IsSo SameKeyspace = Unit {0}

-- A read of both keyspaces in a view is refused so, and leaves this: as a read of either is, or memory is used up.
abbrev pub IsRefusedForEither : Held → View → ℕ → ℕ → Held → Error → Type 0
IsRefusedForEither old view main index new error = IsReaderRefusal old view main new error ⊎ IsReaderRefusal old view index new error

-- An entry is too long that a key's change in the view of a ticket takes away or puts: one of more than 65,535 bytes.
abbrev pub HasLongEntry : Bool → FieldOf → ℕ → Held → Ticket → Bytes → Option Bytes → Type 0
HasLongEntry honest field main core ticket key new =
    (pairs : Pairs) → Shows honest core (At ticket) main pairs → has_long_entry key (field_in field key (lookup pairs key)) (field_in field key new) ≡ true

-- a key and its value, or none, are no item
abbrev pub IsItemRefusal : Bytes → Option Bytes → Error → Type 0
IsItemRefusal key new error = item_refusal key (unwrap_or new []) ≡ Some error

-- A key's change to a value, or to none, is refused so within a transaction of this ticket, and leaves this: the key and the value are no item, the read of the
-- key is refused, an entry is too long, or memory is used up.
abbrev pub IsChangeRefusal : Bool → FieldOf → ℕ → Held → Ticket → Bytes → Option Bytes → Held → Error → Type 0
IsChangeRefusal honest field main old ticket key new left error =
    IsItemRefusal key new error
    ⊎ (IsRefusedFor old (At ticket) main left error
    ⊎ (((error ≡ KeyTooLong) × HasLongEntry honest field main old ticket key new)
    ⊎ (error ≡ OutOfMemory)))

-- a transaction begins as the opening of its ticket is answered
abbrev pub BeginsSo : Held → Result IndexedTx IndexError → Held → Type 0
BeginsSo old (Ok tx) new = Owes old (OfTickets Open) (Opened tx.transaction.ticket) new
BeginsSo old (Err (Engine error)) new = Owes old (OfTickets Open) (Refused error) new
BeginsSo old (Err IndexStale) new = ⊥
BeginsSo old (Err SameKeyspace) new = ⊥

-- So it is in a transaction that writes it at once, where what it writes may be no items.
abbrev pub IsWriteRefusal : Bool → FieldOf → ℕ → ℕ → Held → Ticket → Bytes → Option Bytes → Held → Error → Type 0
IsWriteRefusal honest field main index old ticket key new left error =
    ((batch : List BatchItem) × ((pairs : Pairs) → Shows honest old (At ticket) main pairs → map item_in batch ≡ put_items field main index key (lookup pairs key) new) × (items_refusal batch ≡ Some error))
    ⊎ (IsRefusedFor old (At ticket) main left error
    ⊎ (((error ≡ KeyTooLong) × HasLongEntry honest field main old ticket key new)
    ⊎ (error ≡ OutOfMemory)))

-- What repairs an index is read of a view, and that is refused so, and leaves this: a read of either keyspace is refused, an entry that is to come is too long, or
-- memory is used up.
abbrev pub IsRepairReadRefusal : Bool → FieldOf → ℕ → ℕ → Held → View → Held → Error → Type 0
IsRepairReadRefusal honest field main index old view left error =
    IsRefusedForEither old view main index left error
    ⊎ ((error ≡ KeyTooLong) × ((pairs found : Pairs) → Shows honest old view main pairs → Shows honest old view index found → lacks_long field found (all_of pairs) ≡ true))

-- A repair is refused so within a transaction of this ticket: what it writes is no items, or what it is to write can't be read.
abbrev pub IsRepairRefusal : Bool → FieldOf → ℕ → ℕ → Held → Ticket → Held → Error → Type 0
IsRepairRefusal honest field main index old ticket left error =
    ((batch : List BatchItem) × ((pairs found : Pairs) → Shows honest old (At ticket) main pairs → Shows honest old (At ticket) index found → AreRepairs field index pairs found (map item_in batch)) × (items_refusal batch ≡ Some error))
    ⊎ IsRepairReadRefusal honest field main index old (At ticket) left error

-- Why the end of a transaction is refused that is committed where its own writes are done: its ticket isn't open; they weren't done; it met one that committed
-- meanwhile; or its commit is refused.
pub data IsEndRefusal (t : CoreState) (tx : Tx) (done : Result Unit Error) (error : Error) : Type 0 where
  IsClosed : (none : get t.state.tickets.instants tx.ticket.id ≡ None) → IsEndRefusal t tx done error
  IsNotDone : (told : done ≡ Err error) → IsEndRefusal t tx done error
  HasMet : (instant : ℕ) (opened : get t.state.tickets.instants tx.ticket.id ≡ Some instant) (meets : MeetsSome instant tx.marks (commits (history_of t))) (told : error ≡ TransactionOpen) → IsEndRefusal t tx done error
  IsNotCommitted : (ok : done ≡ Ok tt) (after : State) (refused : StepOf t.state (change_of tx) (Refused error) after) → IsEndRefusal t tx done error

-- Why a call is refused that is one transaction, which begins at the present and meets no other: its ticket isn't opened; what it is to write is refused, or
-- isn't accepted.
pub data IsOnceRefusal (t : CoreState) (old : Held) (IsRefused : Held → Ticket → Held → Error → Type 0) (Writes : CoreState → Tx → Type 0) (error : Error) : Type 0 where
  IsNotBegun : (mid : Held) (owes : Owes old (OfTickets Open) (Refused error) mid) → IsOnceRefusal t old IsRefused Writes error
  IsNotWritten : (ticket : Ticket) (mid left : Held) (begins : Owes old (OfTickets Open) (Opened ticket) mid) (cause : IsRefused mid ticket left error) → IsOnceRefusal t old IsRefused Writes error
  IsNotAccepted : (u : CoreState) (tx : Tx) (same : present u.state ≡ present t.state) (writes : Writes u tx) (after : State) (refused : StepOf u.state (change_of tx) (Refused error) after) → IsOnceRefusal t old IsRefused Writes error

-- a transaction that has written what a key's new value, or none, does, where the present has its old one
abbrev pub HasPut : FieldOf → ℕ → ℕ → Bytes → Option Bytes → CoreState → Tx → Type 0
HasPut field main index key new t tx = HasWritten (transaction_begun (Some no_marks) tx.ticket) main key (putting field main index key new t.state) tx

-- so a change of a key is refused
abbrev pub IsPutRefusal : Bool → FieldOf → ℕ → ℕ → Held → CoreState → Bytes → Option Bytes → Error → Type 0
IsPutRefusal honest field main index old t key new error =
    IsOnceRefusal t old (λ mid ticket left e. IsWriteRefusal honest field main index mid ticket key new left e) (HasPut field main index key new) error

-- a transaction that has repaired the index, where the present has both keyspaces' maps
abbrev pub HasRebuilt : FieldOf → ℕ → ℕ → CoreState → Tx → Type 0
HasRebuilt field main index t tx = HasRepaired field main index (map_at (present t.state).maps main) (map_at (present t.state).maps index) (transaction_begun (Some no_marks) tx.ticket) tx

-- and so a rebuilding of an index
abbrev pub IsRebuildRefusal : Bool → FieldOf → ℕ → ℕ → Held → CoreState → Error → Type 0
IsRebuildRefusal honest field main index old t error =
    IsOnceRefusal t old (λ mid ticket left e. IsRepairRefusal honest field main index mid ticket left e) (HasRebuilt field main index) error

-- The commit of a transaction of an index is answered as the engine's own is, of the transaction with all that it kept as its own writes: so it conflicts exactly
-- where that one meets another. Or the engine isn't asked: memory is used up, what was kept is no items, or the ticket isn't open.
abbrev pub IsCommitAnswer : CoreState → IndexedTx → CommitOutcome IndexError → Held → Kept → Type 0
IsCommitAnswer t tx answer new after =
    ((outcome : CommitOutcome Error) × IsOutcomeOf outcome answer × (next : CoreState) × StandFor new after next × CommitStep t (with_own_items tx.transaction (batch_of tx.changes.entries)) outcome next)
    ⊎ ((error : Error) × (answer ≡ outcomes.Aborted (Engine error))
    × ((error ≡ OutOfMemory) ⊎ ((items_refusal (batch_of tx.changes.entries) ≡ Some error) ⊎ (get t.state.tickets.instants tx.transaction.ticket.id ≡ None))))
