-- Transactions that keep an index.
use Rattle.std.specs.Prelude.{◌≡◌, ℕ, List, [], Some, map, OnOk, Result, Ok, Err}
use Rattle.std.specs.FinMap.{get}
use Rattle.fjall_base.specs.Store.{Item, map_at, written}
use Rattle.fjall_base.specs.Pairs.{Bytes}
use Rattle.fjall_base.specs.declared.error.Error.{Error}
use Rattle.fjall_base.specs.declared.error.Error.TheVariants.{TransactionOpen}
use Rattle.fjall_index_entries.specs.declared.error.IndexError.{IndexError}
use Rattle.fjall_index_entries.specs.declared.error.IndexError.TheVariants.{Engine, IndexStale, SameKeyspace}
use Rattle.fjall_journal.specs.Ops.{BatchItem, item_in}
use Rattle.fjall_tx.specs.Marks.{Marks, OfKey}
use Rattle.fjall_tx.specs.Owns.{items_of}
use Rattle.fjall_tx.specs.declared.outcome.CommitOutcome.{CommitOutcome}
use Rattle.fjall_tx.specs.declared.outcome.CommitOutcome.TheVariants as outcomes
use Rattle.fjall_history.specs.Histories.{view}
use Rattle.fjall_history.specs.Serial.{value_at}
use Rattle.fjall_history.specs.declared.reply.Reply.TheVariants.{Done, Refused}
use Rattle.fjall_machine.specs.Machine.{present}
use Rattle.fjall_machine.specs.Shapes.{Close, OfTickets}
use Rattle.fjall_core.specs.Durables.{Durable}
use Rattle.fjall_core.specs.Holding.{Held}
use Rattle.fjall_core.specs.CoreStanding.{Owes, ReadsOn}
use Rattle.fjall_core.specs.Standing.{StandFor, CoreState}
use Rattle.fjall_core.specs.Transactions.{Kept, Tx, having_read, with_own_items}
use Rattle.fjall_index_entries.specs.Index.{FieldOf}
use Rattle.fjall_index_entries.specs.Keeping.{AreRead, KeepsIndex}
use Rattle.fjall_index.specs.Opening.{Arrives}
use Rattle.fjall_index.specs.Standing.{GoesOnIndexed, StandsIndexed}

-- An optimistic transaction whose own writes keep the index, wherever each key of the main keyspace that they write has what it had at the instant at which the
-- transaction began, as long as it is open; and each of these it marked as read.
pub record TxKeepsIndex (field : FieldOf) (main index : ℕ) (t : CoreState) (tx : Tx) : Type 0 where
  pub marks : Marks
  pub optimistic : tx.marks ≡ Some marks
  pub read : (instant : ℕ) → get t.state.tickets.instants tx.ticket.id ≡ Some instant → AreRead (map item_in (items_of tx.own)) main marks.reads
  pub keeps : (instant : ℕ) → get t.state.tickets.instants tx.ticket.id ≡ Some instant
      → KeepsIndex field main index (map item_in (items_of tx.own)) (λ key. value_at (view t.state.history instant) main key)

-- what a transaction writes that ends so
abbrev pub own_where_done : {E : Type 0} → CommitOutcome E → Tx → List Item
own_where_done outcomes.Ok tx = map item_in (items_of tx.own)
own_where_done outcomes.Conflicted tx = []
own_where_done (outcomes.Aborted error) tx = []

-- The transaction has one more read mark, of this key, and these items as its own writes behind those that it had.
pub record HasWritten (old : Tx) (id : ℕ) (key : Bytes) (items : List Item) (new : Tx) : Type 0 where
  pub batch : List BatchItem
  pub of : map item_in batch ≡ items
  pub is : new ≡ with_own_items (having_read old (OfKey id key)) batch

-- what a call answers that is one transaction, which ends so
abbrev pub IsAnswerOf : CommitOutcome Error → Result Unit Error → Type 0
IsAnswerOf outcomes.Ok answer = answer ≡ Ok tt
IsAnswerOf outcomes.Conflicted answer = answer ≡ Err TransactionOpen
IsAnswerOf (outcomes.Aborted error) answer = answer ≡ Err error

-- what a transaction writes whose call is answered so
abbrev pub own_where_answered : {T E : Type 0} → Result T E → Tx → List Item
own_where_answered (Ok done) tx = map item_in (items_of tx.own)
own_where_answered (Err error) tx = []

-- So a transaction ends, whose own writes are done or were refused: where those that are done keep the index, a call goes on that writes them, or nothing where
-- it is refused.
abbrev pub EndsIndexed : Held → Kept → Tx → Result Unit Error → Result Unit Error → Held → Kept → Type 0
EndsIndexed old before tx done answer new after =
    (field : FieldOf) (main index since : ℕ) (t : CoreState) (d : Durable) → StandsIndexed field main index since old before t d → OnOk done (TxKeepsIndex field main index t tx)
    → (next : CoreState) × (e : Durable) × GoesOnIndexed field main index since (own_where_answered answer tx) t d next e new after

-- So it ends whatever is kept: the present has behind it what the transaction writes that is answered so. One whose own writes were refused is.
abbrev pub EndsAnswered : Held → Kept → Tx → Result Unit Error → Result Unit Error → Held → Kept → Type 0
EndsAnswered old before tx done answer new after =
    (t : CoreState) → StandFor old before t → ReadsOn old t.state
    → (next : CoreState) × Arrives t next new after × ((id : ℕ) → map_at (present next.state).maps id ≡ map_at (written (present t.state).maps (own_where_answered answer tx)) id)

-- A transaction's end without its own writes, answered so: the engine owes what closing its ticket does.
abbrev pub RollsBack : Held → ℕ → Result Unit IndexError → Held → Type 0
RollsBack old ticket (Ok done) new = Owes old (OfTickets (Close ticket)) Done new
RollsBack old ticket (Err (Engine error)) new = Owes old (OfTickets (Close ticket)) (Refused error) new
RollsBack old ticket (Err IndexStale) new = ⊥
RollsBack old ticket (Err SameKeyspace) new = ⊥
