-- What an open transaction of an index keeps.
use Rattle.std.specs.Prelude.{◌≡◌, ℕ, ◌<◌, All, List, Option, Some, Vec, [], map}
use Rattle.std.specs.List.{flat_map}
use Rattle.std.specs.FinMap.{empty, get}
use Rattle.std.specs.declared.alloc.Global.{Global}
use Rattle.std.specs.BTreeMap.{insert_entry}
use Rattle.fjall_base.specs.Pairs.{Bytes, byte_order}
use Rattle.fjall_base.specs.declared.error.Error.{Error}
use Rattle.fjall_base.specs.Store.{Item, Store}
use Rattle.fjall_journal.specs.Ops.{BatchItem, item_in}
use Rattle.fjall_tx.specs.Marks.{IsCovered, Marks, OfKey}
use Rattle.fjall_tx.specs.declared.outcome.CommitOutcome.{CommitOutcome}
use Rattle.fjall_tx.specs.declared.outcome.CommitOutcome.TheVariants as outcomes
use Rattle.fjall_history.specs.Histories.{view}
use Rattle.fjall_history.specs.Serial.{value_at}
use Rattle.fjall_core.specs.Standing.{CoreState}
use Rattle.fjall_core.specs.Transactions.{having_read}
use Rattle.fjall_index_entries.specs.Index.{FieldOf}
use Rattle.fjall_index_entries.specs.Putting.{put_items}
use Rattle.fjall_index_entries.specs.declared.error.IndexError.{IndexError}
use Rattle.fjall_index_entries.specs.declared.error.IndexError.TheVariants.{Engine}
use Rattle.fjall_index.specs.declared.indexed_tx.IndexedTx.{IndexedTx}

-- a key of the main keyspace that was changed, with what that writes
abbrev pub Change : Type 0
Change = Bytes × Vec BatchItem Global

-- what all of these write, one behind another
abbrev pub batch_of : List Change → List BatchItem
batch_of changes = flat_map (λ change. change.1.items) changes

-- the same, as it is applied
abbrev pub items_in : List Change → List Item
items_in changes = map item_in (batch_of changes)

-- one that is as the other
pub record IsSameTx (old new : IndexedTx) : Type 0 where
  pub transaction : new.transaction ≡ old.transaction
  pub changes : new.changes.entries ≡ old.changes.entries

-- A change writes what a key's new value, or none, does, where it had the old one, or none, in this store.
pub record IsPut (field : FieldOf) (main index : ℕ) (s : Store) (change : Change) : Type 0 where
  pub new : Option Bytes
  pub is : map item_in change.1.items ≡ put_items field main index change.0 (value_at s main change.0) new

-- An open transaction of the index: it is optimistic, has written nothing yet, marked the keys that it changed as read, and keeps for each what its new value
-- writes, where it has had the one of the instant at which the transaction began, as long as that is open.
pub record IsIndexedTx (field : FieldOf) (main index : ℕ) (t : CoreState) (tx : IndexedTx) : Type 0 where
  pub marks : Marks
  pub optimistic : tx.transaction.marks ≡ Some marks
  pub none : tx.transaction.own ≡ empty
  pub given : tx.transaction.ticket.id < t.state.tickets.next
  pub read : All (λ change. IsCovered marks.reads main change.0) tx.changes.entries
  pub seen : (instant : ℕ) → get t.state.tickets.instants tx.transaction.ticket.id ≡ Some instant → All (IsPut field main index (view t.state.history instant)) tx.changes.entries

-- The transaction keeps that a key of the main keyspace writes these items, and has marked it as read.
pub record HasKept (old : IndexedTx) (main : ℕ) (key : Bytes) (items : List Item) (new : IndexedTx) : Type 0 where
  pub batch : Vec BatchItem Global
  pub of : map item_in batch.items ≡ items
  pub is : new.transaction ≡ having_read old.transaction (OfKey main key)
  pub kept : new.changes.entries ≡ insert_entry byte_order old.changes.entries key batch

-- what a transaction writes whose commit is answered so
abbrev pub where_committed : {E : Type 0} → CommitOutcome E → List Item → List Item
where_committed outcomes.Ok items = items
where_committed outcomes.Conflicted items = []
where_committed (outcomes.Aborted error) items = []

-- the outcome of a commit, told as the index tells it
abbrev pub IsOutcomeOf : CommitOutcome Error → CommitOutcome IndexError → Type 0
IsOutcomeOf outcomes.Ok told = told ≡ outcomes.Ok
IsOutcomeOf outcomes.Conflicted told = told ≡ outcomes.Conflicted
IsOutcomeOf (outcomes.Aborted error) told = told ≡ outcomes.Aborted (Engine error)
