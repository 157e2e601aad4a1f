-- What a caller is told, as the list that it has seen then shows it.
use Rattle.std.specs.Prelude.{◌≡◌, ◌≢◌, ◌⊎◌, [], ◌∷◌, ℕ, true, List, Some}
use Rattle.std.specs.FinMap.{empty, get}
use Rattle.fjall_base.specs.Store.{Store}
use Rattle.fjall_base.specs.declared.error.Error.{Error}
use Rattle.fjall_base.specs.declared.error.Error.TheVariants.{KeyEmpty, KeyTooLong, KeyspaceDeleted, SnapshotClosed, UnknownKeyspace, ValueTooLong}
use Rattle.fjall_journal.specs.Ops.{BatchItem, some_key_empty, some_key_too_long, some_value_too_long, write_of}
use Rattle.fjall_tx.specs.Owns.{items_of}
use Rattle.fjall_tx.specs.declared.outcome.CommitOutcome.{CommitOutcome}
use Rattle.fjall_tx.specs.declared.outcome.CommitOutcome.TheVariants as outcomes
use Rattle.fjall_history.specs.Histories.{Accepted, History, commits, grown, latest, plain}
use Rattle.fjall_machine.specs.Machine.{is_deleted, is_unknown, some_deleted, some_unknown}
use Rattle.fjall_shared.specs.Transactions.{MeetsSome, Tx}
use Rattle.fjall_shared.specs.Does.{entry_of}

-- the list ends with this
pub record EndsWith (list : History) (last : Accepted) : Type 0 where
  pub front : History
  pub is : list ≡ grown front last

-- the list ends with this write of one key
abbrev pub EndsWithWrite : History → BatchItem → Type 0
EndsWithWrite list item = EndsWith list (plain (write_of (item ∷ [])))

-- Why items are refused, where the list tells it: a key or a value has no length that it may have, or no keyspace of that id lives.
abbrev pub IsChangeCause : Store → List BatchItem → Error → Type 0
IsChangeCause store items KeyEmpty = some_key_empty items ≡ true
IsChangeCause store items KeyTooLong = some_key_too_long items ≡ true
IsChangeCause store items ValueTooLong = some_value_too_long items ≡ true
IsChangeCause store items UnknownKeyspace = some_unknown store items ≡ true
IsChangeCause store items KeyspaceDeleted = some_deleted store items ≡ true
IsChangeCause store items other = Unit {0}

-- why a read of a keyspace is refused, where the list tells it
abbrev pub IsReadCause : Store → ℕ → Error → Type 0
IsReadCause store id UnknownKeyspace = is_unknown store id ≡ true
IsReadCause store id KeyspaceDeleted = is_deleted store id ≡ true
IsReadCause store id other = Unit {0}

-- a keyspace of this name has this id
abbrev pub HasName : Store → List ℕ → ℕ → Type 0
HasName store name id = get store.names id ≡ Some name

-- What a caller is told of a commit. It conflicts exactly where an entry of the list, numbered at or above the instant at which the
-- transaction began, meets its reads; else its own writes are the list's last entry, unless it has none, and then it isn't checked; or it is
-- refused, since it isn't open, or for a cause.
abbrev pub CommitTold : Tx → CommitOutcome Error → History → Type 0
CommitTold tx outcomes.Conflicted list = (tx.own ≢ empty) × MeetsSome tx.ticket.instant tx.marks (commits list)
CommitTold tx outcomes.Ok list =
    (tx.own ≡ empty) ⊎ ((front : History) × (list ≡ grown front (entry_of tx tx.ticket.instant)) × (MeetsSome tx.ticket.instant tx.marks (commits front) → ⊥))
CommitTold tx (outcomes.Aborted error) list =
    (error ≡ SnapshotClosed)
    ⊎ ((tx.own ≢ empty) × (MeetsSome tx.ticket.instant tx.marks (commits list) → ⊥) × IsChangeCause (latest list) (items_of tx.own) error)
