-- Optimistic transactions that act one after another.
use Rattle.std.specs.Prelude.{◌≡◌, ℕ, List, [], ◌∷◌, Contains, filter, Option, None, Some, is_some, slice_get}
use Rattle.fjall_base.specs.Pairs.{Bytes, lookup}
use Rattle.fjall_base.specs.Store.{Store, apply, fold, map_at}
use Rattle.fjall_tx.specs.Marks.{IsCovered}
use Rattle.fjall_history.specs.Histories.{Accepted, Commit, History, commands_of, view}
use Rattle.fjall_history.specs.Checked.{before}

-- the value, or none, that a store gives a key of a keyspace
abbrev pub value_at : Store → ℕ → Bytes → Option Bytes
value_at s id key = lookup (map_at s.maps id) key

-- those among these that optimistic transactions committed, in the order of their commits
abbrev pub transactions_of : List Accepted → List Accepted
transactions_of accepted = filter (λ a. is_some a.commit) accepted

-- the store that a history's optimistic transactions alone make of the opened one, one after another
abbrev pub serial_store : History → Store
serial_store h = fold h.opened (commands_of (transactions_of h.accepted))

-- Each transaction that committed read at its instant what those that committed before it, and they alone, make of the
-- opened store: to each key that its reads cover both give the same value, or none.
abbrev pub IsSerial : History → Type 0
IsSerial h = (place : ℕ) (a : Accepted) (c : Commit) → slice_get h.accepted place ≡ Some a → a.commit ≡ Some c
    → (id : ℕ) (key : Bytes) → IsCovered c.marks.reads id key → value_at (view h c.instant) id key ≡ value_at (serial_store (before h place)) id key

-- ---- the premise

-- along these, from this store on, the map of the keyspace changes through optimistic transactions alone
abbrev pub ChangesByTransactions : Store → List Accepted → ℕ → Type 0
ChangesByTransactions s [] id = Unit {0}
ChangesByTransactions s (a ∷ accepted) id = (a.commit ≡ None → map_at (apply s a.command).maps id ≡ map_at s.maps id) × ChangesByTransactions (apply s a.command) accepted id

-- a transaction that committed read some key of the keyspace
pub record IsRead (h : History) (id : ℕ) : Type 0 where
  pub reader : Accepted
  pub accepted : Contains h.accepted reader
  pub commit : Commit
  pub committed : reader.commit ≡ Some commit
  pub key : Bytes
  pub covered : IsCovered commit.marks.reads id key

-- the maps that optimistic transactions read change through optimistic transactions alone
abbrev pub ReadsChangeByTransactions : History → Type 0
ReadsChangeByTransactions h = (id : ℕ) → IsRead h id → ChangesByTransactions h.opened h.accepted id
