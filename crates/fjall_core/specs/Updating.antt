-- What an update of a key within a transaction leaves, and why it is refused.
use Rattle.std.specs.Prelude.{Bool, ◌≡◌, ◌≢◌, ℕ, Option, Some, None, Result, Ok}
use Rattle.std.specs.Borrow.{Bor}
use Rattle.std.specs.Fn.{Once}
use Rattle.std.specs.Option.{option_copied}
use Rattle.std.specs.declared.alloc.AllocError.{AllocError}
use Rattle.fjall_base.specs.Pairs.{Bytes, Pairs, altered, lookup}
use Rattle.fjall_base.specs.declared.error.Error.{Error}
use Rattle.fjall_base.specs.declared.error.Error.TheVariants.{OutOfMemory}
use Rattle.fjall_tx.specs.Owns.{Own}
use Rattle.fjall_history.specs.declared.ticket.View.{View}
use Rattle.fjall_engine.specs.Holding.{Held}
use Rattle.fjall_core.specs.Shown.{IsRefusedFor, read_due}
use Rattle.fjall_tx.specs.Marks.{OfKey}
use Rattle.fjall_core.specs.Transactions.{Tx, having_read, replace_refusal, replacing}
use Rattle.fjall_core.specs.Seeing.{Sees}

-- What functions make of values: of this value, or of none, it may be that one, or that no memory was found.
abbrev pub Making : Type 1
Making = Option Bytes → Result (Option Bytes) AllocError → Type 0

-- what a function that is called once makes of a value that is lent to it
pub record MakesValue {F : Type 0} (g : Once F (Option (Bor Bytes) × Unit {0}) (Result (Option Bytes) AllocError)) (f : F) (value : Option Bytes) (made : Result (Option Bytes) AllocError) : Type 0 where
  pub lent : Option (Bor Bytes)
  pub is : option_copied lent ≡ value
  pub met : g.post f (lent, tt) made

-- of each value it makes none
abbrev pub makes_none : Making
makes_none value made = made ≡ Ok None

-- to a transaction with these own writes, a key of a keyspace has this value, or none
abbrev pub HasValueWithin : Bool → Held → View → Own → ℕ → Bytes → Option Bytes → Type 0
HasValueWithin honest core view own id key found = (map : Pairs) → Sees honest core view own id map → found ≡ lookup map key

-- A transaction in which a key that had this value becomes what was made of it, which can be written where it differs.
pub record HasMade (makes : Making) (tx : Tx) (id : ℕ) (key : Bytes) (found new : Option Bytes) (after : Tx) : Type 0 where
  pub made : makes found (Ok new)
  pub writable : replace_refusal key found new ≡ None
  pub left : after ≡ replacing tx id key found new

-- it is refused: memory is used up, or what was made of the value can't be written
pub data IsMadeRefusal (makes : Making) (key : Bytes) (found : Option Bytes) (error : Error) : Type 0 where
  OfMemory : (memory : error ≡ OutOfMemory) → IsMadeRefusal makes key found error
  OfWrite : (new : Option Bytes) (made : makes found (Ok new)) (refused : replace_refusal key found new ≡ Some error) → IsMadeRefusal makes key found error

-- A key of a core was updated within a transaction: it had this value and became what was made of it, and it is marked as read. The
-- transaction sees it so, and other keys and keyspaces as before.
pub record Updated (makes : Making) (honest : Bool) (core : Held) (from : View) (tx : Tx) (id : ℕ) (key : Bytes) (found new : Option Bytes) (left : Held) (to : View) (after : Tx) : Type 0 where
  pub due : read_due core from id ≡ None
  pub is : HasValueWithin honest core from tx.own id key found
  pub made : HasMade makes (having_read tx (OfKey id key)) id key found new after
  pub here : (map : Pairs) → Sees honest core from tx.own id map → Sees honest left to after.own id (altered map key new)
  pub others : (i : ℕ) (map : Pairs) → i ≢ id → Sees honest core from tx.own i map → Sees honest left to after.own i map

-- an update is refused: its read is, or where none is due, what was to be made of the value that was found
pub data IsUpdateRefusal (makes : Making) (honest : Bool) (core : Held) (view : View) (own : Own) (id : ℕ) (key : Bytes) (left : Held) (error : Error) : Type 0 where
  OfRead : (refused : IsRefusedFor core view id left error) → IsUpdateRefusal makes honest core view own id key left error
  OfUpdate : (due : read_due core view id ≡ None) (found : Option Bytes) (is : HasValueWithin honest core view own id key found) (refused : IsMadeRefusal makes key found error)
      → IsUpdateRefusal makes honest core view own id key left error
