-- Calls within a transaction: what each is answered, and what it leaves.
use Rattle.std.specs.Prelude.{◌≡◌, Bool, ℕ, List, [], ◌∷◌, Option, None, Some}
use Rattle.fjall_base.specs.Limits.{item_refusal}
use Rattle.fjall_base.specs.Pairs.{Bytes, KeyRange, Pairs, lookup}
use Rattle.fjall_base.specs.Store.{map_at}
use Rattle.fjall_base.specs.declared.error.Error.{Error}
use Rattle.fjall_base.specs.declared.error.Error.TheVariants.{OutOfMemory}
use Rattle.fjall_journal.specs.Ops.{bytes_in}
use Rattle.fjall_journal.specs.declared.op.Op.{Op}
use Rattle.fjall_journal.specs.declared.persist_mode.PersistMode.{PersistMode}
use Rattle.fjall_tx.specs.Marks.{OfKey, OfRange}
use Rattle.fjall_tx.specs.Owns.{Own, own_written, wanted}
use Rattle.fjall_history.specs.Queries.{Get, Page, Query, Tells}
use Rattle.fjall_history.specs.declared.reply.Reply.{Reply}
use Rattle.fjall_history.specs.declared.reply.Reply.TheVariants.{Done, Pairs as PairsReply, Refused, Value}
use Rattle.fjall_history.specs.declared.ticket.View.TheVariants.{At}
use Rattle.fjall_machine.specs.Machine.{State, Step, maps_in}
use Rattle.fjall_machine.specs.declared.call.Call.{Call}
use Rattle.fjall_machine.specs.declared.call.Call.TheVariants.{GetAt, PageAt}
use Rattle.fjall_core.specs.Transactions.{Tx, having_read, replace_refusal, replacing, with_own}
use Rattle.fjall_calls.specs.declared.call.Within.{Within}
use Rattle.fjall_calls.specs.declared.call.Within.TheVariants as within
use Rattle.fjall_calls.specs.Worlds.{Heard}

-- the map of a keyspace that a transaction sees: that of its view, with its own writes applied
abbrev pub seen_by : State → Tx → ℕ → Pairs
seen_by s tx id = map_at (own_written (maps_in s (At tx.ticket)) tx.own) id

-- The call of the core that a query of a transaction comes to: the same within its view, but that of a page more pairs are asked
-- for, as many as keys there were taken away.
abbrev pub call_for : Tx → ℕ → Query → Call
call_for tx id (Get key) = GetAt (At tx.ticket) id key
call_for tx id (Page range back max) = PageAt (At tx.ticket) id range back (wanted tx.own id range max)

-- the query that a call within a transaction reads by
abbrev pub query_of : Within → Option (ℕ × Query)
query_of (within.Get id key) = Some (id, Get key)
query_of (within.Page id range back max) = Some (id, Page range back max)
query_of (within.Take id key) = Some (id, Get key)
query_of (within.FetchUpdate id key new) = Some (id, Get key)
query_of (within.UpdateFetch id key new) = Some (id, Get key)
query_of other = None

-- the key that a call within a transaction updates, and what it becomes, a value or none
abbrev pub update_of : Within → Option (ℕ × Bytes × Option Bytes)
update_of (within.Take id key) = Some (id, key, None)
update_of (within.FetchUpdate id key new) = Some (id, key, new)
update_of (within.UpdateFetch id key new) = Some (id, key, new)
update_of other = None

-- what an update is answered: the new value by `update_fetch`, and by the others the one that was found
abbrev pub update_reply : Within → Option Bytes → Reply
update_reply (within.UpdateFetch id key new) found = Value new
update_reply other found = Value found

-- What the core is asked by a call within a transaction, and its reply: nothing, or the call's query.
pub data AsksCore (s : State) (tx : Tx) (call : Within) : List Call → List Reply → State → Type 0 where
  AsksNothing : AsksCore s tx call [] [] s
  AsksFor : (id : ℕ) (query : Query) (is : query_of call ≡ Some (id, query)) (reply : Reply) (t : State) (step : Step s (call_for tx id query) reply t)
      → AsksCore s tx call (call_for tx id query ∷ []) (reply ∷ []) t

-- the core refused nothing
abbrev pub AreFine : List Reply → Type 0
AreFine [] = Unit {0}
AreFine (Refused error ∷ told) = ⊥
AreFine (reply ∷ told) = AreFine told

-- Where the core replied so, the call may run out of memory: an own write where no refusal is due for it; a page before the core is asked too,
-- and other reads and updates once it was.
abbrev pub MayRunOut : Within → List Reply → Type 0
MayRunOut (within.Write id key op) told = item_refusal key (bytes_in op) ≡ None
MayRunOut (within.Durability mode) told = ⊥
MayRunOut (within.Page id range back max) told = Unit {0}
MayRunOut call [] = ⊥
MayRunOut call (reply ∷ told) = Unit {0}

-- What a call within a transaction is answered, where the core replied so, and the transaction afterwards: after a refusal it is as before.
-- A read that the core doesn't refuse marks what its answer rests on, an own write is seen by later reads, and an update marks its key as read, and writes it where
-- its value changes.
pub data AnswersWithin (s : State) (tx : Tx) : Within → List Reply → Reply → Tx → Type 0 where
  IsUnread : (call : Within) (error : Error) → AnswersWithin s tx call (Refused error ∷ []) (Refused error) tx
  RunsOut : (call : Within) (told : List Reply) (fine : AreFine told) (may : MayRunOut call told) → AnswersWithin s tx call told (Refused OutOfMemory) tx
  Gets : (id : ℕ) (key : Bytes) (below reply : Reply) (fine : AreFine (below ∷ [])) (tells : Tells (Get key) (seen_by s tx id) reply)
      → AnswersWithin s tx (within.Get id key) (below ∷ []) reply (having_read tx (OfKey id key))
  Pages : (id : ℕ) (range : KeyRange) (back : Bool) (max : ℕ) (below reply : Reply) (fine : AreFine (below ∷ [])) (tells : Tells (Page range back max) (seen_by s tx id) reply)
      → AnswersWithin s tx (within.Page id range back max) (below ∷ []) reply (having_read tx (OfRange id range.0 range.1))
  Writes : (id : ℕ) (key : Bytes) (op : Op) (fits : item_refusal key (bytes_in op) ≡ None) → AnswersWithin s tx (within.Write id key op) [] Done (with_own tx id key op)
  IsUnwritable : (id : ℕ) (key : Bytes) (op : Op) (error : Error) (due : item_refusal key (bytes_in op) ≡ Some error) → AnswersWithin s tx (within.Write id key op) [] (Refused error) tx
  Updates : (call : Within) (id : ℕ) (key : Bytes) (new found : Option Bytes) (is : update_of call ≡ Some (id, key, new)) (below : Reply) (fine : AreFine (below ∷ []))
      (finds : found ≡ lookup (seen_by s tx id) key) (fits : replace_refusal key found new ≡ None)
      → AnswersWithin s tx call (below ∷ []) (update_reply call found) (replacing (having_read tx (OfKey id key)) id key found new)
  IsNotUpdated : (call : Within) (id : ℕ) (key : Bytes) (new found : Option Bytes) (is : update_of call ≡ Some (id, key, new)) (below : Reply) (fine : AreFine (below ∷ []))
      (finds : found ≡ lookup (seen_by s tx id) key) (error : Error) (due : replace_refusal key found new ≡ Some error)
      → AnswersWithin s tx call (below ∷ []) (Refused error) tx
  Persists : (mode : Option PersistMode) → AnswersWithin s tx (within.Durability mode) [] Done (record tx { mode = mode })

-- A call within a transaction, from that state: what it asks of the core, and what comes of it.
pub record Acts (s : State) (tx : Tx) (call : Within) (reply : Reply) (made : List Call) (told : List Reply) (t : State) (after : Tx) : Type 0 where
  pub asks : AsksCore s tx call made told t
  pub answers : AnswersWithin s tx call told reply after

-- the answers that a transaction heard by this call, with its own writes of then
abbrev pub heard_by : Within → Own → Reply → List Heard
heard_by (within.Get id key) own (Value found) = record { id = id; query = Get key; own = own; reply = Value found } ∷ []
heard_by (within.Page id range back max) own (PairsReply found) = record { id = id; query = Page range back max; own = own; reply = PairsReply found } ∷ []
heard_by (within.Take id key) own (Value found) = record { id = id; query = Get key; own = own; reply = Value found } ∷ []
heard_by (within.FetchUpdate id key new) own (Value found) = record { id = id; query = Get key; own = own; reply = Value found } ∷ []
heard_by call own reply = []
