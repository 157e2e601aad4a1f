-- What callers may rely on, told by what they see alone: stores, calls, replies, and which store each life of an engine begins with.
use Rattle.std.specs.Prelude.{◌≡◌, ◌≢◌, ◌⊎◌, ⊤, ℕ, zero, suc, ◌<◌, ◌≤◌, ◌^◌, ◌||◌, ◌==◌, nat_lt, Bool, true, false, if◌then◌else◌, List, [], ◌∷◌, ◌++◌, length, map, take, flat_map, slice_get, slice_set, All, Any, AllPairs, Option, Some, None, IsSomeAnd, IsTrue, unwrap_or, option_map, option_to_list, Result, Ok, Err, Vec}
use Rattle.std.specs.List.{list_any}
use Rattle.std.specs.Option.{option_eq}
use Rattle.std.specs.Str.{bytes_eq}
use Rattle.std.specs.FinMap.{contains_key, empty, get, values}
use Rattle.std.specs.declared.alloc.Global.{Global}
use Rattle.std.specs.declared.cmp.Ordering.TheVariants.{Less}
use Rattle.fjall_base.specs.Pairs.{Bytes, KeyRange, Pairs, byte_order, lookup, page, pairs_between}
use Rattle.fjall_base.specs.Store.{Store, Item, Command, Write, Clear, Create, Delete, apply, fold, kept, map_at}
use Rattle.fjall_base.specs.declared.error.Error.{Error}
use Rattle.fjall_base.specs.declared.error.Error.TheVariants.{InvalidName, Io, KeyEmpty, KeyOrder, KeyTooLong, KeyspaceDeleted, NumbersUsedUp, OutOfMemory, Poisoned, SnapshotClosed, TooManyItems, TransactionOpen, UnknownKeyspace, ValueTooLong}
use Rattle.fjall_journal.specs.Ops.{item_in, value_in}
use Rattle.fjall_journal.specs.declared.op.Op.{Op}
use Rattle.fjall_journal.specs.declared.persist_mode.PersistMode.{PersistMode}
use Rattle.fjall_journal.specs.declared.persist_mode.PersistMode.TheVariants.{Buffer}
use Rattle.fjall_tx.specs.Marks.{IsCovered, Mark, OfKey, OfRange}
use Rattle.fjall_history.specs.declared.reply.Reply.{Reply}
use Rattle.fjall_history.specs.declared.reply.Reply.TheVariants as replies
use Rattle.fjall_history.specs.declared.reply.Reply.TheVariants.{Began, Done, Flag, Number, Opened, Refused, Value}
use Rattle.fjall_history.specs.declared.ticket.View.{View}
use Rattle.fjall_history.specs.declared.ticket.View.TheVariants.{At, Present}
use Rattle.fjall_machine.specs.declared.call.Call.TheVariants as core
use Rattle.fjall_calls.specs.declared.call.Kind.{Kind}
use Rattle.fjall_calls.specs.declared.call.Kind.TheVariants.{Optimistic, Single}
use Rattle.fjall_calls.specs.declared.call.TxCall.{TxCall}
use Rattle.fjall_calls.specs.declared.call.TxCall.TheVariants.{Begin, Commit, Core, Rollback, Within}
use Rattle.fjall_calls.specs.declared.call.Within.{Within as Inner}
use Rattle.fjall_calls.specs.declared.call.Within.TheVariants as inner
use Rattle.fjall_consistency.specs.declared.life.Life.{Life}
use Rattle.fjall_consistency.specs.declared.life.Told.{Told}

-- ---- what is known along a list of calls

-- A transaction that is open: the store as it began, what it wrote itself, which keys it marked as read and as written, which keys
-- the optimistic ones wrote that committed since it began, and how its commit is persisted.
pub record Transaction : Type 0 where
  pub kind : Kind
  pub view : Store
  pub own : List Item
  pub reads : List Mark
  pub writes : List (ℕ × Bytes)
  pub since : List (ℕ × Bytes)
  pub mode : Option PersistMode

-- The store of now; by the places of the calls so far, counted from 0, what the snapshot shows that a call opened, and the transaction
-- that it began, as long as these are open; whether the disk failed in one of them, and whether in one that was to change the store.
pub record Known : Type 0 where
  pub present : Store
  pub snapshots : List (Option Store)
  pub transactions : List (Option Transaction)
  pub failed : Bool
  pub broken : Bool

-- as a life begins
abbrev pub begins : Store → Known
begins s = record { present = s; snapshots = []; transactions = []; failed = false; broken = false }

-- the store that a view shows: the one of now, or that of the snapshot which the call at a place opened
abbrev pub shown : Known → View → Option Store
shown k Present = Some k.present
shown k (At ticket) = unwrap_or (slice_get k.snapshots ticket.id) None

-- the open transaction that the call at a place began
abbrev pub named : Known → ℕ → Option Transaction
named k place = unwrap_or (slice_get k.transactions place) None

-- what a transaction sees: the store as it began, with its own writes
abbrev pub seen : Transaction → Store
seen tx = apply tx.view (Write tx.own)

-- the value that a key of a keyspace has in a store, where it has one
abbrev pub value_at : Store → ℕ → Bytes → Option Bytes
value_at s id key = lookup (map_at s.maps id) key

-- a keyspace was made under the id, which may be gone
abbrev pub IsMade : Store → ℕ → Type 0
IsMade s id = (0 < id) × (id < s.next)

abbrev pub is_living : Store → ℕ → Bool
is_living s id = contains_key s.names id

abbrev pub has_name : Store → Bytes → Bool
has_name s name = list_any (λ other. bytes_eq other name) (values s.names)

-- ---- what calls do to a store

-- a key gets this value, or none
abbrev pub one : ℕ → Bytes → Option Bytes → List Item
one id key value = record { id = id; key = key; value = value } ∷ []

-- what a call writes: a commit all that its transaction wrote
abbrev pub items_in : Known → TxCall → List Item
items_in k (Core (core.Insert id key value)) = one id key (Some value)
items_in k (Core (core.Remove id key)) = one id key None
items_in k (Core (core.RemoveWeak id key)) = one id key None
items_in k (Core (core.CommitBatch items mode)) = map item_in items.items
items_in k (Core (core.Ingest id items)) = map (λ item. record { id = id; key = item.0; value = value_in item.1 }) items.items
items_in k (Within place (inner.Write id key op)) = one id key (value_in op)
items_in k (Within place (inner.Take id key)) = one id key None
items_in k (Within place (inner.FetchUpdate id key new)) = one id key new
items_in k (Within place (inner.UpdateFetch id key new)) = one id key new
items_in k (Commit kind place) = flat_map (λ tx. tx.own) (option_to_list (named k place))
items_in k call = []

-- one command of all these items, where there are any
abbrev pub one_write : List Item → List Command
one_write [] = []
one_write (item ∷ items) = Write (item ∷ items) ∷ []

-- The command that a call asks for: none where it is to make a keyspace that is there, to delete one that is gone, or to write nothing.
-- Which settings a keyspace gets isn't told here. What is written within a transaction waits for its commit.
abbrev pub asked : Known → TxCall → List Command
asked k (Core (core.Keyspace name options)) = if has_name k.present name then [] else (Create name [] ∷ [])
asked k (Core (core.DeleteKeyspace id)) = if is_living k.present id then (Delete id ∷ []) else []
asked k (Core (core.Clear id)) = Clear id ∷ []
asked k (Within place call) = []
asked k call = one_write (items_in k call)

-- what was accepted: the call's command, unless it was refused, or is a commit that conflicts
abbrev pub accepted : Known → TxCall → Reply → List Command
accepted k call (Refused error) = []
accepted k (Commit kind place) (Flag false) = []
accepted k call reply = asked k call

-- what was attempted: also the command of a call that a fault of the disk refused
abbrev pub attempted : Known → TxCall → Reply → List Command
attempted k call (Refused (Io kind)) = asked k call
attempted k call reply = accepted k call reply

-- ---- transactions

-- with one more mark of a read
abbrev pub reading : Transaction → Mark → Transaction
reading tx mark = record tx { reads = tx.reads ++ mark ∷ [] }

-- with what a key becomes, a value or none: it is marked as read and as written, and is written where that changes it
abbrev pub updating : Transaction → ℕ → Bytes → Option Bytes → Transaction
updating tx id key new = record (reading tx (OfKey id key)) {
  own = tx.own ++ (if option_eq bytes_eq (value_at (seen tx) id key) new then [] else one id key new);
  writes = tx.writes ++ (id, key) ∷ [];
}

-- a transaction after a call within it: a read marks all keys that it asks for
abbrev pub after_within : Transaction → Inner → Transaction
after_within tx (inner.Get id key) = reading tx (OfKey id key)
after_within tx (inner.Page id range back max) = reading tx (OfRange id range.0 range.1)
after_within tx (inner.Write id key op) = record tx { own = tx.own ++ one id key (value_in op); writes = tx.writes ++ (id, key) ∷ [] }
after_within tx (inner.Take id key) = updating tx id key None
after_within tx (inner.FetchUpdate id key new) = updating tx id key new
after_within tx (inner.UpdateFetch id key new) = updating tx id key new
after_within tx (inner.Durability mode) = record tx { mode = mode }

-- one that committed since it began wrote a key that it read; a single writer's meets none
abbrev pub IsMet : Transaction → Type 0
IsMet tx = (tx.kind ≡ Optimistic) × Any (λ key. IsCovered tx.reads key.0 key.1) tx.since

-- ---- what calls are told

-- a page of the pairs of a map between two bounds
abbrev pub IsPage : KeyRange → Bool → ℕ → Pairs → Reply → Type 0
IsPage range back max pairs reply = (found : Vec (Bytes × Bytes) Global) × (reply ≡ replies.Pairs found) × (found.items ≡ page back max (pairs_between range pairs))

-- what a call within a transaction is told
abbrev pub IsToldWithin : Transaction → Inner → Reply → Type 0
IsToldWithin tx (inner.Get id key) reply = reply ≡ Value (value_at (seen tx) id key)
IsToldWithin tx (inner.Page id range back max) reply = IsPage range back max (map_at (seen tx).maps id) reply
IsToldWithin tx (inner.Take id key) reply = reply ≡ Value (value_at (seen tx) id key)
IsToldWithin tx (inner.FetchUpdate id key new) reply = reply ≡ Value (value_at (seen tx) id key)
IsToldWithin tx (inner.UpdateFetch id key new) reply = reply ≡ Value new
IsToldWithin tx call reply = reply ≡ Done

-- what is written, in keyspaces that live, under keys of 1 to 65,535 bytes
abbrev pub AreLawful : Store → List Item → Type 0
AreLawful s items = All (λ item. (is_living s item.id ≡ true) × (item.key ≢ []) × (length item.key < 2 ^ 16)) items

-- what a commit is told: it took place, or it conflicts, exactly where it wrote something and is met
abbrev pub IsOutcome : Known → Transaction → Reply → Type 0
IsOutcome k tx (Flag true) = AreLawful k.present tx.own × ((tx.own ≡ []) ⊎ (IsMet tx → ⊥))
IsOutcome k tx (Flag false) = (tx.own ≢ []) × IsMet tx
IsOutcome k tx reply = ⊥

-- a single writer's transaction is open: there is one at a time
abbrev pub IsWriting : Known → Type 0
IsWriting k = Any (λ going. IsSomeAnd going (λ tx. tx.kind ≡ Single)) k.transactions

-- What the engine allows: a creation of a lawful name, a lawful write, a clear of a keyspace that lives, an ingestion whose keys ascend, a
-- commit that takes place, and any call that changes nothing.
abbrev pub IsAllowed : Known → TxCall → Type 0
IsAllowed k (Core (core.Keyspace name options)) = (name ≢ []) × (length name ≤ 255)
IsAllowed k (Core (core.Clear id)) = is_living k.present id ≡ true
IsAllowed k (Core (core.Ingest id items)) = AreLawful k.present (items_in k (Core (core.Ingest id items))) × AllPairs (λ a b. byte_order a.key b.key ≡ Less) (items_in k (Core (core.Ingest id items)))
IsAllowed k (Core call) = AreLawful k.present (items_in k (Core call))
IsAllowed k (Commit kind place) = (tx : Transaction) × (named k place ≡ Some tx) × (tx.kind ≡ kind) × IsOutcome k tx (Flag true)
IsAllowed k call = ⊤

-- What a call is told that isn't refused: a read what the store of its view has, and a creation an id that has the name then. It is allowed.
-- A change and a persist are acknowledged by whatever isn't a refusal. Of counts, lists of names and jobs nothing is said.
abbrev pub IsTold : Known → TxCall → Reply → Type 0
IsTold k (Core (core.GetAt view id key)) reply = (s : Store) × (shown k view ≡ Some s) × (reply ≡ Value (value_at s id key))
IsTold k (Core (core.PageAt view id range back max)) reply = (s : Store) × (shown k view ≡ Some s) × IsPage range back max (map_at s.maps id) reply
IsTold k (Core (core.Keyspace name options)) reply = (id : ℕ) × (reply ≡ Number id) × (name ≢ []) × (length name ≤ 255) × (get (fold k.present (asked k (Core (core.Keyspace name options)))).names id ≡ Some name)
IsTold k (Core (core.KeyspaceExists name)) reply = reply ≡ Flag (has_name k.present name)
IsTold k (Core call) reply = IsAllowed k (Core call)
IsTold k (Within place call) reply = (tx : Transaction) × (named k place ≡ Some tx) × IsToldWithin tx call reply
IsTold k (Commit kind place) reply = (tx : Transaction) × (named k place ≡ Some tx) × (tx.kind ≡ kind) × IsOutcome k tx reply
IsTold k (Begin Single) reply = (reply ≡ Done) × (IsWriting k → ⊥)
IsTold k call reply = reply ≡ Done

-- ---- why calls are refused

-- the keyspaces that a call names, where it may be refused for them: an own write of a transaction waits for its commit
abbrev pub ids_in : Known → TxCall → List ℕ
ids_in k (Core (core.DeleteKeyspace id)) = id ∷ []
ids_in k (Core (core.Retain id)) = id ∷ []
ids_in k (Core (core.Clear id)) = id ∷ []
ids_in k (Core (core.RotateMemtable id)) = id ∷ []
ids_in k (Core (core.FlushBegin id)) = id ∷ []
ids_in k (Core (core.MergeBegin id)) = id ∷ []
ids_in k (Core (core.MajorBegin id)) = id ∷ []
ids_in k (Core (core.GetAt view id key)) = id ∷ []
ids_in k (Core (core.PageAt view id range back max)) = id ∷ []
ids_in k (Within place (inner.Write id key op)) = []
ids_in k (Within place (inner.Get id key)) = id ∷ []
ids_in k (Within place (inner.Page id range back max)) = id ∷ []
ids_in k call = map (λ item. item.id) (items_in k call)

-- the snapshot or the transaction that a call names isn't open, or isn't of its kind
abbrev pub NamesNone : Known → TxCall → Type 0
NamesNone k (Core (core.GetAt view id key)) = shown k view ≡ None
NamesNone k (Core (core.PageAt view id range back max)) = shown k view ≡ None
NamesNone k (Core (core.CloneSnapshot ticket)) = shown k (At ticket) ≡ None
NamesNone k (Core (core.CloseSnapshot ticket)) = shown k (At ticket) ≡ None
NamesNone k (Within place call) = named k place ≡ None
NamesNone k (Commit kind place) = (tx : Transaction) → named k place ≡ Some tx → tx.kind ≢ kind
NamesNone k (Rollback place) = named k place ≡ None
NamesNone k call = ⊥

-- a creation or a deletion, which writes the settings of all keyspaces
abbrev pub ChangesKeyspaces : TxCall → Type 0
ChangesKeyspaces (Core (core.Keyspace name options)) = ⊤
ChangesKeyspaces (Core (core.DeleteKeyspace id)) = ⊤
ChangesKeyspaces call = ⊥

-- memory, numbers or the room for a list run out, or the disk fails
abbrev pub RunsOut : Error → Type 0
RunsOut OutOfMemory = ⊤
RunsOut (Io kind) = ⊤
RunsOut NumbersUsedUp = ⊤
RunsOut TooManyItems = ⊤
RunsOut error = ⊥

-- What holds where a call is refused so. A release may be of a handle that nobody has, and settings may be too long.
abbrev pub HasCause : Known → TxCall → Error → Type 0
HasCause k call UnknownKeyspace = Any (λ id. IsMade k.present id → ⊥) (ids_in k call) ⊎ ((id : ℕ) × (call ≡ Core (core.Release id)))
HasCause k call KeyspaceDeleted = Any (λ id. is_living k.present id ≡ false) (ids_in k call)
HasCause k call SnapshotClosed = NamesNone k call
HasCause k call TransactionOpen = (call ≡ Begin Single) × IsWriting k
HasCause k call KeyEmpty = Any (λ item. item.key ≡ []) (items_in k call)
HasCause k call KeyTooLong = Any (λ item. 2 ^ 16 ≤ length item.key) (items_in k call)
HasCause k call ValueTooLong = ChangesKeyspaces call ⊎ Any (λ item. IsSomeAnd item.value (λ value. 2 ^ 32 ≤ length value)) (items_in k call)
HasCause k call KeyOrder = (id : ℕ) × (items : Vec (Bytes × Op) Global) × (call ≡ Core (core.Ingest id items)) × (AllPairs (λ a b. byte_order a.key b.key ≡ Less) (items_in k call) → ⊥)
HasCause k call InvalidName = (name : Bytes) × (options : List Bytes) × (call ≡ Core (core.Keyspace name options)) × ((name ≡ []) ⊎ (255 < length name))
HasCause k call Poisoned = k.failed ≡ true
HasCause k call (Io fault) = IsAllowed k call
HasCause k call error = RunsOut error

-- ---- a list of calls

abbrev pub is_fault : Reply → Bool
is_fault (Refused (Io kind)) = true
is_fault reply = false

-- what a snapshot shows that a call opens
abbrev pub opens : Known → TxCall → Reply → Option Store
opens k (Core core.Snapshot) (Opened ticket) = Some k.present
opens k (Core (core.CloneSnapshot ticket)) (Opened new) = shown k (At ticket)
opens k call reply = None

-- the snapshots of the calls so far, without one that a call closes
abbrev pub snapshots_after : Known → TxCall → Reply → List (Option Store)
snapshots_after k (Core (core.CloseSnapshot ticket)) Done = slice_set k.snapshots ticket.id None
snapshots_after k call reply = k.snapshots

-- the transaction that a call begins
abbrev pub begun : Known → TxCall → Reply → Option Transaction
begun k (Begin kind) Done = Some (record { kind = kind; view = k.present; own = []; reads = []; writes = []; since = []; mode = Some Buffer })
begun k call reply = None

-- the keys that those mark as written who commit with this call: an optimistic transaction that wrote something
abbrev pub commits : Known → TxCall → Reply → List (ℕ × Bytes)
commits k (Commit Optimistic place) (Flag true) = flat_map (λ tx. if length tx.own == 0 then [] else tx.writes) (option_to_list (named k place))
commits k call reply = []

-- The transactions of the calls so far: one goes on by a call within it that isn't refused. A commit or a rollback ends the one that it
-- names, also where it is refused; `SnapshotClosed` tells that it names none.
abbrev pub transactions_after : Known → TxCall → Reply → List (Option Transaction)
transactions_after k call (Refused SnapshotClosed) = k.transactions
transactions_after k (Within place call) (Refused error) = k.transactions
transactions_after k (Within place call) reply = slice_set k.transactions place (option_map (λ tx. after_within tx call) (named k place))
transactions_after k (Commit kind place) reply = slice_set k.transactions place None
transactions_after k (Rollback place) reply = slice_set k.transactions place None
transactions_after k call reply = k.transactions

-- what is known after a call: those that go on beside a commit know which keys it wrote
abbrev pub after : Known → TxCall → Reply → Known
after k call reply = record {
  present = fold k.present (accepted k call reply);
  snapshots = snapshots_after k call reply ++ opens k call reply ∷ [];
  transactions = map (option_map (λ (tx : Transaction). record tx { since = tx.since ++ commits k call reply })) (transactions_after k call reply) ++ begun k call reply ∷ [];
  failed = k.failed || is_fault reply;
  broken = k.broken || nat_lt (length (accepted k call reply)) (length (attempted k call reply));
}

-- The keyspaces that it names live; one that it deletes, holds or reads was made, since a deleted one is still read until its last release. Of a
-- commit its outcome says so.
abbrev pub NamesThere : Known → TxCall → Type 0
NamesThere k (Commit kind place) = ⊤
NamesThere k (Core (core.DeleteKeyspace id)) = IsMade k.present id
NamesThere k (Core (core.Retain id)) = IsMade k.present id
NamesThere k (Core (core.GetAt view id key)) = IsMade k.present id
NamesThere k (Core (core.PageAt view id range back max)) = IsMade k.present id
NamesThere k (Within place call) = All (IsMade k.present) (ids_in k (Within place call))
NamesThere k call = All (λ id. is_living k.present id ≡ true) (ids_in k call)

-- A call is told what it asks for, or is refused for a cause. Behind a fault in a call that was to change the store no other one changes it.
abbrev pub IsAnswer : Known → TxCall → Reply → Type 0
IsAnswer k call (Refused error) = HasCause k call error × (k.broken ≡ true → attempted k call (Refused error) ≡ [])
IsAnswer k call reply = IsTold k call reply × NamesThere k call × (k.broken ≡ true → accepted k call reply ≡ [])

-- the same of a list of calls, each on what is known after those before it
abbrev pub AreAnswers : Known → List TxCall → List Reply → Type 0
AreAnswers k [] [] = ⊤
AreAnswers k (call ∷ calls) (reply ∷ replies) = IsAnswer k call reply × AreAnswers (after k call reply) calls replies
AreAnswers k calls replies = ⊥

-- all that was attempted by them, in order
abbrev pub all_attempted : Known → List TxCall → List Reply → List Command
all_attempted k (call ∷ calls) (reply ∷ replies) = attempted k call reply ++ all_attempted (after k call reply) calls replies
all_attempted k calls replies = []

-- ---- what a crash leaves

-- the modes that ask for a sync
abbrev pub IsSyncMode : Option PersistMode → Type 0
IsSyncMode mode = (mode ≢ None) × (mode ≢ Some Buffer)

-- A sync that succeeded: a persist with such a mode; a batch or a commit with one, a creation, a deletion or an ingestion, where they changed
-- something; a rotation of the journal; and a flush that began.
abbrev pub IsSync : Known → TxCall → Reply → Type 0
IsSync k call (Refused error) = ⊥
IsSync k (Core (core.Persist mode)) reply = IsSyncMode (Some mode)
IsSync k (Core (core.CommitBatch items mode)) reply = (items.items ≢ []) × IsSyncMode mode
IsSync k (Core (core.Keyspace name options)) reply = has_name k.present name ≡ false
IsSync k (Core (core.DeleteKeyspace id)) reply = is_living k.present id ≡ true
IsSync k (Core (core.Ingest id items)) reply = items.items ≢ []
IsSync k (Core core.RotateJournal) reply = ⊤
IsSync k (Core (core.FlushBegin id)) (Began (Some job)) = ⊤
IsSync k (Commit kind place) (Flag true) = IsSomeAnd (named k place) (λ tx. (tx.own ≢ []) × IsSyncMode tx.mode)
IsSync k call reply = ⊥

-- so it is of the call at this place of a list
abbrev pub IsSyncAt : Known → List TxCall → List Reply → ℕ → Type 0
IsSyncAt k (call ∷ calls) (reply ∷ replies) zero = IsSync k call reply
IsSyncAt k (call ∷ calls) (reply ∷ replies) (suc i) = IsSyncAt (after k call reply) calls replies i
IsSyncAt k calls replies i = ⊥

-- the second list begins with the first
abbrev pub IsBeginning : List Command → List Command → Type 0
IsBeginning front commands = (rest : List Command) × (front ++ rest ≡ commands)

-- what a life leaves: a beginning of all that it attempted, which has what was attempted up to each sync that succeeded
pub record IsLeft (k : Known) (calls : List TxCall) (replies : List Reply) (front : List Command) : Type 0 where
  pub within : IsBeginning front (all_attempted k calls replies)
  pub holds : (i : ℕ) → IsSyncAt k calls replies i → IsBeginning (all_attempted k (take (suc i) calls) (take (suc i) replies)) front

-- ---- lives

-- The calls of a life lead from the store that it began with to the one that the next life begins with: they were answered, and as much is
-- left of what they attempted as a crash leaves; all of it where the engine closed.
abbrev pub Leads : Store → List TxCall → List Reply → Bool → Store → Type 0
Leads start calls replies closed next =
    AreAnswers (begins start) calls replies
    × (front : List Command) × IsLeft (begins start) calls replies front × (closed ≡ true → front ≡ all_attempted (begins start) calls replies) × (next ≡ kept (fold start front))

-- One life. It was refused as a whole, since something ran out or, where crashes may be wild, since its opening found something wrong, and
-- changed nothing. Or its calls lead on, and it closed only where it was to.
abbrev pub IsLife : Bool → Store → Life → Result Told Error → Store → Type 0
IsLife wild start life (Err error) next = (IsTrue wild ⊎ RunsOut error) × (next ≡ start)
IsLife wild start life (Ok told) next = (told.closed ≡ true → life.closes ≡ true) × Leads start life.calls.items told.replies.items told.closed next

-- lives one after another, from this store to that one
pub data AreLives (wild : Bool) : Store → List Life → List (Result Told Error) → Store → Type 0 where
  NoLife : (s : Store) → AreLives wild s [] [] s
  OneLife : (start next end : Store) (life : Life) (told : Result Told Error) (lives : List Life) (others : List (Result Told Error))
      → IsLife wild start life told next → AreLives wild next lives others end → AreLives wild start (life ∷ lives) (told ∷ others) end

-- a store of no keyspace
abbrev pub no_store : Store
no_store = record { names = empty; maps = empty; options = empty; next = 1 }
