-- What comes of a session's transactions.
use Rattle.std.specs.Prelude.{ℕ, ◌≡◌, ◌⊎◌, ◌==◌, ◌+◌, ◌++◌, ◌∷◌, [], Bool, List, true, position, slice_get, slice_set, take, drop, IfErr, IfOk, IsOkUnless, MatchOption, OnErr, OnOk, Option, Some, None, Result, Ok, Err, Vec}
use Rattle.std.specs.declared.alloc.Global.{Global}
use Rattle.fjall_base.specs.Limits.{item_refusal}
use Rattle.fjall_base.specs.Pairs.{Bytes, KeyRange, Pairs, lookup, page, pairs_between}
use Rattle.fjall_base.specs.declared.error.Error.{Error}
use Rattle.fjall_base.specs.declared.error.Error.TheVariants.{OutOfMemory, Poisoned, SnapshotClosed}
use Rattle.fjall_history.specs.declared.ticket.Ticket.{Ticket}
use Rattle.fjall_history.specs.declared.ticket.View.{View}
use Rattle.fjall_history.specs.declared.ticket.View.TheVariants.{At}
use Rattle.fjall_journal.specs.Ops.{bytes_in}
use Rattle.fjall_journal.specs.declared.op.Op.{Op}
use Rattle.fjall_machine.specs.Shapes.{Close, OfTickets, Open}
use Rattle.fjall_tx.specs.Marks.{Mark, OfKey, OfRange}
use Rattle.fjall_tx.specs.Oracles.{pruned}
use Rattle.fjall_tx.specs.declared.outcome.CommitOutcome.{CommitOutcome}
use Rattle.fjall_tx.specs.declared.outcome.CommitOutcome.TheVariants.{Aborted}
use Rattle.fjall_core.specs.Commits.{Ends}
use Rattle.fjall_core.specs.CoreStanding.{Looks, Owes, ReadsOn, Serves, reply_of, ticket_reply}
use Rattle.fjall_core.specs.Holding.{Held}
use Rattle.fjall_core.specs.Leaving.{LeavesStanding}
use Rattle.fjall_core.specs.Seeing.{Sees}
use Rattle.fjall_core.specs.Shown.{IsRefusedFor, Shows, read_due}
use Rattle.fjall_core.specs.Standing.{CommitGoesOn, GoesOn, StandFor, CoreState}
use Rattle.fjall_core.specs.Transactions.{Tx, transaction_begun, having_read, no_marks, with_own}
use Rattle.fjall_c.specs.Calls.{Makes}
use Rattle.fjall_c.specs.Live.{Live}

-- ---- beginnings

-- behind the beginning of an optimistic transaction it is open too, where it began
abbrev pub going_with : Result Ticket Error → List Tx → List Tx
going_with (Ok ticket) going = going ++ transaction_begun (Some no_marks) ticket ∷ []
going_with (Err error) going = going

-- An optimistic transaction begins: a ticket is opened, at whose instant it reads. Or nothing changes, for want of memory before.
abbrev pub BeginsIn : Live → Live → Result Ticket Error → Type 0
BeginsIn old new result =
    (Makes old.engine (OfTickets Open) (ticket_reply result) new.engine × (new ≡ record old { engine = new.engine; going = going_with result old.going }))
    ⊎ ((result ≡ Err OutOfMemory) × (new ≡ old))

abbrev pub Begins : Option Live → Option Live → Result Ticket Error → Type 0
Begins (Some old) (Some new) result = BeginsIn old new result
Begins (Some old) None result = ⊥
Begins None new result = (result ≡ Err Poisoned) × (new ≡ None)

-- ---- calls of one transaction

-- where the transaction of this id stands among these, if it is one of them
abbrev pub place_of : ℕ → List Tx → Option ℕ
place_of id going = position (λ tx. tx.ticket.id == id) going

-- A call of the transaction of this id: of its place, of it, and of what the database has before and behind, this is so. Where none has
-- the id the call is refused, and nothing changes.
abbrev pub OfOne : ℕ → (Error → Type 0) → (ℕ → Tx → Live → Live → Type 0) → Live → Live → Type 0
OfOne id Refuses Does old new =
    MatchOption (place_of id old.going) (Refuses SnapshotClosed × (new ≡ old)) (λ place. (tx : Tx) × (slice_get old.going place ≡ Some tx) × Does place tx old new)

-- the same of a database that may not be open, and then the call is refused
abbrev pub OfTransaction : ℕ → (Error → Type 0) → (ℕ → Tx → Live → Live → Type 0) → Option Live → Option Live → Type 0
OfTransaction id Refuses Does (Some old) (Some new) = OfOne id Refuses Does old new
OfTransaction id Refuses Does (Some old) None = ⊥
OfTransaction id Refuses Does None new = Refuses Poisoned × (new ≡ None)

-- Of the engine and the transaction before and behind this is so, and all else that the database has stays.
abbrev pub Within : (Held → Tx → Held → Tx → Type 0) → ℕ → Tx → Live → Live → Type 0
Within Does place tx old new =
    (after : Tx) × Does old.engine tx new.engine after × (new ≡ record old { engine = new.engine; going = slice_set old.going place after })

-- a call within the transaction of this id, with such a result
abbrev pub WithinOne : {T : Type 0} → ℕ → (Held → Tx → Held → Tx → Type 0) → Result T Error → Option Live → Option Live → Type 0
WithinOne id Does result old new = OfTransaction id (λ error. result ≡ Err error) (Within Does) old new

-- ---- own writes

-- An own write is the last of its key; or it is refused, for what is wrong with it, or else for want of memory, and nothing changes.
pub record Writes (keyspace : ℕ) (key : Bytes) (op : Op) (result : Result Unit Error) (engine : Held) (tx : Tx) (left : Held) (after : Tx) : Type 0 where
  pub same : left ≡ engine
  pub ok : OnOk result (after ≡ with_own tx keyspace key op)
  pub unchanged : OnErr result (after ≡ tx)
  pub refused : MatchOption (item_refusal key (bytes_in op)) (IsOkUnless result OutOfMemory) (λ error. result ≡ Err error)

-- ---- reads

-- A read of a keyspace within a transaction, in a view of the engine. It tells so of the map that the transaction sees: that of the view
-- with its own writes applied. It is marked, unless it is refused: as the engine's read in the view is, or for want of memory. What stood
-- over the engine stands.
pub record ReadsIn {T : Type 0} (keyspace : ℕ) (Tells : Pairs → T → Type 0) (mark : Mark) (result : Result T Error) (engine : Held) (view : View) (tx : Tx) (left : Held) (after : Tx) : Type 0 where
  pub tells : (map : Pairs) → Sees true engine view tx.own keyspace map → IfOk result (Tells map)
  pub marked : OnOk result (after ≡ having_read tx mark)
  pub unmarked : OnErr result (after ≡ tx)
  pub due : OnOk result (read_due engine view keyspace ≡ None)
  pub cause : IfErr result (IsRefusedFor engine view keyspace left)
  pub looks : Looks engine left
  pub stand : LeavesStanding true engine left

-- A read of a keyspace in a view of an engine. It tells so of a map that the engine shows there. What stood over the engine stands.
pub record ShowsIn {T : Type 0} (keyspace : ℕ) (Tells : Pairs → T → Type 0) (result : Result T Error) (engine : Held) (view : View) (left : Held) : Type 0 where
  pub tells : (map : Pairs) → Shows true engine view keyspace map → IfOk result (Tells map)
  pub due : OnOk result (read_due engine view keyspace ≡ None)
  pub cause : IfErr result (IsRefusedFor engine view keyspace left)
  pub looks : Looks engine left
  pub stand : LeavesStanding true engine left

-- A read of a keyspace in a view of an engine is refused so.
pub record IsUnshown (keyspace : ℕ) (error : Error) (engine : Held) (view : View) (left : Held) : Type 0 where
  pub cause : IsRefusedFor engine view keyspace left error
  pub looks : Looks engine left
  pub stand : LeavesStanding true engine left

-- it is the value that the key has there
abbrev pub TellsValue : Bytes → Pairs → Option Bytes → Type 0
TellsValue key map found = found ≡ lookup map key

-- these are the first pairs of the range there, or the last ones
abbrev pub TellsPage : KeyRange → Bool → ℕ → Pairs → Vec (Bytes × Bytes) Global → Type 0
TellsPage range back max map found = found.items ≡ page back max (pairs_between range map)

-- the value of a key, at the instant at which the transaction began
abbrev pub Gets : ℕ → Bytes → Result (Option Bytes) Error → Held → Tx → Held → Tx → Type 0
Gets keyspace key result engine tx left after = ReadsIn keyspace (TellsValue key) (OfKey keyspace key) result engine (At tx.ticket) tx left after

-- so pairs of a range
abbrev pub Pages : ℕ → KeyRange → Bool → ℕ → Result (Vec (Bytes × Bytes) Global) Error → Held → Tx → Held → Tx → Type 0
Pages keyspace range back max result engine tx left after =
    ReadsIn keyspace (TellsPage range back max) (OfRange keyspace range.0 range.1) result engine (At tx.ticket) tx left after

-- ---- ends

-- all but the one at this place
abbrev pub without : ℕ → List Tx → List Tx
without place going = take place going ++ drop (place + 1) going

-- What comes of a commit, as the core's: the transaction is open no more. From whichever state the core stood for it is a step, in which it
-- conflicts exactly where it meets one of all that ever committed, and a crash leaves what it may.
pub record CommitsOne (outcome : CommitOutcome Error) (place : ℕ) (tx : Tx) (old new : Live) : Type 0 where
  pub serves : Ends Serves old.kept old.engine tx outcome new.kept new.engine
  pub owes : Ends Owes old.kept old.engine tx outcome new.kept new.engine
  pub steps : (t : CoreState) → StandFor old.engine old.kept t → ReadsOn old.engine t.state → CommitGoesOn old.engine t tx outcome new.engine new.kept
  pub gone : new.going ≡ without place old.going

-- What comes of a rollback, as the core's: its ticket is closed, and the transaction is open no more.
pub record RollsOneBack (result : Result Unit Error) (place : ℕ) (tx : Tx) (old new : Live) : Type 0 where
  pub makes : Makes old.engine (OfTickets (Close tx.ticket.id)) (reply_of result) new.engine
  pub ok : OnOk result (new.kept ≡ record old.kept { commits = pruned old.kept.commits new.engine.memory.tickets.watermark })
  pub err : OnErr result (new.kept ≡ old.kept)
  pub steps : (t : CoreState) → StandFor old.engine old.kept t → ReadsOn old.engine t.state
      → GoesOn old.engine t (OfTickets (Close tx.ticket.id)) (reply_of result) new.engine new.kept
  pub gone : new.going ≡ without place old.going

-- a commit of the transaction of this id
abbrev pub Commits : ℕ → CommitOutcome Error → Option Live → Option Live → Type 0
Commits id outcome old new = OfTransaction id (λ error. outcome ≡ Aborted error) (CommitsOne outcome) old new

-- a rollback of the transaction of this id
abbrev pub RollsBack : ℕ → Result Unit Error → Option Live → Option Live → Type 0
RollsBack id result old new = OfTransaction id (λ error. result ≡ Err error) (RollsOneBack result) old new
