-- One call of a list after another, on a core with its transactions.
use Rattle.std.specs.Prelude.{◌≡◌, ◌≢◌, ℕ, Bool, true, false, not, if◌then◌else◌, List, [], ◌∷◌, ◌++◌, length, nat_lt, All, Option, None, Some, Vec}
use Rattle.std.specs.declared.alloc.Global.{Global}
use Rattle.std.specs.FinMap.{empty}
use Rattle.fjall_base.specs.declared.error.Error.{Error}
use Rattle.fjall_base.specs.declared.error.Error.TheVariants.{SnapshotClosed, TransactionOpen}
use Rattle.fjall_journal.specs.Ops.{BatchItem}
use Rattle.fjall_tx.specs.Marks.{Marks}
use Rattle.fjall_tx.specs.declared.outcome.CommitOutcome.{CommitOutcome}
use Rattle.fjall_tx.specs.declared.outcome.CommitOutcome.TheVariants as outcomes
use Rattle.fjall_tx.specs.Owns.{items_of}
use Rattle.fjall_history.specs.Tickets.{Tickets, is_open}
use Rattle.fjall_history.specs.declared.ticket.Ticket.{Ticket}
use Rattle.fjall_history.specs.declared.reply.Reply.{Reply}
use Rattle.fjall_history.specs.declared.reply.Reply.TheVariants.{Done, Flag, Opened, Refused}
use Rattle.fjall_machine.specs.Machine.{State, Step}
use Rattle.fjall_machine.specs.Places.{resolved}
use Rattle.fjall_machine.specs.declared.call.Call.{Call}
use Rattle.fjall_machine.specs.declared.call.Call.TheVariants.{CloseSnapshot, CommitBatch, Snapshot}
use Rattle.fjall_core.specs.Transactions.{Tx, transaction_begun, no_marks}
use Rattle.fjall_core.specs.Standing.{CommitStep, CoreState}
use Rattle.fjall_calls.specs.declared.call.Kind.{Kind}
use Rattle.fjall_calls.specs.declared.call.Kind.TheVariants.{Optimistic, Single}
use Rattle.fjall_calls.specs.declared.call.Within.{Within}
use Rattle.fjall_calls.specs.declared.call.TxCall.{TxCall}
use Rattle.fjall_calls.specs.declared.call.TxCall.TheVariants as calls
use Rattle.fjall_calls.specs.Names.{Takes, is_wanted}
use Rattle.fjall_calls.specs.Worlds.{Going, Gone, World, along}
use Rattle.fjall_calls.specs.Acting.{Acts, heard_by}

-- ---- names

-- the name that a call gives, and of which kind that transaction is to be
abbrev pub transaction_named : TxCall → Option (ℕ × Option Kind)
transaction_named (calls.Within name call) = Some (name, None)
transaction_named (calls.Commit kind name) = Some (name, Some kind)
transaction_named (calls.Rollback name) = Some (name, None)
transaction_named call = None

-- whether an open transaction of a world has this name and kind
abbrev pub is_transaction_named : World → ℕ → Option Kind → Going → Bool
is_transaction_named w name kind g = is_wanted w.told.state.tickets name kind g.named

-- ---- beginning

-- the marks that a transaction of this kind begins with
abbrev pub first_marks : Kind → Option Marks
first_marks Optimistic = Some no_marks
first_marks Single = None

-- the ticket of the single writer's transaction that was begun last, once one of this kind was begun
abbrev pub writer_after : Kind → Ticket → Option Ticket → Option Ticket
writer_after Optimistic ticket writer = writer
writer_after Single ticket writer = Some ticket

-- whether a ticket, where there is one, is open
abbrev pub is_one_open : Tickets → Option Ticket → Bool
is_one_open tickets None = false
is_one_open tickets (Some ticket) = is_open tickets ticket.id

-- the single writer's transaction is open
abbrev pub is_written : World → Bool
is_written w = is_one_open w.told.state.tickets w.writer

-- where one of this kind may begin: one single writer's alone is open at a time
abbrev pub may_begin : World → Kind → Bool
may_begin w Optimistic = true
may_begin w Single = not (is_written w)

-- with one more that has begun, by the call at this place
abbrev pub with_begun : World → Kind → ℕ → Ticket → World
with_begun w kind place ticket = record w {
  writer = writer_after kind ticket w.writer;
  going = w.going ++ record { named = record { place = place; transaction = transaction_begun (first_marks kind) ticket }; heard = [] } ∷ [];
}

-- ---- within

-- a transaction after a call within it, with what it has heard by that
abbrev pub gone_by : Going → Within → Reply → Tx → Going
gone_by g call reply after = record { named = record g.named { transaction = after }; heard = g.heard ++ heard_by call g.named.transaction.own reply }

-- ---- ending

-- how a commit is told in a list: whether it took place, or why it was refused
abbrev pub reply_to : CommitOutcome Error → Reply
reply_to outcomes.Ok = Flag true
reply_to outcomes.Conflicted = Flag false
reply_to (outcomes.Aborted error) = Refused error

-- What the core is asked as a transaction commits, and its replies: its own writes are one batch, where there are some and no conflict
-- is met; and then its ticket is closed, whatever came of that.
pub data Commits (tx : Tx) : CommitOutcome Error → List Call → List Reply → Type 0 where
  Idles : (none : tx.own ≡ empty) → Commits tx outcomes.Ok (CloseSnapshot tx.ticket ∷ []) (Done ∷ [])
  Conflicts : Commits tx outcomes.Conflicted (CloseSnapshot tx.ticket ∷ []) (Done ∷ [])
  Aborts : (items : Vec BatchItem Global) (are : items.items ≡ items_of tx.own) (error : Error)
      → Commits tx (outcomes.Aborted error) (CommitBatch items tx.mode ∷ CloseSnapshot tx.ticket ∷ []) (Refused error ∷ Done ∷ [])
  Succeeds : (items : Vec BatchItem Global) (are : items.items ≡ items_of tx.own) (some : tx.own ≢ empty)
      → Commits tx outcomes.Ok (CommitBatch items tx.mode ∷ CloseSnapshot tx.ticket ∷ []) (Done ∷ Done ∷ [])

-- with one more that committed, where its command was accepted
abbrev pub gone_with : List Gone → Going → CoreState → CoreState → List Gone
gone_with gone g old new = if nat_lt (length old.accepted) (length new.accepted) then gone ++ record { place = length old.accepted; was = g } ∷ [] else gone

-- ---- steps

-- One call of a list in a world, where the calls before it got these replies: what it is answered, which calls of the core it comes to with
-- which replies, and the world afterwards. A name of no open transaction of its kind is refused.
pub data TxStep (w : World) (replies : List Reply) : TxCall → Reply → List Call → List Reply → World → Type 0 where
  OfCore : (call : Call) (reply : Reply) (s : State) (step : Step w.told.state (resolved replies call) reply s)
      → TxStep w replies (calls.Core call) reply (resolved replies call ∷ []) (reply ∷ []) (along w s)
  IsHeldBack : (due : may_begin w Single ≡ false) → TxStep w replies (calls.Begin Single) (Refused TransactionOpen) [] [] w
  IsNotBegun : (kind : Kind) (free : may_begin w kind ≡ true) (error : Error) (s : State) (step : Step w.told.state Snapshot (Refused error) s)
      → TxStep w replies (calls.Begin kind) (Refused error) (Snapshot ∷ []) (Refused error ∷ []) (along w s)
  IsBegun : (kind : Kind) (free : may_begin w kind ≡ true) (ticket : Ticket) (s : State) (step : Step w.told.state Snapshot (Opened ticket) s)
      → TxStep w replies (calls.Begin kind) Done (Snapshot ∷ []) (Opened ticket ∷ []) (with_begun (along w s) kind (length replies) ticket)
  IsUnknown : (call : TxCall) (name : ℕ) (kind : Option Kind) (is : transaction_named call ≡ Some (name, kind)) (none : All (λ g. is_transaction_named w name kind g ≡ false) w.going)
      → TxStep w replies call (Refused SnapshotClosed) [] [] w
  IsWithin : (name : ℕ) (call : Within) (g : Going) (others : List Going) (takes : Takes (is_transaction_named w name None) w.going (Some g) others)
      (reply : Reply) (made : List Call) (told : List Reply) (s : State) (after : Tx) (acts : Acts w.told.state g.named.transaction call reply made told s after)
      → TxStep w replies (calls.Within name call) reply made told (record (along w s) { going = others ++ gone_by g call reply after ∷ [] })
  IsEnded : (kind : Kind) (name : ℕ) (g : Going) (others : List Going) (takes : Takes (is_transaction_named w name (Some kind)) w.going (Some g) others)
      (outcome : CommitOutcome Error) (made : List Call) (told : List Reply) (commits : Commits g.named.transaction outcome made told)
      (new : CoreState) (step : CommitStep w.told g.named.transaction outcome new)
      → TxStep w replies (calls.Commit kind name) (reply_to outcome) made told (record w { told = new; going = others; gone = gone_with w.gone g w.told new })
  IsRolledBack : (name : ℕ) (g : Going) (others : List Going) (takes : Takes (is_transaction_named w name None) w.going (Some g) others)
      (reply : Reply) (s : State) (step : Step w.told.state (CloseSnapshot g.named.transaction.ticket) reply s)
      → TxStep w replies (calls.Rollback name) reply (CloseSnapshot g.named.transaction.ticket ∷ []) (reply ∷ []) (record (along w s) { going = others })

-- Calls of a list one after another, behind those that got the first replies.
pub data TxRun : World → List Reply → List TxCall → List Reply → List Call → List Reply → World → Type 0 where
  NoCall : (w : World) (before : List Reply) → TxRun w before [] [] [] [] w
  OneCall : (w mid v : World) (before : List Reply) (call : TxCall) (reply : Reply) (made : List Call) (told : List Reply)
      (more : List TxCall) (replies : List Reply) (later : List Call) (heard : List Reply)
      (step : TxStep w before call reply made told mid) (rest : TxRun mid (before ++ reply ∷ []) more replies later heard v)
      → TxRun w before (call ∷ more) (reply ∷ replies) (made ++ later) (told ++ heard) v
