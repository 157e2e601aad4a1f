-- How transactions begin and end over a core.
use Rattle.std.specs.Prelude.{◌≡◌, ◌≢◌, ◌⊎◌, ℕ, List, Bool, false, Option, None, Some, Result, Ok, Err}
use Rattle.std.specs.FinMap.{empty, get}
use Rattle.fjall_base.specs.declared.error.Error.{Error}
use Rattle.fjall_base.specs.declared.error.Error.TheVariants.{SnapshotClosed}
use Rattle.fjall_journal.specs.Changes.{Items}
use Rattle.fjall_tx.specs.declared.oracle.Committed.{Committed}
use Rattle.fjall_tx.specs.Oracles.{pruned}
use Rattle.fjall_tx.specs.declared.outcome.CommitOutcome.{CommitOutcome}
use Rattle.fjall_tx.specs.declared.outcome.CommitOutcome.TheVariants as outcomes
use Rattle.fjall_tx.specs.Owns.{items_of}
use Rattle.fjall_history.specs.declared.ticket.Ticket.{Ticket}
use Rattle.fjall_history.specs.declared.reply.Reply.{Reply}
use Rattle.fjall_history.specs.declared.reply.Reply.TheVariants.{Done, Opened, Refused}
use Rattle.fjall_history.specs.Tickets.{IsDueOrMemory, is_open}
use Rattle.fjall_machine.specs.Shapes.{ByMode, CallShape, Close, OfChange, OfTickets}
use Rattle.fjall_engine.specs.Holding.{Held}
use Rattle.fjall_engine.specs.Standing.{held_due}
use Rattle.fjall_core.specs.Transactions.{AreCommitsOf, Kept, MeetsSome, Tx, committed}

-- the reply of the core to the opening of a transaction's ticket
abbrev pub begun_reply : Result Tx Error → Reply
begun_reply (Ok tx) = Opened tx.ticket
begun_reply (Err error) = Refused error

-- the ticket of the single writer's transaction that was begun last is still open
abbrev pub is_writing : Held → Option Ticket → Bool
is_writing core None = false
is_writing core (Some ticket) = is_open core.memory.tickets ticket.id

-- a transaction's own writes as a change of the core, in which each key stands once
abbrev pub change_of : Tx → CallShape
change_of tx = OfChange (Items (items_of tx.own)) (ByMode tx.mode)

-- A change that a core is asked for, once nothing else refuses it: the core makes it or refuses it; or it isn't asked, since the
-- refusal is due or memory ran out, and nothing has changed.
abbrev pub AsksFor : (Held → CallShape → Reply → Held → Type 0) → Held → CallShape → Result Unit Error → Held → Type 0
AsksFor Does core change (Ok _) left = Does core change Done left
AsksFor Does core change (Err error) left = Does core change (Refused error) left ⊎ (IsDueOrMemory (held_due core change) error × (left ≡ core))

-- What comes of a transaction that reads at this instant, before its ticket is closed, and which commits are kept then, where those of
-- before are the core's. Without own
-- writes it is done, unchecked; one that meets a transaction that committed at or above its instant conflicts; and else its own
-- writes are one change that the core is asked for.
pub data Comes (Does : Held → CallShape → Reply → Held → Type 0) (old : List Committed) (core : Held) (instant : ℕ) (tx : Tx) (outcome : CommitOutcome Error) (new : List Committed) (left : Held) : Type 0 where
  Idle : (none : tx.own ≡ empty) (told : outcome ≡ outcomes.Ok) (kept : new ≡ old) (same : left ≡ core) → Comes Does old core instant tx outcome new left
  Meets : (some : tx.own ≢ empty) (meets : MeetsSome instant tx.marks old) (told : outcome ≡ outcomes.Conflicted) (kept : new ≡ old) (same : left ≡ core)
      → Comes Does old core instant tx outcome new left
  Fails : (some : tx.own ≢ empty) (apart : MeetsSome instant tx.marks old → ⊥) (error : Error) (told : outcome ≡ outcomes.Aborted error) (kept : AreCommitsOf core old → new ≡ old)
      (refused : AsksFor Does core (change_of tx) (Err error) left) → Comes Does old core instant tx outcome new left
  Commits : (some : tx.own ≢ empty) (apart : MeetsSome instant tx.marks old → ⊥) (told : outcome ≡ outcomes.Ok)
      (kept : AreCommitsOf core old → new ≡ committed core.memory.next tx.marks (items_of tx.own) old) (made : Does core (change_of tx) Done left) → Comes Does old core instant tx outcome new left

-- How a commit ends. Where its ticket isn't open nothing happens. Else the ticket is closed, whatever came of it, and commits are
-- kept that are numbered at or above the watermark then.
pub data Ends (Does : Held → CallShape → Reply → Held → Type 0) (old : Kept) (core : Held) (tx : Tx) (outcome : CommitOutcome Error) (new : Kept) (left : Held) : Type 0 where
  Gone : (none : get core.memory.tickets.instants tx.ticket.id ≡ None) (told : outcome ≡ outcomes.Aborted SnapshotClosed) (kept : new ≡ old) (same : left ≡ core)
      → Ends Does old core tx outcome new left
  Lets : (instant : ℕ) (opened : get core.memory.tickets.instants tx.ticket.id ≡ Some instant) (commits : List Committed) (mid : Held)
      (comes : Comes Does old.commits core instant tx outcome commits mid) (closes : Does mid (OfTickets (Close tx.ticket.id)) Done left)
      (kept : new ≡ record old { commits = pruned commits left.memory.tickets.watermark }) → Ends Does old core tx outcome new left
