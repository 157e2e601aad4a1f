-- What a core with its transactions stands for, and what a commit makes of it.
use Rattle.std.specs.Prelude.{◌≡◌, ◌≢◌, ℕ, ◌≤◌, List, [], ◌∷◌, ◌++◌, drop, length, map, Option, None, Some}
use Rattle.std.specs.Option.{option_map}
use Rattle.std.specs.FinMap.{empty, get}
use Rattle.fjall_base.specs.declared.error.Error.{Error}
use Rattle.fjall_base.specs.declared.error.Error.TheVariants.{SnapshotClosed}
use Rattle.fjall_journal.specs.Ops.{BatchItem, write_of}
use Rattle.fjall_tx.specs.Marks.{Marks}
use Rattle.fjall_tx.specs.Oracles.{pruned}
use Rattle.fjall_tx.specs.declared.outcome.CommitOutcome.{CommitOutcome}
use Rattle.fjall_tx.specs.declared.outcome.CommitOutcome.TheVariants as outcomes
use Rattle.fjall_tx.specs.Owns.{items_of}
use Rattle.fjall_history.specs.declared.reply.Reply.{Reply}
use Rattle.fjall_history.specs.declared.reply.Reply.TheVariants.{Done, Refused}
use Rattle.fjall_history.specs.Histories.{Accepted, History, commands_of, commits, plain}
use Rattle.fjall_history.specs.Moves.{AreSound}
use Rattle.fjall_history.specs.Checked.{IsChecked}
use Rattle.fjall_machine.specs.Shapes.{CallShape, Close, OfTickets}
use Rattle.fjall_machine.specs.Machine.{State, StepOf, times}
use Rattle.fjall_engine.specs.Holding.{Held}
use Rattle.fjall_engine.specs.Durables.{Durable}
use Rattle.fjall_engine.specs.Crashes.{CallPasses}
use Rattle.fjall_engine.specs.Standing.{LeadsOn, ReadsOn, StandsFor, StandsOn}
use Rattle.fjall_core.specs.Transactions.{Kept, MeetsSome, Tx, marks_of_items}
use Rattle.fjall_core.specs.Commits.{change_of}

-- A state of the machine, and what was accepted since it was opened, where each command tells which optimistic transaction
-- committed it.
pub record CoreState : Type 0 where
  pub state : State
  pub accepted : List Accepted

-- the history, told so
abbrev pub history_of : CoreState → History
history_of t = record t.state.history { accepted = t.accepted }

-- The core may be in that state, whose history is told so; each optimistic transaction that committed met none of those before it;
-- and kept are those that committed, but for some that are numbered below the watermark.
pub record StandFor (core : Held) (kept : Kept) (t : CoreState) : Type 0 where
  pub machine : StandsFor core t.state
  pub same : commands_of t.accepted ≡ commands_of t.state.history.accepted
  pub sound : AreSound (times t.state)
  pub checked : IsChecked (history_of t)
  pub upto : ℕ
  pub passed : upto ≤ t.state.tickets.watermark
  pub keeps : kept.commits ≡ pruned (commits (history_of t)) upto

-- the state after a call that commits no optimistic transaction
abbrev pub gone_on : CoreState → State → CoreState
gone_on t s = record { state = s; accepted = t.accepted ++ map plain (commands_of (drop (length t.state.history.accepted) s.history.accepted)) }

-- Behind a call of the core, both stand for one next state: its disk has that state's tables, the call is a step to it, and a crash leaves
-- what it may, whatever base and pending the core stood on.
abbrev pub GoesOn : Held → CoreState → CallShape → Reply → Held → Kept → Type 0
GoesOn old t shape reply new kept = (s : State) × StandFor new kept (gone_on t s) × ReadsOn new s × StepOf t.state shape reply s × LeadsOn old t.state shape reply new s

-- the command of these items, with the transaction that commits it where that marks
abbrev pub accepted_of : ℕ → Option Marks → List BatchItem → Accepted
accepted_of instant marks items = record {
  command = write_of items;
  commit = option_map (λ m. record { instant = instant; marks = marks_of_items m items }) marks;
}

-- What a commit makes of a state. It conflicts exactly where a transaction that committed at or above its instant wrote what its
-- reads cover, among all that ever committed. Whatever comes of it, its ticket is closed.
pub data CommitStep (old : CoreState) (tx : Tx) (outcome : CommitOutcome Error) (new : CoreState) : Type 0 where
  IsGone : (none : get old.state.tickets.instants tx.ticket.id ≡ None) (told : outcome ≡ outcomes.Aborted SnapshotClosed) (same : new ≡ old) → CommitStep old tx outcome new
  IsIdle : (instant : ℕ) (opened : get old.state.tickets.instants tx.ticket.id ≡ Some instant) (none : tx.own ≡ empty) (told : outcome ≡ outcomes.Ok)
      (closes : StepOf old.state (OfTickets (Close tx.ticket.id)) Done new.state) (same : new.accepted ≡ old.accepted) → CommitStep old tx outcome new
  IsMet : (instant : ℕ) (opened : get old.state.tickets.instants tx.ticket.id ≡ Some instant) (some : tx.own ≢ empty)
      (meets : MeetsSome instant tx.marks (commits (history_of old))) (told : outcome ≡ outcomes.Conflicted)
      (closes : StepOf old.state (OfTickets (Close tx.ticket.id)) Done new.state) (same : new.accepted ≡ old.accepted) → CommitStep old tx outcome new
  IsRefused : (instant : ℕ) (opened : get old.state.tickets.instants tx.ticket.id ≡ Some instant) (some : tx.own ≢ empty)
      (apart : MeetsSome instant tx.marks (commits (history_of old)) → ⊥) (error : Error) (told : outcome ≡ outcomes.Aborted error)
      (mid : State) (refused : StepOf old.state (change_of tx) (Refused error) mid)
      (closes : StepOf mid (OfTickets (Close tx.ticket.id)) Done new.state) (same : new.accepted ≡ old.accepted) → CommitStep old tx outcome new
  IsCommitted : (instant : ℕ) (opened : get old.state.tickets.instants tx.ticket.id ≡ Some instant) (some : tx.own ≢ empty)
      (apart : MeetsSome instant tx.marks (commits (history_of old)) → ⊥) (told : outcome ≡ outcomes.Ok)
      (mid : State) (made : StepOf old.state (change_of tx) Done mid) (closes : StepOf mid (OfTickets (Close tx.ticket.id)) Done new.state)
      (grown : new.accepted ≡ old.accepted ++ accepted_of instant tx.marks (items_of tx.own) ∷ []) → CommitStep old tx outcome new

-- What a crash during a commit or behind it leaves is what one call of the core would: that which makes its own writes, or is refused
-- them; where it conflicts, the closing of its ticket.
abbrev pub CommitPasses : State → Durable → Tx → CommitOutcome Error → Durable → Type 0
CommitPasses s d tx outcomes.Ok e = CallPasses s d (change_of tx) Done e
CommitPasses s d tx (outcomes.Aborted error) e = CallPasses s d (change_of tx) (Refused error) e
CommitPasses s d tx outcomes.Conflicted e = CallPasses s d (OfTickets (Close tx.ticket.id)) Done e

-- so it is whatever base and pending the core stood on
abbrev pub CommitLeadsOn : Held → State → Tx → CommitOutcome Error → Held → State → Type 0
CommitLeadsOn old s tx outcome new t = (d : Durable) → StandsOn old s.parts.entries d → (e : Durable) × StandsOn new t.parts.entries e × CommitPasses s d tx outcome e

-- Behind a commit, both stand for one next state: its disk has that state's tables, the commit is a step to it, and a crash leaves what it
-- may.
abbrev pub CommitGoesOn : Held → CoreState → Tx → CommitOutcome Error → Held → Kept → Type 0
CommitGoesOn old t tx outcome new kept =
    (after : CoreState) × StandFor new kept after × ReadsOn new after.state × CommitStep t tx outcome after × CommitLeadsOn old t.state tx outcome new after.state
