-- What the calls of a locked state do.
use Rattle.std.specs.Prelude.{◌≡◌, ◌++◌, ◌∷◌, [], ℕ, Bool, false, IsTrue, List, Option, None, Some, Result, Ok, Err, remove, slice_get}
use Rattle.fjall_base.specs.declared.error.Error.{Error}
use Rattle.fjall_journal.specs.Ops.{BatchItem}
use Rattle.fjall_tx.specs.Owns.{items_of}
use Rattle.fjall_tx.specs.declared.outcome.CommitOutcome.{CommitOutcome}
use Rattle.fjall_tx.specs.declared.outcome.CommitOutcome.TheVariants as outcomes
use Rattle.fjall_history.specs.Histories.{Accepted, History, grown}
use Rattle.fjall_history.specs.declared.job.JobId.{JobId}
use Rattle.fjall_history.specs.declared.reply.Reply.{Reply}
use Rattle.fjall_history.specs.declared.reply.Reply.TheVariants.{Began, Refused}
use Rattle.fjall_machine.specs.Machine.{StepOf}
use Rattle.fjall_machine.specs.Shapes.{CallShape, Close, OfHandle, OfTickets, OneLess}
use Rattle.fjall_core.specs.CoreStanding.{LeadsOn, Owes, flag_reply, job_of}
use Rattle.fjall_shared.specs.Labels.{Label}
use Rattle.fjall_core.specs.Commits.{Ends}
use Rattle.fjall_core.specs.Standing.{CommitLeadsOn, CommitStep, CoreState, accepted_of}
use Rattle.fjall_core.specs.Transactions.{Tx}
use Rattle.fjall_shared.specs.Locked.{IsSettled, IsTied, Locked, list_of}
use Rattle.fjall_shared.specs.Takings.{Lists, taking}

-- Over a disk that returns what it holds a call of the engine is a step of the machine: from whichever state with that list the engine stood
-- for it steps to one with the list of now, and a crash leaves what it may.
abbrev pub StepsOn : Locked → CallShape → Reply → Locked → Type 0
StepsOn old shape reply new =
    (t : CoreState) → IsTied old t → (u : CoreState) × IsTied new u × StepOf t.state shape reply u.state × LeadsOn old.core t.state shape reply new.core u.state

-- One call of the engine under the lock. The list grows by just the command that was accepted, or stays. The call owes what it owes over any
-- disk, and over one that returns what it holds it is a step.
pub record MakesCall (honest : Bool) (old : Locked) (shape : CallShape) (reply : Reply) (new : Locked) : Type 0 where
  pub was : IsSettled honest old
  pub list : Lists (taking shape) reply (list_of old) (list_of new)
  pub owes : Owes old.core shape reply new.core
  pub steps : IsTrue honest → StepsOn old shape reply new

-- so that all stays but the engine and its seat, which stays at its word
pub record Does (honest : Bool) (old : Locked) (shape : CallShape) (reply : Reply) (new : Locked) : Type 0 where
  pub makes : MakesCall honest old shape reply new
  pub stays : new ≡ record old { core = new.core; seat = new.seat }
  pub table : new.seat.table ≡ old.seat.table

-- ---- jobs

-- the reply to a flush or a merge that is to begin, of which the job's label is known
abbrev pub begin_reply : Result (Option Label) Error → Reply
begin_reply (Ok None) = Began None
begin_reply (Ok (Some label)) = Began (Some (job_of label.task))
begin_reply (Err error) = Refused error

-- these jobs are out then: one more, where one began
abbrev pub with_begun : Result (Option Label) Error → List Label → List Label
with_begun (Ok (Some label)) jobs = jobs ++ label ∷ []
with_begun other jobs = jobs

-- The one at this place is out no more, unless its finish was refused.
abbrev pub without_finished : Result Bool Error → ℕ → List Label → List Label
without_finished (Ok done) place jobs = remove jobs place
without_finished (Err error) place jobs = jobs

-- A finish of the job of this number among those that are out. Nothing of it came back, and nothing changes; or what came back was made of
-- just that job, and the engine finishes it.
pub data FinishesJob (honest : Bool) (shape_of : JobId → CallShape) (jobs : List Label) (put : List Label → Locked → Locked) (old : Locked) (number : ℕ) (result : Result Bool Error) (new : Locked) : Type 0 where
  IsNotBack : (told : result ≡ Ok false) (same : new ≡ old) → FinishesJob honest shape_of jobs put old number result new
  IsFinished : (place : ℕ) (label : Label) (out : slice_get jobs place ≡ Some label) (is : label.task.id ≡ number)
      (makes : MakesCall honest old (shape_of (job_of label.task)) (flag_reply result) new)
      (stays : new ≡ put (without_finished result place jobs) (record old { core = new.core })) → FinishesJob honest shape_of jobs put old number result new

-- with these flushes, or merges, out
abbrev pub with_flushes : List Label → Locked → Locked
with_flushes jobs l = record l { flushes = jobs }

abbrev pub with_merges : List Label → Locked → Locked
with_merges jobs l = record l { merges = jobs }

-- ---- transactions

-- The list grows by just the transaction that committed, told with what it marked; without own writes, and where it doesn't commit, it stays.
abbrev pub CommitLists : List BatchItem → (ℕ → Accepted) → CommitOutcome Error → History → History → Type 0
CommitLists [] one outcomes.Ok old new = new ≡ old
CommitLists (item ∷ items) one outcomes.Ok old new = (instant : ℕ) × (new ≡ grown old (one instant))
CommitLists items one other old new = new ≡ old

-- a transaction that began at this instant, as an entry of the list
abbrev pub entry_of : Tx → ℕ → Accepted
entry_of tx instant = accepted_of instant tx.marks (items_of tx.own)

-- One commit under the lock. It owes what it owes over any disk; over one that returns what it holds it is a step, from whichever state with
-- that list the engine stood for, in which it conflicts exactly where it meets an entry of the list, and a crash leaves what it may.
pub record DoesCommit (honest : Bool) (old : Locked) (tx : Tx) (outcome : CommitOutcome Error) (new : Locked) : Type 0 where
  pub was : IsSettled honest old
  pub list : CommitLists (items_of tx.own) (entry_of tx) outcome (list_of old) (list_of new)
  pub owes : Ends Owes old.kept old.core tx outcome new.kept new.core
  pub steps : IsTrue honest → (t : CoreState) → IsTied old t
      → (u : CoreState) × IsTied new u × CommitStep t tx outcome u × CommitLeadsOn old.core t.state tx outcome new.core u.state
  pub stays : new ≡ record old { core = new.core; kept = new.kept; seat = new.seat }
  pub table : new.seat.table ≡ old.seat.table

-- ---- what is collected

-- Tickets are closed, one after another.
pub data ClosesTickets (honest : Bool) (old : Locked) : Locked → Type 0 where
  ClosesNone : ClosesTickets honest old old
  ClosesOne : (mid new : Locked) (before : ClosesTickets honest old mid) (id : ℕ) (reply : Reply) (closes : Does honest mid (OfTickets (Close id)) reply new) → ClosesTickets honest old new

-- Tickets are closed, and handles counted less, one after another.
pub data Collects (honest : Bool) (old : Locked) : Locked → Type 0 where
  CollectsNone : Collects honest old old
  ClosesTicket : (mid new : Locked) (before : Collects honest old mid) (id : ℕ) (reply : Reply) (closes : Does honest mid (OfTickets (Close id)) reply new) → Collects honest old new
  Releases : (mid new : Locked) (before : Collects honest old mid) (id : ℕ) (reply : Reply) (releases : Does honest mid (OfHandle OneLess id) reply new) → Collects honest old new
