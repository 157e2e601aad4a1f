-- A step of a transaction's call changes nothing that is known of merges, whatever else is known of the state.
use Rattle.std.proofs.Common.{◌≡◌, inl, inr, ℕ, Option, None, Some, refl, sym, subst}
use Rattle.std.specs.declared.io.ErrorKind.{ErrorKind}
use Rattle.fjall_base.specs.declared.error.Error.{Error}
use Rattle.fjall_base.specs.declared.error.Error.TheVariants.{Io, NumbersUsedUp, OutOfMemory, Poisoned, Storage, TooManyItems, ValueTooLong}
use Rattle.fjall_history.specs.declared.reply.Reply.{Reply}
use Rattle.fjall_history.specs.declared.reply.Reply.TheVariants.{Refused}
use Rattle.fjall_jobs.specs.Tasks.{Task}
use Rattle.fjall_journal.specs.Changes.{Items}
use Rattle.fjall_machine.specs.Machine.{Answers, MayFail, Refuses, State, StepOf, WorkFails, due}
use Rattle.fjall_machine.specs.Merging.{IsQuiet, KnowsMerge}
use Rattle.fjall_machine.specs.Shapes.{CallShape, OfChange, OfRead, OfTickets}
use Rattle.fjall_machine.proofs.KeptMerges.{Keeps, alike, changes, poisoned, same}
use Rattle.fjall_machine.proofs.KnownMerges.{stays_known}

quiet_answers : (task : Task) (s t : State) (shape : CallShape) (reply : Reply) → IsQuiet shape → Answers s shape reply t → Keeps task s t
quiet_answers task s t (OfChange (Items items) how) reply quiet (told, is) = subst (Keeps task s) (sym is) (changes task s (Items items) how)
quiet_answers task s t (OfRead view id query) reply quiet (told, is) = same task s t is
quiet_answers task s t (OfTickets call) reply quiet (turns, is) = subst (Keeps task s) (sym is) (alike task s (record s { tickets = t.tickets }) refl refl refl refl)
quiet_answers task s t shape reply quiet answers = absurd quiet

quiet_fault : (task : Task) (s t : State) (shape : CallShape) (kind : ErrorKind) → IsQuiet shape → MayFail shape (Io kind) s t → Keeps task s t
quiet_fault task s t (OfChange (Items items) how) kind quiet (inl (changes, is)) = poisoned task s t is
quiet_fault task s t (OfChange (Items items) how) kind quiet (inr (inl (reads, is))) = same task s t is
quiet_fault task s t (OfChange (Items items) how) kind quiet (inr (inr work)) = absurd work
quiet_fault task s t (OfRead view id query) kind quiet (inl (changes, is)) = absurd changes
quiet_fault task s t (OfRead view id query) kind quiet (inr (inl (reads, is))) = same task s t is
quiet_fault task s t (OfRead view id query) kind quiet (inr (inr work)) = absurd work
quiet_fault task s t (OfTickets call) kind quiet (inl (changes, is)) = absurd changes
quiet_fault task s t (OfTickets call) kind quiet (inr (inl (reads, is))) = absurd reads
quiet_fault task s t (OfTickets call) kind quiet (inr (inr work)) = absurd work
quiet_fault task s t shape kind quiet fails = absurd quiet

quiet_fails : (task : Task) (s t : State) (shape : CallShape) (error : Error) → IsQuiet shape → MayFail shape error s t → Keeps task s t
quiet_fails task s t shape (Io kind) quiet fails = quiet_fault task s t shape kind quiet fails
quiet_fails task s t shape OutOfMemory quiet (takes, is) = same task s t is
quiet_fails task s t shape (Storage told) quiet (which, damaged, is) = same task s t is
quiet_fails task s t shape ValueTooLong quiet (long, is) = same task s t is
quiet_fails task s t shape Poisoned quiet (late, is) = same task s t is
quiet_fails task s t shape NumbersUsedUp quiet (used_up, is) = same task s t is
quiet_fails task s t shape TooManyItems quiet (none_left, is) = same task s t is
quiet_fails task s t shape error quiet none = absurd none

quiet_refuses : (task : Task) (s t : State) (shape : CallShape) (error : Error) (first : Option Error) → IsQuiet shape → Refuses first shape error s t → Keeps task s t
quiet_refuses task s t shape error (Some first) quiet (why, is) = same task s t is
quiet_refuses task s t shape error None quiet may_fail = quiet_fails task s t shape error quiet may_fail

quiet_keeps : (task : Task) (s t : State) (shape : CallShape) (reply : Reply) → IsQuiet shape → StepOf s shape reply t → Keeps task s t
quiet_keeps task s t shape (Refused error) quiet step = quiet_refuses task s t shape error (due s shape) quiet step
quiet_keeps task s t shape reply quiet (none, step) = quiet_answers task s t shape reply quiet step

pub quiet_stays : (s : State) (shape : CallShape) (reply : Reply) (t : State) → IsQuiet shape → StepOf s shape reply t → (target : ℕ) (task : Task) → KnowsMerge s target task → KnowsMerge t target task
quiet_stays s shape reply t quiet step target task = stays_known target task s t (quiet_keeps task s t shape reply quiet step)
