-- What is known of the jobs that are out stays known.
use Rattle.std.proofs.Common.{ℕ, List, get_or, Option, None, Some, sym, subst}
use Rattle.std.specs.Prelude.{All, IfSome}
use Rattle.fjall_base.specs.declared.error.Error.{Error}
use Rattle.fjall_history.specs.declared.reply.Reply.{Reply}
use Rattle.fjall_history.specs.declared.reply.Reply.TheVariants.{Done, Refused}
use Rattle.fjall_jobs.specs.Tasks.{Task}
use Rattle.fjall_machine.specs.Machine.{State, StepOf}
use Rattle.fjall_machine.specs.Merging.{IsQuiet, KnowsMerge}
use Rattle.fjall_machine.specs.Remembered.{KnowsTask}
use Rattle.fjall_machine.specs.Shapes.{CallShape, Close, OfTickets}
use Rattle.fjall_machine.proofs.KnownMerges.{a_known_merge_stays}
use Rattle.fjall_machine.proofs.QuietSteps.{quiet_stays}
use Rattle.fjall_core.specs.Holding.{Held}
use Rattle.fjall_core.specs.CoreStanding.{Owes, StandsFor}
use Rattle.fjall_core.proofs.KeptJobs.{flush_known}
use Rattle.fjall_shared.specs.Labels.{Label}
use Rattle.fjall_core.specs.Commits.{change_of}
use Rattle.fjall_core.specs.Standing.{CommitStep, IsCommitted, IsGone, IsIdle, IsMet, IsRefused, CoreState}
use Rattle.fjall_core.specs.Transactions.{Tx}
use Rattle.fjall_tx.specs.declared.outcome.CommitOutcome.{CommitOutcome}
use Rattle.fjall_shared.specs.Locked.{KnowsMergeOf}

-- memory knows the flush of this label
abbrev pub KnowsFlushOf : Held → Label → Type 0
KnowsFlushOf core label = KnowsTask core.memory label.task

pub flushes_stay : (old new : Held) (shape : CallShape) (reply : Reply) → Owes old shape reply new → (jobs : List Label) → All (KnowsFlushOf old) jobs → All (KnowsFlushOf new) jobs
flushes_stay old new shape reply owes jobs known = λ i d lt. flush_known old new shape reply owes (get_or jobs i d).task (known i d lt)

merge_stays : (s t : State) → ((target : ℕ) (task : Task) → KnowsMerge s target task → KnowsMerge t target task) → (target : Option ℕ) (task : Task)
    → IfSome target (λ n. KnowsMerge s n task) → IfSome target (λ n. KnowsMerge t n task)
merge_stays s t stays None task known = tt
merge_stays s t stays (Some n) task known = stays n task known

-- whatever call the engine is asked for, from a state that it stood for
pub merges_stay : (core : Held) (s t : State) (shape : CallShape) (reply : Reply) → StandsFor core s → StepOf s shape reply t → (jobs : List Label) → All (KnowsMergeOf s) jobs → All (KnowsMergeOf t) jobs
merges_stay core s t shape reply stands step jobs known = λ i d lt.
    merge_stays s t (a_known_merge_stays core.memory core.catalog.next_table_id s stands.remembered shape reply t step) (get_or jobs i d).target (get_or jobs i d).task (known i d lt)

-- a call of a transaction, from any state
quiet_merges : (s t : State) (shape : CallShape) (reply : Reply) → IsQuiet shape → StepOf s shape reply t → (jobs : List Label) → All (KnowsMergeOf s) jobs → All (KnowsMergeOf t) jobs
quiet_merges s t shape reply quiet step jobs known = λ i d lt. merge_stays s t (quiet_stays s shape reply t quiet step) (get_or jobs i d).target (get_or jobs i d).task (known i d lt)

pub commit_merges : (jobs : List Label) (old new : CoreState) (tx : Tx) (outcome : CommitOutcome Error) → CommitStep old tx outcome new → All (KnowsMergeOf old.state) jobs → All (KnowsMergeOf new.state) jobs
commit_merges jobs old new tx outcome (IsGone none told same) known = subst (λ (t : CoreState). All (KnowsMergeOf t.state) jobs) (sym same) known
commit_merges jobs old new tx outcome (IsIdle instant opened none told closes same) known = quiet_merges old.state new.state (OfTickets (Close tx.ticket.id)) Done tt closes jobs known
commit_merges jobs old new tx outcome (IsMet instant opened some meets told closes same) known = quiet_merges old.state new.state (OfTickets (Close tx.ticket.id)) Done tt closes jobs known
commit_merges jobs old new tx outcome (IsRefused instant opened some apart error told mid refused closes same) known =
    quiet_merges mid new.state (OfTickets (Close tx.ticket.id)) Done tt closes jobs (quiet_merges old.state mid (change_of tx) (Refused error) tt refused jobs known)
commit_merges jobs old new tx outcome (IsCommitted instant opened some apart told mid made closes grown) known =
    quiet_merges mid new.state (OfTickets (Close tx.ticket.id)) Done tt closes jobs (quiet_merges old.state mid (change_of tx) Done tt made jobs known)
