-- A step of a transaction changes nothing that is known of merges.
use Rattle.std.proofs.Common.{◌≡◌, ℕ, Bool, true, false, get_or, List, sym, subst}
use Rattle.std.proofs.lemmas.Bool.{true≢false}
use Rattle.fjall_base.specs.declared.error.Error.{Error}
use Rattle.fjall_history.specs.Queries.{Get, Page, Query}
use Rattle.fjall_history.specs.declared.reply.Reply.{Reply}
use Rattle.fjall_history.specs.declared.reply.Reply.TheVariants.{Done, Opened, Refused}
use Rattle.fjall_jobs.specs.Merges.{merge_target, merge_task}
use Rattle.fjall_machine.specs.Machine.{State, StepOf}
use Rattle.fjall_machine.specs.Merging.{IsQuiet}
use Rattle.fjall_machine.specs.Shapes.{CallShape, Close, OfTickets, Open, shape_of}
use Rattle.fjall_machine.specs.declared.call.Call.{Call}
use Rattle.fjall_machine.proofs.QuietSteps.{quiet_stays}
use Rattle.fjall_core.specs.CoreJob.{Job}
use Rattle.fjall_core.specs.CoreJob.TheVariants.{Flush, Merge}
use Rattle.fjall_core.specs.Jobs.{IsMergeKnown, KnowsMerges}
use Rattle.fjall_core.specs.Commits.{change_of}
use Rattle.fjall_core.specs.Standing.{CommitStep, IsCommitted, IsGone, IsIdle, IsMet, IsRefused, CoreState}
use Rattle.fjall_core.specs.Transactions.{Tx}
use Rattle.fjall_tx.specs.declared.outcome.CommitOutcome.{CommitOutcome}
use Rattle.fjall_calls.specs.Acting.{AsksCore, AsksFor, AsksNothing, call_for}
use Rattle.fjall_calls.specs.Steps.{IsBegun, IsEnded, IsHeldBack, IsNotBegun, IsRolledBack, IsUnknown, IsWithin, OfCore, TxStep}
use Rattle.fjall_calls.specs.Worlds.{World}
use Rattle.fjall_calls.specs.declared.call.TxCall.{TxCall}
use Rattle.fjall_calls.specs.declared.call.TxCall.TheVariants as calls
use Rattle.fjall_calls.specs.declared.call.Within.{Within}

-- whether a call of a list is the core's own
abbrev pub is_of_core : TxCall → Bool
is_of_core (calls.Core call) = true
is_of_core call = false

merge_on : (job : Job) (s t : State) (shape : CallShape) (reply : Reply) → IsQuiet shape → StepOf s shape reply t → IsMergeKnown s job → IsMergeKnown t job
merge_on (Flush job) s t shape reply quiet step known = tt
merge_on (Merge job) s t shape reply quiet step known = quiet_stays s shape reply t quiet step (merge_target job) (merge_task job) known

known_on : (jobs : List Job) (s t : State) (shape : CallShape) (reply : Reply) → IsQuiet shape → StepOf s shape reply t → KnowsMerges s jobs → KnowsMerges t jobs
known_on jobs s t shape reply quiet step known = λ i d lt. merge_on (get_or jobs i d) s t shape reply quiet step (known i d lt)

read_is_quiet : (tx : Tx) (id : ℕ) (query : Query) → IsQuiet (shape_of (call_for tx id query))
read_is_quiet tx id (Get key) = tt
read_is_quiet tx id (Page range back max) = tt

asked : (jobs : List Job) (s t : State) (tx : Tx) (call : Within) (made : List Call) (told : List Reply) → AsksCore s tx call made told t → KnowsMerges s jobs → KnowsMerges t jobs
asked jobs s _ tx call _ _ AsksNothing known = known
asked jobs s _ tx call _ _ (AsksFor id query is reply t step) known = known_on jobs s t (shape_of (call_for tx id query)) reply (read_is_quiet tx id query) step known

committed : (jobs : List Job) (old new : CoreState) (tx : Tx) (outcome : CommitOutcome Error) → CommitStep old tx outcome new → KnowsMerges old.state jobs → KnowsMerges new.state jobs
committed jobs old new tx outcome (IsGone none told same) known = subst (λ (t : CoreState). KnowsMerges t.state jobs) (sym same) known
committed jobs old new tx outcome (IsIdle instant opened none told closes same) known = known_on jobs old.state new.state (OfTickets (Close tx.ticket.id)) Done tt closes known
committed jobs old new tx outcome (IsMet instant opened some meets told closes same) known = known_on jobs old.state new.state (OfTickets (Close tx.ticket.id)) Done tt closes known
committed jobs old new tx outcome (IsRefused instant opened some apart error told mid refused closes same) known =
    known_on jobs mid new.state (OfTickets (Close tx.ticket.id)) Done tt closes (known_on jobs old.state mid (change_of tx) (Refused error) tt refused known)
committed jobs old new tx outcome (IsCommitted instant opened some apart told mid made closes grown) known =
    known_on jobs mid new.state (OfTickets (Close tx.ticket.id)) Done tt closes (known_on jobs old.state mid (change_of tx) Done tt made known)

pub quiet_step : (jobs : List Job) (w v : World) (before : List Reply) (call : TxCall) (reply : Reply) (made : List Call) (told : List Reply) → is_of_core call ≡ false → TxStep w before call reply made told v
    → KnowsMerges w.told.state jobs → KnowsMerges v.told.state jobs
quiet_step jobs w _ before _ _ _ _ other (OfCore call reply s step) known = absurd (true≢false other)
quiet_step jobs w _ before _ _ _ _ other (IsHeldBack due) known = known
quiet_step jobs w _ before _ _ _ _ other (IsNotBegun kind free error s step) known = known_on jobs w.told.state s (OfTickets Open) (Refused error) tt step known
quiet_step jobs w _ before _ _ _ _ other (IsBegun kind free ticket s step) known = known_on jobs w.told.state s (OfTickets Open) (Opened ticket) tt step known
quiet_step jobs w _ before _ _ _ _ other (IsUnknown call name kind is none) known = known
quiet_step jobs w _ before _ _ _ _ other (IsWithin name call g others takes reply made told s after acts) known = asked jobs w.told.state s g.named.transaction call made told acts.asks known
quiet_step jobs w _ before _ _ _ _ other (IsEnded kind name g others takes outcome made told commits new step) known = committed jobs w.told new g.named.transaction outcome step known
quiet_step jobs w _ before _ _ _ _ other (IsRolledBack name g others takes reply s step) known = known_on jobs w.told.state s (OfTickets (Close g.named.transaction.ticket.id)) reply tt step known
