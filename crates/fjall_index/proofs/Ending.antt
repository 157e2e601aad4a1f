-- How a transaction ends over a core that keeps an index.
use Rattle.std.proofs.Common.{◌≡◌, ℕ, OnErr, OnOk, Result, Ok, Err, true≢false, sym, subst}
use Rattle.std.specs.Result.{IsErr}
use Rattle.fjall_base.specs.declared.error.Error.{Error}
use Rattle.fjall_tx.specs.declared.outcome.CommitOutcome.{CommitOutcome}
use Rattle.fjall_tx.specs.declared.outcome.CommitOutcome.TheVariants as outcomes
use Rattle.fjall_history.specs.declared.reply.Reply.{Reply}
use Rattle.fjall_machine.specs.Shapes.{Close, OfTickets}
use Rattle.fjall_core.specs.Durables.{Durable}
use Rattle.fjall_core.specs.Holding.{Held}
use Rattle.fjall_core.specs.Standing.{CommitGoesOn, GoesOn, StandFor, CoreState}
use Rattle.fjall_core.specs.CoreStanding.{ReadsOn}
use Rattle.fjall_core.specs.Transactions.{Kept, Tx}
use Rattle.fjall_index_entries.specs.Index.{FieldOf}
use Rattle.fjall_index.specs.Changing.{EndsIndexed, IsAnswerOf, TxKeepsIndex, own_where_answered, own_where_done}
use Rattle.fjall_index.specs.Standing.{GoesOnIndexed}
use Rattle.fjall_index.proofs.Beginning.{ticket_goes}
use Rattle.fjall_index.proofs.Committing.{commit_goes}

answered : (field : FieldOf) (main index since : ℕ) (t : CoreState) (d : Durable) (tx : Tx) (new : Held) (after : Kept) (outcome : CommitOutcome Error) (answer : Result Unit Error) → IsAnswerOf outcome answer
    → ((next : CoreState) × (e : Durable) × GoesOnIndexed field main index since (own_where_done outcome tx) t d next e new after)
    → (next : CoreState) × (e : Durable) × GoesOnIndexed field main index since (own_where_answered answer tx) t d next e new after
answered field main index since t d tx new after outcomes.Ok answer is goes =
    subst (λ (a : Result Unit Error). (next : CoreState) × (e : Durable) × GoesOnIndexed field main index since (own_where_answered a tx) t d next e new after) (sym is) goes
answered field main index since t d tx new after outcomes.Conflicted answer is goes =
    subst (λ (a : Result Unit Error). (next : CoreState) × (e : Durable) × GoesOnIndexed field main index since (own_where_answered a tx) t d next e new after) (sym is) goes
answered field main index since t d tx new after (outcomes.Aborted error) answer is goes =
    subst (λ (a : Result Unit Error). (next : CoreState) × (e : Durable) × GoesOnIndexed field main index since (own_where_answered a tx) t d next e new after) (sym is) goes

-- by a commit
pub ends_commit : (old new : Held) (before after : Kept) (tx : Tx) (outcome : CommitOutcome Error) (done answer : Result Unit Error)
    → ((t : CoreState) → StandFor old before t → ReadsOn old t.state → CommitGoesOn old t tx outcome new after) → IsAnswerOf outcome answer → done ≡ Ok tt → EndsIndexed old before tx done answer new after
ends_commit old new before after tx outcome done answer steps is ok field main index since t d all keeps =
    answered field main index since t d tx new after outcome answer is
    (commit_goes field main index since old new before after t d tx outcome all (subst (λ (r : Result Unit Error). OnOk r (TxKeepsIndex field main index t tx)) ok keeps) (steps t all.stands all.reads))

-- by a rollback
pub ends_rollback : (old new : Held) (before after : Kept) (tx : Tx) (id : ℕ) (reply : Reply) (done answer : Result Unit Error)
    → ((t : CoreState) → StandFor old before t → ReadsOn old t.state → GoesOn old t (OfTickets (Close id)) reply new after) → IsErr answer → EndsIndexed old before tx done answer new after
ends_rollback old new before after tx id reply done (Ok _) steps fails field main index since t d all _ = absurd (true≢false (sym fails))
ends_rollback old new before after tx id reply done (Err error) steps fails field main index since t d all _ =
    let (next, e, goes, step) = ticket_goes field main index since old new before after t d (Close id) reply all (steps t all.stands all.reads) in
    (next, e, goes)

-- which of the two it is
pub refused_so : (done answer : Result Unit Error) → IsErr answer → OnErr done (IsErr answer)
refused_so (Ok _) answer fails = tt
refused_so (Err _) answer fails = fails

pub done_so : (done answer : Result Unit Error) → done ≡ Ok tt → OnErr done (IsErr answer)
done_so done answer ok = subst (λ (r : Result Unit Error). OnErr r (IsErr answer)) (sym ok) tt
