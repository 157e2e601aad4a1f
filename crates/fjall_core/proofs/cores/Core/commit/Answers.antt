use Rattle.std.proofs.Common.{◌≡◌, None, Some, refl, sym, subst, ◌∙◌}
use Rattle.std.specs.FinMap.{get}
use Rattle.fjall_machine.specs.Shapes.{Close, OfTickets}
use Rattle.fjall_engine.specs.Standing.{Owes, Serves, reply_of}
use Rattle.fjall_core.specs.Transactions.{Tx}
use Rattle.fjall_base.specs.declared.error.Error.TheVariants.{SnapshotClosed}
use Rattle.fjall_tx.specs.declared.outcome.CommitOutcome.TheVariants as outcomes
use Rattle.fjall_core.specs.Commits.{Gone}
use Rattle.fjall_core.proofs.Asking.{ends_of}
use Rattle.fjall_core.proofs.Ending.{commit_goes_on, commit_stands}
use Rattle.fjall_core.proofs.cores.Core.commit.Goals as goal

pub returns-clause-serves : goal.returns-clause-serves
returns-clause-serves g c = λ h.
    ends_of Serves c.args.self.now.transactions c.end-outcome.new.self.transactions c.close_ticket.new.self.transactions c.args.self.now.engine c.end-outcome.new.self.engine c.close_ticket.new.self.engine c.args.transaction c.in-Some.instant c.end-outcome.result c.close_ticket.result c.in-Ok.field-0
    (subst (λ (x : Tx). get c.args.self.now.engine.memory.tickets.instants x.ticket.id ≡ Some c.in-Some.instant) c.transaction.view_is (sym c.instant_of.ensures.held ∙ c.in-Some.is))
    (c.end-outcome.ensures.serves h) c.end-outcome.ensures.writer c.in-Ok.is
    (subst (λ (x : Tx). Serves c.end-outcome.new.self.engine (OfTickets (Close x.ticket.id)) (reply_of c.close_ticket.result) c.close_ticket.new.self.engine) c.transaction.view_is (c.close_ticket.ensures.serves h))
    c.close_ticket.ensures.ok

pub returns-clause-owes : goal.returns-clause-owes
returns-clause-owes g c =
    ends_of Owes c.args.self.now.transactions c.end-outcome.new.self.transactions c.close_ticket.new.self.transactions c.args.self.now.engine c.end-outcome.new.self.engine c.close_ticket.new.self.engine c.args.transaction c.in-Some.instant c.end-outcome.result c.close_ticket.result c.in-Ok.field-0
    (subst (λ (x : Tx). get c.args.self.now.engine.memory.tickets.instants x.ticket.id ≡ Some c.in-Some.instant) c.transaction.view_is (sym c.instant_of.ensures.held ∙ c.in-Some.is))
    c.end-outcome.ensures.owes c.end-outcome.ensures.writer c.in-Ok.is
    (subst (λ (x : Tx). Owes c.end-outcome.new.self.engine (OfTickets (Close x.ticket.id)) (reply_of c.close_ticket.result) c.close_ticket.new.self.engine) c.transaction.view_is c.close_ticket.ensures.owes)
    c.close_ticket.ensures.ok

pub returns-clause-stands : goal.returns-clause-stands
returns-clause-stands g c = λ t stands.
    commit_stands c.args.self.now.engine c.close_ticket.new.self.engine c.args.self.now.transactions c.close_ticket.new.self.transactions t c.args.transaction c.end-outcome.result stands (returns-clause-owes g c)

pub returns-clause-steps : goal.returns-clause-steps
returns-clause-steps g c = λ h t stands reads.
    commit_goes_on c.args.self.now.engine c.close_ticket.new.self.engine c.args.self.now.transactions c.close_ticket.new.self.transactions t c.args.transaction c.end-outcome.result stands reads
    (returns-clause-serves g c h)

pub returns-in_default-clause-stands : goal.returns-in_default-clause-stands
returns-in_default-clause-stands g c = λ t stands.
    commit_stands c.args.self.now.engine c.args.self.now.engine c.args.self.now.transactions c.args.self.now.transactions t c.args.transaction (outcomes.Aborted SnapshotClosed) stands
    (Gone (subst (λ (x : Tx). get c.args.self.now.engine.memory.tickets.instants x.ticket.id ≡ None) c.transaction.view_is (sym c.instant_of.ensures.held ∙ c.in_default.is)) refl refl refl)

pub returns-in_default-clause-steps : goal.returns-in_default-clause-steps
returns-in_default-clause-steps g c = λ h t stands reads.
    commit_goes_on c.args.self.now.engine c.args.self.now.engine c.args.self.now.transactions c.args.self.now.transactions t c.args.transaction (outcomes.Aborted SnapshotClosed) stands reads
    (Gone (subst (λ (x : Tx). get c.args.self.now.engine.memory.tickets.instants x.ticket.id ≡ None) c.transaction.view_is (sym c.instant_of.ensures.held ∙ c.in_default.is)) refl refl refl)
