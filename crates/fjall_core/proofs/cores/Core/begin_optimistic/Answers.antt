use Rattle.std.proofs.Common.{sym, subst}
use Rattle.fjall_machine.specs.Machine.{State, StepOf}
use Rattle.fjall_machine.specs.Shapes.{OfTickets, Open}
use Rattle.fjall_core.specs.Commits.{begun_reply}
use Rattle.fjall_core.specs.Standing.{GoesOn, StandFor, gone_on}
use Rattle.fjall_core.specs.Transactions.{Kept}
use Rattle.fjall_core.proofs.Standing.{owed_stands, served_goes_on}
use Rattle.fjall_core.proofs.cores.Core.begin_optimistic.Goals as goal

pub returns-clause-stands : goal.returns-clause-stands
returns-clause-stands g c = λ t stands.
    let core = c.args.self.now in
    let new = c.begin.new.self.engine in
    let reply = begun_reply c.begin.result in
    subst (λ (k : Kept). (s : State) × StandFor new k (gone_on t s) × StepOf t.state (OfTickets Open) reply s) (sym c.begin.ensures.kept)
    (owed_stands core.engine new core.transactions t (OfTickets Open) reply stands (λ rests. rests) c.begin.ensures.owes)

pub returns-clause-steps : goal.returns-clause-steps
returns-clause-steps g c = λ h t stands reads.
    let core = c.args.self.now in
    let new = c.begin.new.self.engine in
    let reply = begun_reply c.begin.result in
    subst (λ (k : Kept). GoesOn core.engine t (OfTickets Open) reply new k) (sym c.begin.ensures.kept)
    (served_goes_on core.engine new core.transactions t (OfTickets Open) reply stands reads (c.begin.ensures.serves h))
