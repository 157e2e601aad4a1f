use Rattle.std.proofs.Common.{rules, Ok, Some, sym, subst}
use Rattle.fjall_history.specs.declared.reply.Reply.TheVariants.{Opened}
use Rattle.fjall_machine.specs.Machine.{State, StepOf}
use Rattle.fjall_machine.specs.Shapes.{OfTickets, Open}
use Rattle.fjall_engine.specs.Standing.{Owes, Serves}
use Rattle.fjall_core.specs.Commits.{begun_reply}
use Rattle.fjall_core.specs.Standing.{GoesOn, StandFor, gone_on}
use Rattle.fjall_core.specs.Transactions.{Kept}
use Rattle.fjall_core.proofs.Standing.{any_writer, owed_stands, served_goes_on, writer_goes_on}
use Rattle.fjall_core.proofs.cores.Core.begin_single.Goals as goal

pub returns-in_err-transaction-clause-stands : goal.returns-in_err-transaction-clause-stands
returns-in_err-transaction-clause-stands g c = λ free t stands.
    let core = c.args.self.now in
    let new = c.begin.new.self.engine in
    let reply = begun_reply c.from_residual.result in
    let owes : Owes core.engine (OfTickets Open) reply new = search rules in
    subst (λ (k : Kept). (s : State) × StandFor new k (gone_on t s) × StepOf t.state (OfTickets Open) reply s) (sym c.begin.ensures.kept)
    (owed_stands core.engine new core.transactions t (OfTickets Open) reply stands (λ rests. rests) owes)

pub returns-in_err-transaction-clause-steps : goal.returns-in_err-transaction-clause-steps
returns-in_err-transaction-clause-steps g c = λ free h t stands reads.
    let core = c.args.self.now in
    let new = c.begin.new.self.engine in
    let reply = begun_reply c.from_residual.result in
    let serves : Serves core.engine (OfTickets Open) reply new = search (rules, c.begin.ensures.serves h) in
    subst (λ (k : Kept). GoesOn core.engine t (OfTickets Open) reply new k) (sym c.begin.ensures.kept)
    (served_goes_on core.engine new core.transactions t (OfTickets Open) reply stands reads serves)

pub returns-clause-stands : goal.returns-clause-stands
returns-clause-stands g c = λ free t stands.
    let core = c.args.self.now in
    let new = c.begin.new.self.engine in
    let ticket = c.in_ok-transaction.transaction.ticket in
    let writer = Some c.transaction.inside.ticket in
    let owes : Owes core.engine (OfTickets Open) (Opened ticket) new = search rules in
    let (s, stay, step) = owed_stands core.engine new core.transactions t (OfTickets Open) (Opened ticket) stands (λ rests. rests) owes in
    (s, subst (λ (k : Kept). StandFor new (record k { writer = writer }) (gone_on t s)) (sym c.begin.ensures.kept) (any_writer new core.transactions (gone_on t s) writer stay), step)

pub returns-clause-steps : goal.returns-clause-steps
returns-clause-steps g c = λ free h t stands reads.
    let core = c.args.self.now in
    let new = c.begin.new.self.engine in
    let reply = begun_reply (Ok c.in_ok-transaction.transaction) in
    let writer = Some c.transaction.inside.ticket in
    let serves : Serves core.engine (OfTickets Open) reply new = search (rules, c.begin.ensures.serves h) in
    subst (λ (k : Kept). GoesOn core.engine t (OfTickets Open) reply new (record k { writer = writer })) (sym c.begin.ensures.kept)
    (writer_goes_on core.engine new core.transactions t (OfTickets Open) reply writer (served_goes_on core.engine new core.transactions t (OfTickets Open) reply stands reads serves))
