use Rattle.std.proofs.Common.{subst}
use Rattle.fjall_machine.specs.Shapes.{Close, OfTickets}
use Rattle.fjall_engine.specs.Standing.{Owes, Serves, reply_of}
use Rattle.fjall_core.specs.Transactions.{Tx}
use Rattle.fjall_core.specs.Standing.{gone_on}
use Rattle.fjall_core.proofs.Ending.{closed_kept}
use Rattle.fjall_core.proofs.Standing.{owed_stands, served_goes_on}
use Rattle.fjall_core.proofs.cores.Core.rollback.Goals as goal

pub returns-clause-stands : goal.returns-clause-stands
returns-clause-stands g c = λ t stands.
    let a = c.args in
    let owes = subst (λ (x : Tx). Owes a.self.now.engine (OfTickets (Close x.ticket.id)) (reply_of c.close_ticket.result) c.close_ticket.new.self.engine) c.transaction.view_is c.close_ticket.ensures.owes in
    let (s, stay, step) = owed_stands a.self.now.engine c.close_ticket.new.self.engine a.self.now.transactions t (OfTickets (Close a.transaction.ticket.id)) (reply_of c.close_ticket.result) stands (λ rests. rests) owes in
    (s, closed_kept c.close_ticket.new.self.engine a.self.now.transactions c.close_ticket.new.self.transactions (gone_on t s) c.close_ticket.result c.close_ticket.ensures.ok c.close_ticket.ensures.err stay, step)

pub returns-clause-steps : goal.returns-clause-steps
returns-clause-steps g c = λ h t stands reads.
    let a = c.args in
    let serves = subst (λ (x : Tx). Serves a.self.now.engine (OfTickets (Close x.ticket.id)) (reply_of c.close_ticket.result) c.close_ticket.new.self.engine) c.transaction.view_is (c.close_ticket.ensures.serves h) in
    let (s, stay, on, step, led) = served_goes_on a.self.now.engine c.close_ticket.new.self.engine a.self.now.transactions t (OfTickets (Close a.transaction.ticket.id)) (reply_of c.close_ticket.result) stands reads serves in
    (s, closed_kept c.close_ticket.new.self.engine a.self.now.transactions c.close_ticket.new.self.transactions (gone_on t s) c.close_ticket.result c.close_ticket.ensures.ok c.close_ticket.ensures.err stay, on, step, led)
