use Rattle.std.proofs.Common.{subst}
use Rattle.fjall_machine.specs.Shapes.{Close, OfTickets}
use Rattle.fjall_engine.specs.Holding.{Held}
use Rattle.fjall_engine.specs.Standing.{Owes, Serves, reply_of}
use Rattle.fjall_engine.proofs.TicketCalls.{closed_owes, closed_serves}
use Rattle.fjall_engine.proofs.engine.Engine.close_snapshot.Goals as goal

pub returns-clause-serves : goal.returns-clause-serves
returns-clause-serves g c = λ _.
    let m = g.D.Disk.meaning in
    let old : Held = record { disk = m c.self.inside.disk; journal = c.self.inside.journal; catalog = c.self.inside.catalog; memory = c.self.inside.memory } in
    subst (λ (h : Held). Serves h (OfTickets (Close c.args.ticket.id)) (reply_of c.close_ticket.result) (record old { memory = c.close_ticket.new.self })) c.self.view_is (closed_serves old c.close_ticket.new.self c.args.ticket.id c.close_ticket.result c.close_ticket.ensures.due c.close_ticket.ensures.ok c.close_ticket.ensures.unchanged c.close_ticket.ensures.cause)

pub returns-clause-owes : goal.returns-clause-owes
returns-clause-owes g c =
    let m = g.D.Disk.meaning in
    let old : Held = record { disk = m c.self.inside.disk; journal = c.self.inside.journal; catalog = c.self.inside.catalog; memory = c.self.inside.memory } in
    subst (λ (h : Held). Owes h (OfTickets (Close c.args.ticket.id)) (reply_of c.close_ticket.result) (record old { memory = c.close_ticket.new.self })) c.self.view_is (closed_owes old c.close_ticket.new.self c.args.ticket.id c.close_ticket.result c.close_ticket.ensures.due c.close_ticket.ensures.ok c.close_ticket.ensures.unchanged c.close_ticket.ensures.cause)
