use Rattle.std.proofs.Common.{subst}
use Rattle.fjall_machine.specs.Shapes.{OfTickets, Open}
use Rattle.fjall_engine.specs.Holding.{Held}
use Rattle.fjall_engine.specs.Standing.{Owes, Serves, ticket_reply}
use Rattle.fjall_engine.proofs.TicketCalls.{opened_owes, opened_serves}
use Rattle.fjall_engine.proofs.engine.Engine.snapshot.Goals as goal

pub returns-clause-serves : goal.returns-clause-serves
returns-clause-serves g c = λ _.
    let m = g.D.Disk.meaning in
    let old : Held = record { disk = m c.self.inside.disk; journal = c.self.inside.journal; catalog = c.self.inside.catalog; memory = c.self.inside.memory } in
    subst (λ (h : Held). Serves h (OfTickets Open) (ticket_reply c.open_ticket.result) (record old { memory = c.open_ticket.new.self })) c.self.view_is (opened_serves old c.open_ticket.new.self c.open_ticket.result c.open_ticket.ensures.due c.open_ticket.ensures.ticket c.open_ticket.ensures.ok c.open_ticket.ensures.unchanged c.open_ticket.ensures.cause)

pub returns-clause-owes : goal.returns-clause-owes
returns-clause-owes g c =
    let m = g.D.Disk.meaning in
    let old : Held = record { disk = m c.self.inside.disk; journal = c.self.inside.journal; catalog = c.self.inside.catalog; memory = c.self.inside.memory } in
    subst (λ (h : Held). Owes h (OfTickets Open) (ticket_reply c.open_ticket.result) (record old { memory = c.open_ticket.new.self })) c.self.view_is (opened_owes old c.open_ticket.new.self c.open_ticket.result c.open_ticket.ensures.due c.open_ticket.ensures.ticket c.open_ticket.ensures.ok c.open_ticket.ensures.unchanged c.open_ticket.ensures.cause)
