use Rattle.std.proofs.Common.{subst}
use Rattle.fjall_machine.specs.Shapes.{Clone, OfTickets}
use Rattle.fjall_engine.specs.Holding.{Held}
use Rattle.fjall_engine.specs.Standing.{Owes, Serves, ticket_reply}
use Rattle.fjall_engine.proofs.TicketCalls.{cloned_owes, cloned_serves}
use Rattle.fjall_engine.proofs.engine.Engine.clone_snapshot.Goals as goal

pub returns-clause-serves : goal.returns-clause-serves
returns-clause-serves g c = λ _.
    let m = g.D.Disk.meaning in
    let old : Held = record { disk = m c.self.inside.disk; journal = c.self.inside.journal; catalog = c.self.inside.catalog; memory = c.self.inside.memory } in
    subst (λ (h : Held). Serves h (OfTickets (Clone c.args.ticket.id)) (ticket_reply c.clone_ticket.result) (record old { memory = c.clone_ticket.new.self })) c.self.view_is (cloned_serves old c.clone_ticket.new.self c.args.ticket.id c.clone_ticket.result c.clone_ticket.ensures.due c.clone_ticket.ensures.ok c.clone_ticket.ensures.unchanged c.clone_ticket.ensures.cause)

pub returns-clause-owes : goal.returns-clause-owes
returns-clause-owes g c =
    let m = g.D.Disk.meaning in
    let old : Held = record { disk = m c.self.inside.disk; journal = c.self.inside.journal; catalog = c.self.inside.catalog; memory = c.self.inside.memory } in
    subst (λ (h : Held). Owes h (OfTickets (Clone c.args.ticket.id)) (ticket_reply c.clone_ticket.result) (record old { memory = c.clone_ticket.new.self })) c.self.view_is (cloned_owes old c.clone_ticket.new.self c.args.ticket.id c.clone_ticket.result c.clone_ticket.ensures.due c.clone_ticket.ensures.ok c.clone_ticket.ensures.unchanged c.clone_ticket.ensures.cause)
