use Rattle.std.proofs.Common.{subst}
use Rattle.fjall_history.specs.declared.reply.Reply.TheVariants.{Number}
use Rattle.fjall_machine.specs.Shapes.{Collect, OfTickets}
use Rattle.fjall_engine.specs.Holding.{Held}
use Rattle.fjall_engine.specs.Standing.{Owes, Serves}
use Rattle.fjall_engine.proofs.TicketCalls.{collected_owes, collected_serves}
use Rattle.fjall_engine.proofs.engine.Engine.gc.Goals as goal

pub returns-clause-serves : goal.returns-clause-serves
returns-clause-serves g c = λ _.
    let m = g.D.Disk.meaning in
    let old : Held = record { disk = m c.self.inside.disk; journal = c.self.inside.journal; catalog = c.self.inside.catalog; memory = c.self.inside.memory } in
    subst (λ (h : Held). Serves h (OfTickets Collect) (Number c.gc.result) (record old { memory = c.gc.new.self })) c.self.view_is (collected_serves old c.gc.new.self c.gc.result c.gc.ensures.value c.gc.ensures.raised)

pub returns-clause-owes : goal.returns-clause-owes
returns-clause-owes g c =
    let m = g.D.Disk.meaning in
    let old : Held = record { disk = m c.self.inside.disk; journal = c.self.inside.journal; catalog = c.self.inside.catalog; memory = c.self.inside.memory } in
    subst (λ (h : Held). Owes h (OfTickets Collect) (Number c.gc.result) (record old { memory = c.gc.new.self })) c.self.view_is (collected_owes old c.gc.new.self c.gc.result c.gc.ensures.value c.gc.ensures.raised)
