use Rattle.std.proofs.Common.{subst, sym}
use Rattle.fjall_machine.specs.Shapes.{Close, OfTickets}
use Rattle.fjall_core.specs.CoreStanding.{reply_of}
use Rattle.fjall_shared.specs.Does.{ClosesNone, ClosesOne, ClosesTickets, Does}
use Rattle.fjall_shared.specs.Locked.{Locked}
use Rattle.fjall_shared.proofs.shared.Shared.collect_tickets.Goals as goal

pub loop-init : goal.loop-init
loop-init g c = ClosesNone

pub loop-preserved : goal.loop-preserved
loop-preserved g c =
    ClosesOne c.loop.self c.close_snapshot.new.self c.loop.invariant c.in-Some.ticket.id (reply_of c.close_snapshot.result)
    (subst (λ (l : Locked). Does g.D.Disk.honest l (OfTickets (Close c.in-Some.ticket.id)) (reply_of c.close_snapshot.result) c.close_snapshot.new.self) c.next_ticket.ensures c.close_snapshot.ensures)

pub returns-after-loop : goal.returns-after-loop
returns-after-loop g c = c.loop.invariant

pub returns-in_default : goal.returns-in_default
returns-in_default g c = subst (λ (l : Locked). ClosesTickets g.D.Disk.honest c.args.self.now l) (sym c.next_ticket.ensures) c.loop.invariant
