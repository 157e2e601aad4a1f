use Rattle.std.proofs.Common.{refl, subst}
use Rattle.fjall_machine.specs.Shapes.{Clone, OfTickets}
use Rattle.fjall_core.specs.Holding.{Held}
use Rattle.fjall_core.specs.CoreStanding.{Owes, Serves, ticket_reply}
use Rattle.fjall_shared.specs.Locked.{Locked}
use Rattle.fjall_shared.proofs.Settled.{quiet_done, quiet_settles}
use Rattle.fjall_shared.proofs.shared.Shared.clone_snapshot.Goals as goal

pub invariant_of-self : goal.invariant_of-self
invariant_of-self g c =
    let old : Locked = record { core = c.self.inside.core.engine; kept = c.self.inside.core.transactions; seat = c.self.inside.seat; flushes = c.self.inside.flushes.items; merges = c.self.inside.merges.items } in (
      c.self.invariant.0,
      quiet_settles g.D.Disk.honest old c.clone_snapshot.new.self (OfTickets (Clone c.args.ticket.id)) (ticket_reply c.clone_snapshot.result) refl c.self.invariant.1
          (subst (λ (h : Held). Owes h (OfTickets (Clone c.args.ticket.id)) (ticket_reply c.clone_snapshot.result) c.clone_snapshot.new.self) c.deref_mut.ensures.value c.clone_snapshot.ensures.owes)
          (λ is. subst (λ (h : Held). Serves h (OfTickets (Clone c.args.ticket.id)) (ticket_reply c.clone_snapshot.result) c.clone_snapshot.new.self) c.deref_mut.ensures.value (c.clone_snapshot.ensures.serves is)),
    )

pub returns : goal.returns
returns g c =
    let old : Locked = record { core = c.self.inside.core.engine; kept = c.self.inside.core.transactions; seat = c.self.inside.seat; flushes = c.self.inside.flushes.items; merges = c.self.inside.merges.items } in
    quiet_done g.D.Disk.honest old c.clone_snapshot.new.self (OfTickets (Clone c.args.ticket.id)) (ticket_reply c.clone_snapshot.result) refl c.self.invariant.1
    (subst (λ (h : Held). Owes h (OfTickets (Clone c.args.ticket.id)) (ticket_reply c.clone_snapshot.result) c.clone_snapshot.new.self) c.deref_mut.ensures.value c.clone_snapshot.ensures.owes)
    (λ is. subst (λ (h : Held). Serves h (OfTickets (Clone c.args.ticket.id)) (ticket_reply c.clone_snapshot.result) c.clone_snapshot.new.self) c.deref_mut.ensures.value (c.clone_snapshot.ensures.serves is)) _ c.self.view_is
