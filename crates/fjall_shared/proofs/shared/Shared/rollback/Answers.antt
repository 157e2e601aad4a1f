use Rattle.std.proofs.Common.{refl}
use Rattle.fjall_machine.specs.Shapes.{Close, OfTickets}
use Rattle.fjall_core.specs.CoreStanding.{reply_of}
use Rattle.fjall_shared.specs.Locked.{Locked}
use Rattle.fjall_shared.proofs.Settled.{kept_makes, kept_settles}
use Rattle.fjall_shared.proofs.shared.Shared.rollback.Goals as goal

pub invariant_of-self : goal.invariant_of-self
invariant_of-self g c =
    let old : Locked = record { core = c.self.inside.core.engine; kept = c.self.inside.core.transactions; seat = c.self.inside.seat; flushes = c.self.inside.flushes.items; merges = c.self.inside.merges.items } in
    let new = c.rollback.new.self in (
      c.self.invariant.0,
      kept_settles g.D.Disk.honest old new.engine new.transactions (OfTickets (Close c.args.transaction.ticket.id)) (reply_of c.rollback.result) refl c.self.invariant.1 c.rollback.ensures.owes c.rollback.ensures.steps,
    )

pub returns-clause-makes : goal.returns-clause-makes
returns-clause-makes g c =
    let old : Locked = record { core = c.self.inside.core.engine; kept = c.self.inside.core.transactions; seat = c.self.inside.seat; flushes = c.self.inside.flushes.items; merges = c.self.inside.merges.items } in
    let new = c.rollback.new.self in
    kept_makes g.D.Disk.honest old new.engine new.transactions (OfTickets (Close c.args.transaction.ticket.id)) (reply_of c.rollback.result) refl c.self.invariant.1 c.rollback.ensures.owes c.rollback.ensures.steps _ c.self.view_is
