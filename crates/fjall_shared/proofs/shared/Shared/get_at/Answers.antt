use Rattle.std.proofs.Common.{refl, subst}
use Rattle.fjall_history.specs.Queries.{Get}
use Rattle.fjall_machine.specs.Shapes.{OfRead}
use Rattle.fjall_core.specs.Holding.{Held}
use Rattle.fjall_core.specs.CoreStanding.{Owes, Serves, value_reply}
use Rattle.fjall_shared.specs.Locked.{Locked}
use Rattle.fjall_shared.proofs.Settled.{quiet_done, quiet_settles}
use Rattle.fjall_shared.proofs.shared.Shared.get_at.Goals as goal

pub invariant_of-self : goal.invariant_of-self
invariant_of-self g c =
    let old : Locked = record { core = c.self.inside.core.engine; kept = c.self.inside.core.transactions; seat = c.self.inside.seat; flushes = c.self.inside.flushes.items; merges = c.self.inside.merges.items } in (
      c.self.invariant.0,
      quiet_settles g.D.Disk.honest old c.get_at.new.self (OfRead c.args.view c.args.id (Get c.args.key.now)) (value_reply c.get_at.result) refl c.self.invariant.1
          (subst (λ (h : Held). Owes h (OfRead c.args.view c.args.id (Get c.args.key.now)) (value_reply c.get_at.result) c.get_at.new.self) c.deref_mut.ensures.value c.get_at.ensures.owes)
          (λ is. subst (λ (h : Held). Serves h (OfRead c.args.view c.args.id (Get c.args.key.now)) (value_reply c.get_at.result) c.get_at.new.self) c.deref_mut.ensures.value (c.get_at.ensures.serves is)),
    )

pub returns : goal.returns
returns g c =
    let old : Locked = record { core = c.self.inside.core.engine; kept = c.self.inside.core.transactions; seat = c.self.inside.seat; flushes = c.self.inside.flushes.items; merges = c.self.inside.merges.items } in
    quiet_done g.D.Disk.honest old c.get_at.new.self (OfRead c.args.view c.args.id (Get c.args.key.now)) (value_reply c.get_at.result) refl c.self.invariant.1
    (subst (λ (h : Held). Owes h (OfRead c.args.view c.args.id (Get c.args.key.now)) (value_reply c.get_at.result) c.get_at.new.self) c.deref_mut.ensures.value c.get_at.ensures.owes)
    (λ is. subst (λ (h : Held). Serves h (OfRead c.args.view c.args.id (Get c.args.key.now)) (value_reply c.get_at.result) c.get_at.new.self) c.deref_mut.ensures.value (c.get_at.ensures.serves is)) _ c.self.view_is
