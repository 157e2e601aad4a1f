use Rattle.std.proofs.Common.{refl, subst}
use Rattle.fjall_machine.specs.Shapes.{OfPersist}
use Rattle.fjall_core.specs.Holding.{Held}
use Rattle.fjall_core.specs.CoreStanding.{Owes, Serves, reply_of}
use Rattle.fjall_shared.specs.Locked.{Locked}
use Rattle.fjall_shared.proofs.Settled.{quiet_done, quiet_settles}
use Rattle.fjall_shared.proofs.shared.Shared.persist.Goals as goal

pub invariant_of-self : goal.invariant_of-self
invariant_of-self g c =
    let old : Locked = record { core = c.self.inside.core.engine; kept = c.self.inside.core.transactions; seat = c.self.inside.seat; flushes = c.self.inside.flushes.items; merges = c.self.inside.merges.items } in (
      c.self.invariant.0,
      quiet_settles g.D.Disk.honest old c.persist.new.self (OfPersist c.args.mode) (reply_of c.persist.result) refl c.self.invariant.1
          (subst (λ (h : Held). Owes h (OfPersist c.args.mode) (reply_of c.persist.result) c.persist.new.self) c.deref_mut.ensures.value c.persist.ensures.owes)
          (λ is. subst (λ (h : Held). Serves h (OfPersist c.args.mode) (reply_of c.persist.result) c.persist.new.self) c.deref_mut.ensures.value (c.persist.ensures.serves is)),
    )

pub returns : goal.returns
returns g c =
    let old : Locked = record { core = c.self.inside.core.engine; kept = c.self.inside.core.transactions; seat = c.self.inside.seat; flushes = c.self.inside.flushes.items; merges = c.self.inside.merges.items } in
    quiet_done g.D.Disk.honest old c.persist.new.self (OfPersist c.args.mode) (reply_of c.persist.result) refl c.self.invariant.1
    (subst (λ (h : Held). Owes h (OfPersist c.args.mode) (reply_of c.persist.result) c.persist.new.self) c.deref_mut.ensures.value c.persist.ensures.owes)
    (λ is. subst (λ (h : Held). Serves h (OfPersist c.args.mode) (reply_of c.persist.result) c.persist.new.self) c.deref_mut.ensures.value (c.persist.ensures.serves is)) _ c.self.view_is
