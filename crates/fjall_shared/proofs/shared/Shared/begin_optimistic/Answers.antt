use Rattle.std.proofs.Common.{refl, subst, sym}
use Rattle.fjall_machine.specs.Shapes.{OfTickets, Open}
use Rattle.fjall_core.specs.Commits.{begun_reply}
use Rattle.fjall_core.specs.Transactions.{Kept}
use Rattle.fjall_shared.specs.Does.{Does}
use Rattle.fjall_shared.specs.Locked.{IsSettled, Locked}
use Rattle.fjall_shared.proofs.Settled.{quiet_done, quiet_settles}
use Rattle.fjall_shared.proofs.shared.Shared.begin_optimistic.Goals as goal

pub invariant_of-self : goal.invariant_of-self
invariant_of-self g c =
    let old : Locked = record { core = c.self.inside.core.engine; kept = c.self.inside.core.transactions; seat = c.self.inside.seat; flushes = c.self.inside.flushes.items; merges = c.self.inside.merges.items } in
    let new = c.begin_optimistic.new.self in
    let e = c.begin_optimistic.ensures in (
      c.self.invariant.0,
      subst (λ (k : Kept). IsSettled g.D.Disk.honest (record old { core = new.engine; kept = k })) (sym e.kept)
          (quiet_settles g.D.Disk.honest old new.engine (OfTickets Open) (begun_reply c.begin_optimistic.result) refl c.self.invariant.1 e.owes e.serves),
    )

pub returns-clause-does : goal.returns-clause-does
returns-clause-does g c =
    let old : Locked = record { core = c.self.inside.core.engine; kept = c.self.inside.core.transactions; seat = c.self.inside.seat; flushes = c.self.inside.flushes.items; merges = c.self.inside.merges.items } in
    let new = c.begin_optimistic.new.self in
    let e = c.begin_optimistic.ensures in
    subst (λ (l : Locked). Does g.D.Disk.honest l (OfTickets Open) (begun_reply c.begin_optimistic.result) (record old { core = new.engine; kept = new.transactions })) c.self.view_is
    (subst (λ (k : Kept). Does g.D.Disk.honest old (OfTickets Open) (begun_reply c.begin_optimistic.result) (record old { core = new.engine; kept = k })) (sym e.kept)
    (quiet_done g.D.Disk.honest old new.engine (OfTickets Open) (begun_reply c.begin_optimistic.result) refl c.self.invariant.1 e.owes e.serves old refl))
