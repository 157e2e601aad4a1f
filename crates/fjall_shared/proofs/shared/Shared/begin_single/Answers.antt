use Rattle.std.proofs.Common.{◌≡◌, Bool, true, false, Result, OnErr, refl, subst, sym}
use Rattle.fjall_base.specs.declared.error.Error.{Error}
use Rattle.fjall_machine.specs.Shapes.{OfTickets, Open}
use Rattle.fjall_core.specs.Holding.{Held}
use Rattle.fjall_core.specs.Commits.{begun_reply, is_writing}
use Rattle.fjall_core.specs.Transactions.{Kept, Tx}
use Rattle.fjall_shared.specs.Locked.{IsSettled, Locked}
use Rattle.fjall_shared.proofs.Settled.{kept_makes, kept_settles}
use Rattle.fjall_shared.proofs.shared.Shared.begin_single.Goals as goal

either : {P : Type 0} (b : Bool) → (b ≡ true → P) → (b ≡ false → P) → P
either true holds fails = holds refl
either false holds fails = fails refl

-- where one is open nothing changes
pub invariant_of-self : goal.invariant_of-self
invariant_of-self g c =
    let old : Locked = record { core = c.self.inside.core.engine; kept = c.self.inside.core.transactions; seat = c.self.inside.seat; flushes = c.self.inside.flushes.items; merges = c.self.inside.merges.items } in
    let new = c.begin_single.new.self in
    let e = c.begin_single.ensures in (
      c.self.invariant.0,
      either (is_writing old.core old.kept.writer)
          (λ busy.
          let (told, same) = e.due busy in
          let stays : new.transactions ≡ old.kept = subst (λ (r : Result Tx Error). OnErr r (new.transactions ≡ old.kept)) told e.unchanged in
          subst (λ (x : Held × Kept). IsSettled g.D.Disk.honest (record old { core = x.0; kept = x.1 })) (λ i. (sym same i, sym stays i)) c.self.invariant.1)
          (λ free. kept_settles g.D.Disk.honest old new.engine new.transactions (OfTickets Open) (begun_reply c.begin_single.result) refl c.self.invariant.1 (e.owes free) (e.steps free)),
    )

pub returns-clause-makes : goal.returns-clause-makes
returns-clause-makes g c free =
    let old : Locked = record { core = c.self.inside.core.engine; kept = c.self.inside.core.transactions; seat = c.self.inside.seat; flushes = c.self.inside.flushes.items; merges = c.self.inside.merges.items } in
    let new = c.begin_single.new.self in
    let e = c.begin_single.ensures in
    let alone = subst (λ (l : Locked). is_writing l.core l.kept.writer ≡ false) (sym c.self.view_is) free in
    kept_makes g.D.Disk.honest old new.engine new.transactions (OfTickets Open) (begun_reply c.begin_single.result) refl c.self.invariant.1 (e.owes alone) (e.steps alone) _ c.self.view_is
