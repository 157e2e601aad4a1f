use Rattle.std.proofs.Common.{◌∙◌, List, ap, subst, sym}
use Rattle.fjall_base.specs.Disk.{Meaning}
use Rattle.fjall_core.specs.Openings.{KeepsStore, OpensAfterCrash, OpensBetween}
use Rattle.fjall_shared.specs.Labels.{Label}
use Rattle.fjall_core.specs.Transactions.{Kept}
use Rattle.fjall_history.specs.Seats.{Place}
use Rattle.fjall_shared.specs.Locked.{IsSettled}
use Rattle.fjall_shared.specs.Openings.{IsOpenedFrom}
use Rattle.fjall_shared.proofs.Beginning.{First, begins, in_ok}
use Rattle.fjall_shared.proofs.shared.Shared.open.Goals as goal

pub seated-requires : goal.seated-requires
seated-requires g c =
    let core = c.in-Ok.core.engine in
    subst (λ (m : Meaning). First g.D.Disk.honest m core) (ap g.D.Disk.meaning (sym c.of-opened.ensures))
    (begins g.D.Disk.honest (g.D.Disk.meaning c.args.disk) core c.requires.left
    (λ is base pending holds. in_ok _ _ c.in-Ok.is (λ k. OpensAfterCrash (g.D.Disk.meaning c.args.disk) k.engine base pending) (c.«open».ensures.amid is base pending holds))
    (λ is base least all left. in_ok _ _ c.in-Ok.is (λ k. OpensBetween k.engine base least all) (c.«open».ensures.any_bytes is base least all left)))

pub returns-in_default-clause-any_moment_err : goal.returns-in_default-clause-any_moment_err
returns-in_default-clause-any_moment_err g c is =
    subst (λ (m : Meaning). KeepsStore (g.D.Disk.meaning c.args.disk) m) (sym c.into_disk.ensures.disk)
    (in_ok _ _ c.in-Ok.is (λ k. KeepsStore (g.D.Disk.meaning c.args.disk) k.engine.disk) (c.«open».ensures.any_moment is))

pub returns-in_default-new-clause-any_moment_err : goal.returns-in_default-new-clause-any_moment_err
returns-in_default-new-clause-any_moment_err g c is =
    subst (λ (m : Meaning). KeepsStore (g.D.Disk.meaning c.args.disk) m) (sym c.into_disk-in_default-new.ensures.disk)
    (in_ok _ _ c.in-Ok.is (λ k. KeepsStore (g.D.Disk.meaning c.args.disk) k.engine.disk) (c.«open».ensures.any_moment is))

pub invariant_of-shared : goal.invariant_of-shared
invariant_of-shared g c =
    let same = c.seat_for_caller-seen.ensures.same in
    let first = c.in-Ok-seated.ensures in (
      ap (λ (p : Place). p.table) same ∙ first.0 ∙ sym c.in-Ok-new.ensures.ok,
      subst (λ (x : Kept × (Place × (List Label × List Label))). IsSettled g.D.Disk.honest (record { core = c.in-Ok.core.engine; kept = x.0; seat = x.1.0; flushes = x.1.1.0; merges = x.1.1.1 }))
          (λ i. (sym c.in-Ok.ensures.none i, (sym same i, (sym c.new-2.ensures.items i, sym c.new-3.ensures.items i)))) (first.1.settled c.in-Ok-seated.seat.table),
    )

pub returns-clause-begins : goal.returns-clause-begins
returns-clause-begins g c = ap (λ (p : Place). p.list.accepted) c.seat_for_caller-seen.ensures.same ∙ c.in-Ok-seated.ensures.1.none

pub returns-clause-store : goal.returns-clause-store
returns-clause-store g c is =
    subst (λ (x : Meaning × Place). IsOpenedFrom x.0 x.1.list.opened) (λ i. (ap g.D.Disk.meaning c.of-opened.ensures i, sym c.seat_for_caller-seen.ensures.same i)) (c.in-Ok-seated.ensures.1.store is)
