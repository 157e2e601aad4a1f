use Rattle.std.proofs.Common.{arith, refl, ◌∙◌}
use Rattle.fjall_base.specs.Disk.{Meaning, state_in}
use Rattle.fjall_repair.specs.Sweeps.{HasAll, IsUnnamedHome, home_names}
use Rattle.fjall_repair.proofs.Removals as Removals
use Rattle.fjall_files.proofs.Tidying.{stays_both, stays_start, tidy_on}
use Rattle.fjall_repair.proofs.Items.{item_has}
use Rattle.fjall_repair.proofs.SweepServed.{has_all_still}
use Rattle.fjall_repair.proofs.sweeping.remove_homes.Goals as goal

pub loop-home-init : goal.loop-home-init
loop-home-init g c = record { removes = λ honest. Removals.start _ _; gone = λ honest. tt; kinds = λ honest. stays_start _; served = λ honest tidy living unnamed all. refl; later = omega arith }

pub loop-home-preserved : goal.loop-home-preserved
loop-home-preserved g c =
    let m : _ → Meaning = g.D.Disk.meaning in
    let so_far = c.loop-home.invariant in
    let one = c.in_ok-remove_unnamed.ensures in
    let faults = so_far.later in let more = one.cause.later in
    record {
      removes = λ honest. Removals.home_removed home_names c.args.homes.now c.loop-home.home-index _ c.home-item.result c.home-item.is c.loop-home-test.true (m c.args.disk.now) (m c.loop-home.disk) (m c.remove_unnamed.new.disk) (so_far.removes honest) (one.removes honest);
      gone = λ honest. Removals.home_gone home_names c.args.homes.now c.loop-home.home-index _ c.home-item.result c.home-item.is c.loop-home-test.true (m c.loop-home.disk) (m c.remove_unnamed.new.disk) (so_far.gone honest) (one.removes honest) (one.gone honest);
      kinds = λ honest. stays_both (m c.args.disk.now) (m c.loop-home.disk) (m c.remove_unnamed.new.disk) (so_far.kinds honest) (one.kinds honest);
      served = λ honest tidy living unnamed all.
          one.served honest (tidy_on (m c.args.disk.now) (m c.loop-home.disk) (so_far.kinds honest) tidy) living (item_has (IsUnnamedHome living) c.args.homes.now c.loop-home.home-index c.home-item.result c.home-item.is c.loop-home-test.true unnamed)
          (has_all_still _ (m c.args.disk.now) (m c.loop-home.disk) (so_far.removes honest) c.home-item.result (item_has (HasAll (state_in (m c.args.disk.now))) c.args.homes.now c.loop-home.home-index c.home-item.result c.home-item.is c.loop-home-test.true all))
          ∙ so_far.served honest tidy living unnamed all;
      later = omega (arith, faults, more);
    }

pub returns-in_err-remove_unnamed-clause-removes : goal.returns-in_err-remove_unnamed-clause-removes
returns-in_err-remove_unnamed-clause-removes g c honest =
    let m : _ → Meaning = g.D.Disk.meaning in
    Removals.home_removed home_names c.args.homes.now c.loop-home.home-index _ c.home-item.result c.home-item.is c.loop-home-test.true (m c.args.disk.now) (m c.loop-home.disk) (m c.remove_unnamed.new.disk)
    (c.loop-home.invariant.removes honest) (c.in_err-remove_unnamed.ensures.removes honest)

pub returns-in_err-remove_unnamed-clause-kinds : goal.returns-in_err-remove_unnamed-clause-kinds
returns-in_err-remove_unnamed-clause-kinds g c honest =
    let m : _ → Meaning = g.D.Disk.meaning in
    stays_both (m c.args.disk.now) (m c.loop-home.disk) (m c.remove_unnamed.new.disk) (c.loop-home.invariant.kinds honest) (c.in_err-remove_unnamed.ensures.kinds honest)

pub returns-in_err-remove_unnamed-clause-served : goal.returns-in_err-remove_unnamed-clause-served
returns-in_err-remove_unnamed-clause-served g c honest tidy living unnamed all =
    let m : _ → Meaning = g.D.Disk.meaning in
    let old = m c.args.disk.now in
    let mid = m c.loop-home.disk in
    c.in_err-remove_unnamed.ensures.served honest (tidy_on old mid (c.loop-home.invariant.kinds honest) tidy) living (item_has (IsUnnamedHome living) c.args.homes.now c.loop-home.home-index c.home-item.result c.home-item.is c.loop-home-test.true unnamed)
    (has_all_still _ old mid (c.loop-home.invariant.removes honest) c.home-item.result (item_has (HasAll (state_in old)) c.args.homes.now c.loop-home.home-index c.home-item.result c.home-item.is c.loop-home-test.true all))
    ∙ c.loop-home.invariant.served honest tidy living unnamed all
