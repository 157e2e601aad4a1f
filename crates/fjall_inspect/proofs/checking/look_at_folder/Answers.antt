use Rattle.fjall_base.specs.Disk.{state_in}
use Rattle.fjall_inspect.proofs.Passing.{finds_as, homes_as, sweep_as}
use Rattle.fjall_inspect.proofs.checking.look_at_folder.Goals as goal

pub returns-clause-mending : goal.returns-clause-mending
returns-clause-mending g c honest homes =
    let old = state_in (g.D.Disk.meaning c.args.disk.now) in
    let same = (c.in_ok-faults.ensures.same honest).state in
    let swept = c.in_ok-sweep.ensures in
    let are = homes_as old _ same c.args.folder.now _ _ _ _ c.in_ok-sweep.sweep c.tree_tables.ensures c.deref-2.ensures.value c.living.ensures c.deref-3.ensures.value homes in
    record {
      mending = c.in_ok-plan_of.field-0;
      mends = c.in_ok-plan_of.ensures.plan;
      cuts = c.in_ok-cuts.ensures.cuts;
      sweep = c.in_ok-sweep.sweep;
      unnamed = sweep_as old _ same c.args.folder.now _ _ _ _ c.in_ok-sweep.sweep c.tree_tables.ensures c.deref-2.ensures.value c.living.ensures c.deref-3.ensures.value (swept.right honest are);
      whole = finds_as old _ same c.args.folder.now _ _ _ _ c.in_ok-sweep.sweep c.tree_tables.ensures c.deref-2.ensures.value c.living.ensures c.deref-3.ensures.value (swept.whole honest are);
      removals = c.in_ok-removals.ensures.names;
    }
