use Rattle.std.proofs.Common.{◌∙◌, ◌+◌, [], take, ap, arith, subst, sym}
use Rattle.std.proofs.lemmas.Result.{err_from_is_err_and}
use Rattle.fjall_base.specs.Disk.{Image, standing, state_in}
use Rattle.fjall_journal.proofs.Writing.{took_none}
use Rattle.fjall_recovery.specs.Homes.{AreHomesRead}
use Rattle.fjall_recovery.specs.Naming.{AreFolderIds}
use Rattle.fjall_recovery.proofs.Homing.{home_read, home_passed, home_refused}
use Rattle.fjall_recovery.proofs.homes.read_homes.Goals as goal

pub returns-in_err-home-clause-cause : goal.returns-in_err-home-clause-cause
returns-in_err-home-clause-cause g c honest folders =
    let p = err_from_is_err_and c.from_residual.result c.from_residual.ensures.1 in
    let image : Image = standing (state_in (g.D.Disk.meaning c.args.disk.now)) in
    let so_far = c.loop-keyspace.invariant in
    let same = ap standing (so_far.same honest).state in
    rw (p.1, p.2)
    (home_refused image _ c.args.living.now c.loop-keyspace.keyspace-index _ c.keyspace-item.result c.keyspace-item.is c.loop-keyspace-test.true same c.in_err-home.field-0.0 (so_far.cause honest folders)
    (c.in_err-home.ensures.cause honest (subst (λ (i : Image). AreFolderIds i c.args.folders.now) (sym same) folders)))

pub loop-keyspace-preserved : goal.loop-keyspace-preserved
loop-keyspace-preserved g c =
    let image : Image = standing (state_in (g.D.Disk.meaning c.args.disk.now)) in
    let so_far = c.loop-keyspace.invariant in
    let one = c.in_ok-home.ensures in
    let faults = so_far.later in let more = one.later in
    record {
      read = λ honest folders.
          let same = ap standing (so_far.same honest).state in
          subst (AreHomesRead image (take (c.loop-keyspace.keyspace-index + 1) c.args.living.now)) (sym c.in_ok-push.ensures.items)
          (home_read image _ c.args.living.now c.loop-keyspace.keyspace-index _ c.keyspace-item.result c.keyspace-item.is c.loop-keyspace-test.true same c.loop-keyspace.homes.items c.in_ok-home.home (so_far.read honest folders)
          (one.read honest (subst (λ (i : Image). AreFolderIds i c.args.folders.now) (sym same) folders)));
      same = λ honest. took_none _ _ _ [] (so_far.same honest) (one.same honest);
      served = λ honest. one.served honest ∙ so_far.served honest;
      later = omega (arith, faults, more);
      cause = λ honest folders error refused.
          let same = ap standing (so_far.same honest).state in
          so_far.cause honest folders error
          (home_passed image _ c.args.living.now c.loop-keyspace.keyspace-index _ c.keyspace-item.result c.keyspace-item.is c.loop-keyspace-test.true same c.in_ok-home.home error
          (one.read honest (subst (λ (i : Image). AreFolderIds i c.args.folders.now) (sym same) folders)) refused);
    }
