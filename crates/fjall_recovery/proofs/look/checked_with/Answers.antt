use Rattle.std.proofs.Common.{ap, map, subst}
use Rattle.std.proofs.lemmas.Result.{err_from_is_err_and}
use Rattle.fjall_journal.specs.Batches.{view}
use Rattle.fjall_recovery.specs.Looks.{AreChecked}
use Rattle.fjall_recovery.proofs.Looking.{checks_on, still_named}
use Rattle.fjall_recovery.proofs.look.checked_with.Goals as goal

pub returns-in_err-checked : goal.returns-in_err-checked
returns-in_err-checked c least front so_far =
    let p = err_from_is_err_and c.from_residual.result c.from_residual.ensures.1 in
    rw (p.1, p.2) (still_named least front (view c.args.batch.now) c.in_err-checked.field-0.0 (subst (AreChecked least front) c.in_err-checked.was so_far))

pub returns : goal.returns
returns c least front so_far =
    let made = c.check_batches.ensures in
    checks_on least front (view c.args.batch.now) c.in_ok-checked.field-0 _ c.check_batches.result (ap (map view) c.from_ref.ensures.value) (subst (AreChecked least front) c.in_ok-checked.was so_far)
    made.ok made.sound made.cause
