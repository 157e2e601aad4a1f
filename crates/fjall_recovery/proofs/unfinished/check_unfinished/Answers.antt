use Rattle.std.proofs.Common.{◌∙◌, ap, subst}
use Rattle.std.proofs.lemmas.Result.{err_from_is_err_and}
use Rattle.fjall_base.specs.Disk.{Image, standing, state_in}
use Rattle.fjall_manifest.specs.Catalog.{records_in}
use Rattle.fjall_recovery.specs.Folders.{IsBegun}
use Rattle.fjall_recovery.specs.Naming.{KeyspacesAreNamed}
use Rattle.fjall_recovery.proofs.Finishing.{begun_names, begun_tree_err, ok_along, on_ok_of}
use Rattle.fjall_recovery.proofs.unfinished.check_unfinished.Goals as goal

pub returns-in_err-list_keyspaces-clause-cause : goal.returns-in_err-list_keyspaces-clause-cause
returns-in_err-list_keyspaces-clause-cause g c honest are =
    let p = err_from_is_err_and c.from_residual-in_err-list_keyspaces.result c.from_residual-in_err-list_keyspaces.ensures.1 in
    let image : Image = standing (state_in (g.D.Disk.meaning c.args.disk.now)) in
    rw (p.1, p.2)
    (begun_names image _ c.in_err-list_keyspaces.field-0.0 (ap standing (c.in_ok-check_journals.ensures.same honest).state) (c.in_ok-check_journals.ensures.empty honest are) (c.in_err-list_keyspaces.ensures.cause honest))

pub returns-clause-named : goal.returns-clause-named
returns-clause-named g c honest =
    on_ok_of _ c.check_tree.result (subst KeyspacesAreNamed (ap standing (c.in_ok-check_journals.ensures.same honest).state) (c.in_ok-list_keyspaces.ensures.named honest))

pub returns-clause-begun : goal.returns-clause-begun
returns-clause-begun g c honest =
    let image : Image = standing (state_in (g.D.Disk.meaning c.args.disk.now)) in
    let one = ap standing (c.in_ok-check_journals.ensures.same honest).state in
    let two = ap standing (c.in_ok-list_keyspaces.ensures.same honest).state ∙ one in
    ok_along (λ i. IsBegun (records_in i)) image _ c.check_tree.result two (c.check_tree.ensures.begun honest)

pub returns-clause-cause : goal.returns-clause-cause
returns-clause-cause g c honest are =
    let image : Image = standing (state_in (g.D.Disk.meaning c.args.disk.now)) in
    let one = ap standing (c.in_ok-check_journals.ensures.same honest).state in
    let two = ap standing (c.in_ok-list_keyspaces.ensures.same honest).state ∙ one in
    begun_tree_err image _ c.check_tree.result two (c.in_ok-check_journals.ensures.empty honest are) (subst KeyspacesAreNamed one (c.in_ok-list_keyspaces.ensures.named honest)) (c.check_tree.ensures.cause honest)
