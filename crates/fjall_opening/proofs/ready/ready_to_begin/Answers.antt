use Rattle.std.proofs.Common.{[], refl, sym, subst}
use Rattle.std.proofs.lemmas.Result.{err_from_is_err_and}
use Rattle.fjall_base.specs.Disk.{DiskState, Image, Meaning, Took, standing, state_in}
use Rattle.fjall_base.specs.declared.error.Error.TheVariants.{Unrecoverable}
use Rattle.fjall_journal.proofs.Writing.{took_none}
use Rattle.fjall_recovery.specs.Naming.{AreFolderIds, JournalsAreNamed, KeyspacesAreNamed}
use Rattle.fjall_recovery.proofs.Kept.{names_spared}
use Rattle.fjall_repair.specs.Sweeps.{FindsAll, IsSweepPlan, TablesNamed, no_names}
use Rattle.fjall_opening.proofs.Agreeing.{no_homes}
use Rattle.fjall_opening.proofs.Openings.{nothing_named}
use Rattle.fjall_opening.proofs.ready.ready_to_begin.Goals as goal

pub returns-in_err-ids-clause-due : goal.returns-in_err-ids-clause-due
returns-in_err-ids-clause-due g c honest unfinished =
    let p = err_from_is_err_and c.from_residual.result c.from_residual.ensures.1 in
    let image : Image = standing (state_in (g.D.Disk.meaning c.args.disk.now)) in
    rw (p.1, p.2) (names_spared image image KeyspacesAreNamed Unrecoverable c.in_err-ids.field-0.0 refl unfinished.keyspaces_named (c.in_err-ids.ensures.cause honest))

pub returns-in_err-making-clause-due : goal.returns-in_err-making-clause-due
returns-in_err-making-clause-due g c honest unfinished =
    let m : _ → Meaning = g.D.Disk.meaning in
    let p = err_from_is_err_and c.from_residual-in_err-making.result c.from_residual-in_err-making.ensures.1 in
    let same : Took (m c.args.disk.now) (m c.plan_sweep.new.disk) [] = took_none _ _ _ [] (c.in_ok-ids.ensures.same honest) (c.in_ok-sweep.ensures.same honest) in
    rw (p.1, p.2) (c.in_err-making.ensures.cause honest (subst (λ (s : DiskState). JournalsAreNamed (standing s)) (sym same.state) unfinished.journals_named))

pub returns-clause-finds : goal.returns-clause-finds
returns-clause-finds g c honest =
    let m : _ → Meaning = g.D.Disk.meaning in
    let same = c.in_ok-ids.ensures.same honest in
    let ids = c.deref.result.now in
    let found = c.in_ok-sweep.ensures.whole honest no_homes in (
      ids,
      subst (AreFolderIds (standing (state_in (m c.args.disk.now)))) (sym c.deref.ensures.value) (c.in_ok-ids.ensures.ids honest),
      subst (λ (s : DiskState). FindsAll s no_names [] ids c.in_ok-sweep.sweep) same.state (subst (λ (names : TablesNamed). FindsAll (state_in (m c.list_keyspaces.new.disk)) names [] ids c.in_ok-sweep.sweep) nothing_named found),
    )

pub returns-clause-sweep : goal.returns-clause-sweep
returns-clause-sweep g c honest = subst (λ (names : TablesNamed). IsSweepPlan names [] c.in_ok-sweep.sweep) nothing_named (c.in_ok-sweep.ensures.right honest no_homes)
