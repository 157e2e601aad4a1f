use Rattle.std.proofs.Common.{◌≡◌, ◌∙◌, ℕ, List, ap, subst, sym}
use Rattle.std.proofs.lemmas.Result.{err_from_is_err_and}
use Rattle.fjall_base.specs.Disk.{DiskState, Image, Name, standing, state_in}
use Rattle.fjall_meta.specs.declared.living.LivingKeyspace.{LivingKeyspace}
use Rattle.fjall_recovery.specs.Folders.{IsFinished}
use Rattle.fjall_opening.specs.Readings.{TakesRead, names_read}
use Rattle.fjall_repair.specs.Sweeps.{FindsAll, IsSweepPlan, TablesNamed}
use Rattle.fjall_opening.proofs.Openings.{homes_as, named_as}
use Rattle.fjall_opening.proofs.ready.ready_to_mend.Goals as goal

pub returns-in_err-database_of-clause-due : goal.returns-in_err-database_of-clause-due
returns-in_err-database_of-clause-due g c honest read =
    let p = err_from_is_err_and c.from_residual-in_err-database_of.result c.from_residual-in_err-database_of.ensures.1 in
    let same : standing (state_in (g.D.Disk.meaning c.plan_sweep.new.disk)) ≡ standing (state_in (g.D.Disk.meaning c.args.disk.now)) = ap standing (c.in_ok-sweep.ensures.same honest).state in
    rw (p.1, p.2) (c.in_err-database_of.ensures.due honest (subst (λ (i : Image). IsFinished i c.args.found) (sym same) read))

pub returns-clause-sweep : goal.returns-clause-sweep
returns-clause-sweep g c honest image read =
    let found = c.args.found in
    let tree = c.deref.ensures.value ∙ c.in_ok-tree.ensures.ok in
    let right = c.in_ok-sweep.ensures.right honest (homes_as image found read _ _ _ tree c.deref-2.ensures.value c.living.ensures) in
    subst (λ (l : List LivingKeyspace). IsSweepPlan (names_read found) l c.in_ok-sweep.sweep) c.living.ensures
    (subst (λ (names : TablesNamed). IsSweepPlan names c.living.result.now c.in_ok-sweep.sweep) (named_as image found read _ _ _ tree c.deref-2.ensures.value c.living.ensures) right)

pub returns-clause-finds : goal.returns-clause-finds
returns-clause-finds g c honest image read =
    let found = c.args.found in
    let plan = c.in_ok-sweep.sweep in
    let state : DiskState = state_in (g.D.Disk.meaning c.args.disk.now) in
    let tree = c.deref.ensures.value ∙ c.in_ok-tree.ensures.ok in
    let whole = c.in_ok-sweep.ensures.whole honest (homes_as image found read _ _ _ tree c.deref-2.ensures.value c.living.ensures) in
    subst (λ (ids : List ℕ). FindsAll state (names_read found) found.catalog.keyspaces.living ids plan) c.deref-3.ensures.value
    (subst (λ (l : List LivingKeyspace). FindsAll state (names_read found) l c.deref-3.result.now plan) c.living.ensures
    (subst (λ (names : TablesNamed). FindsAll state names c.living.result.now c.deref-3.result.now plan) (named_as image found read _ _ _ tree c.deref-2.ensures.value c.living.ensures) whole))

pub returns-clause-opened : goal.returns-clause-opened
returns-clause-opened g c honest read =
    subst (λ (active : Name). TakesRead (g.D.Disk.meaning c.args.disk.now) c.in_ok-database_of.field-0 active c.args.found) c.as_str.ensures.value (c.in_ok-database_of.ensures.opened honest (g.D.Disk.meaning c.args.disk.now) (sym (ap standing (c.in_ok-sweep.ensures.same honest).state)) read)

pub returns-clause-mending : goal.returns-clause-mending
returns-clause-mending g c image read = c.in_ok-mending.ensures.plan image read
