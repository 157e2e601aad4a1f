use Rattle.std.proofs.Common.{◌∙◌, List, true, refl, sym, ap, subst}
use Rattle.std.proofs.lemmas.Result.{err_from_is_err_and}
use Rattle.fjall_base.specs.Disk.{Image, standing, state_in}
use Rattle.fjall_files.specs.Journals.{Sealed}
use Rattle.fjall_files.specs.Telling.{AreMarksOf}
use Rattle.fjall_recovery.specs.Told.{AreTold}
use Rattle.fjall_recovery.specs.Refusals.{TailRefuses}
use Rattle.fjall_recovery.proofs.Telling.{last_told, none_told}
use Rattle.fjall_recovery.proofs.Gathering.{front_refuses, active_batch, active_tail, last_found}
use Rattle.fjall_recovery.proofs.Looking.{fault_listed}
use Rattle.fjall_meta.specs.Replays.{first_fault}
use Rattle.fjall_recovery.proofs.journals.read_journals.Goals as goal

pub returns-in_err-journals-clause-cause : goal.returns-in_err-journals-clause-cause
returns-in_err-journals-clause-cause g c honest =
    let p = err_from_is_err_and c.from_residual.result c.from_residual.ensures.1 in
    let image = standing (state_in (g.D.Disk.meaning c.args.disk.now)) in
    rw (p.1, p.2) (front_refuses image image c.args.ids.now c.in-len1-up.len_at_least refl c.in_err-journals.field-0.0 (c.in_err-journals.ensures.cause honest _))

pub returns-in_err-tail-clause-cause : goal.returns-in_err-tail-clause-cause
returns-in_err-tail-clause-cause g c honest =
    let p = err_from_is_err_and c.from_residual-in_err-tail.result c.from_residual-in_err-tail.ensures.1 in
    let image = standing (state_in (g.D.Disk.meaning c.args.disk.now)) in
    let same = ap standing (c.in_ok-journals.ensures.same honest).state in
    let look = c.in_ok-look.ensures.found honest in
    rw (p.1, p.2)
    (active_batch image _ c.args.ids.now c.in-len1-up.len_at_least same c.in_ok-journals.journals.least _ look.batches _ c.in_err-tail.field-0.0 look.read
    (c.in_ok-journals.ensures.behind honest _ c.in_err-tail.field-0.0) (c.in_err-tail.ensures.cause _ look.batches look.checked))

pub returns-in_err-tail-clause-listed : goal.returns-in_err-tail-clause-listed
returns-in_err-tail-clause-listed g c =
    let p = err_from_is_err_and c.from_residual-in_err-tail.result c.from_residual-in_err-tail.ensures.1 in
    let looks = c.in_ok-look.ensures.looks in
    rw (p.1, p.2) (fault_listed (first_fault _ looks.1.batches) c.in_err-tail.field-0.0 (c.in_err-tail.ensures.cause _ looks.1.batches looks.1.checked))

pub returns-in_err-journals-2-clause-cause : goal.returns-in_err-journals-2-clause-cause
returns-in_err-journals-2-clause-cause g c honest =
    let p = err_from_is_err_and c.from_residual-in_err-journals-2.result c.from_residual-in_err-journals-2.ensures.1 in
    let image = standing (state_in (g.D.Disk.meaning c.args.disk.now)) in
    let same = ap standing (c.in_ok-journals.ensures.same honest).state in
    let error = c.in_err-journals-2.field-0.0 in
    let look = c.in_ok-look.ensures.found honest in
    rw (p.1, p.2)
    (active_tail image _ c.args.ids.now c.in-len1-up.len_at_least same c.in_ok-journals.journals.least _ look.batches _ error look.read
    (c.in_ok-journals.ensures.behind honest _ error) (c.in_ok-tail.ensures.sound _ look.batches look.checked).0
    (subst (λ t. TailRefuses true t error) c.in_ok-tail.ensures.tail c.in_err-journals-2.ensures.cause))

pub returns-clause-found : goal.returns-clause-found
returns-clause-found g c honest =
    let image = standing (state_in (g.D.Disk.meaning c.args.disk.now)) in
    let same = ap standing (c.in_ok-journals.ensures.same honest).state in
    let taken = c.in_ok-tail.ensures in
    let look = c.in_ok-look.ensures.found honest in
    let sound = taken.sound _ look.batches look.checked in
    last_found image _ c.args.ids.now c.in-len1-up.len_at_least same look.batches _ _ _ _ _ _ taken.end (c.in_ok-journals.ensures.found honest) look.read (sym taken.tail ∙ c.in_ok-journals-2.ensures.ok) sound.0 sound.1

pub returns-in_default-clause-told : goal.returns-in_default-clause-told
returns-in_default-clause-told g c honest = none_told (standing (state_in (g.D.Disk.meaning c.args.disk.now))) c.args.ids.now _ _ c.in_default.len_below c.new.ensures.sealed c.new.ensures.watermarks

pub returns-clause-told : goal.returns-clause-told
returns-clause-told g c honest =
    let image : Image = standing (state_in (g.D.Disk.meaning c.args.disk.now)) in
    let taken = c.in_ok-tail.ensures in
    let look = c.in_ok-look.ensures.found honest in
    let marks = subst (AreMarksOf look.batches) (sym taken.marks) look.marks in
    subst (λ (l : List Sealed). AreTold image c.args.ids.now l c.in_ok-tail.watermarks) (sym taken.sealed)
    (last_told image _ c.args.ids.now c.in_ok-journals.journals.sealed _ look.batches _ _ _ c.in-len1-up.len_at_least (ap standing (c.in_ok-journals.ensures.same honest).state)
    (c.in_ok-journals.ensures.told honest) look.read (sym taken.tail ∙ c.in_ok-journals-2.ensures.ok) marks)
