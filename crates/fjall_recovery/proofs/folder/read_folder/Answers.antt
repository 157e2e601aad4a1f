use Rattle.std.proofs.Common.{◌≡◌, Err, Ok, ◌∙◌, ap, subst, sym}
use Rattle.std.proofs.lemmas.Result.{err_from_is_err_and}
use Rattle.fjall_base.specs.Disk.{Image, standing, state_in}
use Rattle.fjall_base.specs.declared.error.Error.TheVariants.{JournalRecovery}
use Rattle.fjall_base.specs.declared.error.JournalRecoveryError.TheVariants.{InvalidFileName}
use Rattle.fjall_files.specs.Marker.{marker_tells}
use Rattle.fjall_recovery.specs.Folders.{IsOpenable, marker_bytes}
use Rattle.fjall_recovery.specs.Journals.{AreJournalIds}
use Rattle.fjall_recovery.specs.Naming.{JournalsAreNamed}
use Rattle.fjall_recovery.proofs.Finishing.{journals_along, unfinished_refuses, reads_finished, reads_unfinished}
use Rattle.fjall_recovery.proofs.Kept.{names_spared, open_marker, open_names, opens, spared, unfinished_spared, whole_opens}
use Rattle.fjall_recovery.proofs.Strict.{finished_refuses_in, finished_spared_in, marker_refuses_in, no_torn_tail, spared_in_mode, unfinished_refuses_in, untorn_folder, names_in_mode}
use Rattle.fjall_recovery.specs.Refusals.{HasTornTail}
use Rattle.fjall_recovery.proofs.folder.read_folder.Goals as goal

pub returns-in_err-journal_ids-clause-cause : goal.returns-in_err-journal_ids-clause-cause
returns-in_err-journal_ids-clause-cause g c honest =
    let p = err_from_is_err_and c.from_residual-in_err-journal_ids.result c.from_residual-in_err-journal_ids.ensures.1 in
    let image : Image = standing (state_in (g.D.Disk.meaning c.args.disk.now)) in
    rw (p.1, p.2) (names_in_mode c.args.mode image _ _ c.in_err-journal_ids.field-0.0 (ap standing (c.in_ok-marker.ensures.same honest).state) (c.in_ok-marker.ensures.tells honest) (c.in_err-journal_ids.ensures.cause honest))

pub returns-in_err-read_finished-in-Whole-clause-cause : goal.returns-in_err-read_finished-in-Whole-clause-cause
returns-in_err-read_finished-in-Whole-clause-cause g c honest =
    let p = err_from_is_err_and c.from_residual-in_err-read_finished-in-Whole.result c.from_residual-in_err-read_finished-in-Whole.ensures.1 in
    let image : Image = standing (state_in (g.D.Disk.meaning c.args.disk.now)) in
    let one = ap standing (c.in_ok-marker.ensures.same honest).state in
    let step = ap standing (c.in_ok-journal_ids.ensures.same honest).state in
    let ids = subst (λ i. AreJournalIds i c.in_ok-journal_ids.journal_ids.items) (sym step) (c.in_ok-journal_ids.ensures.ids honest) in
    rw (p.1, p.2)
    (finished_refuses_in c.args.mode image _ c.in_err-read_finished-in-Whole.field-0.0 (step ∙ one) (c.in_ok-marker.ensures.tells honest ∙ ap Ok c.in-Whole.is) (subst JournalsAreNamed one (c.in_ok-journal_ids.ensures.named honest))
    (c.in_err-read_finished-in-Whole.ensures.cause honest ids))

pub returns-in_err-check_unfinished-in-Unfinished-clause-cause : goal.returns-in_err-check_unfinished-in-Unfinished-clause-cause
returns-in_err-check_unfinished-in-Unfinished-clause-cause g c honest =
    let p = err_from_is_err_and c.from_residual-in_err-check_unfinished-in-Unfinished.result c.from_residual-in_err-check_unfinished-in-Unfinished.ensures.1 in
    let image : Image = standing (state_in (g.D.Disk.meaning c.args.disk.now)) in
    let one = ap standing (c.in_ok-marker.ensures.same honest).state in
    let step = ap standing (c.in_ok-journal_ids.ensures.same honest).state in
    let ids = journals_along _ _ _ _ (sym step) c.deref.ensures.value (c.in_ok-journal_ids.ensures.ids honest) in
    rw (p.1, p.2)
    (unfinished_refuses_in c.args.mode image c.in_err-check_unfinished-in-Unfinished.field-0.0 (c.in_ok-marker.ensures.tells honest ∙ ap Ok c.in-Unfinished.is) (unfinished_refuses image _ c.in_err-check_unfinished-in-Unfinished.field-0.0 (step ∙ one) (c.in_ok-marker.ensures.tells honest ∙ ap Ok c.in-Unfinished.is) (subst JournalsAreNamed one (c.in_ok-journal_ids.ensures.named honest))
    (c.in_err-check_unfinished-in-Unfinished.ensures.cause honest ids)))

pub returns-in_ok-read_finished-in-Whole-clause-found : goal.returns-in_ok-read_finished-in-Whole-clause-found
returns-in_ok-read_finished-in-Whole-clause-found g c honest =
    let image : Image = standing (state_in (g.D.Disk.meaning c.args.disk.now)) in
    let one = ap standing (c.in_ok-marker.ensures.same honest).state in
    let step = ap standing (c.in_ok-journal_ids.ensures.same honest).state in
    let ids = subst (λ i. AreJournalIds i c.in_ok-journal_ids.journal_ids.items) (sym step) (c.in_ok-journal_ids.ensures.ids honest) in
    reads_finished image _ c.in_ok-read_finished-in-Whole.field-0 (step ∙ one) (c.in_ok-marker.ensures.tells honest ∙ ap Ok c.in-Whole.is) (subst JournalsAreNamed one (c.in_ok-journal_ids.ensures.named honest))
    (c.in_ok-read_finished-in-Whole.ensures.found honest ids)

pub returns-in_ok-check_unfinished-in-Unfinished-clause-found : goal.returns-in_ok-check_unfinished-in-Unfinished-clause-found
returns-in_ok-check_unfinished-in-Unfinished-clause-found g c honest =
    let image : Image = standing (state_in (g.D.Disk.meaning c.args.disk.now)) in
    let one = ap standing (c.in_ok-marker.ensures.same honest).state in
    let step = ap standing (c.in_ok-journal_ids.ensures.same honest).state in
    let ids = journals_along _ _ _ _ (sym step) c.deref.ensures.value (c.in_ok-journal_ids.ensures.ids honest) in
    let checked = c.in_ok-check_unfinished-in-Unfinished.ensures in
    reads_unfinished image _ (step ∙ one) (c.in_ok-marker.ensures.tells honest ∙ ap Ok c.in-Unfinished.is) (subst JournalsAreNamed one (c.in_ok-journal_ids.ensures.named honest)) (checked.empty honest ids) (checked.named honest) (checked.begun honest)

pub returns-in_err-marker-clause-openable : goal.returns-in_err-marker-clause-openable
returns-in_err-marker-clause-openable g c honest folder right =
    let p = err_from_is_err_and c.from_residual.result c.from_residual.ensures.1 in
    let image : Image = standing (state_in (g.D.Disk.meaning c.args.disk.now)) in
    rw (p.1, p.2) (spared_in_mode c.args.mode (HasTornTail image) c.in_err-marker.field-0.0 (spared (λ e. marker_tells (marker_bytes image) ≡ Err e) c.in_err-marker.field-0.0 (λ e refused. open_marker image folder e right refused) (c.in_err-marker.ensures.cause honest)))

pub returns-in_err-journal_ids-clause-openable : goal.returns-in_err-journal_ids-clause-openable
returns-in_err-journal_ids-clause-openable g c honest folder right =
    let p = err_from_is_err_and c.from_residual-in_err-journal_ids.result c.from_residual-in_err-journal_ids.ensures.1 in
    let image : Image = standing (state_in (g.D.Disk.meaning c.args.disk.now)) in
    rw (p.1, p.2)
    (spared_in_mode c.args.mode (HasTornTail image) c.in_err-journal_ids.field-0.0 (names_spared image _ JournalsAreNamed (JournalRecovery InvalidFileName) c.in_err-journal_ids.field-0.0 (ap standing (c.in_ok-marker.ensures.same honest).state) (open_names image folder right) (c.in_err-journal_ids.ensures.cause honest)))

pub returns-in_err-read_finished-in-Whole-clause-openable : goal.returns-in_err-read_finished-in-Whole-clause-openable
returns-in_err-read_finished-in-Whole-clause-openable g c honest folder right =
    let p = err_from_is_err_and c.from_residual-in_err-read_finished-in-Whole.result c.from_residual-in_err-read_finished-in-Whole.ensures.1 in
    let image : Image = standing (state_in (g.D.Disk.meaning c.args.disk.now)) in
    let one = ap standing (c.in_ok-marker.ensures.same honest).state in
    let step = ap standing (c.in_ok-journal_ids.ensures.same honest).state in
    let ids = subst (λ i. AreJournalIds i c.in_ok-journal_ids.journal_ids.items) (sym step) (c.in_ok-journal_ids.ensures.ids honest) in
    let held = whole_opens image folder (c.in_ok-marker.ensures.tells honest ∙ ap Ok c.in-Whole.is) right in
    rw (p.1, p.2) (finished_spared_in c.args.mode image _ c.in_err-read_finished-in-Whole.field-0.0 (step ∙ one) (c.in_ok-marker.ensures.tells honest ∙ ap Ok c.in-Whole.is) (subst JournalsAreNamed one (c.in_ok-journal_ids.ensures.named honest)) (c.in_err-read_finished-in-Whole.ensures.openable honest ids held.0 (subst (λ i. IsOpenable i held.0) (sym (step ∙ one)) held.1)))

pub returns-in_err-check_unfinished-in-Unfinished-clause-openable : goal.returns-in_err-check_unfinished-in-Unfinished-clause-openable
returns-in_err-check_unfinished-in-Unfinished-clause-openable g c honest folder right =
    let p = err_from_is_err_and c.from_residual-in_err-check_unfinished-in-Unfinished.result c.from_residual-in_err-check_unfinished-in-Unfinished.ensures.1 in
    let image : Image = standing (state_in (g.D.Disk.meaning c.args.disk.now)) in
    let one = ap standing (c.in_ok-marker.ensures.same honest).state in
    let step = ap standing (c.in_ok-journal_ids.ensures.same honest).state in
    let ids = journals_along _ _ _ _ (sym step) c.deref.ensures.value (c.in_ok-journal_ids.ensures.ids honest) in
    rw (p.1, p.2)
    (spared_in_mode c.args.mode (HasTornTail image) c.in_err-check_unfinished-in-Unfinished.field-0.0 (unfinished_spared image _ folder c.in_err-check_unfinished-in-Unfinished.field-0.0 (step ∙ one) (c.in_ok-marker.ensures.tells honest ∙ ap Ok c.in-Unfinished.is) right
    (c.in_err-check_unfinished-in-Unfinished.ensures.cause honest ids)))

pub returns-in_err-marker-clause-sound : goal.returns-in_err-marker-clause-sound
returns-in_err-marker-clause-sound g c honest store stands = let it = opens (standing (state_in (g.D.Disk.meaning c.args.disk.now))) store stands in returns-in_err-marker-clause-openable g c honest it.0 it.1

pub returns-in_err-journal_ids-clause-sound : goal.returns-in_err-journal_ids-clause-sound
returns-in_err-journal_ids-clause-sound g c honest store stands = let it = opens (standing (state_in (g.D.Disk.meaning c.args.disk.now))) store stands in returns-in_err-journal_ids-clause-openable g c honest it.0 it.1

pub returns-in_err-read_finished-in-Whole-clause-sound : goal.returns-in_err-read_finished-in-Whole-clause-sound
returns-in_err-read_finished-in-Whole-clause-sound g c honest store stands = let it = opens (standing (state_in (g.D.Disk.meaning c.args.disk.now))) store stands in returns-in_err-read_finished-in-Whole-clause-openable g c honest it.0 it.1

pub returns-in_err-check_unfinished-in-Unfinished-clause-sound : goal.returns-in_err-check_unfinished-in-Unfinished-clause-sound
returns-in_err-check_unfinished-in-Unfinished-clause-sound g c honest store stands = let it = opens (standing (state_in (g.D.Disk.meaning c.args.disk.now))) store stands in returns-in_err-check_unfinished-in-Unfinished-clause-openable g c honest it.0 it.1

-- ---- the mode

pub returns-in_err-marker-clause-cause : goal.returns-in_err-marker-clause-cause
returns-in_err-marker-clause-cause g c honest =
    let p = err_from_is_err_and c.from_residual.result c.from_residual.ensures.1 in
    let image : Image = standing (state_in (g.D.Disk.meaning c.args.disk.now)) in
    rw (p.1, p.2) (marker_refuses_in c.args.mode image c.in_err-marker.field-0.0 (c.in_err-marker.ensures.cause honest))

pub returns-in_ok-read_finished-in-Whole-clause-untorn : goal.returns-in_ok-read_finished-in-Whole-clause-untorn
returns-in_ok-read_finished-in-Whole-clause-untorn g c honest on =
    let image : Image = standing (state_in (g.D.Disk.meaning c.args.disk.now)) in
    let one = ap standing (c.in_ok-marker.ensures.same honest).state in
    let step = ap standing (c.in_ok-journal_ids.ensures.same honest).state in
    let ids = subst (λ i. AreJournalIds i c.in_ok-journal_ids.journal_ids.items) (sym step) (c.in_ok-journal_ids.ensures.ids honest) in
    untorn_folder image _ (step ∙ one) (c.in_ok-read_finished-in-Whole.ensures.untorn honest ids on)

pub returns-in_ok-check_unfinished-in-Unfinished-clause-untorn : goal.returns-in_ok-check_unfinished-in-Unfinished-clause-untorn
returns-in_ok-check_unfinished-in-Unfinished-clause-untorn g c honest on =
    let image : Image = standing (state_in (g.D.Disk.meaning c.args.disk.now)) in
    no_torn_tail image (c.in_ok-marker.ensures.tells honest ∙ ap Ok c.in-Unfinished.is)
