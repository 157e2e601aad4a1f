use Rattle.std.proofs.Common.{◌≡◌, ◌∙◌, ap, subst, sym}
use Rattle.std.proofs.lemmas.Result.{err_from_is_err_and}
use Rattle.fjall_base.specs.Disk.{Folder, Image, standing, state_in}
use Rattle.fjall_base.specs.declared.error.Error.TheVariants.{Unrecoverable}
use Rattle.fjall_files.specs.Names.{keyspace_folder}
use Rattle.fjall_manifest.specs.Catalog.{Says}
use Rattle.fjall_recovery.specs.Journals.{AreJournalIds}
use Rattle.fjall_recovery.specs.Naming.{KeyspacesAreNamed}
use Rattle.fjall_recovery.proofs.Finishing.{holds_journals, names_refuse, tree_refuses, homes_refuse, folders_along, finished_of}
use Rattle.fjall_recovery.proofs.Kept.{homes_spared, journals_spared, names_spared}
use Rattle.fjall_recovery.proofs.Strict.{behind_in, clean_found, journals_refuse_in, spared_in_mode, torn_found, torn_in_mode, torn_spared}
use Rattle.fjall_recovery.specs.Refusals.{HasTornEnd}
use Rattle.fjall_recovery.proofs.folder.read_finished.Goals as goal

pub returns-in_err-folder_ids-clause-cause : goal.returns-in_err-folder_ids-clause-cause
returns-in_err-folder_ids-clause-cause g c honest ids =
    let p = err_from_is_err_and c.from_residual-in_err-folder_ids.result c.from_residual-in_err-folder_ids.ensures.1 in
    let image : Image = standing (state_in (g.D.Disk.meaning c.args.disk.now)) in
    let holds = holds_journals image c.deref.result.now _ _ _ (subst (AreJournalIds image) (sym c.deref.ensures.value) ids) (c.in_ok-journals.ensures.found honest) in
    rw (p.1, p.2) (behind_in c.args.mode c.in_ok-journals.journals.torn image c.deref.result.now _ _ c.in_err-folder_ids.field-0.0 (subst (AreJournalIds image) (sym c.deref.ensures.value) ids) (c.in_ok-journals.ensures.found honest) c.in_ok-check_end.ensures.ok (names_refuse image _ c.in_err-folder_ids.field-0.0 (ap standing (c.in_ok-journals.ensures.same honest).state) holds (c.in_err-folder_ids.ensures.cause honest)))

pub returns-in_err-catalog-clause-cause : goal.returns-in_err-catalog-clause-cause
returns-in_err-catalog-clause-cause g c honest ids =
    let p = err_from_is_err_and c.from_residual-in_err-catalog.result c.from_residual-in_err-catalog.ensures.1 in
    let image : Image = standing (state_in (g.D.Disk.meaning c.args.disk.now)) in
    let holds = holds_journals image c.deref.result.now _ _ _ (subst (AreJournalIds image) (sym c.deref.ensures.value) ids) (c.in_ok-journals.ensures.found honest) in
    let one = ap standing (c.in_ok-journals.ensures.same honest).state in
    let step = ap standing (c.in_ok-folder_ids.ensures.same honest).state in
    let folders = folders_along _ _ _ _ (sym step) c.deref-2.ensures.value (c.in_ok-folder_ids.ensures.ids honest) in
    rw (p.1, p.2)
    (behind_in c.args.mode c.in_ok-journals.journals.torn image c.deref.result.now _ _ c.in_err-catalog.field-0.0 (subst (AreJournalIds image) (sym c.deref.ensures.value) ids) (c.in_ok-journals.ensures.found honest) c.in_ok-check_end.ensures.ok (tree_refuses image _ c.in_err-catalog.field-0.0 (step ∙ one) holds (subst KeyspacesAreNamed one (c.in_ok-folder_ids.ensures.named honest)) (c.in_err-catalog.ensures.cause honest folders)))

pub returns-in_err-homes-clause-cause : goal.returns-in_err-homes-clause-cause
returns-in_err-homes-clause-cause g c honest ids =
    let p = err_from_is_err_and c.from_residual-in_err-homes.result c.from_residual-in_err-homes.ensures.1 in
    let image : Image = standing (state_in (g.D.Disk.meaning c.args.disk.now)) in
    let holds = holds_journals image c.deref.result.now _ _ _ (subst (AreJournalIds image) (sym c.deref.ensures.value) ids) (c.in_ok-journals.ensures.found honest) in
    let one = ap standing (c.in_ok-journals.ensures.same honest).state in
    let step = ap standing (c.in_ok-folder_ids.ensures.same honest).state in
    let next = ap standing (c.in_ok-catalog.ensures.same honest).state in
    let two = step ∙ one in
    let folders = folders_along _ _ _ _ (sym step) c.deref-2.ensures.value (c.in_ok-folder_ids.ensures.ids honest) in
    let later = folders_along _ _ _ _ (sym (next ∙ step)) c.deref-3.ensures.value (c.in_ok-folder_ids.ensures.ids honest) in
    let says = c.in_ok-catalog.ensures.says honest in
    let last = c.in_ok-catalog.catalog.catalog in
    let s = c.in_ok-catalog.catalog.keyspaces in
    rw (p.1, p.2)
    (behind_in c.args.mode c.in_ok-journals.journals.torn image c.deref.result.now _ _ c.in_err-homes.field-0.0 (subst (AreJournalIds image) (sym c.deref.ensures.value) ids) (c.in_ok-journals.ensures.found honest) c.in_ok-check_end.ensures.ok (homes_refuse image _ says.0 last s _ c.in_err-homes.field-0.0 (next ∙ two) holds (subst KeyspacesAreNamed one (c.in_ok-folder_ids.ensures.named honest))
    (subst (λ (i : Image). i (keyspace_folder 0) ≡ Folder) two (c.in_ok-catalog.ensures.folder honest folders)) (subst (λ i. Says i says.0 last s) two says.1) c.in_ok-catalog.ensures.made
    c.living.ensures (c.in_err-homes.ensures.cause honest later)))

pub returns-clause-found : goal.returns-clause-found
returns-clause-found g c honest ids =
    let image : Image = standing (state_in (g.D.Disk.meaning c.args.disk.now)) in
    let one = ap standing (c.in_ok-journals.ensures.same honest).state in
    let step = ap standing (c.in_ok-folder_ids.ensures.same honest).state in
    let next = ap standing (c.in_ok-catalog.ensures.same honest).state in
    let folders = folders_along _ _ _ _ (sym step) c.deref-2.ensures.value (c.in_ok-folder_ids.ensures.ids honest) in
    let later = folders_along _ _ _ _ (sym (next ∙ step)) c.deref-3.ensures.value (c.in_ok-folder_ids.ensures.ids honest) in
    finished_of image _ _ _ _ c.deref.result.now _ one (step ∙ one) (next ∙ (step ∙ one)) c.deref.ensures.value ids (c.in_ok-journals.ensures.found honest) (c.in_ok-journals.ensures.told honest) (c.in_ok-folder_ids.ensures.ids honest) (c.in_ok-folder_ids.ensures.named honest)
    (c.in_ok-catalog.ensures.folder honest folders) (c.in_ok-catalog.ensures.says honest) (c.in_ok-catalog.ensures.end honest) c.in_ok-catalog.ensures.made c.living.ensures (c.in_ok-homes.ensures.read honest later)

pub returns-in_err-journals-clause-openable : goal.returns-in_err-journals-clause-openable
returns-in_err-journals-clause-openable g c honest ids held sound =
    let p = err_from_is_err_and c.from_residual.result c.from_residual.ensures.1 in
    let image : Image = standing (state_in (g.D.Disk.meaning c.args.disk.now)) in
    rw (p.1, p.2) (spared_in_mode c.args.mode (HasTornEnd image) c.in_err-journals.field-0.0 (journals_spared image held c.deref.result.now c.in_err-journals.field-0.0 sound (subst (AreJournalIds image) (sym c.deref.ensures.value) ids) (c.in_err-journals.ensures.cause honest)))

pub returns-in_err-folder_ids-clause-openable : goal.returns-in_err-folder_ids-clause-openable
returns-in_err-folder_ids-clause-openable g c honest ids held sound =
    let p = err_from_is_err_and c.from_residual-in_err-folder_ids.result c.from_residual-in_err-folder_ids.ensures.1 in
    let image : Image = standing (state_in (g.D.Disk.meaning c.args.disk.now)) in
    rw (p.1, p.2)
    (spared_in_mode c.args.mode (HasTornEnd image) c.in_err-folder_ids.field-0.0 (names_spared image _ KeyspacesAreNamed Unrecoverable c.in_err-folder_ids.field-0.0 (ap standing (c.in_ok-journals.ensures.same honest).state) sound.keyspaces_named (c.in_err-folder_ids.ensures.cause honest)))

pub returns-in_err-catalog-clause-openable : goal.returns-in_err-catalog-clause-openable
returns-in_err-catalog-clause-openable g c honest ids held sound =
    let p = err_from_is_err_and c.from_residual-in_err-catalog.result c.from_residual-in_err-catalog.ensures.1 in
    let image : Image = standing (state_in (g.D.Disk.meaning c.args.disk.now)) in
    let one = ap standing (c.in_ok-journals.ensures.same honest).state in
    let step = ap standing (c.in_ok-folder_ids.ensures.same honest).state in
    let folders = folders_along _ _ _ _ (sym step) c.deref-2.ensures.value (c.in_ok-folder_ids.ensures.ids honest) in
    let back = sym (step ∙ one) in
    rw (p.1, p.2)
    (spared_in_mode c.args.mode (HasTornEnd image) c.in_err-catalog.field-0.0 (c.in_err-catalog.ensures.sound honest folders sound.records held.last held.keyspaces (subst (λ i. Says i sound.records held.last held.keyspaces) back sound.catalog) sound.made
    (subst (λ (i : Image). i (keyspace_folder 0) ≡ Folder) back sound.folder)))

pub returns-in_err-homes-clause-openable : goal.returns-in_err-homes-clause-openable
returns-in_err-homes-clause-openable g c honest ids held sound =
    let p = err_from_is_err_and c.from_residual-in_err-homes.result c.from_residual-in_err-homes.ensures.1 in
    let image : Image = standing (state_in (g.D.Disk.meaning c.args.disk.now)) in
    let one = ap standing (c.in_ok-journals.ensures.same honest).state in
    let step = ap standing (c.in_ok-folder_ids.ensures.same honest).state in
    let next = ap standing (c.in_ok-catalog.ensures.same honest).state in
    let later = folders_along _ _ _ _ (sym (next ∙ step)) c.deref-3.ensures.value (c.in_ok-folder_ids.ensures.ids honest) in
    let says = c.in_ok-catalog.ensures.says honest in
    rw (p.1, p.2)
    (spared_in_mode c.args.mode (HasTornEnd image) c.in_err-homes.field-0.0 (homes_spared image _ _ held says.0 c.in_ok-catalog.catalog.catalog c.in_ok-catalog.catalog.keyspaces _ c.in_err-homes.field-0.0 (step ∙ one) (next ∙ (step ∙ one)) sound says.1 c.living.ensures
    (c.in_err-homes.ensures.cause honest later)))

-- ---- the mode

pub returns-in_err-journals-clause-cause : goal.returns-in_err-journals-clause-cause
returns-in_err-journals-clause-cause g c honest ids =
    let p = err_from_is_err_and c.from_residual.result c.from_residual.ensures.1 in
    let image : Image = standing (state_in (g.D.Disk.meaning c.args.disk.now)) in
    rw (p.1, p.2) (journals_refuse_in c.args.mode image c.deref.result.now c.in_err-journals.field-0.0 (subst (AreJournalIds image) (sym c.deref.ensures.value) ids) (c.in_err-journals.ensures.cause honest))

pub returns-in_err-check_end-clause-cause : goal.returns-in_err-check_end-clause-cause
returns-in_err-check_end-clause-cause g c honest ids =
    let p = err_from_is_err_and c.from_residual-in_err-check_end.result c.from_residual-in_err-check_end.ensures.1 in
    let image : Image = standing (state_in (g.D.Disk.meaning c.args.disk.now)) in
    let told = c.in_err-check_end.ensures.cause in
    rw (p.1, p.2)
    (torn_in_mode c.args.mode (HasTornEnd image) _ c.in_err-check_end.field-0.0 told.0
    (torn_found image c.deref.result.now _ _ c.in_ok-journals.journals.torn (subst (AreJournalIds image) (sym c.deref.ensures.value) ids) (c.in_ok-journals.ensures.found honest) told.1) told.2)

pub returns-in_err-check_end-clause-openable : goal.returns-in_err-check_end-clause-openable
returns-in_err-check_end-clause-openable g c honest ids held sound =
    let p = err_from_is_err_and c.from_residual-in_err-check_end.result c.from_residual-in_err-check_end.ensures.1 in
    let image : Image = standing (state_in (g.D.Disk.meaning c.args.disk.now)) in
    let told = c.in_err-check_end.ensures.cause in
    rw (p.1, p.2)
    (torn_spared c.args.mode (HasTornEnd image) c.in_err-check_end.field-0.0 told.0
    (torn_found image c.deref.result.now _ _ c.in_ok-journals.journals.torn (subst (AreJournalIds image) (sym c.deref.ensures.value) ids) (c.in_ok-journals.ensures.found honest) told.1) told.2)

pub returns-clause-untorn : goal.returns-clause-untorn
returns-clause-untorn g c honest ids on =
    let image : Image = standing (state_in (g.D.Disk.meaning c.args.disk.now)) in
    clean_found image c.deref.result.now _ _ c.in_ok-journals.journals.torn (subst (AreJournalIds image) (sym c.deref.ensures.value) ids) (c.in_ok-journals.ensures.found honest) (c.in_ok-check_end.ensures.ok on)
