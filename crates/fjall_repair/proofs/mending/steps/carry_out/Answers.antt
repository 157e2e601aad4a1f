use Rattle.std.proofs.Common.{◌∙◌, [], inr, ◌≢◌, All, String, Global, map, string_bytes, sym, ap, subst}
use Rattle.fjall_base.specs.Disk.{Meaning, standing, state_in, File, IsFile, Name, Place}
use Rattle.fjall_files.specs.Tidy.{FitsAt}
use Rattle.fjall_files.proofs.Tidying.{stays_both}
use Rattle.fjall_repair.specs.declared.mending.plan.FileEnd.{FileEnd}
use Rattle.fjall_recovery.specs.Amid.{StandsAmid}
use Rattle.fjall_repair.specs.Steps.{active_of, with_active, IsOpened}
use Rattle.fjall_repair.proofs.Carrying.{ended_by, images_stay, prepared_by, rested_ok, right_by, settled_by, sound_then, then_images, then_stays}
use Rattle.fjall_repair.proofs.Items.{all_to}
use Rattle.fjall_repair.proofs.CarryingAmid.{amid_images, amid_stays, prepared_amid, prepared_stays, rested_amid, stands_by, stands_then}
use Rattle.fjall_repair.proofs.HeldAmid.{either_finished, file_along, file_synced, held_at_end, held_from, made_there, settled_active, sound_along, sound_synced}
use Rattle.fjall_repair.proofs.MendOpened.{active_small, ids_of, opened_sound}
use Rattle.fjall_repair.proofs.MendServed.{active_can, files_there, folders_there, right_then}
use Rattle.fjall_repair.proofs.mending.steps.carry_out.Goals as goal

pub returns-in_err-sync_folders-clause-any_moment : goal.returns-in_err-sync_folders-clause-any_moment
returns-in_err-sync_folders-clause-any_moment g c honest contents holds suits =
    let m : _ → Meaning = g.D.Disk.meaning in
    let named = c.as_str.ensures.value ∙ suits.active in
    let one = c.in_ok-settle_root.ensures in
    then_images (m c.args.disk.now) contents holds.now.versions (m c.settle_root.new.disk) (m c.sync_folders.new.disk) (one.any_moment honest contents holds named) (one.sound honest contents holds named) (c.in_err-sync_folders.ensures.any_moment honest)

pub returns-in_err-sync_files-clause-any_moment : goal.returns-in_err-sync_files-clause-any_moment
returns-in_err-sync_files-clause-any_moment g c honest contents holds suits =
    let m : _ → Meaning = g.D.Disk.meaning in
    let m0 = m c.args.disk.now in
    let m1 = m c.settle_root.new.disk in
    let m2 = m c.sync_folders.new.disk in
    let named = c.as_str.ensures.value ∙ suits.active in
    let one = c.in_ok-settle_root.ensures in
    let two = c.in_ok-sync_folders.ensures in
    let sound = one.sound honest contents holds named in
    then_images m0 contents holds.now.versions m2 (m c.sync_files.new.disk) (then_images m0 contents holds.now.versions m1 m2 (one.any_moment honest contents holds named) sound (two.any_moment honest)) (sound_then m0 contents holds.now.versions m1 m2 sound (two.any_moment honest)) (c.in_err-sync_files.ensures.any_moment honest)

pub returns-clause-any_moment : goal.returns-clause-any_moment
returns-clause-any_moment g c honest contents holds suits =
    let m : _ → Meaning = g.D.Disk.meaning in
    let m0 = m c.args.disk.now in
    let m1 = m c.settle_root.new.disk in
    let m2 = m c.sync_folders.new.disk in
    let m3 = m c.sync_files.new.disk in
    let m4 = m c.end_files.new.disk in
    let named = c.as_str.ensures.value ∙ suits.active in
    let one = c.in_ok-settle_root.ensures in
    let two = c.in_ok-sync_folders.ensures in
    let three = c.in_ok-sync_files.ensures in
    let sound = one.sound honest contents holds named in
    let before = prepared_by m0 m1 m2 m3 contents c.args.plan.now holds suits sound c.as_str.result.now c.as_str.ensures.value (one.opened honest) (one.settled honest) (two.any_moment honest) (two.same honest) (two.still honest)
    c.deref.result.now c.deref.ensures.value (two.settled honest) (three.any_moment honest) (three.same honest) c.deref-2.result.now c.deref-2.ensures.value (three.synced honest) in
    then_stays m0 contents holds.now.versions m3 m4
    (then_images m0 contents holds.now.versions m2 m3 (then_images m0 contents holds.now.versions m1 m2 (one.any_moment honest contents holds named) sound (two.any_moment honest)) (sound_then m0 contents holds.now.versions m1 m2 sound (two.any_moment honest)) (three.any_moment honest))
    (c.end_files.ensures.any_moment honest (with_active contents) (right_by _ _ _ _ c.deref-3.ensures.value before) (settled_by _ _ _ _ c.deref-3.ensures.value before) (images_stay (state_in m3) (with_active contents) before.images))

pub returns-clause-rested : goal.returns-clause-rested
returns-clause-rested g c honest contents holds suits =
    let m : _ → Meaning = g.D.Disk.meaning in
    let m0 = m c.args.disk.now in
    let m1 = m c.settle_root.new.disk in
    let m2 = m c.sync_folders.new.disk in
    let m3 = m c.sync_files.new.disk in
    let m4 = m c.end_files.new.disk in
    let named = c.as_str.ensures.value ∙ suits.active in
    let one = c.in_ok-settle_root.ensures in
    let two = c.in_ok-sync_folders.ensures in
    let three = c.in_ok-sync_files.ensures in
    let four = c.end_files.ensures in
    let sound = one.sound honest contents holds named in
    let before = prepared_by m0 m1 m2 m3 contents c.args.plan.now holds suits sound c.as_str.result.now c.as_str.ensures.value (one.opened honest) (one.settled honest) (two.any_moment honest) (two.same honest) (two.still honest)
    c.deref.result.now c.deref.ensures.value (two.settled honest) (three.any_moment honest) (three.same honest) c.deref-2.result.now c.deref-2.ensures.value (three.synced honest) in
    let right = right_by _ _ _ _ c.deref-3.ensures.value before in
    rested_ok m3 m4 contents c.args.plan.now c.end_files.result before
    (four.any_moment honest (with_active contents) right (settled_by _ _ _ _ c.deref-3.ensures.value before) (images_stay (state_in m3) (with_active contents) before.images))
    (ended_by (state_in m3) (state_in m4) c.deref-3.result.now c.args.plan.now.ends.items c.deref-3.ensures.value c.end_files.result (four.ended honest (with_active contents) right)) (four.synced honest) (four.older honest)

pub returns-in_err-settle_root-clause-kinds : goal.returns-in_err-settle_root-clause-kinds
returns-in_err-settle_root-clause-kinds g c honest fits = c.in_err-settle_root.ensures.kinds honest (subst (λ (n : Name). FitsAt n (File [] [])) (sym c.as_str.ensures.value) fits)

pub returns-in_err-sync_folders-clause-kinds : goal.returns-in_err-sync_folders-clause-kinds
returns-in_err-sync_folders-clause-kinds g c honest fits =
    let m : _ → Meaning = g.D.Disk.meaning in
    let m0 = m c.args.disk.now in
    let m1 = m c.settle_root.new.disk in
    stays_both m0 m1 (m c.sync_folders.new.disk) (c.in_ok-settle_root.ensures.kinds honest (subst (λ (n : Name). FitsAt n (File [] [])) (sym c.as_str.ensures.value) fits)) (c.in_err-sync_folders.ensures.kinds honest)

pub returns-in_err-sync_files-clause-kinds : goal.returns-in_err-sync_files-clause-kinds
returns-in_err-sync_files-clause-kinds g c honest fits =
    let m : _ → Meaning = g.D.Disk.meaning in
    let m0 = m c.args.disk.now in
    let m1 = m c.settle_root.new.disk in
    let m2 = m c.sync_folders.new.disk in
    stays_both m0 m2 (m c.sync_files.new.disk) (stays_both m0 m1 m2 (c.in_ok-settle_root.ensures.kinds honest (subst (λ (n : Name). FitsAt n (File [] [])) (sym c.as_str.ensures.value) fits)) (c.in_ok-sync_folders.ensures.kinds honest))
    (c.in_err-sync_files.ensures.kinds honest)

pub returns-clause-kinds : goal.returns-clause-kinds
returns-clause-kinds g c honest fits =
    let m : _ → Meaning = g.D.Disk.meaning in
    let m0 = m c.args.disk.now in
    let m1 = m c.settle_root.new.disk in
    let m2 = m c.sync_folders.new.disk in
    let m3 = m c.sync_files.new.disk in
    stays_both m0 m3 (m c.end_files.new.disk) (stays_both m0 m2 m3 (stays_both m0 m1 m2 (c.in_ok-settle_root.ensures.kinds honest (subst (λ (n : Name). FitsAt n (File [] [])) (sym c.as_str.ensures.value) fits)) (c.in_ok-sync_folders.ensures.kinds honest))
    (c.in_ok-sync_files.ensures.kinds honest)) (c.end_files.ensures.kinds honest)

pub returns-in_err-settle_root-clause-served : goal.returns-in_err-settle_root-clause-served
returns-in_err-settle_root-clause-served g c honest tidy contents sound suits =
    let m0 = g.D.Disk.meaning c.args.disk.now in
    c.in_err-settle_root.ensures.served honest (active_can (state_in m0) contents c.args.plan.now c.as_str.result.now tidy sound suits c.as_str.ensures.value)

pub returns-in_err-sync_folders-clause-served : goal.returns-in_err-sync_folders-clause-served
returns-in_err-sync_folders-clause-served g c honest tidy contents sound suits =
    let m : _ → Meaning = g.D.Disk.meaning in
    let m0 = m c.args.disk.now in
    let m1 = m c.settle_root.new.disk in
    let plan = c.args.plan.now in
    let made = c.in_ok-settle_root.ensures.opened honest in
    let on = opened_sound (standing (state_in m0)) (standing (state_in m1)) c.as_str.result.now made contents (c.as_str.ensures.value ∙ suits.active) sound in
    let one = c.in_ok-settle_root.ensures.served honest (active_can (state_in m0) contents plan c.as_str.result.now tidy sound suits c.as_str.ensures.value) in
    let folders = folders_there (state_in m1) (with_active contents) c.deref.result.now (g.met.D.Disk.housed c.settle_root.new.disk honest) on (ap (map string_bytes) c.deref.ensures.value ∙ suits.folders) in
    c.in_err-sync_folders.ensures.served honest folders ∙ one

pub returns-in_err-sync_files-clause-served : goal.returns-in_err-sync_files-clause-served
returns-in_err-sync_files-clause-served g c honest tidy contents sound suits =
    let m : _ → Meaning = g.D.Disk.meaning in
    let m0 = m c.args.disk.now in
    let m1 = m c.settle_root.new.disk in
    let m2 = m c.sync_folders.new.disk in
    let plan = c.args.plan.now in
    let made = c.in_ok-settle_root.ensures.opened honest in
    let on = opened_sound (standing (state_in m0)) (standing (state_in m1)) c.as_str.result.now made contents (c.as_str.ensures.value ∙ suits.active) sound in
    let one = c.in_ok-settle_root.ensures.served honest (active_can (state_in m0) contents plan c.as_str.result.now tidy sound suits c.as_str.ensures.value) in
    let folders = folders_there (state_in m1) (with_active contents) c.deref.result.now (g.met.D.Disk.housed c.settle_root.new.disk honest) on (ap (map string_bytes) c.deref.ensures.value ∙ suits.folders) in
    let files = all_to (λ file. IsFile (state_in m1 (string_bytes file)).now) (λ file. IsFile (state_in m2 (string_bytes file)).now) c.deref-2.result.now (λ (file : String Global) is. subst IsFile (sym (c.in_ok-sync_folders.ensures.same honest (string_bytes file))) is)
    (files_there (standing (state_in m1)) contents c.deref-2.result.now on (ap (map string_bytes) c.deref-2.ensures.value ∙ suits.whole)) in
    c.in_err-sync_files.ensures.served honest files ∙ c.in_ok-sync_folders.ensures.served honest folders ∙ one

pub returns-clause-served : goal.returns-clause-served
returns-clause-served g c honest tidy contents sound suits =
    let m : _ → Meaning = g.D.Disk.meaning in
    let m0 = m c.args.disk.now in
    let m1 = m c.settle_root.new.disk in
    let m2 = m c.sync_folders.new.disk in
    let m3 = m c.sync_files.new.disk in
    let plan = c.args.plan.now in
    let made = c.in_ok-settle_root.ensures.opened honest in
    let on = opened_sound (standing (state_in m0)) (standing (state_in m1)) c.as_str.result.now made contents (c.as_str.ensures.value ∙ suits.active) sound in
    let one = c.in_ok-settle_root.ensures.served honest (active_can (state_in m0) contents plan c.as_str.result.now tidy sound suits c.as_str.ensures.value) in
    let folders = folders_there (state_in m1) (with_active contents) c.deref.result.now (g.met.D.Disk.housed c.settle_root.new.disk honest) on (ap (map string_bytes) c.deref.ensures.value ∙ suits.folders) in
    let files = all_to (λ file. IsFile (state_in m1 (string_bytes file)).now) (λ file. IsFile (state_in m2 (string_bytes file)).now) c.deref-2.result.now (λ (file : String Global) is. subst IsFile (sym (c.in_ok-sync_folders.ensures.same honest (string_bytes file))) is)
    (files_there (standing (state_in m1)) contents c.deref-2.result.now on (ap (map string_bytes) c.deref-2.ensures.value ∙ suits.whole)) in
    let right = right_then (state_in m0) (state_in m1) (state_in m2) (state_in m3) contents plan c.deref-3.result.now c.deref-3.ensures.value suits
    (subst (IsOpened (standing (state_in m0)) (standing (state_in m1))) c.as_str.ensures.value made) (c.in_ok-sync_folders.ensures.same honest) (c.in_ok-sync_files.ensures.same honest) in
    c.end_files.ensures.served honest (with_active contents) right ∙ c.in_ok-sync_files.ensures.served honest files ∙ c.in_ok-sync_folders.ensures.served honest folders ∙ one

pub returns-clause-elsewhere : goal.returns-clause-elsewhere
returns-clause-elsewhere g c honest q active whole ends =
    ap (λ (p : Place). p.now) (c.end_files.ensures.elsewhere honest q (subst (All (λ (e : FileEnd). q ≢ string_bytes e.name)) (sym c.deref-3.ensures.value) ends))
    ∙ ap (λ (p : Place). p.now) (c.in_ok-sync_files.ensures.elsewhere honest q (subst (All (λ (file : String Global). q ≢ string_bytes file)) (sym c.deref-2.ensures.value) whole))
    ∙ c.in_ok-sync_folders.ensures.same honest q ∙ c.in_ok-settle_root.ensures.elsewhere honest q (λ is. active (is ∙ c.as_str.ensures.value))

pub returns-in_err-sync_folders-clause-amid : goal.returns-in_err-sync_folders-clause-amid
returns-in_err-sync_folders-clause-amid g c honest contents sound suits base pending holds =
    let m : _ → Meaning = g.D.Disk.meaning in
    let named = c.as_str.ensures.value ∙ suits.active in
    amid_images base pending (m c.args.disk.now) (m c.settle_root.new.disk) (m c.sync_folders.new.disk) (c.in_ok-settle_root.ensures.amid honest contents sound base pending holds named) (c.in_err-sync_folders.ensures.any_moment honest)

pub returns-in_err-sync_files-clause-amid : goal.returns-in_err-sync_files-clause-amid
returns-in_err-sync_files-clause-amid g c honest contents sound suits base pending holds =
    let m : _ → Meaning = g.D.Disk.meaning in
    let m0 = m c.args.disk.now in
    let m1 = m c.settle_root.new.disk in
    let m2 = m c.sync_folders.new.disk in
    let named = c.as_str.ensures.value ∙ suits.active in
    amid_images base pending m0 m2 (m c.sync_files.new.disk) (amid_images base pending m0 m1 m2 (c.in_ok-settle_root.ensures.amid honest contents sound base pending holds named) (c.in_ok-sync_folders.ensures.any_moment honest)) (c.in_err-sync_files.ensures.any_moment honest)

pub returns-clause-amid : goal.returns-clause-amid
returns-clause-amid g c honest contents sound suits base pending holds =
    let m : _ → Meaning = g.D.Disk.meaning in
    let m0 = m c.args.disk.now in
    let m1 = m c.settle_root.new.disk in
    let m2 = m c.sync_folders.new.disk in
    let m3 = m c.sync_files.new.disk in
    let m4 = m c.end_files.new.disk in
    let named = c.as_str.ensures.value ∙ suits.active in
    let one = c.in_ok-settle_root.ensures in
    let two = c.in_ok-sync_folders.ensures in
    let three = c.in_ok-sync_files.ensures in
    let first = one.amid honest contents sound base pending holds named in
    let second = amid_images base pending m0 m1 m2 first (two.any_moment honest) in
    let third = amid_images base pending m0 m2 m3 second (three.any_moment honest) in
    let before = prepared_amid m0 m1 m2 m3 contents c.args.plan.now sound suits base pending first c.as_str.result.now c.as_str.ensures.value (one.opened honest) (one.settled honest) (two.any_moment honest) (two.same honest) (two.still honest)
    c.deref.result.now c.deref.ensures.value (two.settled honest) (three.any_moment honest) (three.same honest) c.deref-2.result.now c.deref-2.ensures.value (three.synced honest) in
    let stood = stands_then m0 m1 m2 m3 contents c.args.plan.now sound suits c.as_str.result.now c.as_str.ensures.value (one.opened honest) (two.same honest) (three.same honest) in
    let ends = stands_by (state_in m3) (with_active contents) c.args.plan.now c.deref-3.result.now c.deref-3.ensures.value (StandsAmid base [] pending) before in
    amid_stays base pending m0 m3 m4 third (c.end_files.ensures.amid honest (with_active contents) stood ends.0 ends.1 base pending (prepared_stays (state_in m3) (with_active contents) stood base pending c.args.plan.now before))

pub returns-clause-ended : goal.returns-clause-ended
returns-clause-ended g c honest contents sound suits base pending holds =
    let m : _ → Meaning = g.D.Disk.meaning in
    let m0 = m c.args.disk.now in
    let m1 = m c.settle_root.new.disk in
    let m2 = m c.sync_folders.new.disk in
    let m3 = m c.sync_files.new.disk in
    let m4 = m c.end_files.new.disk in
    let named = c.as_str.ensures.value ∙ suits.active in
    let one = c.in_ok-settle_root.ensures in
    let two = c.in_ok-sync_folders.ensures in
    let three = c.in_ok-sync_files.ensures in
    let four = c.end_files.ensures in
    let before = prepared_amid m0 m1 m2 m3 contents c.args.plan.now sound suits base pending (one.amid honest contents sound base pending holds named) c.as_str.result.now c.as_str.ensures.value (one.opened honest) (one.settled honest) (two.any_moment honest) (two.same honest) (two.still honest)
    c.deref.result.now c.deref.ensures.value (two.settled honest) (three.any_moment honest) (three.same honest) c.deref-2.result.now c.deref-2.ensures.value (three.synced honest) in
    let stood = stands_then m0 m1 m2 m3 contents c.args.plan.now sound suits c.as_str.result.now c.as_str.ensures.value (one.opened honest) (two.same honest) (three.same honest) in
    let ends = stands_by (state_in m3) (with_active contents) c.args.plan.now c.deref-3.result.now c.deref-3.ensures.value (StandsAmid base [] pending) before in
    rested_amid base pending m3 m4 contents c.args.plan.now c.end_files.result before
    (four.amid honest (with_active contents) stood ends.0 ends.1 base pending (prepared_stays (state_in m3) (with_active contents) stood base pending c.args.plan.now before))
    (four.stands honest (with_active contents) stood ends.0 ends.1)
    (ended_by (state_in m3) (state_in m4) c.deref-3.result.now c.args.plan.now.ends.items c.deref-3.ensures.value c.end_files.result (four.ended honest (with_active contents) ends.0)) (four.synced honest) (four.older honest)

pub returns-in_err-settle_root-clause-amid : goal.returns-in_err-settle_root-clause-amid
returns-in_err-settle_root-clause-amid g c honest contents sound suits base pending holds = c.in_err-settle_root.ensures.amid honest contents sound base pending holds (c.as_str.ensures.value ∙ suits.active)

pub returns-in_err-settle_root-clause-held : goal.returns-in_err-settle_root-clause-held
returns-in_err-settle_root-clause-held g c honest contents sound suits base pending holds =
    let m : _ → Meaning = g.D.Disk.meaning in
    let m0 = m c.args.disk.now in
    let m1 = m c.settle_root.new.disk in
    let named = c.as_str.ensures.value ∙ suits.active in
    let one = c.in_err-settle_root.ensures in
    held_from m0 m1 base pending (g.met.D.Disk.housed c.settle_root.new.disk honest) holds (one.amid honest contents sound base pending holds named) (either_finished (standing (state_in m1)) contents (one.stands honest contents sound named))
    c.as_str.result.now (active_of (ids_of contents.journals)) (active_small (standing (state_in m0)) (ids_of contents.journals) sound.journals.ids) named (one.there honest)

pub returns-in_err-sync_folders-clause-held : goal.returns-in_err-sync_folders-clause-held
returns-in_err-sync_folders-clause-held g c honest contents sound suits base pending holds =
    let m : _ → Meaning = g.D.Disk.meaning in
    let m0 = m c.args.disk.now in
    let m1 = m c.settle_root.new.disk in
    let m2 = m c.sync_folders.new.disk in
    let named = c.as_str.ensures.value ∙ suits.active in
    let one = c.in_ok-settle_root.ensures in
    let two = c.in_err-sync_folders.ensures in
    held_from m0 m2 base pending (g.met.D.Disk.housed c.sync_folders.new.disk honest) holds (amid_images base pending m0 m1 m2 (one.amid honest contents sound base pending holds named) (two.any_moment honest))
    (sound_along (state_in m1) (state_in m2) (two.same honest) (either_finished (standing (state_in m1)) contents (one.stands honest contents sound named)))
    c.as_str.result.now (active_of (ids_of contents.journals)) (active_small (standing (state_in m0)) (ids_of contents.journals) sound.journals.ids) named
    (inr (file_along (state_in m1) (state_in m2) c.as_str.result.now (two.same honest) (made_there (standing (state_in m0)) (standing (state_in m1)) c.as_str.result.now (one.opened honest))))

pub returns-in_err-sync_files-clause-held : goal.returns-in_err-sync_files-clause-held
returns-in_err-sync_files-clause-held g c honest contents sound suits base pending holds =
    let m : _ → Meaning = g.D.Disk.meaning in
    let m0 = m c.args.disk.now in
    let m1 = m c.settle_root.new.disk in
    let m2 = m c.sync_folders.new.disk in
    let m3 = m c.sync_files.new.disk in
    let named = c.as_str.ensures.value ∙ suits.active in
    let one = c.in_ok-settle_root.ensures in
    let two = c.in_ok-sync_folders.ensures in
    let three = c.in_err-sync_files.ensures in
    held_from m0 m3 base pending (g.met.D.Disk.housed c.sync_files.new.disk honest) holds
    (amid_images base pending m0 m2 m3 (amid_images base pending m0 m1 m2 (one.amid honest contents sound base pending holds named) (two.any_moment honest)) (three.any_moment honest))
    (sound_synced (state_in m2) (state_in m3) (three.same honest) (sound_along (state_in m1) (state_in m2) (two.same honest) (either_finished (standing (state_in m1)) contents (one.stands honest contents sound named))))
    c.as_str.result.now (active_of (ids_of contents.journals)) (active_small (standing (state_in m0)) (ids_of contents.journals) sound.journals.ids) named
    (inr (file_synced (state_in m2) (state_in m3) c.as_str.result.now (three.same honest) (file_along (state_in m1) (state_in m2) c.as_str.result.now (two.same honest) (made_there (standing (state_in m0)) (standing (state_in m1)) c.as_str.result.now (one.opened honest)))))

pub returns-clause-held : goal.returns-clause-held
returns-clause-held g c honest contents sound suits base pending holds =
    let m : _ → Meaning = g.D.Disk.meaning in
    let m0 = m c.args.disk.now in
    let m1 = m c.settle_root.new.disk in
    let m2 = m c.sync_folders.new.disk in
    let m3 = m c.sync_files.new.disk in
    let m4 = m c.end_files.new.disk in
    let active = c.as_str.result.now in
    let named = c.as_str.ensures.value ∙ suits.active in
    let one = c.in_ok-settle_root.ensures in
    let two = c.in_ok-sync_folders.ensures in
    let three = c.in_ok-sync_files.ensures in
    let first = one.amid honest contents sound base pending holds named in
    let third = amid_images base pending m0 m2 m3 (amid_images base pending m0 m1 m2 first (two.any_moment honest)) (three.any_moment honest) in
    let before = prepared_amid m0 m1 m2 m3 contents c.args.plan.now sound suits base pending first active c.as_str.ensures.value (one.opened honest) (one.settled honest) (two.any_moment honest) (two.same honest) (two.still honest)
    c.deref.result.now c.deref.ensures.value (two.settled honest) (three.any_moment honest) (three.same honest) c.deref-2.result.now c.deref-2.ensures.value (three.synced honest) in
    let stood = stands_then m0 m1 m2 m3 contents c.args.plan.now sound suits active c.as_str.ensures.value (one.opened honest) (two.same honest) (three.same honest) in
    let ends = stands_by (state_in m3) (with_active contents) c.args.plan.now c.deref-3.result.now c.deref-3.ensures.value (StandsAmid base [] pending) before in
    let last = c.end_files.ensures.amid honest (with_active contents) stood ends.0 ends.1 base pending (prepared_stays (state_in m3) (with_active contents) stood base pending c.args.plan.now before) in
    let id = active_of (ids_of contents.journals) in
    let small = active_small (standing (state_in m0)) (ids_of contents.journals) sound.journals.ids in
    held_at_end m0 m3 m4 base pending (g.met.D.Disk.housed c.end_files.new.disk honest) (amid_stays base pending m0 m3 m4 third last) last active id small named (settled_active (state_in m3) active id small named before.root)
    (file_synced (state_in m2) (state_in m3) active (three.same honest) (file_along (state_in m1) (state_in m2) active (two.same honest) (made_there (standing (state_in m0)) (standing (state_in m1)) active (one.opened honest))))
