use Rattle.std.proofs.Common.{ap, inl, inr, subst, sym, [], refl, ◌∙◌}
use Rattle.fjall_base.specs.Disk.{Meaning, DiskState, standing, File}
use Rattle.fjall_files.proofs.Tidying.{stays_both, stays_making, stays_none, stays_settling}
use Rattle.fjall_recovery.specs.Folders.{IsOpenable}
use Rattle.fjall_repair.proofs.MendOpened.{settle_moment, settle_sound, settle_opened, settle_settled, settle_elsewhere, still_stands}
use Rattle.fjall_repair.proofs.Amidst.{settle_amid, settle_there, still_amid}
use Rattle.fjall_repair.proofs.HeldAmid.{settle_stands}
use Rattle.fjall_repair.proofs.mending.steps.settle_root.Goals as goal

pub returns-in_err-create-clause-any_moment : goal.returns-in_err-create-clause-any_moment
returns-in_err-create-clause-any_moment g c honest contents holds named = still_stands _ _ contents holds c.args.active.now named (c.in_err-create.ensures.err honest)

pub returns-in_err-create-clause-elsewhere : goal.returns-in_err-create-clause-elsewhere
returns-in_err-create-clause-elsewhere g c honest q not = ap (λ (s : DiskState). (s q).now) (c.in_err-create.ensures.err honest).state

pub returns-clause-any_moment : goal.returns-clause-any_moment
returns-clause-any_moment g c honest contents holds named =
    let m : _ → Meaning = g.D.Disk.meaning in
    settle_moment (m c.args.disk.now) (m c.create.new.self) (m c.sync_folder.new.self) c.args.active.now (c.in_ok-create.ensures.ok honest) c.sync_folder.result (c.sync_folder.ensures.ok honest) (c.sync_folder.ensures.err honest) contents holds named

pub returns-clause-sound : goal.returns-clause-sound
returns-clause-sound g c honest contents holds named =
    let m : _ → Meaning = g.D.Disk.meaning in
    settle_sound (m c.args.disk.now) (m c.create.new.self) (m c.sync_folder.new.self) c.args.active.now (c.in_ok-create.ensures.ok honest) c.sync_folder.result (c.sync_folder.ensures.ok honest) (c.in_ok-create.ensures.file honest) contents holds named

pub returns-clause-opened : goal.returns-clause-opened
returns-clause-opened g c honest =
    let m : _ → Meaning = g.D.Disk.meaning in
    settle_opened (m c.args.disk.now) (m c.create.new.self) (m c.sync_folder.new.self) c.args.active.now (c.in_ok-create.ensures.ok honest) c.sync_folder.result (c.sync_folder.ensures.ok honest) (c.in_ok-create.ensures.file honest)

pub returns-clause-settled : goal.returns-clause-settled
returns-clause-settled g c honest = settle_settled _ _ c.sync_folder.result (c.sync_folder.ensures.ok honest)

pub returns-clause-elsewhere : goal.returns-clause-elsewhere
returns-clause-elsewhere g c honest =
    let m : _ → Meaning = g.D.Disk.meaning in
    settle_elsewhere (m c.args.disk.now) (m c.create.new.self) (m c.sync_folder.new.self) c.args.active.now (c.in_ok-create.ensures.ok honest) c.sync_folder.result (c.sync_folder.ensures.ok honest) (c.sync_folder.ensures.err honest)

pub returns-in_err-create-clause-kinds : goal.returns-in_err-create-clause-kinds
returns-in_err-create-clause-kinds g c honest fits = stays_none _ _ (c.in_err-create.ensures.err honest)

pub returns-in_err-create-clause-served : goal.returns-in_err-create-clause-served
returns-in_err-create-clause-served g c honest can = (c.in_err-create.ensures.judged honest).served can

pub returns-clause-kinds : goal.returns-clause-kinds
returns-clause-kinds g c honest fits =
    let m : _ → Meaning = g.D.Disk.meaning in
    stays_both (m c.args.disk.now) (m c.create.new.self) (m c.sync_folder.new.self) (stays_making _ _ c.args.active.now (File [] []) _ fits (c.in_ok-create.ensures.ok honest))
    (stays_settling _ _ [] c.sync_folder.result (c.sync_folder.ensures.ok honest) (c.sync_folder.ensures.err honest))

pub returns-clause-served : goal.returns-clause-served
returns-clause-served g c honest can = (c.sync_folder.ensures.judged honest).served (inl refl) ∙ (c.in_ok-create.ensures.judged honest).served can

pub returns-in_err-create-clause-amid : goal.returns-in_err-create-clause-amid
returns-in_err-create-clause-amid g c honest contents sound base pending holds named = still_amid _ c.args.active.now contents sound base pending holds named _ (c.in_err-create.ensures.err honest)

pub returns-in_err-create-clause-there : goal.returns-in_err-create-clause-there
returns-in_err-create-clause-there g c honest = inl (c.in_err-create.ensures.err honest)

pub returns-clause-amid : goal.returns-clause-amid
returns-clause-amid g c honest contents sound base pending holds named =
    let m : _ → Meaning = g.D.Disk.meaning in
    settle_amid (m c.args.disk.now) c.args.active.now contents sound base pending holds named (m c.create.new.self) (m c.sync_folder.new.self) (c.in_ok-create.ensures.ok honest) c.sync_folder.result (c.sync_folder.ensures.ok honest) (c.sync_folder.ensures.err honest)

pub returns-clause-there : goal.returns-clause-there
returns-clause-there g c honest =
    let m : _ → Meaning = g.D.Disk.meaning in
    inr (settle_there (m c.create.new.self) (m c.sync_folder.new.self) c.args.active.now (c.in_ok-create.ensures.file honest) c.sync_folder.result (c.sync_folder.ensures.ok honest) (c.sync_folder.ensures.err honest))

pub returns-in_err-create-clause-stands : goal.returns-in_err-create-clause-stands
returns-in_err-create-clause-stands g c honest contents sound named = inl (subst (λ (s : DiskState). IsOpenable (standing s) contents) (sym (c.in_err-create.ensures.err honest).state) sound)

pub returns-clause-stands : goal.returns-clause-stands
returns-clause-stands g c honest contents sound named =
    let m : _ → Meaning = g.D.Disk.meaning in
    inr (settle_stands (m c.args.disk.now) (m c.create.new.self) (m c.sync_folder.new.self) c.args.active.now (c.in_ok-create.ensures.ok honest) (c.in_ok-create.ensures.file honest) c.sync_folder.result (c.sync_folder.ensures.ok honest) (c.sync_folder.ensures.err honest) contents sound named)
