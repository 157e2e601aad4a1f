use Rattle.fjall_base.specs.Disk.{File, Meaning}
use Rattle.std.proofs.Common.{[], ◌∙◌}
use Rattle.fjall_files.proofs.Made.{made_file, making_within, within_both, within_none}
use Rattle.fjall_files.proofs.Tidying.{stays_both, stays_making, stays_none}
use Rattle.fjall_files.proofs.home.make_file.Goals as goal

pub returns-in_err-create-clause-within : goal.returns-in_err-create-clause-within
returns-in_err-create-clause-within g c honest folder under = within_none folder _ _ (c.in_err-create.ensures.err honest)

pub returns-clause-made : goal.returns-clause-made
returns-clause-made g c honest none =
    let m : _ → Meaning = g.D.Disk.meaning in
    made_file c.args.file.now (m c.args.disk.now) (m c.create.new.self) (m c.append_synced.new.disk) c.args.bytes.now c.append_synced.result none (c.in_ok-create.ensures.ok honest) (c.append_synced.ensures.took honest)

pub returns-clause-within : goal.returns-clause-within
returns-clause-within g c honest folder under =
    let m : _ → Meaning = g.D.Disk.meaning in
    within_both folder (m c.args.disk.now) (m c.create.new.self) (m c.append_synced.new.disk) (making_within folder c.args.file.now (File [] []) _ _ under (c.in_ok-create.ensures.ok honest))
    (c.append_synced.ensures.within honest folder under)

pub returns-in_err-create-clause-served : goal.returns-in_err-create-clause-served
returns-in_err-create-clause-served g c honest can = (c.in_err-create.ensures.judged honest).served can

pub returns-clause-served : goal.returns-clause-served
returns-clause-served g c honest can = c.append_synced.ensures.served honest (c.in_ok-create.ensures.file honest) ∙ (c.in_ok-create.ensures.judged honest).served can

pub returns-in_err-create-clause-kinds : goal.returns-in_err-create-clause-kinds
returns-in_err-create-clause-kinds g c honest fits = stays_none _ _ (c.in_err-create.ensures.err honest)

pub returns-clause-kinds : goal.returns-clause-kinds
returns-clause-kinds g c honest fits =
    let m : _ → Meaning = g.D.Disk.meaning in
    stays_both (m c.args.disk.now) (m c.create.new.self) (m c.append_synced.new.disk) (stays_making _ _ c.args.file.now (File [] []) _ fits (c.in_ok-create.ensures.ok honest)) (c.append_synced.ensures.kinds honest)
