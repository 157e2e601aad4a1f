use Rattle.std.proofs.Common.{[], ◌∙◌}
use Rattle.fjall_base.specs.Disk.{File, Meaning, state_in}
use Rattle.fjall_repair.proofs.Filled.{emptied}
use Rattle.fjall_repair.proofs.Moments.{either_cut, goes_both, goes_cut, goes_made, goes_none, stays_both, stays_cut, stays_made, stays_none}
use Rattle.fjall_repair.proofs.Standing.{empty_stands}
use Rattle.fjall_files.proofs.Tidying.{stays_both as tidy_both, stays_cutting, stays_making, stays_none as tidy_none}
use Rattle.fjall_repair.proofs.BeginServed.{file_long}
use Rattle.fjall_repair.proofs.beginning.journals.empty_file.Goals as goal

pub returns-in_err-create-clause-goes : goal.returns-in_err-create-clause-goes
returns-in_err-create-clause-goes g c honest marking can = goes_none marking _ _ (c.in_err-create.ensures.err honest)

pub returns-in_err-create-clause-stays : goal.returns-in_err-create-clause-stays
returns-in_err-create-clause-stays g c honest = stays_none c.args.name.now _ _ (c.in_err-create.ensures.err honest)

pub returns-clause-goes : goal.returns-clause-goes
returns-clause-goes g c honest marking can =
    let m : _ → Meaning = g.D.Disk.meaning in
    let name = c.args.name.now in
    goes_both marking (m c.args.disk.now) (m c.create.new.self) (m c.cut_sync.new.self)
    (goes_made marking _ _ name can.no_table (File [] []) _ (empty_stands marking name [] can) (c.in_ok-create.ensures.ok honest))
    (goes_cut marking _ _ name can.no_table 0 (either_cut name 0 _ _ c.cut_sync.result (c.cut_sync.ensures.ok honest) (c.cut_sync.ensures.err honest)))

pub returns-clause-stays : goal.returns-clause-stays
returns-clause-stays g c honest =
    let m : _ → Meaning = g.D.Disk.meaning in
    let name = c.args.name.now in
    stays_both name (m c.args.disk.now) (m c.create.new.self) (m c.cut_sync.new.self)
    (stays_made name _ _ (File [] []) _ (c.in_ok-create.ensures.ok honest))
    (stays_cut name _ _ 0 (either_cut name 0 _ _ c.cut_sync.result (c.cut_sync.ensures.ok honest) (c.cut_sync.ensures.err honest)))

pub returns-clause-emptied : goal.returns-clause-emptied
returns-clause-emptied g c honest = emptied c.args.name.now _ _ c.cut_sync.result (c.cut_sync.ensures.long honest) (c.cut_sync.ensures.ok honest)

pub returns-in_err-create-clause-kinds : goal.returns-in_err-create-clause-kinds
returns-in_err-create-clause-kinds g c honest fits = tidy_none _ _ (c.in_err-create.ensures.err honest)

pub returns-in_err-create-clause-served : goal.returns-in_err-create-clause-served
returns-in_err-create-clause-served g c honest can = (c.in_err-create.ensures.judged honest).served can

pub returns-clause-kinds : goal.returns-clause-kinds
returns-clause-kinds g c honest fits =
    let m : _ → Meaning = g.D.Disk.meaning in
    let name = c.args.name.now in
    tidy_both (m c.args.disk.now) (m c.create.new.self) (m c.cut_sync.new.self) (stays_making _ _ name (File [] []) _ fits (c.in_ok-create.ensures.ok honest))
    (stays_cutting _ _ name 0 c.cut_sync.result (c.cut_sync.ensures.ok honest) (c.cut_sync.ensures.err honest))

pub returns-clause-served : goal.returns-clause-served
returns-clause-served g c honest can =
    (c.cut_sync.ensures.judged honest).served (file_long (state_in (g.D.Disk.meaning c.create.new.self) c.args.name.now).now (c.in_ok-create.ensures.file honest)) ∙ (c.in_ok-create.ensures.judged honest).served can
