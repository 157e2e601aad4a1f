use Rattle.fjall_base.specs.Disk.{Folder, Meaning, removing}
use Rattle.fjall_files.proofs.Under.{under_self}
use Rattle.fjall_files.proofs.Made.{making_within, removing_within, within_both, within_none, can_fill}
use Rattle.std.proofs.Common.{◌∙◌}
use Rattle.fjall_changes.proofs.ServableCreations.{still_can}
use Rattle.fjall_changes.proofs.UnnamedHomes as Building
use Rattle.fjall_files.proofs.Tidying.{removing_tidy, stays_both, stays_by, stays_making, stays_none}
use Rattle.fjall_changes.proofs.creation.write_home.Goals as goal

pub returns-in_err-make_folder-clause-within : goal.returns-in_err-make_folder-clause-within
returns-in_err-make_folder-clause-within g c honest under = within_none c.args.folder.now _ _ (c.in_err-make_folder.ensures.err honest)

pub returns-in_err-remove-clause-within : goal.returns-in_err-remove-clause-within
returns-in_err-remove-clause-within g c honest under =
    let m : _ → Meaning = g.D.Disk.meaning in
    within_both c.args.folder.now (m c.args.disk.now) (m c.make_folder.new.self) (m c.remove.new.self)
    (making_within c.args.folder.now c.args.folder.now Folder _ _ (under_self c.args.folder.now) (c.in_ok-make_folder.ensures.ok honest))
    (within_none c.args.folder.now _ _ (c.in_err-remove.ensures.err honest))

pub returns-clause-within : goal.returns-clause-within
returns-clause-within g c honest under =
    let m : _ → Meaning = g.D.Disk.meaning in
    let folder = c.args.folder.now in
    within_both folder (m c.args.disk.now) (m c.remove.new.self) (m c.make_file.new.disk)
    (within_both folder (m c.args.disk.now) (m c.make_folder.new.self) (m c.remove.new.self) (making_within folder folder Folder _ _ (under_self folder) (c.in_ok-make_folder.ensures.ok honest))
    (removing_within folder c.args.current.now _ _ under (c.in_ok-remove.ensures.ok honest)))
    (c.make_file.ensures.within honest folder under)

pub returns-clause-made : goal.returns-clause-made
returns-clause-made g c honest inside =
    let m : _ → Meaning = g.D.Disk.meaning in
    Building.made c.args.folder.now c.args.current.now (m c.make_folder.new.self) (m c.remove.new.self) (m c.make_file.new.disk) c.args.record_text.now c.make_file.result inside
    (c.in_ok-make_folder.ensures.named honest) (c.in_ok-make_folder.ensures.folder honest) (c.in_ok-remove.ensures.ok honest) (c.make_file.ensures.made honest)
    (c.make_file.ensures.within honest c.args.current.now (under_self c.args.current.now))

pub returns-in_err-make_folder-clause-served : goal.returns-in_err-make_folder-clause-served
returns-in_err-make_folder-clause-served g c honest inside can kind = (c.in_err-make_folder.ensures.judged honest).served can

pub returns-in_err-remove-clause-served : goal.returns-in_err-remove-clause-served
returns-in_err-remove-clause-served g c honest inside can kind =
    let m : _ → Meaning = g.D.Disk.meaning in
    let first = c.in_ok-make_folder.ensures in
    let fill = can_fill c.args.folder.now c.args.current.now inside (m c.args.disk.now) (m c.make_folder.new.self) (first.named honest) (first.ok honest) (first.folder honest) kind in
    (c.in_err-remove.ensures.judged honest).served fill.kind ∙ (first.judged honest).served can

pub returns-clause-served : goal.returns-clause-served
returns-clause-served g c honest inside can kind =
    let m : _ → Meaning = g.D.Disk.meaning in
    let first = c.in_ok-make_folder.ensures in
    let fill = can_fill c.args.folder.now c.args.current.now inside (m c.args.disk.now) (m c.make_folder.new.self) (first.named honest) (first.ok honest) (first.folder honest) kind in
    c.make_file.ensures.served honest
    (still_can c.args.folder.now c.args.current.now inside (first.named honest) (m c.make_folder.new.self) (m c.remove.new.self) (c.in_ok-remove.ensures.ok honest) (first.folder honest) fill)
    ∙ (c.in_ok-remove.ensures.judged honest).served fill.kind ∙ (first.judged honest).served can

-- ---- what it puts at names

pub returns-in_err-make_folder-clause-kinds : goal.returns-in_err-make_folder-clause-kinds
returns-in_err-make_folder-clause-kinds g c honest folder file = stays_none _ _ (c.in_err-make_folder.ensures.err honest)

pub returns-in_err-remove-clause-kinds : goal.returns-in_err-remove-clause-kinds
returns-in_err-remove-clause-kinds g c honest folder file =
    let m : _ → Meaning = g.D.Disk.meaning in
    stays_both (m c.args.disk.now) (m c.make_folder.new.self) (m c.remove.new.self) (stays_making _ _ c.args.folder.now Folder _ folder (c.in_ok-make_folder.ensures.ok honest)) (stays_none _ _ (c.in_err-remove.ensures.err honest))

pub returns-clause-kinds : goal.returns-clause-kinds
returns-clause-kinds g c honest folder file =
    let m : _ → Meaning = g.D.Disk.meaning in
    stays_both (m c.args.disk.now) (m c.remove.new.self) (m c.make_file.new.disk)
    (stays_both (m c.args.disk.now) (m c.make_folder.new.self) (m c.remove.new.self) (stays_making _ _ c.args.folder.now Folder _ folder (c.in_ok-make_folder.ensures.ok honest))
    (stays_by _ _ (removing c.args.current.now _) (c.in_ok-remove.ensures.ok honest) (removing_tidy c.args.current.now _)))
    (c.make_file.ensures.kinds honest file)
