use Rattle.fjall_base.specs.Disk.{Folder, Meaning}
use Rattle.fjall_files.proofs.Under.{in_folder, under_self}
use Rattle.std.proofs.Common.{◌∙◌}
use Rattle.fjall_files.proofs.Made.{can_fill, made_home, making_within, within_both, within_none}
use Rattle.fjall_files.proofs.Tidying.{stays_both, stays_making, stays_none}
use Rattle.fjall_files.proofs.home.make_home.Goals as goal

pub returns-in_err-make_folder-clause-within : goal.returns-in_err-make_folder-clause-within
returns-in_err-make_folder-clause-within g c honest = within_none c.args.folder.now _ _ (c.in_err-make_folder.ensures.err honest)

pub returns-clause-made : goal.returns-clause-made
returns-clause-made g c honest none =
    let m : _ → Meaning = g.D.Disk.meaning in
    made_home c.args.folder.now c.args.file.now c.requires.inside (m c.args.disk.now) (m c.make_folder.new.self) (m c.make_file.new.disk) c.args.bytes.now c.make_file.result
    (c.in_ok-make_folder.ensures.named honest) none (c.in_ok-make_folder.ensures.ok honest) (c.in_ok-make_folder.ensures.folder honest) (c.make_file.ensures.made honest)
    (c.make_file.ensures.within honest c.args.file.now (under_self c.args.file.now))

pub returns-clause-within : goal.returns-clause-within
returns-clause-within g c honest =
    let m : _ → Meaning = g.D.Disk.meaning in
    within_both c.args.folder.now (m c.args.disk.now) (m c.make_folder.new.self) (m c.make_file.new.disk)
    (making_within c.args.folder.now c.args.folder.now Folder _ _ (under_self c.args.folder.now) (c.in_ok-make_folder.ensures.ok honest))
    (c.make_file.ensures.within honest c.args.folder.now (in_folder c.args.folder.now c.args.file.now (c.in_ok-make_folder.ensures.named honest) c.requires.inside))

pub returns-in_err-make_folder-clause-served : goal.returns-in_err-make_folder-clause-served
returns-in_err-make_folder-clause-served g c honest can kind = (c.in_err-make_folder.ensures.judged honest).served can

pub returns-clause-served : goal.returns-clause-served
returns-clause-served g c honest can kind =
    let m : _ → Meaning = g.D.Disk.meaning in
    c.make_file.ensures.served honest
    (can_fill c.args.folder.now c.args.file.now c.requires.inside (m c.args.disk.now) (m c.make_folder.new.self) (c.in_ok-make_folder.ensures.named honest) (c.in_ok-make_folder.ensures.ok honest) (c.in_ok-make_folder.ensures.folder honest) kind)
    ∙ (c.in_ok-make_folder.ensures.judged honest).served can

pub returns-in_err-make_folder-clause-kinds : goal.returns-in_err-make_folder-clause-kinds
returns-in_err-make_folder-clause-kinds g c honest folder file = stays_none _ _ (c.in_err-make_folder.ensures.err honest)

pub returns-clause-kinds : goal.returns-clause-kinds
returns-clause-kinds g c honest folder file =
    let m : _ → Meaning = g.D.Disk.meaning in
    stays_both (m c.args.disk.now) (m c.make_folder.new.self) (m c.make_file.new.disk) (stays_making _ _ c.args.folder.now Folder _ folder (c.in_ok-make_folder.ensures.ok honest)) (c.make_file.ensures.kinds honest file)
