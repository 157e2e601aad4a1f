use Rattle.fjall_base.specs.Disk.{Meaning, Name, IsThere, standing, state_in}
use Rattle.std.proofs.Common.{◌∙◌, subst}
use Rattle.fjall_files.proofs.Under.{in_folder, under_self}
use Rattle.fjall_files.proofs.Made.{still_there, safe_file, settled_within, within_both}
use Rattle.fjall_files.proofs.Tidying.{stays_both, stays_settling}
use Rattle.fjall_files.proofs.home.put_file.Goals as goal

pub returns-in_err-make_file-clause-within : goal.returns-in_err-make_file-clause-within
returns-in_err-make_file-clause-within g c honest some = c.make_file.ensures.within honest c.args.folder.now (in_folder c.args.folder.now c.args.file.now some c.requires.inside)

pub returns-clause-safe : goal.returns-clause-safe
returns-clause-safe g c honest none =
    let m : _ → Meaning = g.D.Disk.meaning in
    safe_file c.args.folder.now c.args.file.now c.requires.inside (m c.args.disk.now) (m c.make_file.new.disk) (m c.sync_folder.new.self) c.args.bytes.now c.sync_folder.result
    (c.in_ok-make_file.ensures.made honest none) (c.sync_folder.ensures.ok honest)

pub returns-clause-within : goal.returns-clause-within
returns-clause-within g c honest some =
    let m : _ → Meaning = g.D.Disk.meaning in
    within_both c.args.folder.now (m c.args.disk.now) (m c.make_file.new.disk) (m c.sync_folder.new.self)
    (c.make_file.ensures.within honest c.args.folder.now (in_folder c.args.folder.now c.args.file.now some c.requires.inside))
    (settled_within c.args.folder.now _ _ c.sync_folder.result (c.sync_folder.ensures.ok honest) (c.sync_folder.ensures.err honest))

pub returns-in_err-make_file-clause-served : goal.returns-in_err-make_file-clause-served
returns-in_err-make_file-clause-served g c honest can = c.in_err-make_file.ensures.served honest can

pub returns-clause-served : goal.returns-clause-served
returns-clause-served g c honest can =
    let m : _ → Meaning = g.D.Disk.meaning in
    let there = subst (λ (f : Name). IsThere (standing (state_in (m c.args.disk.now))) f) c.requires.inside can.housed in
    (c.sync_folder.ensures.judged honest).served
    (still_there c.args.folder.now c.args.file.now c.requires.inside (m c.args.disk.now) (m c.make_file.new.disk) can.named there (c.in_ok-make_file.ensures.within honest c.args.file.now (under_self c.args.file.now)))
    ∙ c.in_ok-make_file.ensures.served honest can

pub returns-in_err-make_file-clause-kinds : goal.returns-in_err-make_file-clause-kinds
returns-in_err-make_file-clause-kinds g c honest fits = c.make_file.ensures.kinds honest fits

pub returns-clause-kinds : goal.returns-clause-kinds
returns-clause-kinds g c honest fits =
    let m : _ → Meaning = g.D.Disk.meaning in
    stays_both (m c.args.disk.now) (m c.make_file.new.disk) (m c.sync_folder.new.self) (c.make_file.ensures.kinds honest fits)
    (stays_settling _ _ c.args.folder.now c.sync_folder.result (c.sync_folder.ensures.ok honest) (c.sync_folder.ensures.err honest))
