use Rattle.std.proofs.Common.{refl, ◌∙◌}
use Rattle.fjall_base.specs.Disk.{Append, Meaning}
use Rattle.fjall_repair.proofs.Moments.{either_sync, goes_appended, goes_both, goes_part, goes_synced, stays_both, stays_by, stays_part, stays_synced}
use Rattle.fjall_repair.proofs.Filled.{filled}
use Rattle.fjall_repair.proofs.Backs.{append_older, part_older, sync_older}
use Rattle.fjall_base.proofs.Served.{file_stays}
use Rattle.fjall_files.proofs.Tidying.{stays_appending, stays_both as tidy_both, stays_part as tidy_part, stays_syncing}
use Rattle.fjall_repair.proofs.beginning.file.fill.Goals as goal

pub returns-in_err-append-clause-goes : goal.returns-in_err-append-clause-goes
returns-in_err-append-clause-goes g c honest marking can none = goes_part marking _ _ c.args.name.now can.no_table c.args.bytes.now can none (c.in_err-append.ensures.err honest)

pub returns-in_err-append-clause-stays : goal.returns-in_err-append-clause-stays
returns-in_err-append-clause-stays g c honest = stays_part c.args.name.now _ _ c.args.bytes.now (c.in_err-append.ensures.err honest)

pub returns-clause-goes : goal.returns-clause-goes
returns-clause-goes g c honest marking can none =
    let m : _ → Meaning = g.D.Disk.meaning in
    goes_both marking (m c.args.disk.now) (m c.append.new.self) (m c.sync.new.self)
    (goes_appended marking _ _ c.args.name.now can.no_table c.args.bytes.now can none (c.in_ok-append.ensures.ok honest))
    (goes_synced marking _ _ c.args.name.now can.no_table (either_sync c.args.name.now _ _ c.sync.result (c.sync.ensures.ok honest) (c.sync.ensures.err honest)))

pub returns-clause-stays : goal.returns-clause-stays
returns-clause-stays g c honest =
    let m : _ → Meaning = g.D.Disk.meaning in
    stays_both c.args.name.now (m c.args.disk.now) (m c.append.new.self) (m c.sync.new.self)
    (stays_by c.args.name.now _ _ (Append c.args.name.now c.args.bytes.now) refl (c.in_ok-append.ensures.ok honest))
    (stays_synced c.args.name.now _ _ (either_sync c.args.name.now _ _ c.sync.result (c.sync.ensures.ok honest) (c.sync.ensures.err honest)))

pub returns-clause-filled : goal.returns-clause-filled
returns-clause-filled g c honest none =
    let m : _ → Meaning = g.D.Disk.meaning in
    filled c.args.name.now (m c.args.disk.now) (m c.append.new.self) (m c.sync.new.self) c.args.bytes.now c.sync.result (c.in_ok-append.ensures.file honest) none (c.in_ok-append.ensures.ok honest) (c.sync.ensures.ok honest)

pub returns-in_err-append-clause-older : goal.returns-in_err-append-clause-older
returns-in_err-append-clause-older g c honest = part_older _ _ c.args.name.now c.args.bytes.now (c.in_err-append.ensures.err honest)

pub returns-clause-older : goal.returns-clause-older
returns-clause-older g c honest =
    sync_older _ _ c.args.name.now (either_sync c.args.name.now _ _ c.sync.result (c.sync.ensures.ok honest) (c.sync.ensures.err honest)) ∙ append_older _ _ c.args.name.now c.args.bytes.now (c.in_ok-append.ensures.ok honest)

pub returns-in_err-append-clause-kinds : goal.returns-in_err-append-clause-kinds
returns-in_err-append-clause-kinds g c honest = tidy_part _ _ c.args.name.now c.args.bytes.now (c.in_err-append.ensures.err honest)

pub returns-in_err-append-clause-served : goal.returns-in_err-append-clause-served
returns-in_err-append-clause-served g c honest file = (c.in_err-append.ensures.judged honest).served file

pub returns-clause-kinds : goal.returns-clause-kinds
returns-clause-kinds g c honest =
    let m : _ → Meaning = g.D.Disk.meaning in
    tidy_both (m c.args.disk.now) (m c.append.new.self) (m c.sync.new.self) (stays_appending _ _ c.args.name.now c.args.bytes.now (c.in_ok-append.ensures.ok honest))
    (stays_syncing _ _ c.args.name.now c.sync.result (c.sync.ensures.ok honest) (c.sync.ensures.err honest))

pub returns-clause-served : goal.returns-clause-served
returns-clause-served g c honest file =
    (c.sync.ensures.judged honest).served (file_stays _ _ c.args.name.now c.args.bytes.now (c.in_ok-append.ensures.ok honest) file) ∙ (c.in_ok-append.ensures.judged honest).served file
