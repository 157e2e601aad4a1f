use Rattle.std.proofs.Common.{◌∙◌}
use Rattle.fjall_base.specs.Disk.{Meaning}
use Rattle.fjall_base.proofs.Served.{file_stays}
use Rattle.fjall_files.proofs.Made.{appended_within, both_took, part_within, synced_within, within_both}
use Rattle.fjall_files.proofs.Tidying.{stays_appending, stays_both, stays_part, stays_syncing}
use Rattle.fjall_files.proofs.home.append_synced.Goals as goal

pub returns-in_err-append-clause-within : goal.returns-in_err-append-clause-within
returns-in_err-append-clause-within g c honest folder under = part_within folder c.args.file.now _ _ c.args.bytes.now under (c.in_err-append.ensures.err honest)

pub returns-clause-took : goal.returns-clause-took
returns-clause-took g c honest = both_took c.args.file.now _ _ _ c.args.bytes.now c.sync.result (c.in_ok-append.ensures.ok honest) (c.sync.ensures.ok honest)

pub returns-clause-within : goal.returns-clause-within
returns-clause-within g c honest folder under =
    let m : _ → Meaning = g.D.Disk.meaning in
    within_both folder (m c.args.disk.now) (m c.append.new.self) (m c.sync.new.self) (appended_within folder c.args.file.now _ _ c.args.bytes.now under (c.in_ok-append.ensures.ok honest))
    (synced_within folder c.args.file.now _ _ c.sync.result under (c.sync.ensures.ok honest) (c.sync.ensures.err honest))

pub returns-in_err-append-clause-served : goal.returns-in_err-append-clause-served
returns-in_err-append-clause-served g c honest file = (c.in_err-append.ensures.judged honest).served file

pub returns-clause-served : goal.returns-clause-served
returns-clause-served g c honest file =
    (c.sync.ensures.judged honest).served (file_stays _ _ c.args.file.now c.args.bytes.now (c.in_ok-append.ensures.ok honest) file) ∙ (c.in_ok-append.ensures.judged honest).served file

pub returns-in_err-append-clause-kinds : goal.returns-in_err-append-clause-kinds
returns-in_err-append-clause-kinds g c honest = stays_part _ _ c.args.file.now c.args.bytes.now (c.in_err-append.ensures.err honest)

pub returns-clause-kinds : goal.returns-clause-kinds
returns-clause-kinds g c honest =
    let m : _ → Meaning = g.D.Disk.meaning in
    stays_both (m c.args.disk.now) (m c.append.new.self) (m c.sync.new.self) (stays_appending _ _ c.args.file.now c.args.bytes.now (c.in_ok-append.ensures.ok honest))
    (stays_syncing _ _ c.args.file.now c.sync.result (c.sync.ensures.ok honest) (c.sync.ensures.err honest))
