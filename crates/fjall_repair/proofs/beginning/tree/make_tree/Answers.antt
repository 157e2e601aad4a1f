use Rattle.std.proofs.Common.{codes, false, refl, ◌∙◌}
use Rattle.fjall_base.specs.Disk.{Meaning, state_in}
use Rattle.fjall_files.proofs.Made.{within_both}
use Rattle.fjall_repair.proofs.Moments.{goes_both, stays_within}
use Rattle.fjall_repair.proofs.Trees.{current_filled, inner_still, outer_still, records_found, records_hold}
use Rattle.fjall_files.proofs.Tidying.{stays_both as tidy_both, tidy_on}
use Rattle.fjall_repair.proofs.BeginServed.{can_make_records, homes_at, homes_both, records_fit, records_no_home, records_some}
use Rattle.fjall_repair.proofs.beginning.tree.make_tree.Goals as goal

pub returns-in_err-make_folders-clause-goes : goal.returns-in_err-make_folders-clause-goes
returns-in_err-make_folders-clause-goes g c honest is found = c.in_err-make_folders.ensures.goes honest

pub returns-in_err-complete_file-clause-goes : goal.returns-in_err-complete_file-clause-goes
returns-in_err-complete_file-clause-goes g c honest is found =
    let m : _ → Meaning = g.D.Disk.meaning in
    let made = c.in_ok-make_folders.ensures in
    goes_both false (m c.args.disk.now) (m c.make_folders.new.disk) (m c.complete_file.new.disk) (made.goes honest)
    (c.in_err-complete_file.ensures.goes honest false (records_hold c.args.text.now is) (records_found c.args.found c.args.text.now (state_in (m c.args.disk.now)) (state_in (m c.make_folders.new.disk)) is (made.records honest) found))

pub returns-in_err-complete_file-clause-within : goal.returns-in_err-complete_file-clause-within
returns-in_err-complete_file-clause-within g c honest =
    let m : _ → Meaning = g.D.Disk.meaning in
    within_both (codes "keyspaces") (m c.args.disk.now) (m c.make_folders.new.disk) (m c.complete_file.new.disk) (c.in_ok-make_folders.ensures.within honest)
    (stays_within (codes "keyspaces") (codes "keyspaces/0/current") _ _ refl (c.in_err-complete_file.ensures.stays honest))

pub returns-clause-goes : goal.returns-clause-goes
returns-clause-goes g c honest is found =
    let m : _ → Meaning = g.D.Disk.meaning in
    let made = c.in_ok-make_folders.ensures in
    goes_both false (m c.args.disk.now) (m c.complete_file.new.disk) (m c.sync_folders.new.disk)
    (goes_both false (m c.args.disk.now) (m c.make_folders.new.disk) (m c.complete_file.new.disk) (made.goes honest)
    (c.in_ok-complete_file.ensures.goes honest false (records_hold c.args.text.now is) (records_found c.args.found c.args.text.now (state_in (m c.args.disk.now)) (state_in (m c.make_folders.new.disk)) is (made.records honest) found)))
    (c.sync_folders.ensures.goes honest)

pub returns-clause-within : goal.returns-clause-within
returns-clause-within g c honest =
    let m : _ → Meaning = g.D.Disk.meaning in
    within_both (codes "keyspaces") (m c.args.disk.now) (m c.complete_file.new.disk) (m c.sync_folders.new.disk)
    (within_both (codes "keyspaces") (m c.args.disk.now) (m c.make_folders.new.disk) (m c.complete_file.new.disk) (c.in_ok-make_folders.ensures.within honest)
    (stays_within (codes "keyspaces") (codes "keyspaces/0/current") _ _ refl (c.in_ok-complete_file.ensures.stays honest)))
    (c.sync_folders.ensures.within honest)

pub returns-clause-made : goal.returns-clause-made
returns-clause-made g c honest is found =
    let m : _ → Meaning = g.D.Disk.meaning in
    let made = c.in_ok-make_folders.ensures in
    let completed = c.in_ok-complete_file.ensures in
    let one = m c.make_folders.new.disk in
    let two = m c.complete_file.new.disk in
    c.sync_folders.ensures.settled honest
    (outer_still one two (completed.stays honest) (made.outer honest))
    (inner_still one two (completed.stays honest) (made.inner honest))
    (current_filled (state_in two) c.args.text.now is (completed.filled honest (records_found c.args.found c.args.text.now (state_in (m c.args.disk.now)) (state_in one) is (made.records honest) found)))

pub returns-in_err-make_folders-clause-served : goal.returns-in_err-make_folders-clause-served
returns-in_err-make_folders-clause-served g c honest tidy is found = c.in_err-make_folders.ensures.served honest tidy

pub returns-in_err-complete_file-clause-kinds : goal.returns-in_err-complete_file-clause-kinds
returns-in_err-complete_file-clause-kinds g c honest =
    let m : _ → Meaning = g.D.Disk.meaning in
    tidy_both (m c.args.disk.now) (m c.make_folders.new.disk) (m c.complete_file.new.disk) (c.in_ok-make_folders.ensures.kinds honest) (c.in_err-complete_file.ensures.kinds honest records_fit)

pub returns-in_err-complete_file-clause-homes : goal.returns-in_err-complete_file-clause-homes
returns-in_err-complete_file-clause-homes g c honest =
    let m : _ → Meaning = g.D.Disk.meaning in
    homes_both (state_in (m c.args.disk.now)) (state_in (m c.make_folders.new.disk)) (state_in (m c.complete_file.new.disk)) (c.in_ok-make_folders.ensures.homes honest)
    (homes_at (codes "keyspaces/0/current") (m c.make_folders.new.disk) (m c.complete_file.new.disk) records_no_home (c.in_err-complete_file.ensures.stays honest))

pub returns-in_err-complete_file-clause-served : goal.returns-in_err-complete_file-clause-served
returns-in_err-complete_file-clause-served g c honest tidy is found =
    let m : _ → Meaning = g.D.Disk.meaning in
    let made = c.in_ok-make_folders.ensures in
    let on = tidy_on (m c.args.disk.now) (m c.make_folders.new.disk) (made.kinds honest) tidy in
    c.in_err-complete_file.ensures.served honest (can_make_records (state_in (m c.make_folders.new.disk)) on (made.inner honest)) (records_some c.args.text.now is)
    (records_found c.args.found c.args.text.now (state_in (m c.args.disk.now)) (state_in (m c.make_folders.new.disk)) is (made.records honest) found)
    ∙ made.served honest tidy

pub returns-clause-kinds : goal.returns-clause-kinds
returns-clause-kinds g c honest =
    let m : _ → Meaning = g.D.Disk.meaning in
    tidy_both (m c.args.disk.now) (m c.complete_file.new.disk) (m c.sync_folders.new.disk)
    (tidy_both (m c.args.disk.now) (m c.make_folders.new.disk) (m c.complete_file.new.disk) (c.in_ok-make_folders.ensures.kinds honest) (c.in_ok-complete_file.ensures.kinds honest records_fit))
    (c.sync_folders.ensures.kinds honest)

pub returns-clause-homes : goal.returns-clause-homes
returns-clause-homes g c honest =
    let m : _ → Meaning = g.D.Disk.meaning in
    let two = state_in (m c.complete_file.new.disk) in
    homes_both (state_in (m c.args.disk.now)) two (state_in (m c.sync_folders.new.disk))
    (homes_both (state_in (m c.args.disk.now)) (state_in (m c.make_folders.new.disk)) two (c.in_ok-make_folders.ensures.homes honest)
    (homes_at (codes "keyspaces/0/current") (m c.make_folders.new.disk) (m c.complete_file.new.disk) records_no_home (c.in_ok-complete_file.ensures.stays honest)))
    (c.sync_folders.ensures.homes honest)

pub returns-clause-served : goal.returns-clause-served
returns-clause-served g c honest tidy is found =
    let m : _ → Meaning = g.D.Disk.meaning in
    let made = c.in_ok-make_folders.ensures in
    let completed = c.in_ok-complete_file.ensures in
    let one = m c.make_folders.new.disk in
    let two = m c.complete_file.new.disk in
    let on = tidy_on (m c.args.disk.now) one (made.kinds honest) tidy in
    c.sync_folders.ensures.served honest (outer_still one two (completed.stays honest) (made.outer honest)) (inner_still one two (completed.stays honest) (made.inner honest))
    ∙ completed.served honest (can_make_records (state_in one) on (made.inner honest)) (records_some c.args.text.now is)
    (records_found c.args.found c.args.text.now (state_in (m c.args.disk.now)) (state_in one) is (made.records honest) found)
    ∙ made.served honest tidy
