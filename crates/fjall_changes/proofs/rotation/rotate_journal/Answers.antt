use Rattle.std.proofs.Common.{◌≡◌, ◌+◌}
use Rattle.fjall_base.specs.Disk.{state_in}
use Rattle.fjall_files.specs.Names.{journal_name}
use Rattle.fjall_journal.specs.Rotations.{empty_journal}
use Rattle.fjall_changes.proofs.CrashesInRotations.{came_so_far, lies_rotated, rotation_keeps, rotation_leaves, stays_rotated, told_rotated}
use Rattle.fjall_changes.proofs.JournalFile.{writing_file}
use Rattle.fjall_changes.proofs.Results.{on_ok}
use Rattle.fjall_changes.proofs.rotation.rotate_journal.Goals as goal

pub returns-clause-told : goal.returns-clause-told
returns-clause-told g c = told_rotated c.rotate_journal.result c.args.journals.now c.rotate_journal.new.self c.args.id.now c.args.journal.now c.args.watermarks.now c.rotate_journal.ensures.sealed

pub returns-clause-served : goal.returns-clause-served
returns-clause-served g c = λ h j writing at free.
    c.rotate_journal.ensures.served h (writing_file (state_in (g.D.Disk.meaning c.args.disk.now)) c.args.journal.now j writing) free

pub returns-clause-any_moment : goal.returns-clause-any_moment
returns-clause-any_moment g c = λ h j writing at.
    let old = g.D.Disk.meaning c.args.disk.now in
    let new = g.D.Disk.meaning c.rotate_journal.new.disk in
    rotation_leaves old new c.args.journal.now j writing
    (came_so_far c.rotate_journal.result old new c.args.journal.now c.rotate_journal.new.writer c.args.id.now c.rotate_journal.ensures.used_up c.rotate_journal.ensures.untouched
    (c.rotate_journal.ensures.took h) (c.rotate_journal.ensures.part h) j writing at)

pub returns-clause-elsewhere : goal.returns-clause-elsewhere
returns-clause-elsewhere g c = λ h j writing at.
    let old = g.D.Disk.meaning c.args.disk.now in
    let new = g.D.Disk.meaning c.rotate_journal.new.disk in
    rotation_keeps old new c.args.journal.now j writing
    (came_so_far c.rotate_journal.result old new c.args.journal.now c.rotate_journal.new.writer c.args.id.now c.rotate_journal.ensures.used_up c.rotate_journal.ensures.untouched
    (c.rotate_journal.ensures.took h) (c.rotate_journal.ensures.part h) j writing at)

pub returns-clause-lies : goal.returns-clause-lies
returns-clause-lies g c = λ h j writing at.
    let old = g.D.Disk.meaning c.args.disk.now in
    let new = g.D.Disk.meaning c.rotate_journal.new.disk in
    let now = c.rotate_journal.new.writer in
    lies_rotated c.rotate_journal.result old new c.args.journal.now now c.args.id.now c.rotate_journal.ensures.used_up c.rotate_journal.ensures.untouched
    (c.rotate_journal.ensures.took h) (c.rotate_journal.ensures.part h)
    (on_ok c.rotate_journal.result (now ≡ empty_journal (journal_name (c.args.id.now + 1))) c.rotate_journal.ensures.begun (λ begun. begun.0)) (c.rotate_journal.ensures.free h) j writing at

pub returns-clause-kinds : goal.returns-clause-kinds
returns-clause-kinds g c = λ h.
    stays_rotated c.rotate_journal.result (g.D.Disk.meaning c.args.disk.now) (g.D.Disk.meaning c.rotate_journal.new.disk) c.args.journal.now c.rotate_journal.new.writer c.args.id.now
    c.rotate_journal.ensures.used_up c.rotate_journal.ensures.untouched (c.rotate_journal.ensures.took h) (c.rotate_journal.ensures.part h)
