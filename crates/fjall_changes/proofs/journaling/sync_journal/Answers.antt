use Rattle.std.proofs.Common.{◌≡◌, ap, true}
use Rattle.fjall_base.specs.Disk.{LeavesOnly, Name, state_in}
use Rattle.fjall_journal.specs.Writer.{Journal}
use Rattle.fjall_recovery.specs.Halves.{is_of_keyspaces}
use Rattle.fjall_changes.specs.Journaling.{IsWriting, LeavesRoot, after_persist}
use Rattle.fjall_changes.proofs.CrashesInWrites.{persist_leaves, failed_leaves, persist_out, persist_apart, failed_apart}
use Rattle.fjall_changes.proofs.JournalFile.{writing_file}
use Rattle.fjall_changes.proofs.Results.{either_way, on_both}
use Rattle.fjall_files.specs.Tidy.{StaysTidy}
use Rattle.fjall_changes.proofs.TidyWrites.{failed_stays, persist_stays}
use Rattle.fjall_changes.proofs.journaling.sync_journal.Goals as goal

pub returns-clause-any_moment : goal.returns-clause-any_moment
returns-clause-any_moment g c = λ h j writing.
    let writer = c.args.journal.now in
    let old = g.D.Disk.meaning c.args.disk.now in
    let new = g.D.Disk.meaning c.persist.new.disk in
    either_way c.persist.result (LeavesOnly old new (LeavesRoot (state_in old) j j.later)) (c.persist.ensures.took h) (c.persist.ensures.left h)
    (persist_leaves old new writer j writing c.args.mode) (failed_leaves old new writer j writing c.persist.new.self c.args.mode)

pub returns-clause-lies : goal.returns-clause-lies
returns-clause-lies g c = λ h j writing.
    let writer = c.args.journal.now in
    let now = c.persist.new.self in
    let old = g.D.Disk.meaning c.args.disk.now in
    let new = g.D.Disk.meaning c.persist.new.disk in
    on_both c.persist.result (IsWriting (state_in new) now (after_persist c.args.mode j)) c.persist.ensures.ok (c.persist.ensures.took h)
    (λ is took. persist_out old new writer j writing c.args.mode now took (ap (λ (w : Journal). w.name) is) (ap (λ (w : Journal). w.buffer) is))

pub returns-clause-elsewhere : goal.returns-clause-elsewhere
returns-clause-elsewhere g c = λ h j writing.
    let writer = c.args.journal.now in
    let old = g.D.Disk.meaning c.args.disk.now in
    let new = g.D.Disk.meaning c.persist.new.disk in
    either_way c.persist.result ((q : Name) → is_of_keyspaces q ≡ true → state_in new q ≡ state_in old q) (c.persist.ensures.took h) (c.persist.ensures.left h)
    (persist_apart old new writer j writing c.args.mode) (failed_apart old new writer j writing c.persist.new.self c.args.mode)

pub returns-clause-served : goal.returns-clause-served
returns-clause-served g c = λ h j writing. c.persist.ensures.served h (writing_file (state_in (g.D.Disk.meaning c.args.disk.now)) c.args.journal.now j writing)

pub returns-clause-kinds : goal.returns-clause-kinds
returns-clause-kinds g c = λ h.
    let writer = c.args.journal.now in
    let old = g.D.Disk.meaning c.args.disk.now in
    let new = g.D.Disk.meaning c.persist.new.disk in
    either_way c.persist.result (StaysTidy old new) (c.persist.ensures.took h) (c.persist.ensures.left h) (persist_stays old new writer c.args.mode) (failed_stays old new writer c.persist.new.self c.args.mode)
