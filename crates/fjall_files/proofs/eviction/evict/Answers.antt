use Rattle.std.proofs.Common.{[], ◌∷◌}
use Rattle.fjall_base.specs.Disk.{Meaning, SyncFolder, Took, removing, state_in}
use Rattle.fjall_journal.proofs.Rotating.{err_second, err_then, ok_then}
use Rattle.fjall_files.proofs.eviction.evict.Goals as goal

pub returns-clause-took : goal.returns-clause-took
returns-clause-took g c = λ h.
    let m : _ → Meaning = g.D.Disk.meaning in
    let old = m c.args.disk.now in
    ok_then c.sync_folder.result old (m c.remove.new.self) (m c.sync_folder.new.self) (removing c.args.name.now (state_in old c.args.name.now).now) (SyncFolder [] ∷ [])
    (c.in_ok-remove.ensures.ok h) (c.sync_folder.ensures.ok h)

pub returns-clause-part : goal.returns-clause-part
returns-clause-part g c = λ h.
    let m : _ → Meaning = g.D.Disk.meaning in
    let old = m c.args.disk.now in
    let new = m c.sync_folder.new.self in
    let steps = removing c.args.name.now (state_in old c.args.name.now).now in
    err_second c.sync_folder.result (Took old new []) (Took old new steps)
    (err_then c.sync_folder.result old (m c.remove.new.self) new steps (c.in_ok-remove.ensures.ok h) (c.sync_folder.ensures.err h))
