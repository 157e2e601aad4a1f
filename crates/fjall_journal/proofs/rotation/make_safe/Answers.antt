use Rattle.std.proofs.Common.{[], ◌∷◌, ◌⊎◌}
use Rattle.fjall_base.specs.Disk.{Meaning, Sync, SyncFolder, Took}
use Rattle.fjall_journal.specs.Writer.{making_file, making_synced}
use Rattle.fjall_journal.proofs.Writing.{took_then}
use Rattle.fjall_journal.proofs.Rotating.{err_second, err_then, free_made, ok_then}
use Rattle.fjall_journal.proofs.rotation.make_safe.Goals as goal

pub returns-clause-took : goal.returns-clause-took
returns-clause-took g c = λ h.
    let m : _ → Meaning = g.D.Disk.meaning in
    let old = m c.args.disk.now in
    ok_then c.sync_folder.result old (m c.sync.new.self) (m c.sync_folder.new.self) (making_synced old c.args.name.now) (SyncFolder [] ∷ [])
    (took_then old (m c.create.new.self) (m c.sync.new.self) (making_file old c.args.name.now) (Sync c.args.name.now ∷ []) (c.in_ok-create.ensures.ok h) (c.in_ok-sync.ensures.ok h))
    (c.sync_folder.ensures.ok h)

pub returns-clause-part : goal.returns-clause-part
returns-clause-part g c = λ h.
    let m : _ → Meaning = g.D.Disk.meaning in
    let old = m c.args.disk.now in
    let new = m c.sync_folder.new.self in
    let name = c.args.name.now in
    let first = took_then old (m c.create.new.self) (m c.sync.new.self) (making_file old name) (Sync name ∷ []) (c.in_ok-create.ensures.ok h) (c.in_ok-sync.ensures.ok h) in
    err_second c.sync_folder.result (Took old new []) (Took old new (making_file old name) ⊎ Took old new (making_synced old name))
    (err_second c.sync_folder.result (Took old new (making_file old name)) (Took old new (making_synced old name))
    (err_then c.sync_folder.result old (m c.sync.new.self) new (making_synced old name) first (c.sync_folder.ensures.err h)))

pub returns-clause-free : goal.returns-clause-free
returns-clause-free g c = λ h.
    let m : _ → Meaning = g.D.Disk.meaning in
    free_made c.sync_folder.result (m c.args.disk.now) (m c.create.new.self) c.args.name.now (c.in_ok-create.ensures.ok h) (c.in_ok-create.ensures.file h)
