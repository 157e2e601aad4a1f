use Rattle.std.proofs.Common.{sym}
use Rattle.std.proofs.lemmas.Result.{err_from_is_err_and}
use Rattle.fjall_base.specs.Disk.{Meaning}
use Rattle.fjall_changes.specs.SyncedChanges.{CreatedKeyspace}
use Rattle.fjall_journal.specs.declared.persist_mode.PersistMode.TheVariants.{SyncAll}
use Rattle.fjall_changes.proofs.KeptHomes.{persisted_homes, unpersisted_homes}
use Rattle.fjall_changes.proofs.ChangesAfterSync.{created_any, created, not_done, changed_after, sync_failed}
use Rattle.fjall_changes.proofs.synced_changes.sync_and_create_keyspace.Goals as goal

pub returns-clause-turns : goal.returns-clause-turns
returns-clause-turns g c honest old s id number is =
    let m : _ → Meaning = g.D.Disk.meaning in
    let mid = m c.sync_journal.new.disk in
    let new = m c.create_keyspace.new.disk in
    let creation = c.args.creation.now in
    let within = c.create_keyspace.ensures.within honest old s id number is in
    let leaves = c.create_keyspace.ensures.any_moment honest in
    let others = c.create_keyspace.ensures.others honest in
    let served = c.create_keyspace.ensures.served honest in
    let kinds = c.create_keyspace.ensures.kinds honest in
    changed_after (λ a b done. CreatedKeyspace a b creation done) (m c.args.disk.now) mid new c.args.journal.now c.sync_journal.new.journal c.create_keyspace.result
    (record { leaves = c.in_ok-sync_journal.ensures.any_moment honest; lies = λ _. c.in_ok-sync_journal.ensures.lies honest; elsewhere = c.in_ok-sync_journal.ensures.elsewhere honest; homes = λ out. persisted_homes c.args.journal.now (m c.args.disk.now) mid out SyncAll (c.in_ok-sync_journal.ensures.took honest); served = c.in_ok-sync_journal.ensures.served honest; kinds = c.in_ok-sync_journal.ensures.kinds honest; took = λ _. c.in_ok-sync_journal.ensures.took honest; left = λ e. not_done (sym e) })
    (created mid new creation within leaves others served kinds c.create_keyspace.result (c.create_keyspace.ensures.ok honest) (c.create_keyspace.ensures.gone honest))
    (created_any mid new creation within leaves others served kinds)

pub returns-in_err-sync_journal-clause-turns : goal.returns-in_err-sync_journal-clause-turns
returns-in_err-sync_journal-clause-turns g c honest old s id number is =
    let m : _ → Meaning = g.D.Disk.meaning in
    let p = err_from_is_err_and c.from_residual.result c.from_residual.ensures.1 in
    let failed = c.in_err-sync_journal.ensures in
    sync_failed (λ a b done. CreatedKeyspace a b c.args.creation.now done) (m c.args.disk.now) (m c.sync_journal.new.disk) c.args.journal.now c.sync_journal.new.journal c.from_residual.result p.0 p.1
    (record { leaves = failed.any_moment honest; lies = λ e. not_done e; elsewhere = failed.elsewhere honest; homes = λ out. unpersisted_homes c.args.journal.now (m c.args.disk.now) (m c.sync_journal.new.disk) out c.sync_journal.new.journal SyncAll (failed.left honest); served = failed.served honest; kinds = failed.kinds honest; took = λ e. not_done e; left = λ _. failed.left honest })
