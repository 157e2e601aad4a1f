use Rattle.std.proofs.Common.{◌++◌, ◌∙◌, List, ℕ, length, subst, arith}
use Rattle.fjall_base.specs.Disk.{IsNoFolder, Meaning, state_in}
use Rattle.fjall_files.specs.Names.{IsNameOf, current_name, keyspace_folder}
use Rattle.fjall_files.proofs.Made.{within_both}
use Rattle.fjall_files.proofs.Tidying.{stays_both}
use Rattle.fjall_memtable.specs.Sorted.{flat}
use Rattle.fjall_compaction.specs.Flushes.{flush_with, home_after}
use Rattle.fjall_compaction.proofs.Beside as Beside
use Rattle.fjall_compaction.proofs.Naming.{files_at}
use Rattle.fjall_compaction.proofs.NewTables.{few_named, one_folder}
use Rattle.fjall_compaction.proofs.Putting.{flush_put}
use Rattle.fjall_compaction.proofs.Written as Written
use Rattle.fjall_compaction.proofs.flush.writing.write_tables.Goals as goal

-- ---- the table wasn't written

pub returns-in_err-put_tables-clause-within : goal.returns-in_err-put_tables-clause-within
returns-in_err-put_tables-clause-within g c honest id number clears last is =
    c.in_err-put_tables.ensures.within honest id last.next_table_id
    (files_at _ _ _ _ _ (is.folder.0, c.deref.ensures ∙ is.folder.1) (c.new_files.ensures id last.next_table_id c.args.tables.now is.table))

pub returns-in_err-put_tables-clause-any_moment : goal.returns-in_err-put_tables-clause-any_moment
returns-in_err-put_tables-clause-any_moment g c honest records t id number clears h versions lists lies at is follows =
    let m : _ → Meaning = g.D.Disk.meaning in
    let next = Written.flush_next (m c.args.disk.now) records t id number c.args.tables.now clears h versions lists c.args.plan.now lies at is follows in
    let new = files_at _ _ _ _ _ (is.folder.0, c.deref.ensures ∙ is.folder.1) (c.new_files.ensures id h.last.next_table_id c.args.tables.now is.table) in
    Written.put _ _ _ _ _ _ _ _ next (m c.put_tables.new.disk) (c.in_err-put_tables.ensures.within honest id h.last.next_table_id new)
    (c.in_err-put_tables.ensures.any_moment honest id next.home.safe.records h next.home.safe.rests new)

pub returns-in_err-put_tables-clause-served : goal.returns-in_err-put_tables-clause-served
returns-in_err-put_tables-clause-served g c honest records t id number clears h versions lists lies at is follows no_folder =
    let m : _ → Meaning = g.D.Disk.meaning in
    let next = Written.flush_next (m c.args.disk.now) records t id number c.args.tables.now clears h versions lists c.args.plan.now lies at is follows in
    let new = files_at _ _ _ _ _ (is.folder.0, c.deref.ensures ∙ is.folder.1) (c.new_files.ensures id h.last.next_table_id c.args.tables.now is.table) in
    c.in_err-put_tables.ensures.served honest id next.home.safe.records h next.home.safe.rests new (one_folder (m c.args.disk.now) id h.last.next_table_id c.args.tables.now c.args.plan.now.table is.table no_folder)

pub returns-in_err-put_tables-clause-beside : goal.returns-in_err-put_tables-clause-beside
returns-in_err-put_tables-clause-beside g c honest id number clears last is =
    let new = files_at _ _ _ _ _ (is.folder.0, c.deref.ensures ∙ is.folder.1) (c.new_files.ensures id last.next_table_id c.args.tables.now is.table) in
    let m : _ → Meaning = g.D.Disk.meaning in
    let few = few_named id last.next_table_id c.args.tables.now c.args.plan.now.table is.table in
    Beside.few_beside id last.next_table_id (length c.args.tables.now) (m c.args.disk.now) (m c.put_tables.new.disk) (c.in_err-put_tables.ensures.beside honest id last.next_table_id new) few

-- ---- the whole call

pub returns-clause-within : goal.returns-clause-within
returns-clause-within g c honest id number clears last is =
    let m : _ → Meaning = g.D.Disk.meaning in
    let new = files_at _ _ _ _ _ (is.folder.0, c.deref.ensures ∙ is.folder.1) (c.new_files.ensures id last.next_table_id c.args.tables.now is.table) in
    within_both (keyspace_folder id) (m c.args.disk.now) (m c.put_tables.new.disk) (m c.put_record.new.disk) (c.in_ok-put_tables.ensures.within honest id last.next_table_id new)
    (c.put_record.ensures.within honest id (is.current.0, c.deref-2.ensures ∙ is.current.1))

pub returns-clause-any_moment : goal.returns-clause-any_moment
returns-clause-any_moment g c honest records t id number clears h versions lists lies at is follows =
    let m : _ → Meaning = g.D.Disk.meaning in
    let f = flush_with number c.args.tables.now clears in
    let next = Written.flush_next (m c.args.disk.now) records t id number c.args.tables.now clears h versions lists c.args.plan.now lies at is follows in
    let new = files_at _ _ _ _ _ (is.folder.0, c.deref.ensures ∙ is.folder.1) (c.new_files.ensures id h.last.next_table_id c.args.tables.now is.table) in
    let current : IsNameOf current_name c.deref-2.result.now id = (is.current.0, c.deref-2.ensures ∙ is.current.1) in
    let own = next.home.safe.records in
    Written.appended _ _ _ _ _ _ _ _ next (m c.put_tables.new.disk) (m c.put_record.new.disk) (c.in_ok-put_tables.ensures.within honest id h.last.next_table_id new)
    (c.put_record.ensures.within honest id current) (c.in_ok-put_tables.ensures.any_moment honest id own h next.home.safe.rests new)
    (c.put_record.ensures.any_moment honest id own h (home_after f h) current next.record_is (c.deref-3.ensures.value ∙ is.text)
    (flush_put (state_in (m c.put_tables.new.disk)) id own f h (c.in_ok-put_tables.ensures.ok honest id own h next.home.safe.rests new)))

pub returns-clause-ok : goal.returns-clause-ok
returns-clause-ok g c honest records t id number clears h versions lists lies at is follows =
    let m : _ → Meaning = g.D.Disk.meaning in
    let f = flush_with number c.args.tables.now clears in
    let next = Written.flush_next (m c.args.disk.now) records t id number c.args.tables.now clears h versions lists c.args.plan.now lies at is follows in
    let new = files_at _ _ _ _ _ (is.folder.0, c.deref.ensures ∙ is.folder.1) (c.new_files.ensures id h.last.next_table_id c.args.tables.now is.table) in
    let current : IsNameOf current_name c.deref-2.result.now id = (is.current.0, c.deref-2.ensures ∙ is.current.1) in
    let own = next.home.safe.records in
    Written.ended _ _ _ _ _ _ _ _ next (m c.put_tables.new.disk) (m c.put_record.new.disk) c.put_record.result (c.in_ok-put_tables.ensures.within honest id h.last.next_table_id new)
    (c.put_record.ensures.within honest id current)
    (c.put_record.ensures.ok honest id own h (home_after f h) current next.record_is (c.deref-3.ensures.value ∙ is.text)
    (flush_put (state_in (m c.put_tables.new.disk)) id own f h (c.in_ok-put_tables.ensures.ok honest id own h next.home.safe.rests new)))

pub returns-clause-served : goal.returns-clause-served
returns-clause-served g c honest records t id number clears h versions lists lies at is follows no_folder =
    let m : _ → Meaning = g.D.Disk.meaning in
    let next = Written.flush_next (m c.args.disk.now) records t id number c.args.tables.now clears h versions lists c.args.plan.now lies at is follows in
    let new = files_at _ _ _ _ _ (is.folder.0, c.deref.ensures ∙ is.folder.1) (c.new_files.ensures id h.last.next_table_id c.args.tables.now is.table) in
    let own = next.home.safe.records in
    c.put_record.ensures.served honest id own h (is.current.0, c.deref-2.ensures ∙ is.current.1) (c.in_ok-put_tables.ensures.ok honest id own h next.home.safe.rests new).rests
    ∙ c.in_ok-put_tables.ensures.served honest id own h next.home.safe.rests new (one_folder (m c.args.disk.now) id h.last.next_table_id c.args.tables.now c.args.plan.now.table is.table no_folder)

pub returns-clause-kinds : goal.returns-clause-kinds
returns-clause-kinds g c honest id number clears last is =
    let new = files_at _ _ _ _ _ (is.folder.0, c.deref.ensures ∙ is.folder.1) (c.new_files.ensures id last.next_table_id c.args.tables.now is.table) in
    stays_both _ _ _ (c.in_ok-put_tables.ensures.kinds honest id last.next_table_id new) (c.put_record.ensures.kinds honest)

pub returns-clause-beside : goal.returns-clause-beside
returns-clause-beside g c honest id number clears last is =
    let m : _ → Meaning = g.D.Disk.meaning in
    let new = files_at _ _ _ _ _ (is.folder.0, c.deref.ensures ∙ is.folder.1) (c.new_files.ensures id last.next_table_id c.args.tables.now is.table) in
    let few = few_named id last.next_table_id c.args.tables.now c.args.plan.now.table is.table in
    Beside.record_beside id (m c.put_tables.new.disk) (m c.put_record.new.disk) (c.put_record.ensures.beside honest id (is.current.0, c.deref-2.ensures ∙ is.current.1)) last.next_table_id (m c.args.disk.now)
    (Beside.few_beside id last.next_table_id (length c.args.tables.now) (m c.args.disk.now) (m c.put_tables.new.disk) (c.in_ok-put_tables.ensures.beside honest id last.next_table_id new) few)

pub returns-clause-files : goal.returns-clause-files
returns-clause-files g c honest id number clears last is =
    let m : _ → Meaning = g.D.Disk.meaning in
    let new = files_at _ _ _ _ _ (is.folder.0, c.deref.ensures ∙ is.folder.1) (c.new_files.ensures id last.next_table_id c.args.tables.now is.table) in
    Beside.files_stay_then id (m c.put_tables.new.disk) (m c.put_record.new.disk) (c.put_record.ensures.beside honest id (is.current.0, c.deref-2.ensures ∙ is.current.1)) last.next_table_id c.args.tables.now
    c.put_record.result is.fits.room.next_table_id (c.in_ok-put_tables.ensures.files honest id last.next_table_id new)
