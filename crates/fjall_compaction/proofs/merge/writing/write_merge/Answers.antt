use Rattle.std.proofs.Common.{◌+◌, ◌<◌, ◌^◌, ◌∙◌, List, length, subst}
use Rattle.fjall_base.specs.Disk.{Meaning, state_in}
use Rattle.fjall_files.specs.Names.{IsNameOf, current_name, keyspace_folder}
use Rattle.fjall_files.proofs.Made.{within_both}
use Rattle.fjall_files.proofs.Tidying.{stays_both}
use Rattle.fjall_jobs.specs.declared.made_table.MadeTable.{MadeTable}
use Rattle.fjall_compaction.specs.Merges.{home_after}
use Rattle.fjall_compaction.proofs.Beside as Beside
use Rattle.fjall_compaction.proofs.Naming.{merge_files, merge_room, none_given}
use Rattle.fjall_compaction.proofs.Putting.{merge_put}
use Rattle.fjall_compaction.proofs.Written as Written
use Rattle.fjall_compaction.proofs.merge.writing.write_merge.Goals as goal

-- ---- the tables weren't written

pub returns-in_err-put_tables-clause-within : goal.returns-in_err-put_tables-clause-within
returns-in_err-put_tables-clause-within g c honest id m last made is =
    c.in_err-put_tables.ensures.within honest id last.next_table_id (merge_files id last m _ _ made is _ c.deref.ensures _ c.deref-2.ensures.value)

pub returns-in_err-put_tables-clause-any_moment : goal.returns-in_err-put_tables-clause-any_moment
returns-in_err-put_tables-clause-any_moment g c honest records t id m h entries lists made lies at right is merges =
    let w : _ → Meaning = g.D.Disk.meaning in
    let next = Written.merge_next (w c.args.disk.now) records t id m h entries lists c.args.plan.now lies at right is merges in
    let new = merge_files id h.last m _ _ made is _ c.deref.ensures _ c.deref-2.ensures.value in
    Written.put _ _ _ _ _ _ _ _ next (w c.put_tables.new.disk) (c.in_err-put_tables.ensures.within honest id h.last.next_table_id new)
    (c.in_err-put_tables.ensures.any_moment honest id next.home.safe.records h next.home.safe.rests new)

pub returns-in_err-put_tables-clause-served : goal.returns-in_err-put_tables-clause-served
returns-in_err-put_tables-clause-served g c honest records t id m h entries lists made lies at right is merges none =
    let w : _ → Meaning = g.D.Disk.meaning in
    let next = Written.merge_next (w c.args.disk.now) records t id m h entries lists c.args.plan.now lies at right is merges in
    let new = merge_files id h.last m _ _ made is _ c.deref.ensures _ c.deref-2.ensures.value in
    c.in_err-put_tables.ensures.served honest id next.home.safe.records h next.home.safe.rests new (none_given (w c.args.disk.now) id h.last.next_table_id _ (merge_room id h.last m _ _ made is) none)

-- ---- the whole call

pub returns-clause-within : goal.returns-clause-within
returns-clause-within g c honest id m last made is =
    let new = merge_files id last m _ _ made is _ c.deref.ensures _ c.deref-2.ensures.value in
    within_both (keyspace_folder id) _ _ _ (c.in_ok-put_tables.ensures.within honest id last.next_table_id new) (c.put_record.ensures.within honest id (is.current.0, c.deref-3.ensures ∙ is.current.1))

pub returns-clause-any_moment : goal.returns-clause-any_moment
returns-clause-any_moment g c honest records t id m h entries lists made lies at right is merges =
    let w : _ → Meaning = g.D.Disk.meaning in
    let next = Written.merge_next (w c.args.disk.now) records t id m h entries lists c.args.plan.now lies at right is merges in
    let new = merge_files id h.last m _ _ made is _ c.deref.ensures _ c.deref-2.ensures.value in
    let current : IsNameOf current_name c.deref-3.result.now id = (is.current.0, c.deref-3.ensures ∙ is.current.1) in
    let own = next.home.safe.records in
    Written.appended _ _ _ _ _ _ _ _ next (w c.put_tables.new.disk) (w c.put_record.new.disk) (c.in_ok-put_tables.ensures.within honest id h.last.next_table_id new)
    (c.put_record.ensures.within honest id current) (c.in_ok-put_tables.ensures.any_moment honest id own h next.home.safe.rests new)
    (c.put_record.ensures.any_moment honest id own h (home_after m h) current next.record_is (c.deref-4.ensures.value ∙ is.text)
    (merge_put (state_in (w c.put_tables.new.disk)) id own m h _ made (c.in_ok-put_tables.ensures.ok honest id own h next.home.safe.rests new)))

pub returns-clause-ok : goal.returns-clause-ok
returns-clause-ok g c honest records t id m h entries lists made lies at right is merges =
    let w : _ → Meaning = g.D.Disk.meaning in
    let next = Written.merge_next (w c.args.disk.now) records t id m h entries lists c.args.plan.now lies at right is merges in
    let new = merge_files id h.last m _ _ made is _ c.deref.ensures _ c.deref-2.ensures.value in
    let current : IsNameOf current_name c.deref-3.result.now id = (is.current.0, c.deref-3.ensures ∙ is.current.1) in
    let own = next.home.safe.records in
    Written.ended _ _ _ _ _ _ _ _ next (w c.put_tables.new.disk) (w c.put_record.new.disk) c.put_record.result (c.in_ok-put_tables.ensures.within honest id h.last.next_table_id new)
    (c.put_record.ensures.within honest id current)
    (c.put_record.ensures.ok honest id own h (home_after m h) current next.record_is (c.deref-4.ensures.value ∙ is.text)
    (merge_put (state_in (w c.put_tables.new.disk)) id own m h _ made (c.in_ok-put_tables.ensures.ok honest id own h next.home.safe.rests new)))

pub returns-clause-served : goal.returns-clause-served
returns-clause-served g c honest records t id m h entries lists made lies at right is merges none =
    let w : _ → Meaning = g.D.Disk.meaning in
    let next = Written.merge_next (w c.args.disk.now) records t id m h entries lists c.args.plan.now lies at right is merges in
    let new = merge_files id h.last m _ _ made is _ c.deref.ensures _ c.deref-2.ensures.value in
    let own = next.home.safe.records in
    c.put_record.ensures.served honest id own h (is.current.0, c.deref-3.ensures ∙ is.current.1) (c.in_ok-put_tables.ensures.ok honest id own h next.home.safe.rests new).rests
    ∙ c.in_ok-put_tables.ensures.served honest id own h next.home.safe.rests new (none_given (w c.args.disk.now) id h.last.next_table_id _ (merge_room id h.last m _ _ made is) none)

pub returns-clause-kinds : goal.returns-clause-kinds
returns-clause-kinds g c honest id m last made is =
    let new = merge_files id last m _ _ made is _ c.deref.ensures _ c.deref-2.ensures.value in
    stays_both _ _ _ (c.in_ok-put_tables.ensures.kinds honest id last.next_table_id new) (c.put_record.ensures.kinds honest)

pub returns-in_err-put_tables-clause-beside : goal.returns-in_err-put_tables-clause-beside
returns-in_err-put_tables-clause-beside g c honest id m last made is =
    let new = merge_files id last m _ _ made is _ c.deref.ensures _ c.deref-2.ensures.value in
    let w : _ → Meaning = g.D.Disk.meaning in
    Beside.all_beside id last.next_table_id (length c.args.tables.now) (w c.args.disk.now) (w c.put_tables.new.disk) (c.in_err-put_tables.ensures.beside honest id last.next_table_id new) (merge_room id last m _ _ made is)

pub returns-clause-beside : goal.returns-clause-beside
returns-clause-beside g c honest id m last made is =
    let w : _ → Meaning = g.D.Disk.meaning in
    let new = merge_files id last m _ _ made is _ c.deref.ensures _ c.deref-2.ensures.value in
    Beside.record_keeps id (w c.put_tables.new.disk) (w c.put_record.new.disk) (c.put_record.ensures.beside honest id (is.current.0, c.deref-3.ensures ∙ is.current.1)) last.next_table_id
    (length c.args.tables.now) (w c.args.disk.now)
    (Beside.all_beside id last.next_table_id (length c.args.tables.now) (w c.args.disk.now) (w c.put_tables.new.disk) (c.in_ok-put_tables.ensures.beside honest id last.next_table_id new) (merge_room id last m _ _ made is))

pub returns-clause-files : goal.returns-clause-files
returns-clause-files g c honest id m last made is =
    let w : _ → Meaning = g.D.Disk.meaning in
    let new = merge_files id last m _ _ made is _ c.deref.ensures _ c.deref-2.ensures.value in
    Beside.files_stay_then id (w c.put_tables.new.disk) (w c.put_record.new.disk) (c.put_record.ensures.beside honest id (is.current.0, c.deref-3.ensures ∙ is.current.1)) last.next_table_id c.args.tables.now
    c.put_record.result (merge_room id last m _ _ made is) (c.in_ok-put_tables.ensures.files honest id last.next_table_id new)
