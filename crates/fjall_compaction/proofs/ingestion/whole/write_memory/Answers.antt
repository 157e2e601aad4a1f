use Rattle.std.proofs.Common.{◌⊎◌, refl, OnOk}
use Rattle.fjall_base.specs.Disk.{LeavesOnly, Meaning, state_in}
use Rattle.fjall_files.specs.Calls.{AllServed}
use Rattle.fjall_files.specs.Names.{keyspace_folder}
use Rattle.fjall_files.specs.Regions.{Within}
use Rattle.fjall_files.specs.Tidy.{StaysTidy}
use Rattle.fjall_files.proofs.Changes.{within_start}
use Rattle.fjall_files.proofs.Tidying.{stays_start}
use Rattle.fjall_compaction.specs.FlushPlans.{HaveFiles}
use Rattle.fjall_recovery.specs.Halves.{HasTree}
use Rattle.fjall_recovery.specs.Places.{LiesInTree}
use Rattle.fjall_compaction.specs.Planned.{HasNoTableFolder, KeepsGiven}
use Rattle.fjall_compaction.proofs.Behind.{given_some, nothing_written, of_none, of_some, no_files, on_none, on_some, served_some}
use Rattle.fjall_compaction.proofs.ingestion.whole.write_memory.Goals as goal

-- ---- its writes are planned

pub returns-in-Some-clause-within : goal.returns-in-Some-clause-within
returns-in-Some-clause-within g c honest =
    let m : _ → Meaning = g.D.Disk.meaning in
    of_some c.args.memory.now c.in-Some.writes c.deref.result.now c.deref.ensures.value c.in-Some.is
    (λ l id next. Within (keyspace_folder id) (m c.args.disk.now) (m c.write_tables.new.disk)) (c.write_tables.ensures.within honest)

pub returns-in-Some-clause-any_moment : goal.returns-in-Some-clause-any_moment
returns-in-Some-clause-any_moment g c honest =
    let m : _ → Meaning = g.D.Disk.meaning in
    on_some (m c.args.disk.now) c.args.memory.now c.in-Some.writes c.deref.result.now c.deref.ensures.value c.in-Some.is
    (λ records t id h mid. LeavesOnly (m c.args.disk.now) (m c.write_tables.new.disk) (λ image. HasTree image t ⊎ HasTree image mid)) (c.write_tables.ensures.any_moment honest)

pub returns-in-Some-clause-ok : goal.returns-in-Some-clause-ok
returns-in-Some-clause-ok g c honest =
    let m : _ → Meaning = g.D.Disk.meaning in
    on_some (m c.args.disk.now) c.args.memory.now c.in-Some.writes c.deref.result.now c.deref.ensures.value c.in-Some.is
    (λ records t id h mid. OnOk c.write_tables.result (LiesInTree (state_in (m c.write_tables.new.disk)) records mid)) (c.write_tables.ensures.ok honest)

pub returns-in-Some-clause-served : goal.returns-in-Some-clause-served
returns-in-Some-clause-served g c honest =
    let m : _ → Meaning = g.D.Disk.meaning in
    served_some (m c.args.disk.now) (m c.write_tables.new.disk) c.args.memory.now c.in-Some.writes c.deref.result.now c.deref.ensures.value c.in-Some.is (c.write_tables.ensures.served honest)

pub returns-in-Some-clause-kinds : goal.returns-in-Some-clause-kinds
returns-in-Some-clause-kinds g c honest =
    let m : _ → Meaning = g.D.Disk.meaning in
    of_some c.args.memory.now c.in-Some.writes c.deref.result.now c.deref.ensures.value c.in-Some.is
    (λ l id next. StaysTidy (m c.args.disk.now) (m c.write_tables.new.disk)) (c.write_tables.ensures.kinds honest)

pub returns-in-Some-clause-beside : goal.returns-in-Some-clause-beside
returns-in-Some-clause-beside g c honest =
    let m : _ → Meaning = g.D.Disk.meaning in
    given_some c.args.memory.now c.in-Some.writes c.deref.result.now c.deref.ensures.value c.in-Some.is (m c.args.disk.now) (m c.write_tables.new.disk) (c.write_tables.ensures.beside honest)

pub returns-in-Some-clause-files : goal.returns-in-Some-clause-files
returns-in-Some-clause-files g c honest =
    let m : _ → Meaning = g.D.Disk.meaning in
    of_some c.args.memory.now c.in-Some.writes c.deref.result.now c.deref.ensures.value c.in-Some.is
    (λ l id next. OnOk c.write_tables.result (HaveFiles (m c.write_tables.new.disk) id next l)) (c.write_tables.ensures.files honest)

-- ---- memory holds nothing

pub returns-in-None-clause-within : goal.returns-in-None-clause-within
returns-in-None-clause-within g c honest =
    let m : _ → Meaning = g.D.Disk.meaning in
    of_none c.args.memory.now c.in-None.is (λ id last. Within (keyspace_folder id) (m c.args.disk.now) (m c.args.disk.now))
    (λ id last none. within_start (keyspace_folder id) (m c.args.disk.now))

pub returns-in-None-clause-any_moment : goal.returns-in-None-clause-any_moment
returns-in-None-clause-any_moment g c honest =
    let m : _ → Meaning = g.D.Disk.meaning in
    on_none (m c.args.disk.now) c.args.memory.now c.in-None.is (λ records t id h mid. LeavesOnly (m c.args.disk.now) (m c.args.disk.now) (λ image. HasTree image t ⊎ HasTree image mid))
    (λ records t id h lies. nothing_written (m c.args.disk.now) records t t lies)

pub returns-in-None-clause-ok : goal.returns-in-None-clause-ok
returns-in-None-clause-ok g c honest =
    let m : _ → Meaning = g.D.Disk.meaning in
    on_none (m c.args.disk.now) c.args.memory.now c.in-None.is (λ records t id h mid. LiesInTree (state_in (m c.args.disk.now)) records mid) (λ records t id h lies. lies)

pub returns-in-None-clause-served : goal.returns-in-None-clause-served
returns-in-None-clause-served g c honest =
    let m : _ → Meaning = g.D.Disk.meaning in
    on_none (m c.args.disk.now) c.args.memory.now c.in-None.is (λ records t id h mid. HasNoTableFolder (m c.args.disk.now) id → AllServed (m c.args.disk.now) (m c.args.disk.now))
    (λ records t id h lies none. refl)

pub returns-in-None-clause-kinds : goal.returns-in-None-clause-kinds
returns-in-None-clause-kinds g c honest =
    let m : _ → Meaning = g.D.Disk.meaning in
    of_none c.args.memory.now c.in-None.is (λ id last. StaysTidy (m c.args.disk.now) (m c.args.disk.now)) (λ id last none. stays_start (m c.args.disk.now))

pub returns-in-None-clause-beside : goal.returns-in-None-clause-beside
returns-in-None-clause-beside g c honest =
    let m : _ → Meaning = g.D.Disk.meaning in
    of_none c.args.memory.now c.in-None.is (λ id last. KeepsGiven id last.next_table_id (m c.args.disk.now) (m c.args.disk.now)) (λ id last none number below small. refl)

pub returns-in-None-clause-files : goal.returns-in-None-clause-files
returns-in-None-clause-files g c honest =
    let m : _ → Meaning = g.D.Disk.meaning in
    of_none c.args.memory.now c.in-None.is (λ id last. HaveFiles (m c.args.disk.now) id last.next_table_id c.args.memory.now.tables.items)
    (λ id last none. no_files (m c.args.disk.now) id last.next_table_id c.args.memory.now.tables.items none)
