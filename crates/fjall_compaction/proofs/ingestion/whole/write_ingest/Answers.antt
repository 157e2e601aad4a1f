use Rattle.std.proofs.Common.{◌⊎◌, [], List, OnOk, subst}
use Rattle.fjall_base.specs.Disk.{IsNoFolder, LeavesOnly, Meaning, state_in}
use Rattle.fjall_files.specs.Calls.{AllServed}
use Rattle.fjall_files.specs.Names.{table_name}
use Rattle.fjall_compaction.specs.FlushPlans.{ForPlannedOf, HaveFiles, KeepsBeside}
use Rattle.fjall_jobs.specs.declared.made_table.MadeTable.{MadeTable}
use Rattle.fjall_recovery.specs.Halves.{HasTree}
use Rattle.fjall_recovery.specs.Places.{LiesInTree}
use Rattle.fjall_compaction.proofs.Right.{on_ingest}
use Rattle.fjall_compaction.proofs.ingestion.whole.write_ingest.Goals as goal

pub returns-clause-any_moment : goal.returns-clause-any_moment
returns-clause-any_moment g c honest =
    let m : _ → Meaning = g.D.Disk.meaning in
    on_ingest (m c.args.disk.now) c.args.plan.now c.deref.result.now c.deref.ensures.value
    (λ records t id h next. LeavesOnly (m c.args.disk.now) (m c.write_tables.new.disk) (λ image. HasTree image t ⊎ HasTree image next))
    (c.write_tables.ensures.any_moment honest)

pub returns-clause-ok : goal.returns-clause-ok
returns-clause-ok g c honest =
    let m : _ → Meaning = g.D.Disk.meaning in
    on_ingest (m c.args.disk.now) c.args.plan.now c.deref.result.now c.deref.ensures.value
    (λ records t id h next. OnOk c.write_tables.result (LiesInTree (state_in (m c.write_tables.new.disk)) records next))
    (c.write_tables.ensures.ok honest)

pub returns-clause-served : goal.returns-clause-served
returns-clause-served g c honest =
    let m : _ → Meaning = g.D.Disk.meaning in
    on_ingest (m c.args.disk.now) c.args.plan.now c.deref.result.now c.deref.ensures.value
    (λ records t id h next. IsNoFolder (state_in (m c.args.disk.now) (table_name id h.last.next_table_id)).now → AllServed (m c.args.disk.now) (m c.write_tables.new.disk))
    (c.write_tables.ensures.served honest)

pub returns-clause-beside : goal.returns-clause-beside
returns-clause-beside g c honest id number items last is =
    let m : _ → Meaning = g.D.Disk.meaning in
    subst (λ (l : List MadeTable). ForPlannedOf c.args.plan.now.writes l (λ id next. KeepsBeside id next (m c.args.disk.now) (m c.write_tables.new.disk)))
    c.deref.ensures.value (c.write_tables.ensures.beside honest) id number [] last is.planned

pub returns-clause-files : goal.returns-clause-files
returns-clause-files g c honest id number items last is =
    let m : _ → Meaning = g.D.Disk.meaning in
    subst (λ (l : List MadeTable). ForPlannedOf c.args.plan.now.writes l (λ id next. OnOk c.write_tables.result (HaveFiles (m c.write_tables.new.disk) id next l)))
    c.deref.ensures.value (c.write_tables.ensures.files honest) id number [] last is.planned
