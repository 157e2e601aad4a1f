use Rattle.std.proofs.Common.{List, subst, sym}
use Rattle.std.specs.Result.{IfOk}
use Rattle.fjall_table_reader.specs.Readers.{Reader}
use Rattle.fjall_compaction.specs.FlushPlans.{AreReadersOf, IsNamed}
use Rattle.fjall_compaction.proofs.FlushReading.{no_reader}
use Rattle.fjall_jobs.specs.declared.made_table.MadeTable.{MadeTable}
use Rattle.fjall_jobs.specs.Sequences.{AreMadeTables}
use Rattle.fjall_compaction.specs.Planned.{IsMemoryPlan}
use Rattle.fjall_compaction.proofs.Preparing.{named_here, none_here}
use Rattle.fjall_compaction.proofs.ingestion.whole.memory_readers.Goals as goal

pub returns-in-Some-clause-readers : goal.returns-in-Some-clause-readers
returns-in-Some-clause-readers c flushes id last f at same none planned =
    let e = c.deref.ensures.value in
    let named = named_here flushes id c.args.next last f c.args.memory.now.tables.items c.in-Some.writes at same (subst (IsMemoryPlan flushes id last f) c.in-Some.is planned) in
    subst (λ (ts : List MadeTable). IfOk c.table_readers.result (λ readers. AreReadersOf id c.args.next ts readers.items)) e
    (c.table_readers.ensures.readers id (subst (λ (ts : List MadeTable). IsNamed id c.args.next ts c.in-Some.writes.table) (sym e) named))

pub returns-in-Some-clause-only : goal.returns-in-Some-clause-only
returns-in-Some-clause-only c lists made = c.table_readers.ensures.only lists (subst (λ (ts : List MadeTable). AreMadeTables ts lists) (sym c.deref.ensures.value) made)

pub returns-in-None-clause-readers : goal.returns-in-None-clause-readers
returns-in-None-clause-readers c flushes id last f at same none planned =
    let tables = c.args.memory.now.tables.items in
    subst (λ (rs : List Reader). AreReadersOf id c.args.next tables rs) (sym c.new.ensures.items)
    (no_reader id c.args.next tables (none_here flushes id last f tables none (subst (IsMemoryPlan flushes id last f) c.in-None.is planned)))
