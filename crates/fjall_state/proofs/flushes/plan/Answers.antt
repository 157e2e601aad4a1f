use Rattle.std.proofs.Common.{◌≡◌, ℕ, List, rules, subst, sym}
use Rattle.fjall_base.specs.declared.error.Error.TheVariants.{OutOfMemory}
use Rattle.fjall_compaction.specs.Flushes.{flush_of, record_after_flush}
use Rattle.fjall_compaction.specs.FlushPlans.{AreReadersOf, IsNamed}
use Rattle.fjall_compaction.proofs.Room.{fits_placed}
use Rattle.fjall_manifest.specs.Records.{view}
use Rattle.fjall_jobs.specs.declared.made_table.MadeTable.{MadeTable}
use Rattle.fjall_jobs.specs.Made.{flush_tables}
use Rattle.fjall_jobs.specs.Sequences.{AreMadeTables}
use Rattle.fjall_machine.specs.Finishing.{keyspace_of}
use Rattle.fjall_machine.proofs.Planning.{memory_ran_out}
use Rattle.fjall_state.proofs.flushes.plan.Goals as goal

pub returns-in_err-readers-clause-cause : goal.returns-in_err-readers-clause-cause
returns-in_err-readers-clause-cause c =
    let only : c.in_err-readers.field-0.0 ≡ OutOfMemory = memory_ran_out c.args.made.now c.in_err-readers.field-0.0
    (λ lists made. c.in_err-readers.ensures.only lists (subst (λ (l : List MadeTable). AreMadeTables l lists) (sym c.tables.ensures.value) made)) in
    let place = fits_placed (record_after_flush (flush_of c.args.number c.args.made.now) (view c.args.last.now)) c.in_ok-writes.ensures.ok.fits in
    search rules

pub returns-clause-readers : goal.returns-clause-readers
returns-clause-readers c =
    let id = keyspace_of c.args.made.now in
    let next = c.args.last.now.next_table_id in
    let named = subst (λ (k : ℕ). IsNamed k next (flush_tables c.args.made.now) c.in_ok-writes.writes.table) c.keyspace_id.ensures c.in_ok-writes.ensures.ok.table in
    let e = c.tables.ensures.value in
    subst (λ (l : List MadeTable). AreReadersOf id next l c.in_ok-readers.readers.items) e
    (c.in_ok-readers.ensures.readers id (subst (λ (l : List MadeTable). IsNamed id next l c.in_ok-writes.writes.table) (sym e) named))
