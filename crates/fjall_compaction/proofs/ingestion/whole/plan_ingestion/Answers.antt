use Rattle.std.proofs.Common.{◌≡◌, ◌++◌, ◌∙◌, ℕ, List, Err, ap, arith, refl, rules, subst, sym}
use Rattle.fjall_base.specs.declared.error.Error.TheVariants.{OutOfMemory}
use Rattle.fjall_table_reader.specs.Readers.{Reader}
use Rattle.fjall_compaction.specs.FlushPlans.{AreReadersOf, IsNamed}
use Rattle.fjall_jobs.specs.declared.made_table.MadeTable.{MadeTable}
use Rattle.fjall_jobs.specs.Sequences.{AreMadeTables}
use Rattle.fjall_tree.specs.Ingestions.{has_memory}
use Rattle.fjall_tree.specs.Shapes.{shape_of}
use Rattle.fjall_manifest.specs.Records.{Fields, view}
use Rattle.fjall_compaction.specs.IngestionPlans.{IsIngestPlan, IsIngestRefusal}
use Rattle.fjall_compaction.specs.Whole.{last_flushed, memory_flush}
use Rattle.fjall_compaction.proofs.Preparing.{all_fit, all_read, own_refused, placed_whole}
use Rattle.fjall_compaction.proofs.ingestion.whole.plan_ingestion.Goals as goal

-- memory isn't flushed
pub returns-in_err-memory-clause-cause : goal.returns-in_err-memory-clause-cause
returns-in_err-memory-clause-cause c =
    let is : c.from_residual.result ≡ Err c.in_err-memory.field-0.0 = search rules in
    rw is (c.in_err-memory.ensures.cause c.args.number c.args.items.now c.min.ensures)

-- the ingestion isn't planned behind it
pub returns-in_err-own-clause-cause : goal.returns-in_err-own-clause-cause
returns-in_err-own-clause-cause c =
    let shape = shape_of c.args.tree.now in
    let last = view c.args.last.now in
    let flushes = c.in_ok-memory.memory.tables.items in
    let says : view c.flushed_record-flushed.result.now ≡ last_flushed shape flushes last = c.flushed_record-flushed.ensures (has_memory shape.memory) c.args.id (memory_flush shape flushes)
    c.in_ok-memory.ensures.writes in
    let is : c.from_residual-in_err-own.result ≡ Err c.in_err-own.field-0.0 = search rules in
    rw is (own_refused shape c.args.id c.args.watermark c.args.number c.args.items.now last flushes c.in_ok-memory.ensures.made c.in_ok-memory.ensures.nothing c.in_err-own.field-0.0
    (subst (λ (l : Fields). IsIngestRefusal c.args.number c.args.items.now l c.in_err-own.field-0.0) says c.in_err-own.ensures.cause))

-- memory runs out once both are planned
pub returns-in_err-readers-clause-cause : goal.returns-in_err-readers-clause-cause
returns-in_err-readers-clause-cause c =
    let shape = shape_of c.args.tree.now in
    let flushes = c.in_ok-memory.memory.tables.items in
    let says = c.flushed_record-flushed.ensures (has_memory shape.memory) c.args.id (memory_flush shape flushes) c.in_ok-memory.ensures.writes in
    let flushed = c.in_ok-memory.ensures.made in
    let only : c.in_err-readers.field-0.0 ≡ OutOfMemory = c.in_err-readers.ensures.only flushed.lists flushed.made in
    let is : c.from_residual-in_err-readers.result ≡ Err OutOfMemory = search rules in
    rw is (placed_whole shape c.args.id c.args.watermark c.args.number c.args.items.now (view c.args.last.now) flushes c.in_ok-own.own (view c.flushed_record-flushed.result.now) says
    c.in_ok-own.ensures.ok)

pub returns-in_err-behind-clause-cause : goal.returns-in_err-behind-clause-cause
returns-in_err-behind-clause-cause c =
    let shape = shape_of c.args.tree.now in
    let flushes = c.in_ok-memory.memory.tables.items in
    let says = c.flushed_record-flushed.ensures (has_memory shape.memory) c.args.id (memory_flush shape flushes) c.in_ok-memory.ensures.writes in
    let made = c.in_ok-own.ensures.ok.tables in
    let read = subst (λ (l : List MadeTable). AreMadeTables l made.0) (sym c.deref.ensures.value) made.1 in
    let only : c.in_err-behind.field-0.0 ≡ OutOfMemory = c.in_err-behind.ensures.only made.0 read in
    let is : c.from_residual-in_err-behind.result ≡ Err OutOfMemory = search rules in
    rw is (placed_whole shape c.args.id c.args.watermark c.args.number c.args.items.now (view c.args.last.now) flushes c.in_ok-own.own (view c.flushed_record-flushed.result.now) says
    c.in_ok-own.ensures.ok)

pub returns-in_err-append-clause-cause : goal.returns-in_err-append-clause-cause
returns-in_err-append-clause-cause c =
    let shape = shape_of c.args.tree.now in
    let flushes = c.in_ok-memory.memory.tables.items in
    let says = c.flushed_record-flushed.ensures (has_memory shape.memory) c.args.id (memory_flush shape flushes) c.in_ok-memory.ensures.writes in
    let is : c.from_residual-in_err-append.result ≡ Err OutOfMemory = search rules in
    rw is (placed_whole shape c.args.id c.args.watermark c.args.number c.args.items.now (view c.args.last.now) flushes c.in_ok-own.own (view c.flushed_record-flushed.result.now) says
    c.in_ok-own.ensures.ok)

pub returns-in_err-room-clause-cause : goal.returns-in_err-room-clause-cause
returns-in_err-room-clause-cause c =
    let shape = shape_of c.args.tree.now in
    let flushes = c.in_ok-memory.memory.tables.items in
    let says = c.flushed_record-flushed.ensures (has_memory shape.memory) c.args.id (memory_flush shape flushes) c.in_ok-memory.ensures.writes in
    let is : c.from_residual-in_err-room.result ≡ Err OutOfMemory = search rules in
    rw is (placed_whole shape c.args.id c.args.watermark c.args.number c.args.items.now (view c.args.last.now) flushes c.in_ok-own.own (view c.flushed_record-flushed.result.now) says
    c.in_ok-own.ensures.ok)

pub returns-in_err-clears-clause-cause : goal.returns-in_err-clears-clause-cause
returns-in_err-clears-clause-cause c =
    let shape = shape_of c.args.tree.now in
    let flushes = c.in_ok-memory.memory.tables.items in
    let says = c.flushed_record-flushed.ensures (has_memory shape.memory) c.args.id (memory_flush shape flushes) c.in_ok-memory.ensures.writes in
    let is : c.from_residual-in_err-clears.result ≡ Err OutOfMemory = search rules in
    rw is (placed_whole shape c.args.id c.args.watermark c.args.number c.args.items.now (view c.args.last.now) flushes c.in_ok-own.own (view c.flushed_record-flushed.result.now) says
    c.in_ok-own.ensures.ok)

pub returns-clause-planned : goal.returns-clause-planned
returns-clause-planned c =
    let shape = shape_of c.args.tree.now in
    let last = view c.args.last.now in
    let id = c.args.id in
    let flushes = c.in_ok-memory.memory.tables.items in
    let nothing = c.in_ok-memory.ensures.nothing in
    let writes = c.in_ok-memory.ensures.writes in
    let f = memory_flush shape flushes in
    let some = has_memory shape.memory in
    let flushed = c.flushed_record-flushed.result.now in
    let says : view flushed ≡ last_flushed shape flushes last = c.flushed_record-flushed.ensures some id f writes in
    let plan = c.in_ok-own.ensures.ok in
    let own : IsIngestPlan id c.args.number c.args.items.now (last_flushed shape flushes last) c.in_ok-own.own =
    subst (λ (l : Fields). IsIngestPlan id c.args.number c.args.items.now l c.in_ok-own.own) says plan in
    let e = c.deref.ensures.value in
    let named = subst (λ (l : List MadeTable). IsNamed id flushed.next_table_id l c.in_ok-own.own.writes.table) (sym e) plan.planned.table in
    let first = c.in_ok-readers.ensures.readers some id last f refl refl nothing writes in
    let second = subst (λ (l : List MadeTable). AreReadersOf id flushed.next_table_id l c.in_ok-behind.behind.items) e (c.in_ok-behind.ensures.readers id named) in
    let behind : AreReadersOf id (last_flushed shape flushes last).next_table_id c.in_ok-own.own.tables.items c.in_ok-behind.behind.items =
    subst (λ (l : Fields). AreReadersOf id l.next_table_id c.in_ok-own.own.tables.items c.in_ok-behind.behind.items) says second in
    let read : AreReadersOf id last.next_table_id (flushes ++ c.in_ok-own.own.tables.items) c.append.new.self.items =
    subst (λ (l : List Reader). AreReadersOf id last.next_table_id (flushes ++ c.in_ok-own.own.tables.items) l) (sym c.in_ok-append.ensures.items)
    (all_read shape id last flushes c.in_ok-own.own.tables.items c.in_ok-readers.readers.items c.in_ok-behind.behind.items nothing first behind) in
    let fit = all_fit shape id c.args.number c.args.items.now last flushes c.in_ok-own.own nothing own in record {
      keyspace = refl;
      makes = record { flushed = c.in_ok-memory.ensures.made; are = plan.tables; infos = read.infos };
      memory = writes;
      nothing = nothing;
      own = own;
      read = read;
      fits = λ small. fit;
      clears = c.in_ok-clears.ensures.clears ∙ ap (λ (l : List ℕ). shape.clears ++ l) (c.deref-2.ensures.value ∙ c.in_ok-memory.ensures.clears);
      empty = c.in_ok-room.ensures.empty;
      room = let len = c.len.ensures in let room = c.in_ok-room.ensures.room in let ok = c.append.new.self.ok in omega (arith, len, room, ok);
    }
