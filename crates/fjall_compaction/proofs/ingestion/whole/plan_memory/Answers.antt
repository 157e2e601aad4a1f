use Rattle.std.proofs.Common.{◌≡◌, ◌≤◌, ◌+◌, ◌-◌, ◌∙◌, ℕ, Bool, List, None, Err, ap, arith, length, rules, subst, sym}
use Rattle.fjall_jobs.specs.declared.made_table.MadeTable.{MadeTable}
use Rattle.fjall_jobs.specs.Tasks.{IsFlushed}
use Rattle.fjall_tree.specs.Ingestions.{memory_task}
use Rattle.fjall_tree.specs.Shapes.{shape_of}
use Rattle.fjall_memtable.specs.Parts.{clears_in, parts_of}
use Rattle.fjall_manifest.specs.Records.{view}
use Rattle.fjall_compaction.specs.Flushes.{flush_with}
use Rattle.fjall_compaction.specs.Planned.{IsMemoryPlan}
use Rattle.fjall_compaction.specs.Room.{body_len}
use Rattle.fjall_compaction.specs.Whole.{memory_flush}
use Rattle.fjall_compaction.proofs.Room.{flush_len}
use Rattle.fjall_compaction.proofs.Preparing.{few_flushed, memory_refused, nothing_flushed, nothing_there, planned_flush}
use Rattle.fjall_compaction.proofs.ingestion.whole.plan_memory.Goals as goal

-- ---- memory holds nothing

pub returns-then-not-has_memory-clause-made : goal.returns-then-not-has_memory-clause-made
returns-then-not-has_memory-clause-made c =
    let memory = (shape_of c.args.tree.now).memory in
    subst (λ (ts : List MadeTable). IsFlushed (memory_task c.args.id c.args.watermark memory) ts (clears_in (parts_of memory))) (sym c.new.ensures.items)
    (nothing_flushed c.args.id c.args.watermark memory (sym c.if-not-has_memory.ensures))

pub returns-then-not-has_memory-clause-clears : goal.returns-then-not-has_memory-clause-clears
returns-then-not-has_memory-clause-clears c = c.new-then-not-has_memory.ensures.items ∙ sym (nothing_there (shape_of c.args.tree.now).memory (sym c.if-not-has_memory.ensures)).1

pub returns-then-not-has_memory-clause-writes : goal.returns-then-not-has_memory-clause-writes
returns-then-not-has_memory-clause-writes c =
    let shape = shape_of c.args.tree.now in
    subst (λ (b : Bool). IsMemoryPlan b c.args.id (view c.args.last.now) (memory_flush shape c.new.result.items) None) c.if-not-has_memory.ensures tt

-- ---- memory holds something

pub returns-in_err-find_place-clause-cause : goal.returns-in_err-find_place-clause-cause
returns-in_err-find_place-clause-cause c n items coming =
    let shape = shape_of c.args.tree.now in
    let last = view c.args.last.now in
    let flushes = c.in_ok-tables.tables.items in
    let flushed = subst (λ (l : List ℕ). IsFlushed (memory_task c.args.id c.args.watermark shape.memory) flushes l) c.in_ok-tables.ensures.clears (c.in_ok-tables.ensures.made c.args.id) in
    let tables : c.len.result ≡ length last.tables = c.len.ensures ∙ c.args.last.now.tables.ok.0 in
    let new : c.len-2.result ≡ length flushes = c.len-2.ensures ∙ c.in_ok-tables.tables.ok.0 in
    let clears : c.len-3.result ≡ length last.clears = c.len-3.ensures ∙ c.args.last.now.clears.ok.0 in
    let more : c.len-4.result ≡ length (clears_in (parts_of shape.memory)) = c.len-4.ensures ∙ c.in_ok-tables.clears.ok.0 ∙ (λ i. length (c.in_ok-tables.ensures.clears i)) in
    let is : c.from_residual-in_err-find_place.result ≡ Err c.in_err-find_place.field-0.0 = search rules in
    rw is (memory_refused shape c.args.id c.args.watermark n items last flushes flushed (sym c.if-not-has_memory.ensures)
    (body_len (c.len.result + (c.len-2.result + c.args.coming)) (c.len-3.result + c.len-4.result)) (last.next_table_id + (c.len-2.result + c.args.coming))
    (omega (arith, tables, new, clears, more, coming)) (omega (arith, new, coming)) c.in_err-find_place.field-0.0 c.in_err-find_place.ensures.refused)

pub plan_in_place-requires-clause-place : goal.plan_in_place-requires-clause-place
plan_in_place-requires-clause-place c =
    let last = view c.args.last.now in
    let ok = c.in_ok-find_place.ensures.ok in
    let room = ok.0 in
    let left = ok.1 in
    let all = flush_len (flush_with c.saturating_sub-number.result c.deref.result.now c.deref-2.result.now) last in
    let tables : c.len.result ≡ length last.tables = c.len.ensures ∙ c.args.last.now.tables.ok.0 in
    let new : c.len-2.result ≡ length c.deref.result.now = c.len-2.ensures ∙ c.in_ok-tables.tables.ok.0 ∙ sym (λ i. length (c.deref.ensures.value i)) in
    let clears : c.len-3.result ≡ length last.clears = c.len-3.ensures ∙ c.args.last.now.clears.ok.0 in
    let more : c.len-4.result ≡ length c.deref-2.result.now = c.len-4.ensures ∙ c.in_ok-tables.clears.ok.0 ∙ sym (λ i. length (c.deref-2.ensures.value i)) in
    (omega (arith, all, room, tables, new, clears, more), omega (arith, left, new))

pub plan_in_place-requires-clause-few : goal.plan_in_place-requires-clause-few
plan_in_place-requires-clause-few c =
    subst (λ (l : List MadeTable). length l ≤ 1) (sym c.deref.ensures.value)
    (few_flushed (memory_task c.args.id c.args.watermark (shape_of c.args.tree.now).memory) c.in_ok-tables.tables.items c.in_ok-tables.clears.items (c.in_ok-tables.ensures.made c.args.id))

pub returns-clause-made : goal.returns-clause-made
returns-clause-made c =
    let memory = (shape_of c.args.tree.now).memory in
    subst (λ (l : List ℕ). IsFlushed (memory_task c.args.id c.args.watermark memory) c.in_ok-tables.tables.items l) c.in_ok-tables.ensures.clears (c.in_ok-tables.ensures.made c.args.id)

pub returns-clause-writes : goal.returns-clause-writes
returns-clause-writes c =
    let shape = shape_of c.args.tree.now in
    planned_flush c.args.id shape (view c.args.last.now) c.saturating_sub-number.result c.deref.result.now c.in_ok-tables.tables.items c.deref-2.result.now c.in_ok-tables.clears.items
    c.in_ok-writes.writes (sym c.if-not-has_memory.ensures) (c.saturating_sub-number.ensures ∙ ap (λ (k : ℕ). k - 1) c.until.ensures.until) c.deref.ensures.value c.deref-2.ensures.value
    c.in_ok-tables.ensures.clears c.in_ok-writes.ensures.ok
