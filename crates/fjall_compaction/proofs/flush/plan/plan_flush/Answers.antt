use Rattle.std.proofs.Common.{◌≡◌, ◌≤◌, ◌∙◌, Err, List, length, rules, subst, sym}
use Rattle.fjall_base.specs.declared.error.Error.TheVariants.{NumbersUsedUp}
use Rattle.fjall_jobs.specs.declared.made_table.MadeTable.{MadeTable}
use Rattle.fjall_manifest.specs.Records.{view}
use Rattle.fjall_compaction.specs.Flushes.{Flush, flush_of, flush_with, record_after_flush}
use Rattle.fjall_compaction.specs.FlushPlans.{IsFlushPlanRefusal}
use Rattle.fjall_compaction.specs.Room.{HasPlace, LacksNextId}
use Rattle.fjall_compaction.proofs.NewTables.{at_most_one}
use Rattle.fjall_compaction.proofs.Room.{flush_ids, flush_placed, flush_refused, memory_last}
use Rattle.fjall_compaction.proofs.flush.plan.plan_flush.Goals as goal

pub returns-in_err-find_place-clause-used_up : goal.returns-in_err-find_place-clause-used_up
returns-in_err-find_place-clause-used_up c = λ lacks.
    let f = flush_with c.args.number c.tables-tables.result.now c.clears-clears.result.now in
    let same : f ≡ flush_of c.args.number c.args.made.now = λ i. flush_with c.args.number (c.tables-tables.ensures.value i) (c.clears-clears.ensures.value i) in
    let used : c.in_err-find_place.field-0.0 ≡ NumbersUsedUp = flush_ids f (view c.args.last.now) c.len.result c.len-2.result (c.len.ensures ∙ c.args.last.now.tables.ok.0)
    (c.len-2.ensures ∙ c.args.last.now.clears.ok.0) c.in_err-find_place.field-0.0 c.in_err-find_place.ensures.refused (subst (λ (g : Flush). LacksNextId (record_after_flush g (view c.args.last.now))) (sym same) lacks) in
    search rules

pub returns-in_err-find_place-clause-cause : goal.returns-in_err-find_place-clause-cause
returns-in_err-find_place-clause-cause c =
    let f = flush_with c.args.number c.tables-tables.result.now c.clears-clears.result.now in
    let same : f ≡ flush_of c.args.number c.args.made.now = λ i. flush_with c.args.number (c.tables-tables.ensures.value i) (c.clears-clears.ensures.value i) in
    let is : c.from_residual.result ≡ Err c.in_err-find_place.field-0.0 = search rules in
    rw is (subst (λ (g : Flush). IsFlushPlanRefusal (view c.args.last.now) g c.in_err-find_place.field-0.0) same
    (flush_refused f (view c.args.last.now) c.len.result c.len-2.result (c.len.ensures ∙ c.args.last.now.tables.ok.0) (c.len-2.ensures ∙ c.args.last.now.clears.ok.0)
    c.in_err-find_place.field-0.0 c.in_err-find_place.ensures.refused))

pub plan_in_place-requires-clause-few : goal.plan_in_place-requires-clause-few
plan_in_place-requires-clause-few c = subst (λ (l : List MadeTable). length l ≤ 1) (sym c.tables-tables.ensures.value) (at_most_one c.args.made.now)

pub plan_in_place-requires-clause-place : goal.plan_in_place-requires-clause-place
plan_in_place-requires-clause-place c =
    let f = flush_with c.args.number c.tables-tables.result.now c.clears-clears.result.now in
    let ok = c.in_ok-find_place.ensures.ok in
    flush_placed f (view c.args.last.now) c.len.result c.len-2.result (c.len.ensures ∙ c.args.last.now.tables.ok.0) (c.len-2.ensures ∙ c.args.last.now.clears.ok.0) ok.0 ok.1

pub returns-clause-cause : goal.returns-clause-cause
returns-clause-cause c =
    let f = flush_with c.args.number c.tables-tables.result.now c.clears-clears.result.now in
    let same : f ≡ flush_of c.args.number c.args.made.now = λ i. flush_with c.args.number (c.tables-tables.ensures.value i) (c.clears-clears.ensures.value i) in
    let ok = c.in_ok-find_place.ensures.ok in
    let place = flush_placed f (view c.args.last.now) c.len.result c.len-2.result (c.len.ensures ∙ c.args.last.now.tables.ok.0) (c.len-2.ensures ∙ c.args.last.now.clears.ok.0) ok.0 ok.1 in
    memory_last (record_after_flush (flush_of c.args.number c.args.made.now) (view c.args.last.now)) c.plan_in_place.result (subst (λ (g : Flush). HasPlace (record_after_flush g (view c.args.last.now))) same place)
    c.plan_in_place.ensures.only
