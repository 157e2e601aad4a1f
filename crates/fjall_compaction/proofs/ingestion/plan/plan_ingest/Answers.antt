use Rattle.std.proofs.Common.{◌≡◌, ◌≤◌, ◌∙◌, Err, List, length, rules, subst, sym}
use Rattle.fjall_base.specs.declared.error.Error.TheVariants.{NumbersUsedUp, OutOfMemory}
use Rattle.fjall_compaction.proofs.NewTables.{few_made}
use Rattle.fjall_jobs.specs.declared.made_table.MadeTable.{MadeTable}
use Rattle.fjall_manifest.specs.Records.{view}
use Rattle.fjall_compaction.proofs.Refusing.{as_counted, ids_first, placed, refused}
use Rattle.fjall_compaction.proofs.ingestion.plan.plan_ingest.Goals as goal

-- ---- it has no place

pub returns-in_err-find_place-clause-used_up : goal.returns-in_err-find_place-clause-used_up
returns-in_err-find_place-clause-used_up c = λ tables counted lacks.
    let used : c.in_err-find_place.field-0.0 ≡ NumbersUsedUp = ids_first c.args.number c.args.items.now (view c.args.last.now) c.len.result c.min.result c.len-2.result
    (c.len.ensures ∙ c.args.last.now.tables.ok.0) c.min.ensures (c.len-2.ensures ∙ c.args.last.now.clears.ok.0) c.in_err-find_place.field-0.0 c.in_err-find_place.ensures.refused tables counted lacks in
    search rules

pub returns-in_err-find_place-clause-cause : goal.returns-in_err-find_place-clause-cause
returns-in_err-find_place-clause-cause c =
    let is : c.from_residual.result ≡ Err c.in_err-find_place.field-0.0 = search rules in
    rw is (refused c.args.number c.args.items.now (view c.args.last.now) c.len.result c.min.result c.len-2.result (c.len.ensures ∙ c.args.last.now.tables.ok.0) c.min.ensures
    (c.len-2.ensures ∙ c.args.last.now.clears.ok.0) c.in_err-find_place.field-0.0 c.in_err-find_place.ensures.refused)

-- ---- it has one

pub returns-in_err-tables-clause-cause : goal.returns-in_err-tables-clause-cause
returns-in_err-tables-clause-cause c =
    let ok = c.in_ok-find_place.ensures.ok in
    let is : c.from_residual-in_err-tables.result ≡ Err OutOfMemory = search rules in
    rw is (placed c.args.number c.args.items.now (view c.args.last.now) c.len.result c.min.result c.len-2.result (c.len.ensures ∙ c.args.last.now.tables.ok.0) c.min.ensures
    (c.len-2.ensures ∙ c.args.last.now.clears.ok.0) ok.0 ok.1)

pub plan_in_place-requires-clause-few : goal.plan_in_place-requires-clause-few
plan_in_place-requires-clause-few c =
    let made = c.in_ok-tables.ensures.made in
    subst (λ (l : List MadeTable). length l ≤ 1) (sym c.deref.ensures.value) (few_made c.in_ok-tables.tables.items made.0 made.1 made.2)

pub plan_in_place-requires-clause-place : goal.plan_in_place-requires-clause-place
plan_in_place-requires-clause-place c =
    let ok = c.in_ok-find_place.ensures.ok in
    let many = (λ i. length (c.deref.ensures.value i)) ∙ as_counted c.args.number c.args.items.now c.in_ok-tables.tables.items c.in_ok-tables.ensures.made in
    placed c.args.number c.args.items.now (view c.args.last.now) c.len.result c.min.result c.len-2.result (c.len.ensures ∙ c.args.last.now.tables.ok.0) c.min.ensures
    (c.len-2.ensures ∙ c.args.last.now.clears.ok.0) ok.0 ok.1 c.deref.result.now many

pub returns-in_err-writes-clause-cause : goal.returns-in_err-writes-clause-cause
returns-in_err-writes-clause-cause c =
    let ok = c.in_ok-find_place.ensures.ok in
    let is : c.from_residual-in_err-writes.result ≡ Err OutOfMemory = search rules in
    rw is (placed c.args.number c.args.items.now (view c.args.last.now) c.len.result c.min.result c.len-2.result (c.len.ensures ∙ c.args.last.now.tables.ok.0) c.min.ensures
    (c.len-2.ensures ∙ c.args.last.now.clears.ok.0) ok.0 ok.1)
