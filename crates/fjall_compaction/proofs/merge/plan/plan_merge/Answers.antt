use Rattle.std.proofs.Common.{◌≡◌, ◌∙◌, Err, ap, drop, length, rules}
use Rattle.fjall_manifest.specs.Records.{view}
use Rattle.fjall_compaction.specs.Merges.{merge_of, record_after_merge}
use Rattle.fjall_compaction.proofs.Room.{memory_last, merge_placed, merge_refused}
use Rattle.fjall_compaction.proofs.merge.plan.plan_merge.Goals as goal

pub returns-in_err-find_place-clause-cause : goal.returns-in_err-find_place-clause-cause
returns-in_err-find_place-clause-cause c =
    let m = merge_of c.args.input c.args.made.now in
    let is : c.from_residual.result ≡ Err c.in_err-find_place.field-0.0 = search rules in
    rw is (merge_refused m (view c.args.last.now) (length c.behind.result.now) (length c.tables.result.now) (length c.behind-2.result.now) (length c.clears.result.now)
    (λ i. length ((c.behind.ensures ∙ ap (drop c.args.input.0) c.deref.ensures.value) i)) (λ i. length (c.tables.ensures.value i))
    (λ i. length ((c.behind-2.ensures ∙ ap (drop c.args.input.1) c.deref-2.ensures.value) i)) (λ i. length (c.clears.ensures.value i))
    c.in_err-find_place.field-0.0 c.in_err-find_place.ensures.refused)

pub plan_in_place-requires : goal.plan_in_place-requires
plan_in_place-requires c =
    let m = merge_of c.args.input c.args.made.now in
    let ok = c.in_ok-find_place.ensures.ok in
    merge_placed m (view c.args.last.now) (length c.behind.result.now) (length c.tables.result.now) (length c.behind-2.result.now) (length c.clears.result.now)
    (λ i. length ((c.behind.ensures ∙ ap (drop c.args.input.0) c.deref.ensures.value) i)) (λ i. length (c.tables.ensures.value i))
    (λ i. length ((c.behind-2.ensures ∙ ap (drop c.args.input.1) c.deref-2.ensures.value) i)) (λ i. length (c.clears.ensures.value i))
    ok.0 ok.1

pub returns-clause-cause : goal.returns-clause-cause
returns-clause-cause c =
    let m = merge_of c.args.input c.args.made.now in
    let ok = c.in_ok-find_place.ensures.ok in
    let place = merge_placed m (view c.args.last.now) (length c.behind.result.now) (length c.tables.result.now) (length c.behind-2.result.now) (length c.clears.result.now)
    (λ i. length ((c.behind.ensures ∙ ap (drop c.args.input.0) c.deref.ensures.value) i)) (λ i. length (c.tables.ensures.value i))
    (λ i. length ((c.behind-2.ensures ∙ ap (drop c.args.input.1) c.deref-2.ensures.value) i)) (λ i. length (c.clears.ensures.value i))
    ok.0 ok.1 in
    memory_last (record_after_merge m (view c.args.last.now)) c.plan_in_place.result place c.plan_in_place.ensures.only
