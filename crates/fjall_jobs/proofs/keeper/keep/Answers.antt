use Rattle.std.proofs.Common.{◌≡◌, ◌∙◌, List, Err, drop, false, map, ap, subst, rules}
use Rattle.fjall_table.specs.Blocks.{Entry}
use Rattle.fjall_memtable.specs.Sorted.{IsFirst, flat, sorted}
use Rattle.fjall_memtable.proofs.Barriers.{used_up}
use Rattle.fjall_memtable.proofs.Keeping.{kept_ordered}
use Rattle.fjall_jobs.proofs.Looping.{fewer_left, first_entry, looked_up, made_all, next_in_loop, now_keeps}
use Rattle.fjall_jobs.proofs.keeper.keep.Goals as goal

pub versions-init : goal.versions-init
versions-init g c are =
    let runs = map g.R.Run.left c.args.runs.now in
    record {
      are = are;
      keeps = c.new-keeper.ensures.keeps (sorted (flat runs)) (kept_ordered c.args.rule.spends c.args.rule.watermark c.args.rule.bound (flat runs));
      target_is = c.new-keeper.ensures.target;
    }

pub versions-smaller : goal.versions-smaller
versions-smaller g c =
    let xs = c.versions.runs in
    let f = g.R.Run.left in
    let at = c.in-Some.at in
    let first = subst (IsFirst false (map f xs)) c.in-Some.is c.first_of.ensures.first in
    let left = c.in_ok-take_from.ensures.passed ∙ ap (λ (l : List Entry). drop 1 l) (looked_up f xs at c.index-runs-at.result _ first.2.here) in
    fewer_left f xs at c.take_from.new.run first.0 first.1 first.2 left

pub versions-preserved : goal.versions-preserved
versions-preserved g c are =
    let xs = c.versions.runs in
    let f = g.R.Run.left in
    let at = c.in-Some.at in
    let loop = c.versions.invariant are in
    let first = subst (IsFirst false (map f xs)) c.in-Some.is c.first_of.ensures.first in
    let here = looked_up f xs at c.index-runs-at.result _ first.2.here in
    let left = c.in_ok-take_from.ensures.passed ∙ ap (λ (l : List Entry). drop 1 l) here in
    let next = now_keeps (map f xs) at first.0 first.1 _ c.args.target c.versions.keeper loop first.2 in
    next_in_loop f xs at c.take_from.new.run first.0 first.1 _ c.args.target c.versions.keeper c.take_from.new.self loop first.2 left
    (c.in_ok-take_from.ensures.ok first.0 first.1 _ _ here next) c.in_ok-take_from.ensures.target

pub returns-in_err-take_from-clause-only : goal.returns-in_err-take_from-clause-only
returns-in_err-take_from-clause-only g c are =
    let xs = c.versions.runs in
    let f = g.R.Run.left in
    let at = c.in-Some.at in
    let loop = c.versions.invariant are in
    let first = subst (IsFirst false (map f xs)) c.in-Some.is c.first_of.ensures.first in
    let next = now_keeps (map f xs) at first.0 first.1 _ c.args.target c.versions.keeper loop first.2 in
    let e : c.from_residual.result ≡ Err c.in_err-take_from.field-0.0 = search rules in
    rw e (c.in_err-take_from.ensures.only first.0 first.1 _ _ (looked_up f xs at c.index-runs-at.result _ first.2.here)
    (first_entry (map f xs) at first.0 first.1 first.2.here loop.are.entries) next)

pub returns-clause-made : goal.returns-clause-made
returns-clause-made g c are =
    let xs = c.versions.runs in
    let f = g.R.Run.left in
    let none = subst (IsFirst false (map f xs)) c.in_default.is c.first_of.ensures.first in
    made_all (map f xs) c.versions.keeper c.args.target _ c.finish.result (c.versions.invariant are) (used_up (map f xs) none) c.finish.ensures.tables
