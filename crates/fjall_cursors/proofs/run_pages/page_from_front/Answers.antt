use Rattle.std.proofs.Common.{◌≡◌, List, false, None, IfOk, length, map, take, get_or, ◌≤◌, ◌<◌, slice_set, sym, ap, subst, ◌∙◌, arith}
use Rattle.fjall_base.specs.Pairs.{Bytes}
use Rattle.fjall_memtable.specs.SortedPages.{pairs_of}
use Rattle.fjall_memtable.specs.Sorted.{flat, sorted}
use Rattle.fjall_cursors.specs.RunPages.{front_pairs, front_with, settled_key}
use Rattle.fjall_cursors.proofs.RunPaging.{made_more, fewer_left, got_run, set_run, made_all, full_page, short_page}
use Rattle.fjall_cursors.proofs.run_pages.page_from_front.Goals as goal

pub returns-in_default : goal.returns-in_default
returns-in_default g c =
    let left = g.R.Run.left in
    let page = c.loop-runs.page in
    let max = c.args.max in
    let runs = map left c.loop-runs.runs in
    let whole = pairs_of c.args.instant c.args.bound None (sorted (flat (map left c.args.runs.now))) in
    let all = made_all false runs whole (front_with page) (front_pairs page) max c.loop-runs.invariant c.in_default.ensures.first in
    c.finish.ensures ∙ sym (short_page max (front_pairs page) c.loop-runs.invariant.few) ∙ ap (take max) all

pub returns : goal.returns
returns g c =
    let left = g.R.Run.left in
    let page = c.loop-runs.page in
    let max = c.args.max in
    let runs = map left c.loop-runs.runs in
    let len = c.len.ensures in
    let test = c.loop-runs-test.false in
    let few = c.loop-runs.invariant.few in
    let ge : max ≤ length (front_pairs page) = omega (arith, len, test) in
    c.finish-2.ensures ∙ sym (full_page max (front_pairs page) (pairs_of page.instant page.bound (settled_key page.bare page.pairs.items) (sorted (flat runs))) ge few) ∙ ap (take max) c.loop-runs.invariant.told

pub loop-runs-smaller : goal.loop-runs-smaller
loop-runs-smaller g c =
    let left = g.R.Run.left in
    let runs = c.loop-runs.runs in
    let new = c.look_from_front.new.run in
    let at = c.in-Some.at in
    let run = get_or runs at c.index-runs-at.result in
    fewer_left false (map left runs) (map left (slice_set runs at new)) at (left run) (left new) c.in-Some.ensures.first (got_run left runs at c.index-runs-at.result c.in-Some.ensures.within) (set_run left runs at new) c.in_ok-look_from_front.ensures.left

pub loop-runs-preserved : goal.loop-runs-preserved
loop-runs-preserved g c =
    let left = g.R.Run.left in
    let runs = c.loop-runs.runs in
    let new = c.look_from_front.new.run in
    let page = c.loop-runs.page in
    let after = c.look_from_front.new.page in
    let at = c.in-Some.at in
    let run = get_or runs at c.index-runs-at.result in
    let len = c.len.ensures in
    let test = c.loop-runs-test.true in
    let lt : length (front_pairs page) < c.args.max = omega (arith, len, test) in
    made_more false (map left runs) (map left (slice_set runs at new)) at (left run) (left new) (pairs_of c.args.instant c.args.bound None (sorted (flat (map left c.args.runs.now)))) (front_with page) (front_with after) (front_pairs page) (front_pairs after) c.args.max
    c.loop-runs.invariant c.in-Some.ensures.first (got_run left runs at c.index-runs-at.result c.in-Some.ensures.within) (set_run left runs at new)
    c.in_ok-look_from_front.ensures.left c.in_ok-look_from_front.ensures.all c.in_ok-look_from_front.ensures.few lt
