use Rattle.std.proofs.Common.{◌≡◌, List, true, None, IfOk, length, map, take, get_or, reverse, ◌≤◌, ◌<◌, slice_set, sym, ap, subst, ◌∙◌, arith}
use Rattle.fjall_base.specs.Pairs.{Bytes}
use Rattle.fjall_memtable.specs.SortedPages.{pair_found, pairs_back}
use Rattle.fjall_memtable.specs.Sorted.{flat, sorted}
use Rattle.fjall_cursors.specs.Keyed.{found_in}
use Rattle.fjall_cursors.specs.RunPages.{back_pairs, back_with}
use Rattle.fjall_cursors.proofs.RunPaging.{made_more, fewer_left, got_run, set_run, made_all, full_page}
use Rattle.fjall_cursors.proofs.run_pages.page_from_behind.Goals as goal

pub returns-in_default : goal.returns-in_default
returns-in_default g c =
    let left = g.R.Run.left in
    let page = c.loop-runs.page in
    let max = c.args.max in
    let runs = map left c.loop-runs.runs in
    let whole = pairs_back c.args.instant c.args.bound None (reverse (sorted (flat (map left c.args.runs.now)))) in
    let all = made_all true runs whole (back_with page) (back_pairs page) max c.loop-runs.invariant c.in_default.ensures.first in
    subst (λ (w : List (Bytes × Bytes)). IfOk c.finish.result (λ pairs. pairs.items ≡ reverse (take max w))) all c.finish.ensures

pub returns : goal.returns
returns g c =
    let left = g.R.Run.left in
    let page = c.loop-runs.page in
    let max = c.args.max in
    let runs = map left c.loop-runs.runs in
    let len = c.len.ensures in
    let test = c.loop-runs-test.false in
    let few = c.loop-runs.invariant.few in
    let ge : max ≤ length (back_pairs page) = omega (arith, len, test) in
    subst (λ (w : List (Bytes × Bytes)). IfOk c.finish-2.result (λ pairs. pairs.items ≡ reverse w))
    (full_page max (back_pairs page) (pair_found page.bound (found_in page.bound page.pairs.last)) ge few ∙ sym (full_page max (back_pairs page) (pairs_back page.instant page.bound (found_in page.bound page.pairs.last) (reverse (sorted (flat runs)))) ge few) ∙ ap (take max) c.loop-runs.invariant.told) c.finish-2.ensures

pub loop-runs-smaller : goal.loop-runs-smaller
loop-runs-smaller g c =
    let left = g.R.Run.left in
    let runs = c.loop-runs.runs in
    let new = c.look_from_behind.new.run in
    let at = c.in-Some.at in
    let run = get_or runs at c.index-runs-at.result in
    fewer_left true (map left runs) (map left (slice_set runs at new)) at (left run) (left new) c.in-Some.ensures.first (got_run left runs at c.index-runs-at.result c.in-Some.ensures.within) (set_run left runs at new) c.in_ok-look_from_behind.ensures.left

pub loop-runs-preserved : goal.loop-runs-preserved
loop-runs-preserved g c =
    let left = g.R.Run.left in
    let runs = c.loop-runs.runs in
    let new = c.look_from_behind.new.run in
    let page = c.loop-runs.page in
    let after = c.look_from_behind.new.page in
    let at = c.in-Some.at in
    let run = get_or runs at c.index-runs-at.result in
    let len = c.len.ensures in
    let test = c.loop-runs-test.true in
    let lt : length (back_pairs page) < c.args.max = omega (arith, len, test) in
    made_more true (map left runs) (map left (slice_set runs at new)) at (left run) (left new) (pairs_back c.args.instant c.args.bound None (reverse (sorted (flat (map left c.args.runs.now))))) (back_with page) (back_with after) (back_pairs page) (back_pairs after) c.args.max
    c.loop-runs.invariant c.in-Some.ensures.first (got_run left runs at c.index-runs-at.result c.in-Some.ensures.within) (set_run left runs at new)
    c.in_ok-look_from_behind.ensures.left c.in_ok-look_from_behind.ensures.all c.in_ok-look_from_behind.ensures.few lt
