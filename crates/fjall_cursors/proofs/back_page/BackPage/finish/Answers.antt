use Rattle.std.proofs.Common.{ap, arith, length, reverse, sym, ◌<◌, ◌≤◌, ◌∙◌}
use Rattle.fjall_memtable.specs.SortedPages.{pair_found}
use Rattle.fjall_cursors.specs.Keyed.{Keyed, found_in}
use Rattle.fjall_cursors.proofs.Keyeds.{ended_back}
use Rattle.fjall_cursors.proofs.RunPaging.{full_page}
use Rattle.fjall_cursors.proofs.back_page.BackPage.finish.Goals as goal

pub returns-then-count_before-max : goal.returns-then-count_before-max
returns-then-count_before-max c =
    let page = c.args.self in
    let count = c.count_before.ensures in
    let test = c.if-count_before-max.true in
    let ge : c.args.max ≤ length page.pairs.before = omega (arith, count, test) in
    c.finish.ensures ∙ ap reverse (sym (full_page c.args.max page.pairs.before (pair_found page.bound (found_in page.bound page.pairs.last)) ge c.requires))

pub returns : goal.returns
returns c =
    let page = c.args.self in
    let count = c.count_before.ensures in
    let test = c.if-count_before-max.false in
    let lt : length page.pairs.before < c.args.max = omega (arith, count, test) in
    let before = ap (λ (k : Keyed). k.before) c.in_ok-settle.ensures in
    c.finish-2.ensures ∙ ap reverse (before ∙ sym (ended_back page.bound c.args.max page.pairs.before page.pairs.last lt))
