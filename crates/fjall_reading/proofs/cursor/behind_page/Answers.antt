use Rattle.std.proofs.Common.{rules, ◌++◌, ap, sym, ◌∙◌}
use Rattle.fjall_base.specs.Pairs.{pairs_between}
use Rattle.fjall_reading.specs.Rests.{behind}
use Rattle.fjall_reading.proofs.Leaving.{long_page, short_page}
use Rattle.fjall_reading.proofs.cursor.behind_page.Goals as goal

pub returns-then-found-len-clause-left : goal.returns-then-found-len-clause-left
returns-then-found-len-clause-left c = λ pairs is. short_page c.args.len _ c.args.found.now is c.if-found-len.true

pub returns-in_ok-clone-in-Some-clause-left : goal.returns-in_ok-clone-in-Some-clause-left
returns-in_ok-clone-in-Some-clause-left c = λ pairs is.
    let found = c.args.found.now in
    let last = c.in-Some.last.now in
    ap (λ key. found ++ pairs_between (behind key c.args.range) pairs) (search rules)
    ∙ long_page c.args.len pairs c.args.range found last is c.in-Some.ensures.item.3.0 (sym c.in-Some.ensures.item.1)
