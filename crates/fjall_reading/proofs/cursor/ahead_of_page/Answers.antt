use Rattle.std.proofs.Common.{rules, ◌++◌, ap, sym, ◌∙◌}
use Rattle.fjall_base.specs.Pairs.{pairs_between}
use Rattle.fjall_reading.specs.Rests.{ahead_of}
use Rattle.fjall_reading.proofs.Leaving.{long_page_back, short_page_back}
use Rattle.fjall_reading.proofs.cursor.ahead_of_page.Goals as goal

pub returns-then-found-len-clause-left : goal.returns-then-found-len-clause-left
returns-then-found-len-clause-left c = λ pairs is. short_page_back c.args.len _ c.args.found.now is c.if-found-len.true

pub returns-in_ok-clone-in-Some-clause-left : goal.returns-in_ok-clone-in-Some-clause-left
returns-in_ok-clone-in-Some-clause-left c = λ pairs is.
    let found = c.args.found.now in
    let first = c.in-Some.first.now in
    ap (λ key. pairs_between (ahead_of key c.args.range) pairs ++ found) (search rules)
    ∙ long_page_back c.args.len pairs c.args.range found first is c.in-Some.ensures.item.3.0 (sym c.in-Some.ensures.item.1)
