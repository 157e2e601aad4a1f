use Rattle.std.specs.FinMap.{empty, insert}
use Rattle.std.specs.Ordering.{nat_cmp}
use Rattle.fjall_core.proofs.Laying.{wanted_of_one}
use Rattle.fjall_core.proofs.laid.laid_page.Goals as goal

pub returns-clause-ok : goal.returns-clause-ok
returns-clause-ok g c below shown =
    let a = c.args in
    c.lay_over.ensures.ok (insert {R = nat_cmp} empty a.id below)
    (wanted_of_one a.own.now a.id a.range.now a.back a.max c.in-Ok.wanted below c.in_ok-found.found.items c.in-Ok.ensures.ok (c.in_ok-found.ensures.ok below shown))
