use Rattle.fjall_cursors.proofs.Paging.{leading_of}
use Rattle.fjall_cursors.proofs.page_maker.PageMaker.next_two.Goals as goal

pub returns-clause-next : goal.returns-clause-next
returns-clause-next c undry second =
    let e = c.next_two_of.ensures in
    leading_of c.args.back c.args.runs.now c.args.at c.next_two_of.result undry (e.first second) (e.second second) e.within e.other e.left
