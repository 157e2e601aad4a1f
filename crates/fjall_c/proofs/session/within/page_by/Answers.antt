use Rattle.fjall_c.proofs.session.within.page_by.Goals as goal

pub returns-clause-shows : goal.returns-clause-shows
returns-clause-shows c =
    let so = c.page.ensures in
    record { tells = so.ok; due = so.due; cause = so.cause; looks = so.paging.looks; stand = so.paging.stand }

pub returns-clause-lent : goal.returns-clause-lent
returns-clause-lent c = c.page.ensures.paging.lent
