use Rattle.fjall_c.proofs.session.within.value_by.Goals as goal

pub returns-clause-shows : goal.returns-clause-shows
returns-clause-shows c =
    let so = c.get.ensures in
    record { tells = so.ok; due = so.due; cause = so.cause; looks = so.reads.looks; stand = so.reads.stand }

pub returns-clause-lent : goal.returns-clause-lent
returns-clause-lent c = c.get.ensures.reads.lent
