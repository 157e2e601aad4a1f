use Rattle.fjall_machine.proofs.Dues as Dues
use Rattle.fjall_machine.proofs.laws.nothing_refused.Goals as goal

pub returns-clause-change : goal.returns-clause-change
returns-clause-change c = Dues.may_change

pub returns-clause-creation : goal.returns-clause-creation
returns-clause-creation c = Dues.may_create

pub returns-clause-deletion : goal.returns-clause-deletion
returns-clause-deletion c = Dues.may_delete

pub returns-clause-journal : goal.returns-clause-journal
returns-clause-journal c = Dues.may_rotate

pub returns-clause-release : goal.returns-clause-release
returns-clause-release c = Dues.is_counted
