use Rattle.fjall_recovery.proofs.Alone as Alone
use Rattle.fjall_recovery.proofs.laws.one_list_of_journals.Goals as goal

pub returns : goal.returns
returns c = Alone.one_list_of_journals
