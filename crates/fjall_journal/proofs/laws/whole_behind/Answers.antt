use Rattle.fjall_journal.proofs.Wholes as Wholes
use Rattle.fjall_journal.proofs.laws.whole_behind.Goals as goal

pub returns : goal.returns
returns c = Wholes.whole_behind
