use Rattle.fjall_journal.proofs.Wholes as Wholes
use Rattle.fjall_journal.proofs.laws.whole_grows.Goals as goal

pub returns : goal.returns
returns c = Wholes.whole_grows
