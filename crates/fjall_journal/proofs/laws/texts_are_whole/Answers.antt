use Rattle.fjall_journal.proofs.Wholes as Wholes
use Rattle.fjall_journal.proofs.laws.texts_are_whole.Goals as goal

pub returns : goal.returns
returns c = Wholes.texts_are_whole
