use Rattle.fjall_journal.proofs.Wholes as Wholes
use Rattle.fjall_journal.proofs.laws.one_reading.Goals as goal

pub returns : goal.returns
returns c = Wholes.one_reading
