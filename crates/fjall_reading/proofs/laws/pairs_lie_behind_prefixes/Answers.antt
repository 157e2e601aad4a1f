use Rattle.fjall_reading.proofs.Beginning.{pairs_beginning}
use Rattle.fjall_reading.proofs.laws.pairs_lie_behind_prefixes.Goals as goal

pub returns : goal.returns
returns c = pairs_beginning
