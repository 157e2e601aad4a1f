use Rattle.fjall_core.proofs.Standing.{opening_stands}
use Rattle.fjall_core.proofs.laws.an_opening_stands.Goals as goal

pub returns : goal.returns
returns c = opening_stands
