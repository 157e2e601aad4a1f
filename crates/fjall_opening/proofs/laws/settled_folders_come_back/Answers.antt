use Rattle.fjall_opening.proofs.Openings.{settled_comes_back}
use Rattle.fjall_opening.proofs.laws.settled_folders_come_back.Goals as goal

pub returns : goal.returns
returns c = settled_comes_back
