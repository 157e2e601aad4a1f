use Rattle.fjall_repair.proofs.Begun.{settled_comes_back}
use Rattle.fjall_opening.proofs.laws.settled_folders_come_back_unfinished.Goals as goal

pub returns : goal.returns
returns c = settled_comes_back
