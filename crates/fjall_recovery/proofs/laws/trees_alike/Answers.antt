use Rattle.fjall_recovery.proofs.Trees as Trees
use Rattle.fjall_recovery.proofs.laws.trees_alike.Goals as goal

pub returns : goal.returns
returns c = Trees.trees_alike
