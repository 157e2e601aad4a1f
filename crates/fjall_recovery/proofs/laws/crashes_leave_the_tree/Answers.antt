use Rattle.fjall_recovery.proofs.Trees as Trees
use Rattle.fjall_recovery.proofs.laws.crashes_leave_the_tree.Goals as goal

pub returns : goal.returns
returns c = Trees.crashes_leave_the_tree
