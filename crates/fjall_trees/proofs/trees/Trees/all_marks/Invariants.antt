use Rattle.std.proofs.Common.{take}
use Rattle.fjall_trees.proofs.Marking.{Marked}
use Rattle.fjall_trees.proofs.trees.Trees.all_marks.Given as goal

abbrev pub invariant-loop-planted : goal.invariant-loop-planted
invariant-loop-planted l = Marked (take l.planted-index l.trees) l.marks.items
