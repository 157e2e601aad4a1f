use Rattle.std.proofs.Common.{length}
use Rattle.fjall_trees.specs.Views.{KeepAllMarks, forest_of}
use Rattle.fjall_trees.proofs.Pushing.{Pushing}
use Rattle.fjall_trees.proofs.trees.Trees.push_all.Given as goal

abbrev pub invariant-loop-item : goal.invariant-loop-item
invariant-loop-item l = record {
  pushing : Pushing l.number l.items l.rest (forest_of l.initial.self) (forest_of l.self);
  kept : KeepAllMarks l.initial.self l.self;
}

abbrev pub decreases-loop-item : goal.decreases-loop-item
decreases-loop-item l = length l.rest
