use Rattle.std.proofs.Common.{◌≡◌, ◌+◌, drop}
use Rattle.fjall_trees.specs.Lists.{AreMarks, forest_from}
use Rattle.fjall_trees.proofs.trees.Trees.take_back.Given as goal

abbrev pub invariant-loop-at : goal.invariant-loop-at
invariant-loop-at l = record {
  are : AreMarks (drop (l.from + l.at) l.self.trees.items) (drop l.at l.marks.items);
  same : forest_from (l.from + l.at) (drop l.at l.marks.items) l.self.trees.items ≡ forest_from l.from l.marks.items l.initial.self.trees.items;
}
