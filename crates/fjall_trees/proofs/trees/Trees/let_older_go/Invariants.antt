use Rattle.std.proofs.Common.{◌≡◌, length}
use Rattle.fjall_tree.specs.Trees.{aged_shape}
use Rattle.fjall_trees.specs.Views.{forest_of}
use Rattle.fjall_trees.proofs.Bounded.{first_changed}
use Rattle.fjall_trees.proofs.trees.Trees.let_older_go.Given as goal

abbrev pub invariant-loop-place : goal.invariant-loop-place
invariant-loop-place l = record {
  changed : forest_of l.self ≡ first_changed aged_shape l.place (forest_of l.fn.self);
  count : length l.self.trees.items ≡ length l.fn.self.trees.items;
  bound : l.self.kept_bound ≡ l.fn.self.kept_bound;
}
