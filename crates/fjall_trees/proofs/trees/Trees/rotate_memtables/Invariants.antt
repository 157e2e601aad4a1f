use Rattle.std.proofs.Common.{◌≡◌, length}
use Rattle.fjall_trees.specs.Sealing.{first_sealed}
use Rattle.fjall_trees.specs.Views.{forest_of}
use Rattle.fjall_trees.proofs.trees.Trees.rotate_memtables.Given as goal

abbrev pub invariant-loop-place : goal.invariant-loop-place
invariant-loop-place l = record {
  sealed : forest_of l.self ≡ first_sealed l.place (forest_of l.fn.self);
  count : length l.self.trees.items ≡ length l.fn.self.trees.items;
}
