use Rattle.std.proofs.Common.{◌≡◌, ◌-◌, ◌^◌, min, take}
use Rattle.std.specs.List.{sum_by}
use Rattle.fjall_table_reader.specs.Readers.{recent_sizes}
use Rattle.fjall_tree.specs.Shapes.{shape_of}
use Rattle.fjall_trees.proofs.trees.Trees.recent_bytes.Given as goal

abbrev pub invariant-loop-keyspace : goal.invariant-loop-keyspace
invariant-loop-keyspace l = l.total ≡ min (sum_by (λ k. recent_sizes (shape_of k.tree).tables) (take l.keyspace-index l.trees)) (2 ^ 64 - 1)
