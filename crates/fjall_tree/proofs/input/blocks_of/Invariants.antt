use Rattle.fjall_tree.proofs.Inputs.{Gathering}
use Rattle.fjall_tree.proofs.input.blocks_of.Given as goal

abbrev pub invariant-loop-at : goal.invariant-loop-at
invariant-loop-at g l = Gathering g.D.Disk.honest (g.D.Disk.meaning l.fn.disk) (g.D.Disk.meaning l.disk) l.fn.reader l.reader l.at l.blocks.items
