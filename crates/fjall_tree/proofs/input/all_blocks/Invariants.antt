use Rattle.fjall_tree.proofs.Inputs.{Collecting}
use Rattle.fjall_tree.proofs.input.all_blocks.Given as goal

abbrev pub invariant-loop-at : goal.invariant-loop-at
invariant-loop-at g l = Collecting g.D.Disk.honest (g.D.Disk.meaning l.fn.disk) (g.D.Disk.meaning l.disk) l.initial.tables l.tables l.at l.input.items
