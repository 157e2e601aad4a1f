use Rattle.fjall_tree.proofs.Searches.{Searching}
use Rattle.fjall_tree.proofs.search.newest_in.Given as goal

abbrev pub invariant-loop-at : goal.invariant-loop-at
invariant-loop-at g l = Searching g.D.Disk.honest (g.D.Disk.meaning l.fn.disk) (g.D.Disk.meaning l.disk) l.initial.tables l.tables l.key l.instant l.at l.newest
