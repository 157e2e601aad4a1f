use Rattle.std.proofs.Common.{map, take}
use Rattle.fjall_cursors.specs.Heads.{HasTwo}
use Rattle.fjall_cursors.proofs.run.first_two_of.Given as goal

abbrev pub invariant-loop-at : goal.invariant-loop-at
invariant-loop-at g l = HasTwo l.back (take l.at (map g.R.Run.left l.runs)) l.best l.second
