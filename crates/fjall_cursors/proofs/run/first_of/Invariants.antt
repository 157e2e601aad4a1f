use Rattle.std.proofs.Common.{◌<◌, IfSome, map, take}
use Rattle.fjall_cursors.specs.Heads.{HasFirst}
use Rattle.fjall_cursors.proofs.run.first_of.Given as goal

abbrev pub invariant-loop-at : goal.invariant-loop-at
invariant-loop-at g l = HasFirst l.back (take l.at (map g.R.Run.left l.runs)) l.best × IfSome l.best (λ first. first.0 < l.at)
