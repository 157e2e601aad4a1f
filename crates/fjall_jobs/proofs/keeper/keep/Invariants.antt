use Rattle.std.proofs.Common.{map, length, None}
use Rattle.fjall_memtable.specs.Sorted.{flat, sorted}
use Rattle.fjall_jobs.specs.Keeping.{AreSorted, kept_by}
use Rattle.fjall_jobs.proofs.Looping.{IsInLoop}
use Rattle.fjall_jobs.proofs.keeper.keep.Given as goal

abbrev pub invariant-versions : goal.invariant-versions
invariant-versions g l = AreSorted (map g.R.Run.left l.initial.runs) → IsInLoop (map g.R.Run.left l.runs) l.keeper l.fn.target (kept_by l.fn.rule None (sorted (flat (map g.R.Run.left l.initial.runs))))

abbrev pub decreases-versions : goal.decreases-versions
decreases-versions g l = length (flat (map g.R.Run.left l.runs))
