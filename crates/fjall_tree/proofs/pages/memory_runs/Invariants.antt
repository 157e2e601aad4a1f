use Rattle.std.proofs.Common.{◌≡◌, take}
use Rattle.fjall_base.specs.Pairs.{key_range}
use Rattle.fjall_tree.proofs.Paging.{runs_in}
use Rattle.fjall_tree.proofs.pages.memory_runs.Given as goal

abbrev pub invariant-loop-part : goal.invariant-loop-part
invariant-loop-part l = l.runs.items ≡ take l.part-index (runs_in (key_range l.range) l.back l.sealed)
