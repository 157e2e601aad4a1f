use Rattle.std.proofs.Common.{◌≡◌, map}
use Rattle.fjall_repair.specs.Steps.{end_of}
use Rattle.fjall_inspect.specs.Checks.{cut_of, cuts_at}
use Rattle.fjall_inspect.proofs.mending.cuts_of.Given as goal

abbrev pub invariant-loop-end : goal.invariant-loop-end
invariant-loop-end l = map cut_of l.cuts.items ≡ cuts_at (map end_of l.yielded)
