use Rattle.std.proofs.Common.{◌≡◌, length}
use Rattle.fjall_reading.specs.Prefixes.{raised}
use Rattle.fjall_reading.proofs.prefix.bound_past.Given as goal

-- the bytes that were passed over are ff
abbrev pub invariant-loop-last : goal.invariant-loop-last
invariant-loop-last l = raised l.rest ≡ raised l.prefix

abbrev pub decreases-loop-last : goal.decreases-loop-last
decreases-loop-last l = length l.rest
