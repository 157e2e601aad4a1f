use Rattle.std.proofs.Common.{length}
use Rattle.fjall_readers.proofs.parts.parts_of.Given as goal

abbrev pub decreases-loop-part : goal.decreases-loop-part
decreases-loop-part l = length l.rest
