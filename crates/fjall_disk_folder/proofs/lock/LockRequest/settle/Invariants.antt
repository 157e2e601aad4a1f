use Rattle.std.proofs.Common.{◌-◌}
use Rattle.fjall_disk_folder.proofs.lock.LockRequest.settle.Given as goal

abbrev pub invariant-loop-self : goal.invariant-loop-self
invariant-loop-self l = Unit {0}

abbrev pub decreases-loop-self : goal.decreases-loop-self
decreases-loop-self l = 3 - l.self.asked
