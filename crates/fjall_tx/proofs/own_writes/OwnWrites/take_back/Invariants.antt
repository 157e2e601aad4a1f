use Rattle.std.proofs.Common.{◌≡◌, length}
use Rattle.fjall_tx.specs.Owns.{CanTakeBack, taken_back}
use Rattle.fjall_tx.proofs.own_writes.OwnWrites.take_back.Given as goal

abbrev pub invariant-loop-place : goal.invariant-loop-place
invariant-loop-place l = CanTakeBack l.self l.earlier.items × (taken_back l.self l.earlier.items ≡ taken_back l.fn.self l.fn.earlier.items)

abbrev pub decreases-loop-place : goal.decreases-loop-place
decreases-loop-place l = length l.earlier.items
