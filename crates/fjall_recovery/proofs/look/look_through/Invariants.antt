use Rattle.fjall_journal.proofs.Readings.{to_do}
use Rattle.fjall_recovery.proofs.Looking.{IsLooking}
use Rattle.fjall_recovery.proofs.look.look_through.Given as goal

abbrev pub invariant-loop-batch : goal.invariant-loop-batch
invariant-loop-batch l = IsLooking l.text l.least l.checked l.watermarks l.reader

abbrev pub decreases-loop-batch : goal.decreases-loop-batch
decreases-loop-batch l = to_do l.reader
