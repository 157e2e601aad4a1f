use Rattle.std.proofs.Common.{map}
use Rattle.fjall_journal.specs.Batches.{view}
use Rattle.fjall_journal.proofs.Readings.{SoFar, to_do}
use Rattle.fjall_journal.proofs.contents.read_journal.Given as goal

abbrev pub invariant-loop-batch : goal.invariant-loop-batch
invariant-loop-batch l = SoFar l.text (map view l.batches.items) l.reader

abbrev pub decreases-loop-batch : goal.decreases-loop-batch
decreases-loop-batch l = to_do l.reader
