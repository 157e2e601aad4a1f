use Rattle.fjall_journal.proofs.Readings.{to_do}
use Rattle.fjall_inspect.proofs.journals.look_at_journal.Given as goal

abbrev pub decreases-loop-batch : goal.decreases-loop-batch
decreases-loop-batch l = to_do l.reader
