use Rattle.fjall_journal.proofs.Readings.{one_less}
use Rattle.fjall_inspect.proofs.journals.look_at_journal.Goals as goal

pub loop-batch-smaller-in-Some-Ok : goal.loop-batch-smaller-in-Some-Ok
loop-batch-smaller-in-Some-Ok c =
    let step = rw c.in-Some-Ok.field-0-is at c.in-Some-Ok.ensures in
    one_less c.loop-batch.reader c.next_batch.new.reader c.in-Some-Ok.batch step
