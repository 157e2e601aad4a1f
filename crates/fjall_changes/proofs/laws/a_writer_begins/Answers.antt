use Rattle.fjall_changes.proofs.RootAfterWrites.{begins}
use Rattle.fjall_changes.proofs.laws.a_writer_begins.Goals as goal

pub returns : goal.returns
returns c = begins
