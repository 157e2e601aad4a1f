use Rattle.fjall_index.proofs.OtherCalls.{another_call}
use Rattle.fjall_index.proofs.laws.another_call_keeps_the_index.Goals as goal

pub returns : goal.returns
returns c = another_call
