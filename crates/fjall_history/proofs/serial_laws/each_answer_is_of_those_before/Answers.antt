use Rattle.fjall_history.proofs.Resting.{answered_before}
use Rattle.fjall_history.proofs.serial_laws.each_answer_is_of_those_before.Goals as goal

pub returns : goal.returns
returns c = answered_before
