use Rattle.fjall_history.proofs.Resting.{rests_with}
use Rattle.fjall_history.proofs.serial_laws.answers_rest_on_marks.Goals as goal

pub returns : goal.returns
returns c = rests_with
