use Rattle.fjall_calls.proofs.Standing.{all_stand}
use Rattle.fjall_calls.proofs.laws.transactions_stand_in_the_history.Goals as goal

pub returns : goal.returns
returns c = all_stand
