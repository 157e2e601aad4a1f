use Rattle.fjall_calls.proofs.Standing.{all_heard_before, all_stand}
use Rattle.fjall_calls.proofs.laws.transactions_hear_those_before.Goals as goal

pub returns : goal.returns
returns c = λ core left kept after t begins calls replies made told v run ends premise. all_heard_before left after v (all_stand core kept t begins calls replies made told v run) ends premise
