use Rattle.fjall_consistency.proofs.Serial.{act_in_order}
use Rattle.fjall_consistency.proofs.laws.optimistic_transactions_act_in_order.Goals as goal

pub returns : goal.returns
returns c = act_in_order
