use Rattle.fjall_recovery.proofs.Strict.{one_refusal_in, torn_alone}
use Rattle.fjall_recovery.proofs.laws.one_refusal_in_each_mode.Goals as goal

pub returns-clause-one : goal.returns-clause-one
returns-clause-one c = one_refusal_in

pub returns-clause-torn : goal.returns-clause-torn
returns-clause-torn c = torn_alone
