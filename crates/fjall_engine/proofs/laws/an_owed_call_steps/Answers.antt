use Rattle.fjall_engine.proofs.OwedSteps.{owes_step}
use Rattle.fjall_engine.proofs.laws.an_owed_call_steps.Goals as goal

pub returns : goal.returns
returns c = λ old new call reply owes bare s stands. owes_step old new call reply s bare owes stands
