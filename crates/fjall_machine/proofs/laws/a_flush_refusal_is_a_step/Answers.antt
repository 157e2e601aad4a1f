use Rattle.fjall_machine.proofs.Working as Working
use Rattle.fjall_machine.proofs.laws.a_flush_refusal_is_a_step.Goals as goal

pub returns : goal.returns
returns c = Working.refusal_steps
