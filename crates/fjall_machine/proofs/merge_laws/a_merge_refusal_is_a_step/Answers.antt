use Rattle.fjall_machine.proofs.MergeRefusing as Refusing
use Rattle.fjall_machine.proofs.merge_laws.a_merge_refusal_is_a_step.Goals as goal

pub returns : goal.returns
returns c = Refusing.a_merge_refusal_is_a_step
