use Rattle.fjall_machine.proofs.Refusing as Refusing
use Rattle.fjall_machine.proofs.laws.a_refusal_is_a_step.Goals as goal

pub returns-clause-due : goal.returns-clause-due
returns-clause-due c = Refusing.due_steps

pub returns-clause-memory : goal.returns-clause-memory
returns-clause-memory c = Refusing.memory_steps

pub returns-clause-read : goal.returns-clause-read
returns-clause-read c = Refusing.read_steps
