use Rattle.fjall_machine.proofs.Standing as Standing
use Rattle.fjall_machine.proofs.laws.a_fault_stands.Goals as goal

pub returns-clause-stands : goal.returns-clause-stands
returns-clause-stands c = Standing.a_fault_stands

pub returns-clause-poisoned : goal.returns-clause-poisoned
returns-clause-poisoned c = Standing.a_fault_poisons
