use Rattle.fjall_machine.proofs.Standing as Standing
use Rattle.fjall_machine.proofs.laws.a_creation_stands.Goals as goal

pub returns : goal.returns
returns c = Standing.a_creation_stands
