use Rattle.fjall_machine.proofs.Standing as Standing
use Rattle.fjall_machine.proofs.laws.an_opening_stands.Goals as goal

pub returns : goal.returns
returns c = Standing.an_opening_stands
