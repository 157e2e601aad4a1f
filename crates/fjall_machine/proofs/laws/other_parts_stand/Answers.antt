use Rattle.fjall_machine.proofs.Standing as Standing
use Rattle.fjall_machine.proofs.laws.other_parts_stand.Goals as goal

pub returns : goal.returns
returns c = Standing.other_parts_stand
