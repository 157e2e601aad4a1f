use Rattle.fjall_machine.proofs.Standing as Standing
use Rattle.fjall_machine.proofs.laws.facts_agree.Goals as goal

pub returns : goal.returns
returns c = Standing.facts_agree
