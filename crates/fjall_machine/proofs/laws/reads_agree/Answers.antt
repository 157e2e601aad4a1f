use Rattle.fjall_machine.proofs.Standing as Standing
use Rattle.fjall_machine.proofs.laws.reads_agree.Goals as goal

pub returns-clause-shown : goal.returns-clause-shown
returns-clause-shown c = Standing.pairs_agree

pub returns-clause-bare : goal.returns-clause-bare
returns-clause-bare c = Standing.bare_agree
