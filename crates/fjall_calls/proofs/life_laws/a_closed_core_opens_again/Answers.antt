use Rattle.fjall_calls.proofs.Lives.{closed_holds, closed_opens}
use Rattle.fjall_calls.proofs.life_laws.a_closed_core_opens_again.Goals as goal

pub returns-clause-holds : goal.returns-clause-holds
returns-clause-holds c = closed_holds

pub returns-clause-opens : goal.returns-clause-opens
returns-clause-opens c = closed_opens
