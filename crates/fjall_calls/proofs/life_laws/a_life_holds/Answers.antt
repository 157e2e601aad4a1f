use Rattle.fjall_calls.proofs.Lives as Lives
use Rattle.fjall_calls.proofs.life_laws.a_life_holds.Goals as goal

pub returns : goal.returns
returns c = Lives.lived
