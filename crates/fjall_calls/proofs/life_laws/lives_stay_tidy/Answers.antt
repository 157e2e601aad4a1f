use Rattle.fjall_calls.proofs.Lives as Lives
use Rattle.fjall_calls.proofs.life_laws.lives_stay_tidy.Goals as goal

pub returns : goal.returns
returns c = Lives.lives_stay_tidy
