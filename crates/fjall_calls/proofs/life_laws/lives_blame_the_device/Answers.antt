use Rattle.fjall_calls.proofs.Lives as Lives
use Rattle.fjall_calls.proofs.life_laws.lives_blame_the_device.Goals as goal

pub returns : goal.returns
returns c = Lives.lives_blame
