use Rattle.fjall_wrong_stories.proofs.Refuted.{no_closed_life_loses}
use Rattle.fjall_wrong_stories.proofs.laws.a_closed_life_lost_something.Goals as goal

pub returns : goal.returns
returns c = no_closed_life_loses
