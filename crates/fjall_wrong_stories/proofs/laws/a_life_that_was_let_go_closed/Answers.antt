use Rattle.fjall_wrong_stories.proofs.AnyLife.{no_let_go_life_closes}
use Rattle.fjall_wrong_stories.proofs.laws.a_life_that_was_let_go_closed.Goals as goal

pub returns : goal.returns
returns c = no_let_go_life_closes
