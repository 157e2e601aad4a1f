use Rattle.fjall_wrong_stories.proofs.Refuted.{no_opening_forgets}
use Rattle.fjall_wrong_stories.proofs.laws.an_opening_forgets.Goals as goal

pub returns : goal.returns
returns c = no_opening_forgets
