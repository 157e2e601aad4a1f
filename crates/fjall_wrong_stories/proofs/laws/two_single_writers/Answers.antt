use Rattle.fjall_wrong_stories.proofs.AnyLife.{no_two_writers}
use Rattle.fjall_wrong_stories.proofs.laws.two_single_writers.Goals as goal

pub returns : goal.returns
returns c = no_two_writers
