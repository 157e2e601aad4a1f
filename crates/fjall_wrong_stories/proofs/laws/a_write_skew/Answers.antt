use Rattle.fjall_wrong_stories.proofs.Refuted.{no_write_skew}
use Rattle.fjall_wrong_stories.proofs.laws.a_write_skew.Goals as goal

pub returns : goal.returns
returns c = no_write_skew
