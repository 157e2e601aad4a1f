use Rattle.fjall_wrong_stories.proofs.Refuted.{no_half_batch}
use Rattle.fjall_wrong_stories.proofs.laws.half_a_batch.Goals as goal

pub returns : goal.returns
returns c = no_half_batch
