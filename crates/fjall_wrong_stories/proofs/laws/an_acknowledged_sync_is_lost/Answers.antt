use Rattle.fjall_wrong_stories.proofs.Refuted.{no_sync_is_lost}
use Rattle.fjall_wrong_stories.proofs.laws.an_acknowledged_sync_is_lost.Goals as goal

pub returns : goal.returns
returns c = no_sync_is_lost
