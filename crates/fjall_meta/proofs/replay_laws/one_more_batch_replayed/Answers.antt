use Rattle.fjall_meta.proofs.Replaying as Replaying
use Rattle.fjall_meta.proofs.replay_laws.one_more_batch_replayed.Goals as goal

pub returns : goal.returns
returns c = Replaying.one_more_batch
