use Rattle.fjall_meta.proofs.Keeping as Keeping
use Rattle.fjall_meta.proofs.replay_laws.a_deletion_is_replayed.Goals as goal

pub returns : goal.returns
returns c = Keeping.deletion_of_batches
