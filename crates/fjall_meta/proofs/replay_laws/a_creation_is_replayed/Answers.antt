use Rattle.fjall_meta.proofs.Creating as Creating
use Rattle.fjall_meta.proofs.replay_laws.a_creation_is_replayed.Goals as goal

pub returns : goal.returns
returns c = Creating.creation_of_batches
