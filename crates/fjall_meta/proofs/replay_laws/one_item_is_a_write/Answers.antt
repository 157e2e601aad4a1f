use Rattle.fjall_meta.proofs.Replaying as Replaying
use Rattle.fjall_meta.proofs.replay_laws.one_item_is_a_write.Goals as goal

pub returns : goal.returns
returns c = Replaying.one_item
