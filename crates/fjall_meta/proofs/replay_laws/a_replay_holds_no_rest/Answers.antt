use Rattle.fjall_meta.proofs.Keeping as Keeping
use Rattle.fjall_meta.proofs.replay_laws.a_replay_holds_no_rest.Goals as goal

pub returns : goal.returns
returns c = Keeping.nothing_to_keep
