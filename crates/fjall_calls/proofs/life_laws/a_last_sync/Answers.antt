use Rattle.fjall_calls.proofs.LastSyncs as Lasting
use Rattle.fjall_calls.proofs.life_laws.a_last_sync.Goals as goal

pub returns : goal.returns
returns c = Lasting.a_last_sync
