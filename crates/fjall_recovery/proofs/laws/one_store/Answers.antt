use Rattle.fjall_recovery.proofs.Alone as Alone
use Rattle.fjall_recovery.proofs.laws.one_store.Goals as goal

pub returns : goal.returns
returns c = Alone.one_store
