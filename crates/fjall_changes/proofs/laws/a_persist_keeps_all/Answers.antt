use Rattle.fjall_changes.proofs.Batches.{kept-persist}
use Rattle.fjall_changes.proofs.laws.a_persist_keeps_all.Goals as goal

pub returns : goal.returns
returns c = kept-persist
