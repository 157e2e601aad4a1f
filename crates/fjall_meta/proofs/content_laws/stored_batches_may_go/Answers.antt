use Rattle.fjall_meta.proofs.Keyspacing as Keyspacing
use Rattle.fjall_meta.proofs.content_laws.stored_batches_may_go.Goals as goal

pub returns : goal.returns
returns c = Keyspacing.stored_batches_may_go
