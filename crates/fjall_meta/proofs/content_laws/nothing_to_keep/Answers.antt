use Rattle.fjall_meta.proofs.Keyspacing as Keyspacing
use Rattle.fjall_meta.proofs.content_laws.nothing_to_keep.Goals as goal

pub returns : goal.returns
returns c = Keyspacing.nothing_to_keep
