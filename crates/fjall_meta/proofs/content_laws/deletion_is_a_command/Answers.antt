use Rattle.fjall_meta.proofs.Keyspacing as Keyspacing
use Rattle.fjall_meta.proofs.content_laws.deletion_is_a_command.Goals as goal

pub returns : goal.returns
returns c = Keyspacing.deletion
