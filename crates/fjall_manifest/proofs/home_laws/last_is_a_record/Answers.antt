use Rattle.fjall_manifest.proofs.Resting as Resting
use Rattle.fjall_manifest.proofs.home_laws.last_is_a_record.Goals as goal

pub returns : goal.returns
returns c = Resting.last_record
