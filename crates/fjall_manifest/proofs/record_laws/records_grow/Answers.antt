use Rattle.fjall_manifest.proofs.Currents as Currents
use Rattle.fjall_manifest.proofs.record_laws.records_grow.Goals as goal

pub returns : goal.returns
returns c = Currents.records_grow
