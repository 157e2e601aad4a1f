use Rattle.fjall_manifest.proofs.Currents as Currents
use Rattle.fjall_manifest.proofs.record_laws.texts_are_records.Goals as goal

pub returns : goal.returns
returns c = Currents.texts_are_records
