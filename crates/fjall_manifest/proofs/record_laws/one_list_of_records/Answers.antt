use Rattle.fjall_manifest.proofs.Currents as Currents
use Rattle.fjall_manifest.proofs.record_laws.one_list_of_records.Goals as goal

pub returns : goal.returns
returns c = Currents.one_reading
