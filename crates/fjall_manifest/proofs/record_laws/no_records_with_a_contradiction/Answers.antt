use Rattle.fjall_manifest.proofs.Currents as Currents
use Rattle.fjall_manifest.proofs.record_laws.no_records_with_a_contradiction.Goals as goal

pub returns : goal.returns
returns c = Currents.contradiction_has_no_reading
