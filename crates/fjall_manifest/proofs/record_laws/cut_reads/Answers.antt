use Rattle.fjall_manifest.proofs.Currents as Currents
use Rattle.fjall_manifest.proofs.record_laws.cut_reads.Goals as goal

pub returns : goal.returns
returns c = Currents.cut_reads
