use Rattle.fjall_manifest.proofs.Openings as Openings
use Rattle.fjall_manifest.proofs.home_laws.one_loading.Goals as goal

pub returns : goal.returns
returns c = Openings.one_loading
