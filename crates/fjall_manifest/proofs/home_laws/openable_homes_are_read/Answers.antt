use Rattle.fjall_manifest.proofs.Openings as Openings
use Rattle.fjall_manifest.proofs.home_laws.openable_homes_are_read.Goals as goal

pub returns : goal.returns
returns c = Openings.openable_no_damage
