use Rattle.fjall_manifest.proofs.Naming as Naming
use Rattle.fjall_manifest.proofs.home_laws.homes_are_apart.Goals as goal

pub returns : goal.returns
returns c id other q small small' differ in_id = Naming.apart id other q small small' differ in_id
