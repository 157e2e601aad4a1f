use Rattle.fjall_manifest.proofs.Resting as Resting
use Rattle.fjall_manifest.proofs.home_laws.regions_leave_the_home.Goals as goal

pub returns : goal.returns
returns c region state image id records h small more rests is = Resting.region_home region state image id records h small more rests is
