use Rattle.fjall_manifest.proofs.Resting as Resting
use Rattle.fjall_manifest.proofs.home_laws.crashes_leave_the_home.Goals as goal

pub returns : goal.returns
returns c state image id records h small rests is = Resting.crash_home state image id records h small rests is
