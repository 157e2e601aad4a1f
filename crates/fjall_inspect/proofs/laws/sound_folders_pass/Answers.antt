use Rattle.fjall_inspect.proofs.Passing as Passing
use Rattle.fjall_inspect.proofs.laws.sound_folders_pass.Goals as goal

pub returns : goal.returns
returns c = Passing.sound_passes
