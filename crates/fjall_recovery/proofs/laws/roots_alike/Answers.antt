use Rattle.fjall_recovery.proofs.Roots as Roots
use Rattle.fjall_recovery.proofs.laws.roots_alike.Goals as goal

pub returns : goal.returns
returns c = Roots.roots_alike
