use Rattle.fjall_recovery.proofs.Roots as Roots
use Rattle.fjall_recovery.proofs.laws.crashes_leave_the_root.Goals as goal

pub returns : goal.returns
returns c = Roots.crashes_leave_the_root
