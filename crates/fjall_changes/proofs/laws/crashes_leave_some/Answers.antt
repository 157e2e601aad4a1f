use Rattle.fjall_changes.proofs.CrashesInWrites.{root_left}
use Rattle.fjall_changes.proofs.laws.crashes_leave_some.Goals as goal

pub returns : goal.returns
returns c = λ state writer j image writing is. root_left state j image writing.root is
