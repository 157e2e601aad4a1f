use Rattle.fjall_changes.proofs.CrashesInWrites.{whole_left}
use Rattle.fjall_changes.proofs.laws.synced_batches_stay.Goals as goal

pub returns : goal.returns
returns c = λ state writer j image writing none is. whole_left state j image writing.root none is
