use Rattle.fjall_calls.proofs.LivedDisks as CrashedDisks
use Rattle.fjall_calls.proofs.life_laws.new_disk_holds.Goals as goal

pub returns : goal.returns
returns c = CrashedDisks.new_disk_holds
