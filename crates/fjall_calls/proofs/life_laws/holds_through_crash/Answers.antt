use Rattle.fjall_calls.proofs.LivedDisks as CrashedDisks
use Rattle.fjall_calls.proofs.life_laws.holds_through_crash.Goals as goal

pub returns : goal.returns
returns c = CrashedDisks.holds_through_crash
