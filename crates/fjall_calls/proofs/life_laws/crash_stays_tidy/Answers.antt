use Rattle.fjall_calls.proofs.LivedDisks as CrashedDisks
use Rattle.fjall_calls.proofs.life_laws.crash_stays_tidy.Goals as goal

pub returns : goal.returns
returns c = CrashedDisks.crash_stays_tidy
