use Rattle.fjall_calls.proofs.LivedDisks as CrashedDisks
use Rattle.fjall_calls.proofs.life_laws.a_wild_crash_amid_holds.Goals as goal

pub returns : goal.returns
returns c = CrashedDisks.a_wild_crash_amid_holds
