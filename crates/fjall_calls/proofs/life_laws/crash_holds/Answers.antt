use Rattle.fjall_engine.proofs.CrashedDisks as CrashedDisks
use Rattle.fjall_calls.proofs.life_laws.crash_holds.Goals as goal

pub returns : goal.returns
returns c = CrashedDisks.crash_holds
