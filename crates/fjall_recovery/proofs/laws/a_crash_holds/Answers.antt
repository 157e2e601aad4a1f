use Rattle.fjall_recovery.proofs.Holding as Holding
use Rattle.fjall_recovery.proofs.laws.a_crash_holds.Goals as goal

pub returns : goal.returns
returns c = Holding.a_crash_holds
