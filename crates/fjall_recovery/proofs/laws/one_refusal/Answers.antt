use Rattle.fjall_recovery.proofs.Causes as Causes
use Rattle.fjall_recovery.proofs.laws.one_refusal.Goals as goal

pub returns : goal.returns
returns c = Causes.one_refusal
