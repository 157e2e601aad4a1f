use Rattle.fjall_recovery.proofs.Cutting.{cut_amid}
use Rattle.fjall_recovery.proofs.wild_laws.a_wild_crash_is_cut.Goals as goal

pub returns : goal.returns
returns c = cut_amid
