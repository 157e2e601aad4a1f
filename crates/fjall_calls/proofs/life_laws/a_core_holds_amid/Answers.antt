use Rattle.fjall_engine.proofs.Reopening as Reopening
use Rattle.fjall_calls.proofs.life_laws.a_core_holds_amid.Goals as goal

pub returns : goal.returns
returns c = Reopening.a_core_holds_amid
