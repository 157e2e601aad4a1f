use Rattle.fjall_engine.proofs.Reopening as Reopening
use Rattle.fjall_calls.proofs.life_laws.holds_store_amid.Goals as goal

pub returns : goal.returns
returns c = Reopening.holds_store_amid
