use Rattle.fjall_machine.proofs.ByHand as ByHand
use Rattle.fjall_machine.proofs.laws.options_agree.Goals as goal

pub returns : goal.returns
returns c = ByHand.options_agree
