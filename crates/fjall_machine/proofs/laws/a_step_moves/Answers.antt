use Rattle.fjall_machine.proofs.Moving as Moving
use Rattle.fjall_machine.proofs.laws.a_step_moves.Goals as goal

pub returns : goal.returns
returns c = Moving.step_moves
