use Rattle.fjall_machine.proofs.Flushing as Flushing
use Rattle.fjall_machine.proofs.laws.a_begun_flush_stands.Goals as goal

pub returns : goal.returns
returns c = Flushing.a_begun_flush_stands
