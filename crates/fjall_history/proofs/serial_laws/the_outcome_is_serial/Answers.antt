use Rattle.fjall_history.proofs.Serials.{outcome}
use Rattle.fjall_history.proofs.serial_laws.the_outcome_is_serial.Goals as goal

pub returns : goal.returns
returns c = outcome
