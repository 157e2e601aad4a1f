use Rattle.fjall_history.proofs.Serials.{present_of}
use Rattle.fjall_history.proofs.serial_laws.what_meets_none_is_of_the_present.Goals as goal

pub returns : goal.returns
returns c = present_of
