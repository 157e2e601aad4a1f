use Rattle.fjall_core.proofs.Standing.{kept_of_core}
use Rattle.fjall_core.proofs.laws.the_kept_are_the_cores.Goals as goal

pub returns : goal.returns
returns c = kept_of_core
