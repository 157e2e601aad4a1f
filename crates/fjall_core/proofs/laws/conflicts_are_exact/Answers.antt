use Rattle.fjall_core.proofs.Standing.{exact}
use Rattle.fjall_core.proofs.laws.conflicts_are_exact.Goals as goal

pub returns : goal.returns
returns c = exact
