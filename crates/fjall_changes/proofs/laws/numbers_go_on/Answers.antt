use Rattle.fjall_changes.proofs.Batches.{next-mode}
use Rattle.fjall_changes.proofs.laws.numbers_go_on.Goals as goal

pub returns : goal.returns
returns c = next-mode
