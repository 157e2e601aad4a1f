use Rattle.fjall_reading.proofs.Paging.{goes_on_ahead, goes_on_behind}
use Rattle.fjall_reading.proofs.laws.pairs_go_on.Goals as goal

pub returns : goal.returns
returns c = record { ahead = goes_on_ahead; behind = goes_on_behind }
