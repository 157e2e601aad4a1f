use Rattle.fjall_wrong_stories.proofs.Refuted.{no_snapshot_moves}
use Rattle.fjall_wrong_stories.proofs.laws.a_snapshot_moves.Goals as goal

pub returns : goal.returns
returns c = no_snapshot_moves
