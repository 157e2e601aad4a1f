use Rattle.std.proofs.Common.{length}
use Rattle.fjall_opening.proofs.Taking.{IsTaking}
use Rattle.fjall_opening.proofs.replaying.Replay.replay_text.Given as goal

abbrev pub invariant-batches : goal.invariant-batches
invariant-batches l = IsTaking l.self l.fn.progress l.text l.reader l.progress

abbrev pub decreases-batches : goal.decreases-batches
decreases-batches l = length l.reader
