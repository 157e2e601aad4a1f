use Rattle.fjall_history.proofs.TrackerSound.{sound-fresh_tracker}
use Rattle.fjall_history.proofs.snapshot_tracker.SnapshotTracker.new.Goals as goal

pub invariant_of-result : goal.invariant_of-result
invariant_of-result c = rw c.new.ensures sound-fresh_tracker
