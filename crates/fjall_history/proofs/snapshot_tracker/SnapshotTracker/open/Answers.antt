use Rattle.fjall_history.proofs.TrackerSound.{sound-opening_visible}
use Rattle.fjall_history.proofs.snapshot_tracker.SnapshotTracker.open.Goals as goal

pub invariant_of-self-2 : goal.invariant_of-self-2
invariant_of-self-2 c = rw c.in_ok-add.ensures.ok (sound-opening_visible _ c.self.invariant c.in_ok-add.ensures.room)

pub returns-clause-sound : goal.returns-clause-sound
returns-clause-sound c = rw c.in_ok-add.ensures.ok (sound-opening_visible _ c.self.invariant c.in_ok-add.ensures.room)
