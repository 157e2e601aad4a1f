use Rattle.std.proofs.Common.{ℕ, ◌+◌, ◌<◌, All, subst, sym}
use Rattle.fjall_history.specs.Trackers.{Tracker}
use Rattle.fjall_history.proofs.TrackerSound.{sound-retracted}
use Rattle.fjall_history.proofs.snapshot_tracker.SnapshotTracker.retract.Goals as goal

pub invariant_of-self : goal.invariant_of-self
invariant_of-self c =
    let a = c.self.inside in
    let here = sym c.self.view_is in
    sound-retracted (record { instants = a.instants; visible = a.visible; watermark = a.watermark; closings = a.closings }) c.self.invariant
    (subst (λ (t : Tracker). 0 < t.visible) here c.requires.raised)
    (subst (λ (t : Tracker). All (λ i. i < t.visible) t.instants) here c.requires.unread)
    (subst (λ (t : Tracker). 0 < t.watermark → t.watermark + 1 < t.visible) here c.requires.spared)
