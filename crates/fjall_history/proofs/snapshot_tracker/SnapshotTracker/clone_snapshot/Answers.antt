use Rattle.std.proofs.Common.{sym, ◌∙◌}
use Rattle.fjall_history.proofs.TrackerSound.{sound-opening_open}
use Rattle.fjall_history.proofs.snapshot_tracker.SnapshotTracker.clone_snapshot.Goals as goal

pub invariant_of-self-2 : goal.invariant_of-self-2
invariant_of-self-2 c =
    rw c.in_ok-add.ensures.ok (sound-opening_open c.args.instant _ c.self.invariant (sym c.contains.ensures ∙ c.if-not-contains.false) c.in_ok-add.ensures.room)

pub returns-clause-sound : goal.returns-clause-sound
returns-clause-sound c =
    rw c.in_ok-add.ensures.ok (sound-opening_open c.args.instant _ c.self.invariant (sym c.contains.ensures ∙ c.if-not-contains.false) c.in_ok-add.ensures.room)
