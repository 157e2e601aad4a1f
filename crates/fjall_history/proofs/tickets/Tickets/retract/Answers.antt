use Rattle.std.proofs.Common.{◌<◌, All, subst, sym}
use Rattle.std.specs.FinMap.{values}
use Rattle.fjall_history.specs.Trackers.{IsSoundTracker, Tracker}
use Rattle.fjall_history.specs.Tickets.{AreTracked, Tracked}
use Rattle.fjall_history.proofs.Maps.{map_of}
use Rattle.fjall_history.proofs.Values.{of_tracker, tracked_retracted}
use Rattle.fjall_history.proofs.tickets.Tickets.retract.Goals as goal

pub retract-requires-clause-unread : goal.retract-requires-clause-unread
retract-requires-clause-unread c =
    let a = c.self.inside in
    of_tracker (λ i. i < a.tracker.visible) a.tracker (map_of a.instants) a.next c.self.invariant (subst (λ (t : Tracked). All (λ i. i < t.visible) (values t.tickets.instants)) (sym c.self.view_is) c.requires.unread)

pub invariant_of-self : goal.invariant_of-self
invariant_of-self c =
    let a = c.self.inside in
    subst (λ (t : Tracker). AreTracked t (map_of a.instants) a.next) (sym c.retract.ensures.retracted)
    (tracked_retracted a.tracker (map_of a.instants) a.next c.self.invariant (subst IsSoundTracker c.retract.ensures.retracted c.retract.ensures.sound))
