use Rattle.std.proofs.Common.{◌≡◌, ◌+◌, ◌∙◌, ap, subst, sym}
use Rattle.std.specs.FinMap.{insert}
use Rattle.fjall_history.specs.Tickets.{AreTracked, Tracked, opened, tracked}
use Rattle.fjall_history.proofs.Maps.{inserted, map_of, undone}
use Rattle.fjall_history.proofs.Tracking.{next_is_free, tracked_given}
use Rattle.fjall_history.proofs.tickets.Tickets.open.Goals as goal

back : (c : goal.After-remove) → map_of c.remove.new.self ≡ map_of c.self.inside.instants
back c =
    undone c.self.inside.instants c.insert.new.self c.remove.new.self c.self.inside.next c.get-instant.result
    (next_is_free c.self.inside.tracker (map_of c.self.inside.instants) c.self.inside.next c.self.invariant) c.in_ok-insert.ensures.updates.0 c.remove.ensures.updates.0

pub invariant_of-self-in-Err : goal.invariant_of-self-in-Err
invariant_of-self-in-Err c =
    subst (λ m. AreTracked c.open.new.self m c.self.inside.next) (sym (back c))
    (subst (λ t. AreTracked t (map_of c.self.inside.instants) c.self.inside.next) (sym c.in-Err.ensures.unchanged) c.self.invariant)

pub returns-in-Err-clause-unchanged : goal.returns-in-Err-clause-unchanged
returns-in-Err-clause-unchanged c = (λ i. tracked (c.in-Err.ensures.unchanged i) (back c i) c.self.inside.next) ∙ c.self.view_is

more : (c : goal.After-self-1) → map_of c.insert.new.self ≡ insert (map_of c.self.inside.instants) c.self.inside.next c.self.inside.tracker.visible
more c =
    inserted c.self.inside.instants c.insert.new.self c.self.inside.next c.get-instant.result c.in_ok-insert.ensures.updates.0
    ∙ ap (insert (map_of c.self.inside.instants) c.self.inside.next) c.get-instant.ensures.visible

pub invariant_of-self-2 : goal.invariant_of-self-2
invariant_of-self-2 c =
    let tracker = c.self.inside.tracker in
    subst (λ m. AreTracked c.open.new.self m (c.self.inside.next + 1)) (sym (more c))
    (subst (λ t. AreTracked t (insert (map_of c.self.inside.instants) c.self.inside.next tracker.visible) (c.self.inside.next + 1)) (sym c.in_default.ensures.opened)
    (tracked_given tracker.visible tracker (map_of c.self.inside.instants) c.self.inside.next c.self.invariant (rw c.in_default.ensures.opened at c.in_default.ensures.sound)))

pub returns-clause-opened : goal.returns-clause-opened
returns-clause-opened c =
    (λ i. tracked (c.in_default.ensures.opened i) (more c i) (c.self.inside.next + 1))
    ∙ ap (λ (t : Tracked). record t { tickets = opened t.visible t.tickets }) c.self.view_is
