use Rattle.std.proofs.Common.{◌∙◌, ap}
use Rattle.fjall_history.specs.Tickets.{Tickets, Tracked, collected, tracked}
use Rattle.fjall_history.proofs.Maps.{map_of}
use Rattle.fjall_history.proofs.Tracking.{collected_is, tracked_collected}
use Rattle.fjall_history.proofs.tickets.Tickets.gc.Goals as goal

pub invariant_of-self : goal.invariant_of-self
invariant_of-self c = rw c.gc.ensures.raised (tracked_collected c.self.inside.tracker (map_of c.self.inside.instants) c.self.inside.next c.self.invariant)

pub returns-clause-raised : goal.returns-clause-raised
returns-clause-raised c =
    ap (λ t. tracked t (map_of c.self.inside.instants) c.self.inside.next) c.gc.ensures.raised
    ∙ ap (λ (t : Tickets). record { visible = c.self.inside.tracker.visible; tickets = t }) (collected_is c.self.inside.tracker (map_of c.self.inside.instants) c.self.inside.next c.self.invariant)
    ∙ ap (λ (t : Tracked). record t { tickets = collected t.visible t.tickets }) c.self.view_is
