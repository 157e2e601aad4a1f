use Rattle.std.proofs.Common.{◌≤◌, ◌∙◌, ap, subst}
use Rattle.std.specs.FinMap.{get}
use Rattle.fjall_history.specs.Tickets.{Tracked}
use Rattle.fjall_history.proofs.Maps.{map_of}
use Rattle.fjall_history.proofs.Tracking.{is_reached}
use Rattle.fjall_history.proofs.tickets.Tickets.seqno.Goals as goal

pub returns-clause-reached : goal.returns-clause-reached
returns-clause-reached c id instant there =
    subst (λ n. instant ≤ n) (ap (λ (t : Tracked). t.visible) c.self.view_is)
    (is_reached c.self.inside.tracker (map_of c.self.inside.instants) c.self.inside.next id instant c.self.invariant (ap (λ (t : Tracked). get t.tickets.instants id) c.self.view_is ∙ there))
