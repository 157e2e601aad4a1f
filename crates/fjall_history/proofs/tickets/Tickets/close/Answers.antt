use Rattle.std.proofs.Common.{◌≡◌, ◌∙◌, None, Some, ap, subst, sym}
use Rattle.std.specs.FinMap.{get, remove}
use Rattle.fjall_history.specs.Tickets.{AreTracked, Tracked, closed, tracked}
use Rattle.fjall_history.proofs.Maps.{map_of, removed, same_get}
use Rattle.fjall_history.proofs.Tracking.{Closes, closes, closing_due}
use Rattle.fjall_history.proofs.tickets.Tickets.close.Goals as goal

there : (c : goal.After-close) → get (map_of c.self.inside.instants) c.args.id ≡ Some c.in-Some.instant
there c = same_get c.self.inside.instants c.args.id ∙ sym c.in-Some.ensures.value

closes_it : (c : goal.After-close) → Closes c.args.id c.in-Some.instant c.self.inside.tracker (map_of c.self.inside.instants) c.self.inside.next
closes_it c = closes c.args.id c.in-Some.instant c.self.inside.tracker (map_of c.self.inside.instants) c.self.inside.next c.self.invariant (there c)

pub returns-in_default-clause-cause : goal.returns-in_default-clause-cause
returns-in_default-clause-cause c =
    closing_due c.args.id c.args.self.now.tickets None
    (ap (λ (t : Tracked). get t.tickets.instants c.args.id) (sym c.self.view_is) ∙ same_get c.self.inside.instants c.args.id ∙ sym c.in_default.ensures.value)

pub invariant_of-self-2 : goal.invariant_of-self-2
invariant_of-self-2 c =
    subst (λ m. AreTracked c.close.new.self m c.self.inside.next) (sym (removed c.self.inside.instants c.remove.new.self c.args.id c.remove.ensures.updates.0))
    (subst (λ t. AreTracked t (remove (map_of c.self.inside.instants) c.args.id) c.self.inside.next) (sym c.close.ensures.closed) (closes_it c).are)

pub returns-clause-due : goal.returns-clause-due
returns-clause-due c =
    closing_due c.args.id c.args.self.now.tickets (Some c.in-Some.instant)
    (ap (λ (t : Tracked). get t.tickets.instants c.args.id) (sym c.self.view_is) ∙ there c)

pub returns-clause-ok : goal.returns-clause-ok
returns-clause-ok c =
    (λ i. tracked (c.close.ensures.closed i) (removed c.self.inside.instants c.remove.new.self c.args.id c.remove.ensures.updates.0 i) c.self.inside.next)
    ∙ (closes_it c).is
    ∙ ap (λ (t : Tracked). record t { tickets = closed t.visible c.args.id t.tickets }) c.self.view_is
