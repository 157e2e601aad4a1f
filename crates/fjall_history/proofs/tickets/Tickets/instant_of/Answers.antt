use Rattle.std.proofs.Common.{◌∙◌, ap, sym}
use Rattle.std.specs.FinMap.{get}
use Rattle.fjall_history.specs.Tickets.{Tracked}
use Rattle.fjall_history.proofs.Maps.{same_get}
use Rattle.fjall_history.proofs.tickets.Tickets.instant_of.Goals as goal

pub returns : goal.returns
returns c =
    c.copied.ensures ∙ c.get.ensures.value ∙ sym (same_get c.self.inside.instants c.args.id)
    ∙ ap (λ (t : Tracked). get t.tickets.instants c.args.id) c.self.view_is
