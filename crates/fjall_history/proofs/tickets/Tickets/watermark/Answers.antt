use Rattle.std.proofs.Common.{◌<◌, ◌∙◌, ap, subst, sym}
use Rattle.std.specs.FinMap.{get}
use Rattle.fjall_history.specs.Tickets.{Tracked}
use Rattle.fjall_history.proofs.Maps.{map_of}
use Rattle.fjall_history.proofs.Tracking.{is_spared}
use Rattle.fjall_history.proofs.tickets.Tickets.watermark.Goals as goal

pub returns-clause-behind : goal.returns-clause-behind
returns-clause-behind c some =
    let is = c.get_seqno_safe_to_gc.ensures.watermark in
    subst (λ n. n < c.args.self.now.visible) (sym is)
    (subst (λ n. c.self.inside.tracker.watermark < n) (ap (λ (t : Tracked). t.visible) c.self.view_is) (c.self.invariant.sound.behind (subst (λ n. 0 < n) is some)))

pub returns-clause-spared : goal.returns-clause-spared
returns-clause-spared c id instant there some =
    let is = c.get_seqno_safe_to_gc.ensures.watermark in
    subst (λ n. n < instant) (sym is)
    (is_spared c.self.inside.tracker (map_of c.self.inside.instants) c.self.inside.next id instant c.self.invariant
    (ap (λ (t : Tracked). get t.tickets.instants id) c.self.view_is ∙ there) (subst (λ n. 0 < n) is some))
