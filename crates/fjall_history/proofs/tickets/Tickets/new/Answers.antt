use Rattle.std.proofs.Common.{◌∙◌, ap, subst, sym}
use Rattle.std.specs.FinMap.{from_entries}
use Rattle.std.specs.Ordering.{nat_cmp}
use Rattle.fjall_history.specs.Trackers.{after_raise, fresh_tracker}
use Rattle.fjall_history.specs.Tickets.{AreTracked}
use Rattle.fjall_history.proofs.Tracking.{tracked_fresh}
use Rattle.fjall_history.proofs.tickets.Tickets.new.Goals as goal

pub invariant_of-result : goal.invariant_of-result
invariant_of-result c =
    subst (λ t. AreTracked t (from_entries {R = nat_cmp} c.new.result.entries) 0) (sym (c.set.ensures.raised ∙ ap (after_raise c.args.visible) c.new-tracker.ensures.fresh))
    (subst (λ es. AreTracked (after_raise c.args.visible fresh_tracker) (from_entries {R = nat_cmp} es) 0) (sym c.new.ensures.empty) (tracked_fresh c.args.visible))
