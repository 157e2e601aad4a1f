use Rattle.std.proofs.Common.{◌+◌}
use Rattle.fjall_history.proofs.Maps.{map_of}
use Rattle.fjall_history.proofs.Tracking.{tracked_raised}
use Rattle.fjall_history.proofs.tickets.Tickets.publish.Goals as goal

pub invariant_of-self : goal.invariant_of-self
invariant_of-self c =
    rw c.publish.ensures.raised (tracked_raised (c.get-number.result + 1) c.self.inside.tracker (map_of c.self.inside.instants) c.self.inside.next c.self.invariant)
