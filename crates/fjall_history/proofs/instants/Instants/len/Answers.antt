use Rattle.std.proofs.Common.{ap, ◌∙◌}
use Rattle.fjall_history.specs.Trackers.{instant_count}
use Rattle.fjall_history.proofs.TrackerEntries.{count-entries}
use Rattle.fjall_history.proofs.instants.Instants.len.Goals as goal

pub returns : goal.returns
returns c =
    c.len.ensures.len ∙ count-entries c.self.inside.counts.entries c.len.ensures.ordered c.self.invariant.0
    ∙ ap instant_count c.self.view_is
