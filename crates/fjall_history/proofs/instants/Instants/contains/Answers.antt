use Rattle.std.proofs.Common.{ap, ◌∙◌}
use Rattle.fjall_history.specs.Trackers.{is_open}
use Rattle.fjall_history.proofs.TrackerEntries.{open-lookup}
use Rattle.fjall_history.proofs.instants.Instants.contains.Goals as goal

pub returns : goal.returns
returns c =
    c.contains_key.ensures ∙ open-lookup c.args.instant c.self.inside.counts.entries c.self.invariant.0
    ∙ ap (is_open c.args.instant) c.self.view_is
