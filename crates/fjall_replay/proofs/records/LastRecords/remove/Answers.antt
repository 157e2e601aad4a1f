use Rattle.std.proofs.Common.{ap, ◌∙◌}
use Rattle.std.specs.FinMap.{remove}
use Rattle.fjall_replay.specs.Known.{LastFields}
use Rattle.fjall_replay.proofs.Maps.{removed}
use Rattle.fjall_replay.proofs.records.LastRecords.remove.Goals as goal

pub returns : goal.returns
returns c =
    removed c.self.inside.records c.remove.new.self c.args.id c.remove.ensures.updates.0
    ∙ ap (λ (m : LastFields). remove m c.args.id) c.self.view_is
