use Rattle.std.proofs.Common.{ap, ◌∙◌}
use Rattle.std.specs.FinMap.{insert}
use Rattle.fjall_replay.specs.Known.{LastFields}
use Rattle.fjall_manifest.specs.Records.{view}
use Rattle.fjall_replay.proofs.Maps.{inserted}
use Rattle.fjall_replay.proofs.records.LastRecords.insert.Goals as goal

pub returns-clause-ok : goal.returns-clause-ok
returns-clause-ok c =
    inserted c.self.inside.records c.insert.new.self c.args.id (view c.args.last) c.in_ok-insert.ensures.updates.0
    ∙ ap (λ (m : LastFields). insert m c.args.id (view c.args.last)) c.self.view_is
