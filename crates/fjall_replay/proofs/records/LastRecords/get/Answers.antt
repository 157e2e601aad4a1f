use Rattle.std.proofs.Common.{Some, ap, sym, ◌∙◌}
use Rattle.std.specs.FinMap.{get}
use Rattle.fjall_replay.specs.Known.{LastFields}
use Rattle.fjall_replay.proofs.Maps.{same_get}
use Rattle.fjall_replay.proofs.records.LastRecords.get.Goals as goal

pub returns-in-Some : goal.returns-in-Some
returns-in-Some c =
    ap Some c.last.view_is ∙ c.in-Some.ensures.value ∙ sym (same_get c.self.inside.records c.args.id) ∙ ap (λ (m : LastFields). get m c.args.id) c.self.view_is

pub returns-in-None : goal.returns-in-None
returns-in-None c = c.in-None.ensures.value ∙ sym (same_get c.self.inside.records c.args.id) ∙ ap (λ (m : LastFields). get m c.args.id) c.self.view_is
