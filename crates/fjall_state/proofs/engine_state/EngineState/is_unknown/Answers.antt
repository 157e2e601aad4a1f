use Rattle.std.proofs.Common.{◌∙◌, ap}
use Rattle.std.proofs.lemmas.Bool.{ne_eqb}
use Rattle.fjall_machine.specs.Remembered.{Remembered}
use Rattle.fjall_machine.proofs.Facts.{unknown_is}
use Rattle.fjall_state.proofs.engine_state.EngineState.is_unknown.Goals as goal

pub returns-else-id-eq0 : goal.returns-else-id-eq0
returns-else-id-eq0 c =
    unknown_is c.args.self.now.keyspaces c.args.self.now.trees c.args.id c.next_id.result (c.next_id.ensures.value ∙ ap (λ (m : Remembered). m.keyspaces.next) c.self.view_is) (ne_eqb c.args.id 0 c.if-id-eq0.false)
