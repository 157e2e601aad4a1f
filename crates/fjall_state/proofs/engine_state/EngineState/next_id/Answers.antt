use Rattle.std.proofs.Common.{◌∙◌, ap}
use Rattle.fjall_machine.specs.Remembered.{Remembered}
use Rattle.fjall_state.proofs.engine_state.EngineState.next_id.Goals as goal

pub returns-clause-stored : goal.returns-clause-stored
returns-clause-stored c = c.next_id.ensures.value ∙ ap (λ (m : Remembered). m.keyspaces.next) c.self.view_is
