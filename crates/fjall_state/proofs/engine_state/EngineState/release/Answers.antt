use Rattle.std.proofs.Common.{true, false, ◌∙◌, sym}
use Rattle.fjall_machine.proofs.Lawful.{release_is}
use Rattle.fjall_state.proofs.engine_state.EngineState.release.Goals.{then-is_last, else-is_last}
use Rattle.fjall_state.proofs.engine_state.EngineState.release.Goals as goal

pub returns : goal.returns
returns c =
    c.count_less.ensures
    ∙ elim c.if-is_last.branch [
      | then-is_last w ↦ release_is c.args.self.now c.if-is_last.self c.args.id true (sym w.if-is_last.true ∙ c.is_last.ensures) (w.self-is ∙ w.let_go.ensures)
      | else-is_last w ↦ release_is c.args.self.now c.if-is_last.self c.args.id false (sym w.if-is_last.false ∙ c.is_last.ensures) w.self-is
    ]
