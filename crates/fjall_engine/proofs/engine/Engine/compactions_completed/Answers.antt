use Rattle.std.proofs.Common.{ap, sym, ◌∙◌}
use Rattle.fjall_engine.specs.Holding.{Held}
use Rattle.fjall_engine.proofs.engine.Engine.compactions_completed.Goals as goal

pub returns-clause-state : goal.returns-clause-state
returns-clause-state g c = λ s stands.
    c.compactions_completed.ensures ∙ ap (λ (h : Held). h.memory.merges_done) c.self.view_is ∙ sym stands.remembered.merges_done
