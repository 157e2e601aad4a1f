use Rattle.std.proofs.Common.{ap, sym, ◌∙◌}
use Rattle.fjall_machine.specs.Machine.{wants_rotation}
use Rattle.fjall_machine.proofs.Sizes.{wants_agree}
use Rattle.fjall_engine.specs.Holding.{Held}
use Rattle.fjall_engine.specs.Standing.{store_in}
use Rattle.fjall_engine.proofs.engine.Engine.wants_rotation.Goals as goal

pub returns-clause-parts : goal.returns-clause-parts
returns-clause-parts g c = λ s stands.
    let now = c.args.self.now in
    c.wants_rotation.ensures ∙ ap (λ (h : Held). wants_rotation (store_in h) h.memory.trees c.args.id) c.self.view_is
    ∙ sym (wants_agree now.memory now.catalog.next_table_id s stands.remembered c.args.id)
