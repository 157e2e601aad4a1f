use Rattle.std.proofs.Common.{length, ap, sym, ◌∙◌}
use Rattle.fjall_tree.specs.Trees.{Shape}
use Rattle.fjall_machine.proofs.Sizes.{sealed_agree}
use Rattle.fjall_engine.proofs.LookedUpTrees.{shape_looked_up}
use Rattle.fjall_engine.proofs.engine.Engine.sealed_memtable_count.Goals as goal

pub returns-in-Some-clause-parts : goal.returns-in-Some-clause-parts
returns-in-Some-clause-parts g c = λ s stands.
    let now = c.args.self.now in
    c.sealed_memtable_count.ensures ∙ ap (λ (shape : Shape). length shape.memory.sealed) (shape_looked_up _ now c.args.id _ c.in-Some.ensures.tree c.self.view_is)
    ∙ sym (sealed_agree now.memory now.catalog.next_table_id s stands.remembered c.args.id)

pub returns-in-None-clause-parts : goal.returns-in-None-clause-parts
returns-in-None-clause-parts g c = λ s stands.
    let now = c.args.self.now in
    ap (λ (shape : Shape). length shape.memory.sealed) (shape_looked_up _ now c.args.id _ c.in-None.ensures.tree c.self.view_is)
    ∙ sym (sealed_agree now.memory now.catalog.next_table_id s stands.remembered c.args.id)
