use Rattle.std.proofs.Common.{ap, sym, ◌∙◌}
use Rattle.std.specs.List.{count_by}
use Rattle.fjall_tree.specs.Trees.{Shape, is_l0}
use Rattle.fjall_machine.proofs.Sizes.{l0_counts_agree}
use Rattle.fjall_engine.proofs.LookedUpTrees.{shape_looked_up}
use Rattle.fjall_engine.proofs.engine.Engine.l0_table_count.Goals as goal

pub returns-in-Some-clause-parts : goal.returns-in-Some-clause-parts
returns-in-Some-clause-parts g c = λ s stands.
    let now = c.args.self.now in
    c.l0_table_count.ensures ∙ ap (λ (shape : Shape). count_by (λ t. is_l0 t.info.level) shape.tables) (shape_looked_up _ now c.args.id _ c.in-Some.ensures.tree c.self.view_is)
    ∙ sym (l0_counts_agree now.memory now.catalog.next_table_id s stands.remembered c.args.id)

pub returns-in-None-clause-parts : goal.returns-in-None-clause-parts
returns-in-None-clause-parts g c = λ s stands.
    let now = c.args.self.now in
    ap (λ (shape : Shape). count_by (λ t. is_l0 t.info.level) shape.tables) (shape_looked_up _ now c.args.id _ c.in-None.ensures.tree c.self.view_is)
    ∙ sym (l0_counts_agree now.memory now.catalog.next_table_id s stands.remembered c.args.id)
