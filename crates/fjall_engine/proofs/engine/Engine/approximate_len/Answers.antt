use Rattle.std.proofs.Common.{ap, sym, ◌∙◌}
use Rattle.fjall_journal.specs.Writer.{counted}
use Rattle.fjall_tree.specs.Trees.{Shape}
use Rattle.fjall_machine.specs.Machine.{version_count}
use Rattle.fjall_machine.proofs.Sizes.{versions_agree}
use Rattle.fjall_engine.proofs.LookedUpTrees.{shape_looked_up}
use Rattle.fjall_engine.proofs.engine.Engine.approximate_len.Goals as goal

pub returns-in-Some-clause-parts : goal.returns-in-Some-clause-parts
returns-in-Some-clause-parts g c = λ s stands.
    let now = c.args.self.now in
    c.approximate_len.ensures ∙ ap (λ (shape : Shape). counted (version_count shape)) (shape_looked_up _ now c.args.id _ c.in-Some.ensures.tree c.self.view_is)
    ∙ ap counted (sym (versions_agree now.memory now.catalog.next_table_id s stands.remembered c.args.id))

pub returns-in-None-clause-parts : goal.returns-in-None-clause-parts
returns-in-None-clause-parts g c = λ s stands.
    let now = c.args.self.now in
    ap (λ (shape : Shape). counted (version_count shape)) (shape_looked_up _ now c.args.id _ c.in-None.ensures.tree c.self.view_is)
    ∙ ap counted (sym (versions_agree now.memory now.catalog.next_table_id s stands.remembered c.args.id))
