use Rattle.std.proofs.Common.{ap, sym, ◌∙◌}
use Rattle.fjall_machine.specs.Machine.{merge_count}
use Rattle.fjall_machine.proofs.MergeSettings.{merges_counted}
use Rattle.fjall_engine.specs.Holding.{Held}
use Rattle.fjall_engine.proofs.engine.Engine.active_compactions.Goals as goal

pub returns-clause-parts : goal.returns-clause-parts
returns-clause-parts g c = λ s stands.
    let now = c.args.self.now in
    c.active_compactions.ensures ∙ ap (λ (h : Held). merge_count h.memory.trees) c.self.view_is
    ∙ sym (merges_counted now.memory now.catalog.next_table_id s stands.remembered)
