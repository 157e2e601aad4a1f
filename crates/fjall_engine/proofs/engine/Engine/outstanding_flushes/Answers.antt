use Rattle.std.proofs.Common.{ap, sym, ◌∙◌}
use Rattle.fjall_machine.specs.Machine.{flush_count}
use Rattle.fjall_machine.proofs.Sizes.{waits_agree}
use Rattle.fjall_engine.specs.Holding.{Held}
use Rattle.fjall_engine.specs.Standing.{store_in}
use Rattle.fjall_engine.proofs.engine.Engine.outstanding_flushes.Goals as goal

pub returns-clause-parts : goal.returns-clause-parts
returns-clause-parts g c = λ s stands.
    let now = c.args.self.now in
    c.outstanding_flushes.ensures ∙ ap (λ (h : Held). flush_count (store_in h) h.memory.trees) c.self.view_is
    ∙ sym (waits_agree now.memory now.catalog.next_table_id s stands.remembered)
