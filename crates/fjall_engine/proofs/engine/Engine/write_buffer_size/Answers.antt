use Rattle.std.proofs.Common.{ap, sym, ◌∙◌}
use Rattle.fjall_journal.specs.Writer.{counted}
use Rattle.fjall_machine.specs.Machine.{buffer_size}
use Rattle.fjall_machine.proofs.Sizes.{buffers_agree}
use Rattle.fjall_engine.specs.Holding.{Held}
use Rattle.fjall_engine.specs.Standing.{store_in}
use Rattle.fjall_engine.proofs.engine.Engine.write_buffer_size.Goals as goal

pub returns-clause-parts : goal.returns-clause-parts
returns-clause-parts g c = λ s stands.
    let now = c.args.self.now in
    c.write_buffer_size.ensures ∙ ap (λ (h : Held). counted (buffer_size (store_in h) h.memory.trees)) c.self.view_is
    ∙ ap counted (sym (buffers_agree now.memory now.catalog.next_table_id s stands.remembered))
