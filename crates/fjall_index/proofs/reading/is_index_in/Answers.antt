use Rattle.fjall_history.specs.declared.ticket.View.TheVariants.{Present}
use Rattle.fjall_index.proofs.Showing.{shown_at}
use Rattle.fjall_index.proofs.reading.is_index_in.Goals as goal

pub returns-clause-ok : goal.returns-clause-ok
returns-clause-ok g c = λ map found main index.
    let reader = c.new-reader.result in
    c.shows_index-told.ensures.ok map found
    (shown_at g.D.Disk.honest c.args.engine.now reader.core.now Present reader.view c.args.main map c.new-reader.ensures.core c.new-reader.ensures.view main)
    (shown_at g.D.Disk.honest c.args.engine.now reader.core.now Present reader.view c.args.index found c.new-reader.ensures.core c.new-reader.ensures.view index)
