use Rattle.fjall_index.proofs.Showing.{shown_at}
use Rattle.fjall_index.proofs.reading.value_in.Goals as goal

pub returns-clause-found : goal.returns-clause-found
returns-clause-found g c = λ map shown.
    let reader = c.new-reader.result in
    c.value_by-found.ensures.found map
    (shown_at g.D.Disk.honest c.args.engine.now reader.core.now c.args.view reader.view c.args.id map c.new-reader.ensures.core c.new-reader.ensures.view shown)
