use Rattle.fjall_index.proofs.Showing.{shown_at}
use Rattle.fjall_index_entries.specs.Index.{index_of}
use Rattle.fjall_index.proofs.reading.find_in.Goals as goal

pub returns-clause-found : goal.returns-clause-found
returns-clause-found g c = λ of map main index.
    let reader = c.new-reader.result in
    c.find_by-found.ensures.found of map
    (shown_at g.D.Disk.honest c.args.engine.now reader.core.now c.args.view reader.view c.args.main map c.new-reader.ensures.core c.new-reader.ensures.view main)
    (shown_at g.D.Disk.honest c.args.engine.now reader.core.now c.args.view reader.view c.args.index (index_of of map) c.new-reader.ensures.core c.new-reader.ensures.view index)
