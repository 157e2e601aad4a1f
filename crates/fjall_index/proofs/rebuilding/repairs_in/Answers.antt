use Rattle.std.proofs.Common.{rules}
use Rattle.fjall_index.proofs.Refusing.{repair_cause}
use Rattle.fjall_index.proofs.Showing.{shown_at}
use Rattle.fjall_index.proofs.rebuilding.repairs_in.Goals as goal

pub returns-clause-ok : goal.returns-clause-ok
returns-clause-ok g c = λ pairs found main index.
    let reader = c.new-reader.result in
    c.repairs_by-items.ensures.ok pairs found
    (shown_at g.D.Disk.honest c.args.engine.now reader.core.now c.args.view reader.view c.args.main pairs c.new-reader.ensures.core c.new-reader.ensures.view main)
    (shown_at g.D.Disk.honest c.args.engine.now reader.core.now c.args.view reader.view c.args.index found c.new-reader.ensures.core c.new-reader.ensures.view index)

pub returns-clause-cause : goal.returns-clause-cause
returns-clause-cause g c =
    let reader = c.new-reader.result in
    repair_cause g.D.Disk.honest (g.E.Extract.field_of c.args.extract.now) c.args.main c.args.index c.repairs_by-items.result
    c.args.engine.now reader.core.now c.args.view reader.view _ c.repairs_by-items.new.reader.core.now.disk c.new-reader.ensures.core c.new-reader.ensures.view (search rules) c.repairs_by-items.ensures.cause
