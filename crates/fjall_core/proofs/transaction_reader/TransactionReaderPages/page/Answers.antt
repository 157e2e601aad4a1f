use Rattle.std.proofs.Common.{refl}
use Rattle.fjall_core.specs.OwnReadsGoing.{pages_none, pages_short}
use Rattle.fjall_core.proofs.Laying.{sees_on}
use Rattle.fjall_core.proofs.transaction_reader.TransactionReaderPages.page.Goals as goal

pub returns-clause-same : goal.returns-clause-same
returns-clause-same g c =
    let self = c.args.self.now in
    let own = self.transaction.now.own in
    sees_on g.D.Disk.honest self.reader.core.now c.laid_page.new.reader.core.now self.reader.view c.laid_page.new.reader.view own own c.laid_page.ensures.same refl

pub returns-then-take-clause-paging : goal.returns-then-take-clause-paging
returns-then-take-clause-paging g c =
    let self = c.args.self.now in
    pages_short g.D.Disk.honest self.reader.core self.reader.core self.reader.view self.reader.view self.transaction self.transaction c.args.id
    (pages_none g.D.Disk.honest self.reader.core self.reader.view self.transaction c.args.id)
