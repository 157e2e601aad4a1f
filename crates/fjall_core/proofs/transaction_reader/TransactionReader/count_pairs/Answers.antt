use Rattle.std.specs.Result.{result_err}
use Rattle.fjall_core.specs.ReadsGoing.{due_cause}
use Rattle.fjall_core.specs.OwnReadsGoing.{pages_on, pages_within}
use Rattle.fjall_core.proofs.transaction_reader.TransactionReader.count_pairs.Goals as goal

pub returns-clause-ok : goal.returns-clause-ok
returns-clause-ok g c map seen = c.pair_count.ensures.ok map (c.in_ok-page.ensures.same c.args.id map seen)

pub returns-clause-same : goal.returns-clause-same
returns-clause-same g c i map seen = c.pair_count.ensures.same i map (c.in_ok-page.ensures.same i map seen)

pub returns-clause-reads : goal.returns-clause-reads
returns-clause-reads g c =
    let self = c.args.self.now in
    let mid = c.page.new.self in
    let new = c.pair_count.new.pages in
    let error = result_err c.pair_count.result in
    pages_within g.D.Disk.honest self.reader.core new.reader.core self.reader.view new.reader.view self.transaction new.transaction c.args.id error
    (pages_on g.D.Disk.honest self.reader.core mid.reader.core new.reader.core self.reader.view mid.reader.view new.reader.view self.transaction mid.transaction new.transaction c.args.id c.args.id error
    c.in_ok-page.ensures.paging c.pair_count.ensures.paging)

pub returns-clause-cause : goal.returns-clause-cause
returns-clause-cause g c =
    let self = c.args.self.now in
    let mid = c.page.new.self in
    let new = c.pair_count.new.pages in
    let error = result_err c.pair_count.result in
    let pages = pages_on g.D.Disk.honest self.reader.core mid.reader.core new.reader.core self.reader.view mid.reader.view new.reader.view self.transaction mid.transaction new.transaction c.args.id c.args.id error
    c.in_ok-page.ensures.paging c.pair_count.ensures.paging in
    due_cause self.reader.core.now new.reader.core.now self.reader.view c.args.id c.pair_count.result c.in_ok-page.ensures.due pages.reads.cause
