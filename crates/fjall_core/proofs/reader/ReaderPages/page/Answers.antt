use Rattle.std.proofs.Common.{refl}
use Rattle.fjall_core.proofs.Reading.{page_cause, page_looks, page_shown, page_stands, read_cause, shows_on}
use Rattle.fjall_core.proofs.reader.ReaderPages.page.Goals as goal

pub returns-clause-ok : goal.returns-clause-ok
returns-clause-ok g c =
    let self = c.args.self.now in
    page_shown g.D.Disk.honest self.core.now c.page_at.new.self self.view c.args.id c.args.range.now c.args.back c.args.max c.page_at.result c.page_at.ensures.owes c.page_at.ensures.serves

pub returns-clause-same : goal.returns-clause-same
returns-clause-same g c =
    let self = c.args.self.now in
    let looks = page_looks self.core.now c.page_at.new.self self.view c.args.id c.args.range.now c.args.back c.args.max c.page_at.result c.page_at.ensures.owes in
    let stand = page_stands g.D.Disk.honest self.core.now c.page_at.new.self self.view c.args.id c.args.range.now c.args.back c.args.max c.page_at.result c.page_at.ensures.owes c.page_at.ensures.serves in
    shows_on g.D.Disk.honest self.core.now c.page_at.new.self self.view looks stand

pub returns-clause-paging : goal.returns-clause-paging
returns-clause-paging g c =
    let self = c.args.self.now in
    let cause = page_cause self.core.now c.page_at.new.self self.view c.args.id c.args.range.now c.args.back c.args.max c.page_at.result c.page_at.ensures.owes in record {
      looks = page_looks self.core.now c.page_at.new.self self.view c.args.id c.args.range.now c.args.back c.args.max c.page_at.result c.page_at.ensures.owes;
      stand = page_stands g.D.Disk.honest self.core.now c.page_at.new.self self.view c.args.id c.args.range.now c.args.back c.args.max c.page_at.result c.page_at.ensures.owes c.page_at.ensures.serves;
      lent = refl;
      same = refl;
      cause = read_cause self.core.now c.page_at.new.self self.view c.args.id c.page_at.result cause;
    }

pub returns-clause-cause : goal.returns-clause-cause
returns-clause-cause g c =
    let self = c.args.self.now in
    page_cause self.core.now c.page_at.new.self self.view c.args.id c.args.range.now c.args.back c.args.max c.page_at.result c.page_at.ensures.owes
