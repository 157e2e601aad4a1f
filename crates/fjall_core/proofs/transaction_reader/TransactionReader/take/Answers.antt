use Rattle.std.proofs.Common.{rules}
use Rattle.fjall_core.proofs.Updating.{is_taken, is_take_refused}
use Rattle.fjall_core.proofs.transaction_reader.TransactionReader.take.Goals as goal

pub returns-clause-updated : goal.returns-clause-updated
returns-clause-updated g c =
    let a = c.args in
    let old = a.self.now in
    let new = c.fetch_update.new.self in
    is_taken _ g.D.Disk.honest old.reader.core.now new.reader.core.now old.reader.view new.reader.view old.transaction.now new.transaction.now a.id a.key
    c.fetch_update.result (λ value made m. search rules) c.fetch_update.ensures.updated

pub returns-clause-refused : goal.returns-clause-refused
returns-clause-refused g c =
    let a = c.args in
    let old = a.self.now in
    let new = c.fetch_update.new.self in
    is_take_refused _ g.D.Disk.honest old.reader.core.now new.reader.core.now old.reader.view old.transaction.now.own a.id a.key
    c.fetch_update.result (λ value made m. search rules) c.fetch_update.ensures.refused
