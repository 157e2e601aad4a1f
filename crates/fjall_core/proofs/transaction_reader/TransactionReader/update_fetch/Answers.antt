use Rattle.std.proofs.Common.{IfErr, IfOk, subst, sym}
use Rattle.fjall_core.specs.Updating.{HasMade, IsMadeRefusal, MakesValue}
use Rattle.fjall_core.proofs.Updating.{is_refused, is_updated_so, read_as}
use Rattle.fjall_core.proofs.transaction_reader.TransactionReader.update_fetch.Goals as goal

pub returns-clause-refused : goal.returns-clause-refused
returns-clause-refused g c =
    let a = c.args in
    let old = a.self.now in
    let mid = c.read_key.new.self in
    let found = c.in_ok-found.found in
    let here = c.in_ok-found.ensures in
    let makes = MakesValue g.F.FnOnce a.f in
    let read = read_as g.D.Disk.honest old.reader.core.now mid.reader.core.now old.reader.view mid.reader.view old.transaction.now mid.transaction.now a.id c.as_slice.result.now a.key found c.as_slice.ensures
    (record { due = here.due; shown = here.shown; is = here.ok; marked = here.marked }) in
    is_refused makes g.D.Disk.honest old.reader.core.now mid.reader.core.now old.reader.view mid.reader.view old.transaction.now mid.transaction.now a.id a.key found c.settled.result read
    (subst (λ r. IfErr r (IsMadeRefusal makes a.key found)) (sym c.settled.ensures.same) c.make_copied-done.ensures.refused)

pub returns-clause-updated : goal.returns-clause-updated
returns-clause-updated g c =
    let a = c.args in
    let old = a.self.now in
    let mid = c.read_key.new.self in
    let found = c.in_ok-found.found in
    let here = c.in_ok-found.ensures in
    let makes = MakesValue g.F.FnOnce a.f in
    let read = read_as g.D.Disk.honest old.reader.core.now mid.reader.core.now old.reader.view mid.reader.view old.transaction.now mid.transaction.now a.id c.as_slice.result.now a.key found c.as_slice.ensures
    (record { due = here.due; shown = here.shown; is = here.ok; marked = here.marked }) in
    let made = subst (λ r. IfOk r (λ new. HasMade makes mid.transaction.now a.id a.key found new c.make_copied-done.new.transaction)) (sym c.settled.ensures.same) c.make_copied-done.ensures.ok in
    is_updated_so makes g.D.Disk.honest old.reader.core.now mid.reader.core.now old.reader.view mid.reader.view old.transaction.now mid.transaction.now c.make_copied-done.new.transaction c.settled.new.transaction
    a.id a.key found c.settled.result read c.settled.ensures.ok made
