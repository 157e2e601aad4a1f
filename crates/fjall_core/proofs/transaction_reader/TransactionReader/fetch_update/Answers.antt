use Rattle.std.proofs.Common.{IfErr, OnOk, Option, ◌∙◌, subst, sym}
use Rattle.fjall_core.specs.Updating.{HasMade, IsMadeRefusal, IsUpdateRefusal, MakesValue, OfUpdate}
use Rattle.fjall_core.proofs.Updating.{is_updated, passed, read_as}
use Rattle.fjall_core.proofs.transaction_reader.TransactionReader.fetch_update.Goals as goal

pub returns-in_err-settled-clause-refused : goal.returns-in_err-settled-clause-refused
returns-in_err-settled-clause-refused g c =
    let a = c.args in
    let old = a.self.now in
    let mid = c.read_key.new.self in
    let found = c.in_ok-found.found in
    let here = c.in_ok-found.ensures in
    let makes = MakesValue g.F.FnOnce a.f in
    let read = read_as g.D.Disk.honest old.reader.core.now mid.reader.core.now old.reader.view mid.reader.view old.transaction.now mid.transaction.now a.id c.as_slice.result.now a.key found c.as_slice.ensures
    (record { due = here.due; shown = here.shown; is = here.ok; marked = here.marked }) in
    let refused = subst (λ r. IfErr r (IsMadeRefusal makes a.key found)) (sym c.settled.ensures.same ∙ c.in_err-settled.was) c.make-done.ensures.refused in
    passed (IsUpdateRefusal makes g.D.Disk.honest old.reader.core.now old.reader.view old.transaction.now.own a.id a.key mid.reader.core.now) c.from_residual-in_err-settled.result c.in_err-settled.field-0.0
    (OfUpdate here.due found read.is refused) c.from_residual-in_err-settled.ensures.1

pub returns-clause-updated : goal.returns-clause-updated
returns-clause-updated g c =
    let a = c.args in
    let old = a.self.now in
    let mid = c.read_key.new.self in
    let found = c.in_ok-found.found in
    let here = c.in_ok-found.ensures in
    let makes = MakesValue g.F.FnOnce a.f in
    let read = read_as g.D.Disk.honest old.reader.core.now mid.reader.core.now old.reader.view mid.reader.view old.transaction.now mid.transaction.now a.id c.as_slice.result.now a.key found c.as_slice.ensures
    (record { due = here.due; shown = here.shown; is = here.ok; marked = here.marked }) in
    let made = subst (λ r. OnOk r ((new : Option _) × HasMade makes mid.transaction.now a.id a.key found new c.make-done.new.transaction)) (sym c.settled.ensures.same ∙ c.in_ok-settled.was) c.make-done.ensures.ok in (
      made.0,
      is_updated makes g.D.Disk.honest old.reader.core.now mid.reader.core.now old.reader.view mid.reader.view old.transaction.now mid.transaction.now c.make-done.new.transaction c.settled.new.transaction a.id a.key
          found made.0 read c.in_ok-settled.ensures.ok made.1,
    )
