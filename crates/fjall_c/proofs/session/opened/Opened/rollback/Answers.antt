use Rattle.std.proofs.Common.{◌≡◌, ◌<◌, List, Some, Err, length, ap, refl, subst, sym, ◌∙◌}
use Rattle.fjall_base.specs.declared.error.Error.{Error}
use Rattle.fjall_core.specs.Transactions.{Tx}
use Rattle.fjall_c.specs.Live.{Live, live}
use Rattle.fjall_c.specs.Transactions.{RollsOneBack, place_of}
use Rattle.fjall_c.proofs.Going.{of_one}
use Rattle.fjall_c.proofs.session.opened.Opened.rollback.Goals as goal

pub returns : goal.returns
returns c =
    let old = c.args.self.now in
    let so = c.rollback.ensures in
    let new : Live = record { engine = c.rollback.new.self.engine; kept = c.rollback.new.self.transactions; going = c.remove-transaction.new.self.items } in
    let found : place_of c.args.id old.going.items ≡ Some c.in-Some.place =
    sym (ap (λ (l : List Tx). place_of c.args.id l) c.deref.ensures.value) ∙ sym c.place_of.ensures.place ∙ c.in-Some.is in
    let within : c.in-Some.place < length old.going.items = subst (λ (l : List Tx). c.in-Some.place < length l) c.deref.ensures.value c.in-Some.ensures.within in
    of_one c.args.id (λ (e : Error). c.rollback.result ≡ Err e) (RollsOneBack c.rollback.result) (live old) new c.in-Some.place c.remove-transaction.result found within c.remove-transaction.ensures.value
    (record { makes = (so.serves refl, so.owes); ok = so.ok; err = so.err; steps = so.steps refl; gone = c.remove-transaction.ensures.by_index.2 })
