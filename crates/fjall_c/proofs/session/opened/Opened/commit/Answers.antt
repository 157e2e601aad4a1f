use Rattle.std.proofs.Common.{◌≡◌, ◌<◌, List, Some, length, ap, refl, subst, sym, ◌∙◌}
use Rattle.fjall_base.specs.declared.error.Error.{Error}
use Rattle.fjall_tx.specs.declared.outcome.CommitOutcome.TheVariants.{Aborted}
use Rattle.fjall_core.specs.Transactions.{Tx}
use Rattle.fjall_c.specs.Live.{Live, live}
use Rattle.fjall_c.specs.Transactions.{CommitsOne, place_of}
use Rattle.fjall_c.proofs.Going.{of_one}
use Rattle.fjall_c.proofs.session.opened.Opened.commit.Goals as goal

pub returns : goal.returns
returns c =
    let old = c.args.self.now in
    let so = c.commit.ensures in
    let new : Live = record { engine = c.commit.new.self.engine; kept = c.commit.new.self.transactions; going = c.remove-transaction.new.self.items } in
    let found : place_of c.args.id old.going.items ≡ Some c.in-Some.place =
    sym (ap (λ (l : List Tx). place_of c.args.id l) c.deref.ensures.value) ∙ sym c.place_of.ensures.place ∙ c.in-Some.is in
    let within : c.in-Some.place < length old.going.items = subst (λ (l : List Tx). c.in-Some.place < length l) c.deref.ensures.value c.in-Some.ensures.within in
    of_one c.args.id (λ (e : Error). c.commit.result ≡ Aborted e) (CommitsOne c.commit.result) (live old) new c.in-Some.place c.remove-transaction.result found within c.remove-transaction.ensures.value
    (record { serves = so.serves refl; owes = so.owes; steps = so.steps refl; gone = c.remove-transaction.ensures.by_index.2 })
