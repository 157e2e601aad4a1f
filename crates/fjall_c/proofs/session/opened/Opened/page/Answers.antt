use Rattle.std.proofs.Common.{◌≡◌, ◌<◌, List, Some, Err, length, ap, subst, sym, ◌∙◌}
use Rattle.fjall_base.specs.declared.error.Error.{Error}
use Rattle.fjall_core.specs.Holding.{Held}
use Rattle.fjall_core.specs.Transactions.{Tx}
use Rattle.fjall_c.specs.Live.{live}
use Rattle.fjall_c.specs.Transactions.{Pages, place_of}
use Rattle.fjall_c.proofs.Going.{within_one}
use Rattle.fjall_c.proofs.session.opened.Opened.page.Goals as goal

pub returns : goal.returns
returns c =
    let a = c.args in
    let old = a.self.now in
    let found : place_of a.id old.going.items ≡ Some c.in-Some.place = sym (ap (λ (l : List Tx). place_of a.id l) c.deref.ensures.value) ∙ sym c.place_of.ensures.place ∙ c.in-Some.is in
    let within : c.in-Some.place < length old.going.items = subst (λ (l : List Tx). c.in-Some.place < length l) c.deref.ensures.value c.in-Some.ensures.within in
    within_one a.id (λ (e : Error). c.page_in.result ≡ Err e) (Pages a.keyspace a.range.now a.back a.max c.page_in.result) (live old) c.page_in.new.engine c.in-Some.place c.index_mut-transaction.result.now c.page_in.new.transaction found within c.index_mut-transaction.ensures.value
    (subst (λ (e : Held). Pages a.keyspace a.range.now a.back a.max c.page_in.result e c.index_mut-transaction.result.now c.page_in.new.engine c.page_in.new.transaction) c.deref_mut.ensures.value c.page_in.ensures)
