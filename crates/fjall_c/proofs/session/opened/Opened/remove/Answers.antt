use Rattle.std.proofs.Common.{◌≡◌, ◌<◌, List, Some, Err, length, ap, refl, subst, sym, ◌∙◌}
use Rattle.fjall_base.specs.declared.error.Error.{Error}
use Rattle.fjall_journal.specs.declared.op.Op.TheVariants.{Remove}
use Rattle.fjall_core.specs.Transactions.{Tx}
use Rattle.fjall_c.specs.Live.{live}
use Rattle.fjall_c.specs.Transactions.{Writes, place_of}
use Rattle.fjall_c.proofs.Going.{within_one}
use Rattle.fjall_c.proofs.session.opened.Opened.remove.Goals as goal

pub returns : goal.returns
returns c =
    let a = c.args in
    let old = a.self.now in
    let found : place_of a.id old.going.items ≡ Some c.in-Some.place = sym (ap (λ (l : List Tx). place_of a.id l) c.deref.ensures.value) ∙ sym c.place_of.ensures.place ∙ c.in-Some.is in
    let within : c.in-Some.place < length old.going.items = subst (λ (l : List Tx). c.in-Some.place < length l) c.deref.ensures.value c.in-Some.ensures.within in
    let so = c.remove_in.ensures in
    within_one a.id (λ (e : Error). c.remove_in.result ≡ Err e) (Writes a.keyspace a.key.now Remove c.remove_in.result) (live old) old.core.engine c.in-Some.place c.index_mut.result.now c.remove_in.new.transaction found within c.index_mut.ensures.value
    (record { same = refl; ok = so.ok; unchanged = so.unchanged; refused = so.refused })
