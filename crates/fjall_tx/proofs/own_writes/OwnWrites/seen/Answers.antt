use Rattle.std.proofs.Common.{◌≡◌, Option, None, ap, sym, ◌∙◌}
use Rattle.std.proofs.lemmas.Result.{IfOk-weaker}
use Rattle.std.specs.FinMap.{get}
use Rattle.std.specs.Option.{option_copied}
use Rattle.fjall_base.specs.Store.{map_at}
use Rattle.fjall_journal.specs.Ops.{value_in}
use Rattle.fjall_journal.specs.declared.op.Op.{Op}
use Rattle.fjall_tx.specs.Owns.{key_of, own_written}
use Rattle.fjall_tx.proofs.Layers.{own_get}
use Rattle.fjall_tx.proofs.Merges.{chosen}
use Rattle.fjall_tx.proofs.own_writes.OwnWrites.seen.Goals as goal

pub returns-in-Some-clause-ok : goal.returns-in-Some-clause-ok
returns-in-Some-clause-ok c maps is =
    let a = c.args in
    let before = get (map_at maps a.id) a.key in
    let after = get (map_at (own_written maps a.self.now) a.id) a.key in
    let seen : after ≡ value_in c.in-Some.op.now = own_get a.self.now maps a.id a.key ∙ ap (λ (f : Option Op). chosen value_in f before) (sym c.in-Some.ensures) in
    IfOk-weaker c.value_of.result (λ v. v ≡ value_in c.in-Some.op.now) (λ v. v ≡ after) (λ v e. e ∙ sym seen) c.value_of.ensures.ok

pub returns-in-None-clause-ok : goal.returns-in-None-clause-ok
returns-in-None-clause-ok c maps is =
    let a = c.args in
    let op : get a.self.now (key_of a.id a.key) ≡ None = sym c.get.ensures ∙ ap option_copied c.in-None.is in
    is ∙ sym (own_get a.self.now maps a.id a.key ∙ ap (λ (f : Option Op). chosen value_in f (get (map_at maps a.id) a.key)) op)
