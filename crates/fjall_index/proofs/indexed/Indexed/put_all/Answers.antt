use Rattle.std.proofs.Common.{List, Ok, rules, sym, ◌∙◌, subst}
use Rattle.std.proofs.lemmas.Iterator.Adapters.{YieldsList-from_vec}
use Rattle.std.proofs.lemmas.Iterator.Consumers.{YieldsList-end}
use Rattle.std.proofs.lemmas.List.{map-id}
use Rattle.fjall_base.specs.Pairs.{Bytes}
use Rattle.fjall_index.specs.Loading.{KeepsPairs}
use Rattle.fjall_index.proofs.Loads.{none_put, one_put, put_refused}
use Rattle.fjall_index.proofs.indexed.Indexed.put_all.Goals as goal

pub loop-key-init : goal.loop-key-init
loop-key-init g c = λ h. none_put (g.E.Extract.field_of c.args.self.now.extract) c.args.self.now.main c.args.self.now.index c.args.core.now.engine c.args.core.now.transactions c.args.tx.now

pub loop-key-preserved : goal.loop-key-preserved
loop-key-preserved g c = λ h.
    one_put (g.E.Extract.field_of c.args.self.now.extract) c.args.self.now.main c.args.self.now.index c.args.core.now.engine c.loop-key.core.engine c.put_in.new.core.engine
    c.args.core.now.transactions c.loop-key.core.transactions c.put_in.new.core.transactions c.args.tx.now c.loop-key.tx c.put_in.new.tx _ c.in-Some.key c.in-Some.value
    (c.loop-key.invariant h) (c.in_ok-put_in.ensures.keeps h)

pub returns-in_err-put_in : goal.returns-in_err-put_in
returns-in_err-put_in g c = record {
  keeps = λ h.
      put_refused (g.E.Extract.field_of c.args.self.now.extract) c.args.self.now.main c.args.self.now.index c.args.core.now.engine c.loop-key.core.engine c.put_in.new.core.engine
      c.args.core.now.transactions c.loop-key.core.transactions c.put_in.new.core.transactions c.args.tx.now c.loop-key.tx c.put_in.new.tx _ c.args.pairs.items c.in-Some.key c.in-Some.value
      c.put_in.result c.from_residual.result c.from_residual.ensures.0 (c.loop-key.invariant h) (c.put_in.ensures.keeps h);
}

pub returns : goal.returns
returns g c = record {
  keeps = λ h.
      let at = c.loop-key in
      let road = YieldsList-from_vec {s = c.into_iter-key-iterator.result} c.args.pairs.items (search rules) (search rules) in
      let end = YieldsList-end road at.yielded at.key-iterator at.yielded_by c.next.result c.next.new.self c.in-None.is c.next.ensures.steps in
      subst (λ (gone : List (Bytes × Bytes)). KeepsPairs (g.E.Extract.field_of c.args.self.now.extract) c.args.self.now.main c.args.self.now.index gone c.args.tx.now (Ok tt) at.tx
      c.args.core.now.engine c.args.core.now.transactions at.core.engine at.core.transactions)
      (sym (map-id at.yielded) ∙ end.0) (at.invariant h);
}
