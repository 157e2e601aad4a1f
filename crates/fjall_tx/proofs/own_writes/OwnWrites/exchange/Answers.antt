use Rattle.std.proofs.Common.{ap, sym, ◌∙◌, subst, arith, List, Option}
use Rattle.std.specs.Prelude.{IfSome}
use Rattle.std.specs.FinMap as fin
use Rattle.std.specs.List.{AllByRecursion}
use Rattle.fjall_journal.specs.declared.op.Op.{Op}
use Rattle.fjall_tx.specs.declared.key.Key.{Key}
use Rattle.fjall_tx.specs.Owns.{IsWritable, Own}
use Rattle.fjall_tx.proofs.Keys.{inserted, same_get}
use Rattle.fjall_tx.proofs.TakingBack.{found_writable}
use Rattle.fjall_tx.proofs.Writable.{one_at_most, put_writable}
use Rattle.fjall_tx.proofs.own_writes.OwnWrites.exchange.Goals as goal

pub invariant_of-self-2 : goal.invariant_of-self-2
invariant_of-self-2 c =
    let i = c.self.invariant in
    let e = c.in_ok-insert.ensures in
    let r = c.in_ok-reserve.ensures in
    let more = one_at_most _ _ _ e.len in
    let before = c.len.ensures.len in
    let room = r.ok in
    (r.items ∙ i.0, omega (arith, more, before, room), subst (λ (es : List (Key × Op)). AllByRecursion IsWritable es) (sym e.entries) (put_writable c.args.place c.args.op c.requires.fits c.self.inside.writes.entries i.2))

pub returns-clause-ok : goal.returns-clause-ok
returns-clause-ok c = rw (← c.self.view_is) (inserted _ _ _ _ c.in_ok-insert.ensures.updates.0)

pub returns-clause-before : goal.returns-clause-before
returns-clause-before c =
    c.in_ok-insert.ensures.old ∙ sym (same_get c.self.inside.writes.entries c.args.place) ∙ ap (λ (own : Own). fin.get own c.args.place) c.self.view_is

pub returns-clause-writable : goal.returns-clause-writable
returns-clause-writable c =
    subst (λ (o : Option Op). IfSome o (λ op. IsWritable (c.args.place, op))) (sym c.in_ok-insert.ensures.old) (found_writable c.args.place c.self.inside.writes.entries c.self.invariant.2)
