use Rattle.std.proofs.Common.{subst, arith, List, sym}
use Rattle.std.specs.List.{AllByRecursion}
use Rattle.fjall_journal.specs.declared.op.Op.{Op}
use Rattle.fjall_tx.specs.declared.key.Key.{Key}
use Rattle.fjall_tx.specs.Owns.{IsWritable}
use Rattle.fjall_tx.proofs.TakingBack.{fewer, removed_is, rest_writable}
use Rattle.fjall_tx.proofs.own_writes.OwnWrites.forget.Goals as goal

pub invariant_of-self : goal.invariant_of-self
invariant_of-self c =
    let i = c.self.invariant in
    let e = c.remove.ensures in
    let less = fewer _ _ _ e.len in
    let room = i.1 in
    (i.0, omega (arith, less, room), subst (λ (es : List (Key × Op)). AllByRecursion IsWritable es) (sym e.entries) (rest_writable c.args.place.now c.self.inside.writes.entries i.2))

pub returns : goal.returns
returns c = rw (← c.self.view_is) (removed_is _ _ _ c.remove.ensures.updates.0)
