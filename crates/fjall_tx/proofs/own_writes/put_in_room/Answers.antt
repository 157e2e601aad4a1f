use Rattle.std.proofs.Common.{map, ap, sym, ◌∙◌}
use Rattle.std.proofs.lemmas.List.{map-id}
use Rattle.std.proofs.lemmas.Map.Iter.{iter_end}
use Rattle.fjall_journal.specs.declared.op.Op.{Op}
use Rattle.fjall_tx.specs.declared.key.Key.{Key}
use Rattle.fjall_tx.specs.Owns.{item_of}
use Rattle.fjall_tx.proofs.own_writes.put_in_room.Goals as goal

pub returns-clause-items : goal.returns-clause-items
returns-clause-items c =
    let l = c.loop-place in
    let all = iter_end (λ (x : Key × Op). x) c.args.writes.entries l.yielded _ _ _ _ c.into_iter-place-iterator.ensures.into_iter_gives.0 l.yielded_by c.in-None.is c.next.ensures.steps in
    l.invariant.0 ∙ ap (map item_of) (sym (map-id l.yielded) ∙ all.0)
