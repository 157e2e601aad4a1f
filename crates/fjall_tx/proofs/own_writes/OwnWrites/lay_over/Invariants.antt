use Rattle.std.proofs.Common.{◌≡◌, ◌++◌, length, map}
use Rattle.std.specs.FinMap.{entries}
use Rattle.fjall_base.specs.Pairs.{byte_order}
use Rattle.fjall_journal.specs.Ops.{value_in}
use Rattle.fjall_tx.proofs.Fronts.{front}
use Rattle.fjall_tx.proofs.Layers.{keyed, within}
use Rattle.fjall_tx.proofs.Merges.{merge, step}
use Rattle.fjall_tx.proofs.own_writes.OwnWrites.lay_over.Given as goal

abbrev pub invariant-loop-key : goal.invariant-loop-key
invariant-loop-key l =
    l.seen.items ++ merge byte_order value_in (map keyed (front l.id l.range.1 l.key-iterator)) l.found.items ≡ merge byte_order value_in (within l.id l.range (entries l.self)) l.fn.found.items

abbrev pub invariant-loop-pair : goal.invariant-loop-pair
invariant-loop-pair l =
    l.seen.items ++ step byte_order value_in (l.key.key, l.op) (merge byte_order value_in (map keyed (front l.id l.range.1 l.key-iterator))) l.found.items
    ≡ merge byte_order value_in (within l.id l.range (entries l.self)) l.fn.found.items

abbrev pub decreases-loop-pair : goal.decreases-loop-pair
decreases-loop-pair l = length l.found.items

abbrev pub invariant-loop-pair-2 : goal.invariant-loop-pair-2
invariant-loop-pair-2 l = l.seen.items ++ l.found.items ≡ merge byte_order value_in (within l.id l.range (entries l.self)) l.fn.found.items

abbrev pub decreases-loop-pair-2 : goal.decreases-loop-pair-2
decreases-loop-pair-2 l = length l.found.items
