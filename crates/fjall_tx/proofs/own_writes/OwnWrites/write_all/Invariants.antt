use Rattle.std.proofs.Common.{◌≡◌, ◌+◌, ◌≤◌, length}
use Rattle.std.specs.List.{AllByRecursion}
use Rattle.std.specs.VecDeque.{deque_capacity, deque_len}
use Rattle.fjall_tx.specs.Owns.{CanTakeBack, taken_back, with_writes}
use Rattle.fjall_tx.proofs.TakingBack.{Fits}
use Rattle.fjall_tx.proofs.own_writes.OwnWrites.write_all.Given as goal

abbrev pub invariant-loop-item : goal.invariant-loop-item
invariant-loop-item l = record {
  can : CanTakeBack l.self l.earlier.items;
  back : taken_back l.self l.earlier.items ≡ l.fn.self;
  all : with_writes l.self l.rest.items ≡ with_writes l.fn.self l.fn.items.items;
  fit : AllByRecursion Fits l.rest.items;
  room : deque_len l.earlier + length l.rest.items ≤ deque_capacity l.earlier;
}

abbrev pub decreases-loop-item : goal.decreases-loop-item
decreases-loop-item l = length l.rest.items
