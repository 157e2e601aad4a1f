use Rattle.std.proofs.Common.{◌≡◌, ◌≤◌, ◌+◌, length, map}
use Rattle.std.specs.Prelude.{vec_capacity}
use Rattle.fjall_tx.specs.Owns.{item_of}
use Rattle.fjall_tx.proofs.own_writes.put_in_room.Given as goal

abbrev pub invariant-loop-place : goal.invariant-loop-place
invariant-loop-place l = (l.room.items ≡ map item_of l.yielded) × (length l.yielded + length l.place-iterator ≤ vec_capacity l.room)
