use Rattle.std.proofs.Common.{◌≡◌, ◌+◌, ◌<◌, ◌^◌, length}
use Rattle.std.specs.Prelude.{count_by}
use Rattle.fjall_tx.specs.Owns.{is_removal, removals}
use Rattle.fjall_tx.proofs.Fronts.{front}
use Rattle.fjall_tx.proofs.own_writes.OwnWrites.removals.Given as goal

abbrev pub invariant-loop-key : goal.invariant-loop-key
invariant-loop-key l = (l.count + length l.key-iterator < 2 ^ 63) × (l.count + count_by (λ e. is_removal e.1) (front l.id l.range.1 l.key-iterator) ≡ removals l.self l.id l.range)
