use Rattle.std.proofs.Common.{◌≡◌}
use Rattle.fjall_index.specs.Changes.{batch_of}
use Rattle.fjall_index.proofs.indexed_tx.write_kept.Given as goal

abbrev pub invariant-loop-items : goal.invariant-loop-items
invariant-loop-items l = l.batch.items ≡ batch_of l.yielded
