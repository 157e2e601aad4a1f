use Rattle.std.proofs.Common.{◌≡◌, drop, map}
use Rattle.fjall_journal.specs.Batches.{view}
use Rattle.fjall_meta.specs.Replays.{least_after, first_fault}
use Rattle.fjall_meta.proofs.sound.check_batches.Given as goal

-- what the batches behind say is what all of them say
abbrev pub invariant-loop-batch : goal.invariant-loop-batch
invariant-loop-batch l = record {
  least : least_after l.next (map view (drop l.batch-index l.batches)) ≡ least_after l.least (map view l.batches);
  fault : first_fault l.next (map view (drop l.batch-index l.batches)) ≡ first_fault l.least (map view l.batches);
}
