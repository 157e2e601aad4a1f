use Rattle.std.proofs.Common.{◌≡◌, map, take}
use Rattle.fjall_journal.specs.Batches.{view}
use Rattle.fjall_trees.specs.Views.{forest_of}
use Rattle.fjall_meta.specs.Replays.{counts_unpersisted}
use Rattle.fjall_replay.specs.Steps.{with_batches}
use Rattle.fjall_replay.proofs.replayed_journals.replay_journal.Given as goal

abbrev pub invariant-loop-batch : goal.invariant-loop-batch
invariant-loop-batch l = forest_of l.trees ≡ with_batches (counts_unpersisted l.keyspaces l.persisted) (map view (take l.batch-index l.batches)) (forest_of l.fn.trees)
