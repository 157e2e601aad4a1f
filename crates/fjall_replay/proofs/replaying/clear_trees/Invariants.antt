use Rattle.std.proofs.Common.{◌≡◌, take}
use Rattle.fjall_trees.specs.Views.{forest_of}
use Rattle.fjall_meta.specs.Replays.{counts_unpersisted}
use Rattle.fjall_replay.specs.Steps.{with_clears}
use Rattle.fjall_replay.proofs.replaying.clear_trees.Given as goal

abbrev pub invariant-loop-id : goal.invariant-loop-id
invariant-loop-id l = forest_of l.trees ≡ with_clears (counts_unpersisted l.keyspaces l.persisted l.number) l.number (take l.id-index l.ids) (forest_of l.fn.trees)
