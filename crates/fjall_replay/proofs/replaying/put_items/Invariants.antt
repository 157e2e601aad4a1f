use Rattle.std.proofs.Common.{◌≡◌, All, length}
use Rattle.fjall_table.specs.Blocks.{IsEntry}
use Rattle.fjall_trees.specs.Views.{forest_of}
use Rattle.fjall_meta.specs.Replays.{counts_unpersisted}
use Rattle.fjall_meta.specs.Views.{entry_of}
use Rattle.fjall_replay.specs.Beside.{BeginBy}
use Rattle.fjall_replay.specs.Steps.{with_items}
use Rattle.fjall_replay.proofs.replaying.put_items.Given as goal

-- what is left makes of the trees what all items make of the first ones
abbrev pub invariant-loop-item : goal.invariant-loop-item
invariant-loop-item l = record {
  left : with_items (counts_unpersisted l.keyspaces l.persisted l.number) l.number l.rest (forest_of l.trees)
      ≡ with_items (counts_unpersisted l.keyspaces l.persisted l.number) l.number l.items (forest_of l.fn.trees);
  fits : All (λ item. IsEntry (entry_of l.number item)) l.rest;
  begun : BeginBy (counts_unpersisted l.keyspaces l.persisted l.number) l.number (forest_of l.trees);
}

abbrev pub decreases-loop-item : goal.decreases-loop-item
decreases-loop-item l = length l.rest
