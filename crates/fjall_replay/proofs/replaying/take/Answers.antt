use Rattle.std.proofs.Common.{subst, sym}
use Rattle.fjall_trees.specs.Views.{forest_of}
use Rattle.fjall_meta.specs.Replays.{counts_unpersisted}
use Rattle.fjall_replay.specs.Beside.{BeginBy}
use Rattle.fjall_replay.proofs.Resting.{clears_begin}
use Rattle.fjall_replay.proofs.replaying.take.Goals as goal

pub put_items-requires-clause-begun : goal.put_items-requires-clause-begun
put_items-requires-clause-begun c =
    let n = c.args.batch.now.seqno in
    let counted = counts_unpersisted c.args.keyspaces.now c.args.persisted.now n in
    subst (BeginBy counted n) (sym c.in_ok-clear_trees.ensures) (clears_begin counted counted n n c.deref.result.now (forest_of c.args.trees.now) c.requires.begun)
