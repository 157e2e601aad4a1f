use Rattle.std.proofs.Common.{◌≡◌, true, rules}
use Rattle.fjall_trees.specs.Views.{forest_of}
use Rattle.fjall_meta.specs.Replays.{counts_unpersisted}
use Rattle.fjall_replay.proofs.Resting.{begin_at}
use Rattle.fjall_replay.proofs.replaying.put_item.Goals as goal

pub put-requires-clause-from : goal.put-requires-clause-from
put-requires-clause-from c shape at =
    let counted = counts_unpersisted c.args.keyspaces.now c.args.persisted.now c.args.number in
    let counts : counted c.args.item.now.keyspace_id ≡ true = search rules in
    begin_at counted c.args.number (forest_of c.args.trees.now) c.args.item.now.keyspace_id shape c.requires.begun at counts
