use Rattle.fjall_trees.specs.Views.{forest_of}
use Rattle.fjall_opening.proofs.Sealings.{one_sealed}
use Rattle.fjall_opening.proofs.replaying.Replay.seal_next.Goals as goal

pub returns-clause-ok : goal.returns-clause-ok
returns-clause-ok c loaded front at =
    let seals = c.in_ok-seal_all.ensures in
    one_sealed c.args.self.now loaded front c.args.progress.now.place (forest_of c.args.progress.now.trees) (forest_of c.seal_all.new.trees) c.requires at
    (record { all = seals.ok; shows = seals.shows; reads = seals.reads; ids = seals.ids; before = seals.before; empty = seals.empty })
