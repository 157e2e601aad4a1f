use Rattle.std.proofs.Common.{All, IsTrue, ap, subst, sym, ◌∙◌}
use Rattle.fjall_memtable.specs.Parts.{holds_nothing}
use Rattle.fjall_trees.specs.Forests.{AreBefore, Forest}
use Rattle.fjall_trees.specs.Tables.{AreReadOn}
use Rattle.fjall_trees.specs.Views.{forest_of}
use Rattle.fjall_replay.specs.Beside.{AreEndedBy, AreReplayedWith}
use Rattle.fjall_replay.specs.Replayed.{ids_of}
use Rattle.fjall_replay.proofs.Sealing.{all_before, all_empty, all_ended, all_ids, all_read, all_shown}
use Rattle.fjall_replay.proofs.replayed_journals.seal_all.Goals as goal

pub returns-clause-empty : goal.returns-clause-empty
returns-clause-empty c =
    subst (λ (t : Forest). All (λ k. IsTrue (holds_nothing k.shape.memory.active)) t) (sym c.in_ok-rotate_memtables.ensures.ok) (all_empty (forest_of c.args.trees.now))

pub returns-clause-ids : goal.returns-clause-ids
returns-clause-ids c = ap ids_of c.in_ok-rotate_memtables.ensures.ok ∙ all_ids (forest_of c.args.trees.now)

pub returns-clause-shows : goal.returns-clause-shows
returns-clause-shows c entries s stored batches shown =
    subst (AreReplayedWith entries s stored batches) (sym c.in_ok-rotate_memtables.ensures.ok) (all_shown entries s stored batches (forest_of c.args.trees.now) shown)

pub returns-clause-reads : goal.returns-clause-reads
returns-clause-reads c disk entries read =
    subst (λ (t : Forest). AreReadOn disk t entries) (sym c.in_ok-rotate_memtables.ensures.ok) (all_read disk entries (forest_of c.args.trees.now) read)

pub returns-clause-ended : goal.returns-clause-ended
returns-clause-ended c persisted least ended =
    subst (AreEndedBy persisted least) (sym c.in_ok-rotate_memtables.ensures.ok) (all_ended persisted least (forest_of c.args.trees.now) ended)

pub returns-clause-before : goal.returns-clause-before
returns-clause-before c bound before =
    subst (AreBefore bound) (sym c.in_ok-rotate_memtables.ensures.ok) (all_before bound (forest_of c.args.trees.now) before)
