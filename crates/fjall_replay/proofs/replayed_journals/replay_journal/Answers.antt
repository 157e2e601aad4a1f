use Rattle.std.proofs.Common.{◌≡◌, ◌<◌, ◌≤◌, ◌∙◌, ◌++◌, List, ap, length, map, refl, subst, sym, true}
use Rattle.std.proofs.lemmas.List.{take_all}
use Rattle.std.proofs.lemmas.List.Elements.{All-map}
use Rattle.fjall_journal.specs.declared.batch.Batch.{Batch}
use Rattle.fjall_journal.specs.Batches.{Shown, view}
use Rattle.fjall_trees.specs.Forests.{AreBefore, Forest}
use Rattle.fjall_trees.specs.Tables.{AreReadOn}
use Rattle.fjall_trees.specs.Views.{forest_of}
use Rattle.fjall_meta.specs.Replays.{counts_unpersisted, least_after}
use Rattle.fjall_replay.specs.Beside.{AreEndedBy, AreReplayedWith, all_at_rest}
use Rattle.fjall_replay.specs.Parted.{ActivesPass}
use Rattle.fjall_replay.specs.Replayed.{MayReplay, ids_of}
use Rattle.fjall_replay.specs.Steps.{with_batch, with_batches}
use Rattle.fjall_replay.proofs.Behind.{next_begins, replay_beside}
use Rattle.fjall_replay.proofs.Keeping.{batch_step, batches_before, batches_ids}
use Rattle.fjall_replay.proofs.Parting.{batches_pass}
use Rattle.fjall_replay.proofs.Resting.{batches_end, batches_read, batches_rest}
use Rattle.fjall_replay.proofs.replayed_journals.replay_journal.Goals as goal

pub loop-batch-init : goal.loop-batch-init
loop-batch-init c = refl

pub take-requires-clause-begun : goal.take-requires-clause-begun
take-requires-clause-begun c =
    next_begins c.args.keyspaces.now c.args.persisted.now c.args.batches.now (forest_of c.args.trees.now) (forest_of c.loop-batch.trees) c.requires.behind c.args.trees.now.lawful
    c.loop-batch.batch-index c.batch-item.result c.loop-batch-test.true c.batch-item.is c.loop-batch.invariant

pub loop-batch-preserved : goal.loop-batch-preserved
loop-batch-preserved c =
    let counted = counts_unpersisted c.args.keyspaces.now c.args.persisted.now in
    let batch = c.batch-item.result in
    batch_step counted c.args.batches.now c.loop-batch.batch-index batch (forest_of c.args.trees.now) (forest_of c.loop-batch.trees) (forest_of c.take.new.trees) c.loop-batch-test.true
    c.loop-batch.invariant
    (c.in_ok-take.ensures ∙ ap (λ (b : Batch). with_batch (counted b.seqno) (view b) (forest_of c.loop-batch.trees)) c.batch-item.is)

-- the trees after all batches
after_all : (c : goal.After-loop-batch)
    → forest_of c.loop-batch.trees ≡ with_batches (counts_unpersisted c.args.keyspaces.now c.args.persisted.now) (map view c.args.batches.now) (forest_of c.args.trees.now)
after_all c =
    let batches = c.args.batches.now in
    let i = c.loop-batch.batch-index in
    let over : length batches ≤ i = c.loop-batch-test.false in
    c.loop-batch.invariant
    ∙ ap (λ (l : List Batch). with_batches (counts_unpersisted c.args.keyspaces.now c.args.persisted.now) (map view l) (forest_of c.args.trees.now)) (take_all i batches over)

pub returns-clause-ok : goal.returns-clause-ok
returns-clause-ok c entries stored before are within least sound shown =
    let s = c.args.keyspaces.now in
    let batches = c.args.batches.now in
    let trees = c.args.trees.now in
    subst (λ (t : Forest). AreReplayedWith entries s stored (before ++ map view batches) t) (sym (after_all c))
    (replay_beside s stored c.args.persisted.now entries least before (map view batches) (forest_of trees) are within sound shown c.requires.behind
    (All-map MayReplay view batches c.requires.fits) trees.lawful)

pub returns-clause-made : goal.returns-clause-made
returns-clause-made c = after_all c

pub returns-clause-rest : goal.returns-clause-rest
returns-clause-rest c =
    ap all_at_rest (after_all c) ∙ batches_rest (counts_unpersisted c.args.keyspaces.now c.args.persisted.now) (map view c.args.batches.now) (forest_of c.args.trees.now)

pub returns-clause-ids : goal.returns-clause-ids
returns-clause-ids c =
    ap ids_of (after_all c) ∙ batches_ids (counts_unpersisted c.args.keyspaces.now c.args.persisted.now) (map view c.args.batches.now) (forest_of c.args.trees.now)

pub returns-clause-reads : goal.returns-clause-reads
returns-clause-reads c disk entries read =
    subst (λ (t : Forest). AreReadOn disk t entries) (sym (after_all c))
    (batches_read disk entries (counts_unpersisted c.args.keyspaces.now c.args.persisted.now) (map view c.args.batches.now) (forest_of c.args.trees.now) read)

pub returns-clause-numbered : goal.returns-clause-numbered
returns-clause-numbered c test passing each =
    subst (ActivesPass test) (sym (after_all c))
    (batches_pass test (counts_unpersisted c.args.keyspaces.now c.args.persisted.now) (map view c.args.batches.now) (forest_of c.args.trees.now)
    (All-map (λ (b : Shown). test b.number ≡ true) view c.args.batches.now each) passing)

pub returns-clause-ended : goal.returns-clause-ended
returns-clause-ended c least ended sound =
    let batches = map view c.args.batches.now in
    subst (AreEndedBy c.args.persisted.now (least_after least batches)) (sym (after_all c))
    (batches_end c.args.persisted.now least (counts_unpersisted c.args.keyspaces.now c.args.persisted.now) batches (forest_of c.args.trees.now) sound ended)

pub returns-clause-before : goal.returns-clause-before
returns-clause-before c bound before low =
    subst (AreBefore bound) (sym (after_all c))
    (batches_before (counts_unpersisted c.args.keyspaces.now c.args.persisted.now) bound (map view c.args.batches.now) (forest_of c.args.trees.now)
    (All-map (λ (b : Shown). b.number < bound) view c.args.batches.now low) before)
