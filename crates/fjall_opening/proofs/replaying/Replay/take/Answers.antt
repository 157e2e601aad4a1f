use Rattle.std.proofs.Common.{◌≡◌, ◌∙◌, List, [], ◌∷◌, None, ap, map, refl, subst, sym}
use Rattle.fjall_journal.specs.declared.batch.Batch.{Batch}
use Rattle.fjall_journal.specs.Batches.{Shown, view}
use Rattle.fjall_trees.specs.Forests.{Forest}
use Rattle.fjall_trees.specs.Views.{forest_of}
use Rattle.fjall_meta.specs.Replays.{first_fault, least_after}
use Rattle.fjall_opening.specs.declared.replaying.Progress.{Progress}
use Rattle.fjall_opening.specs.Replaying.{counted_by}
use Rattle.fjall_opening.proofs.JournalByJournal.{too_high, unfit}
use Rattle.fjall_opening.proofs.Sealings.{ReplaysBatches, one_taken, past_from, replays_one}
use Rattle.fjall_opening.proofs.replaying.Replay.take.Goals as goal
use Rattle.fjall_opening.proofs.replaying.Replay.take.Goals.{then-batch-self-via-then-batch-self, then-batch-self-via-else-batch-self+then-not-is_fit}

pub returns-then-batch-self-clause-only : goal.returns-then-batch-self-clause-only
returns-then-batch-self-clause-only c may =
    let b : Shown = view c.args.batch.now in
    elim c.then-batch-self.branch [
      | then-batch-self-via-then-batch-self w ↦ absurd (too_high c.args.self.now c.args.progress.now.least b may w.if-batch-self.true)
      | then-batch-self-via-else-batch-self+then-not-is_fit w ↦ absurd (unfit c.args.self.now c.args.progress.now.least b w.is_fit.result may w.is_fit.ensures w.if-not-is_fit.true)
    ]

pub returns-clause-ok : goal.returns-clause-ok
returns-clause-ok c loaded front underway =
    let batch : Batch = c.args.batch.now in
    let p : Progress = c.args.progress.now in
    let q : Progress = record { trees = c.replay_journal.new.trees; place = c.seal_before.new.progress.place; least = c.in_ok-least.least } in
    let mid : Forest = forest_of c.seal_before.new.progress.trees in
    let one = ap (map view) c.from_ref-one.ensures.value in
    let sound : first_fault p.least (view batch ∷ []) ≡ None = ap (first_fault p.least) (sym one) ∙ c.in_ok-least.ensures.sound in
    let sealed = c.in_ok-seal_before.ensures in
    let made = c.in_ok-replay_journal.ensures in
    one_taken c.args.self.now loaded front p q (view batch) mid underway sound c.if-batch-self.false (sealed.ok loaded front underway.trees) (sealed.past (past_from c.args.self.now loaded front p q (view batch) mid underway sound))
    sealed.here
    (replays_one c.args.self.now.keyspaces.now c.args.self.now.persisted.now batch mid (forest_of q.trees)
    (subst (λ (l : List Batch). ReplaysBatches c.args.self.now.keyspaces.now c.args.self.now.persisted.now l mid (forest_of q.trees)) c.from_ref-one.ensures.value
    (record { ok = made.ok; reads = made.reads; rest = made.rest; ids = made.ids; numbered = made.numbered; before = made.before; made = made.made })))
    (c.in_ok-least.ensures.ok ∙ ap (least_after p.least) one) sealed.told (λ rest. sealed.made (counted_by c.args.self.now) (view batch) rest refl)
