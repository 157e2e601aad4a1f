use Rattle.std.proofs.Common.{◌≡◌, ◌∙◌, ℕ, ap, cond, get_or, rules, subst, sym, take, true}
use Rattle.fjall_tree.specs.Puts.{emptied_once}
use Rattle.fjall_trees.specs.Forests.{Forest, altered_at}
use Rattle.fjall_trees.specs.Views.{forest_of}
use Rattle.fjall_meta.specs.Replays.{counts_unpersisted}
use Rattle.fjall_replay.specs.Beside.{BeginBy}
use Rattle.fjall_replay.proofs.Keeping.{clear_step, tested}
use Rattle.fjall_replay.proofs.Resting.{begin_at, clears_begin}
use Rattle.fjall_replay.proofs.replaying.clear_trees.Goals as goal
use Rattle.fjall_replay.proofs.replaying.clear_trees.Goals.{then-counts_unpersisted+in_ok-clear_once, else-counts_unpersisted}

pub clear_once-requires-clause-from : goal.clear_once-requires-clause-from
clear_once-requires-clause-from c shape at =
    let counted = counts_unpersisted c.args.keyspaces.now c.args.persisted.now c.args.number in
    let n = c.args.number in
    let id : ℕ = get_or c.args.ids.now c.loop-id.id-index 0 in
    let counts : counted id ≡ true = search rules in
    let begun = subst (BeginBy counted n) (sym c.loop-id.invariant) (clears_begin counted counted n n (take c.loop-id.id-index c.args.ids.now) (forest_of c.args.trees.now) c.requires.begun) in
    begin_at counted n (forest_of c.loop-id.trees) id shape begun at counts

pub loop-id-preserved : goal.loop-id-preserved
loop-id-preserved c =
    let counted = counts_unpersisted c.args.keyspaces.now c.args.persisted.now c.args.number in
    let id : ℕ = get_or c.args.ids.now c.loop-id.id-index 0 in
    let old : Forest = forest_of c.loop-id.trees in
    let changed : Forest = altered_at id (emptied_once c.args.number) old in
    clear_step counted c.args.number c.args.ids.now c.loop-id.id-index (forest_of c.args.trees.now) old (forest_of c.if-counts_unpersisted.trees) c.loop-id-test.true c.loop-id.invariant
    (tested (counted id) c.counts_unpersisted.result (forest_of c.if-counts_unpersisted.trees) changed old c.counts_unpersisted.ensures
    (elim c.if-counts_unpersisted.branch [
      | then-counts_unpersisted+in_ok-clear_once w ↦ ap forest_of w.trees-is ∙ w.in_ok-clear_once.ensures.ok ∙ sym (ap (λ b. cond b changed old) w.if-counts_unpersisted.true)
      | else-counts_unpersisted w ↦ ap forest_of w.trees-is ∙ sym (ap (λ b. cond b changed old) w.if-counts_unpersisted.false)
    ]))
