use Rattle.std.proofs.Common.{◌≡◌, ◌∙◌, [], ◌∷◌, ◌++◌, All, List, ap, rules, subst, sym}
use Rattle.fjall_journal.specs.declared.batch.ReadBatchItem.{ReadBatchItem}
use Rattle.fjall_table.specs.Blocks.{IsEntry}
use Rattle.fjall_trees.specs.Views.{forest_of}
use Rattle.fjall_meta.specs.Replays.{counts_unpersisted}
use Rattle.fjall_meta.specs.Views.{entry_of}
use Rattle.fjall_replay.specs.Beside.{BeginBy}
use Rattle.fjall_replay.specs.Steps.{with_items}
use Rattle.fjall_replay.proofs.Keeping.{all_but_last, last_first}
use Rattle.fjall_replay.proofs.Resting.{item_begin}
use Rattle.fjall_replay.proofs.replaying.put_items.Goals as goal

pub loop-item-preserved : goal.loop-item-preserved
loop-item-preserved c =
    let counted = counts_unpersisted c.args.keyspaces.now c.args.persisted.now c.args.number in
    let n = c.args.number in
    let item = c.in-Some.item.now in
    let before = c.in-Some.before.now in
    let old = forest_of c.loop-item.trees in
    let whole : c.loop-item.rest.now ≡ before ++ item ∷ [] = search rules in
    record {
      left =
          ap (with_items counted n before) c.in_ok-put_item.ensures ∙ sym (last_first counted n before item old)
          ∙ ap (λ (l : List ReadBatchItem). with_items counted n l old) (sym whole) ∙ c.loop-item.invariant.left;
      fits = all_but_last (λ i. IsEntry (entry_of n i)) before item (subst (λ (l : List ReadBatchItem). All (λ i. IsEntry (entry_of n i)) l) whole c.loop-item.invariant.fits);
      begun = subst (BeginBy counted n) (sym c.in_ok-put_item.ensures) (item_begin counted counted n n item old c.loop-item.invariant.begun);
    }
