use Rattle.std.proofs.Common.{◌<◌, ◌^◌, List, ap, sym, subst, ◌∙◌, length, arith}
use Rattle.std.specs.Prelude.{count_by}
use Rattle.std.specs.FinMap.{entries, entries_sorted}
use Rattle.fjall_journal.specs.declared.op.Op.{Op}
use Rattle.fjall_tx.specs.declared.key.Key.{Key}
use Rattle.fjall_tx.specs.Owns.{is_removal}
use Rattle.fjall_tx.proofs.Fronts.{front, front_is}
use Rattle.fjall_tx.proofs.own_writes.OwnWrites.removals.Goals as goal

pub loop-key-init : goal.loop-key-init
loop-key-init c =
    let own = c.args.self.now in
    let range = c.args.range.now in
    let rest = c.into_iter-key-iterator.ensures.into_iter_gives ∙ c.in_ok-items.ensures.ok in
    let few : length c.into_iter-key-iterator.result < 2 ^ 63 = subst (λ (es : List (Key × Op)). length es < 2 ^ 63) (sym c.into_iter-key-iterator.ensures.into_iter_gives) c.in_ok-items.ensures.few in
    let read = ap (λ (es : List (Key × Op)). front c.args.id range.1 es) rest ∙ front_is c.args.id range (entries own) (entries_sorted own) in
    let counted = ap (λ (es : List (Key × Op)). count_by (λ e. is_removal e.1) es) read in
    (omega (arith, few), omega (arith, counted))
