use Rattle.std.proofs.Common.{◌<◌, rules, length, sym, ap, ◌∙◌}
use Rattle.fjall_tx.specs.Marks.{Marks, with_write}
use Rattle.fjall_core.proofs.Items.{mark_next}
use Rattle.fjall_core.proofs.transactions.mark_items.Goals as goal

pub loop-item-preserved : goal.loop-item-preserved
loop-item-preserved c =
    let within : c.loop-item.item-index < length c.args.items.now = search rules in
    c.in_ok-mark_conflict.ensures.ok
    ∙ ap (λ key. with_write c.loop-item.marks c.item-item.result.0 key) c.as_slice.ensures
    ∙ ap (λ (m : Marks). with_write m c.item-item.result.0 c.item-item.result.1) c.loop-item.invariant
    ∙ sym (mark_next c.args.items.now c.item-item.result c.args.marks c.loop-item.item-index within (sym c.item-item.is))
