use Rattle.std.proofs.Common.{◌≡◌, None, subst, sym, ap, ◌∙◌}
use Rattle.fjall_base.specs.Limits.{item_refusal}
use Rattle.fjall_journal.specs.Ops.{bytes_in}
use Rattle.fjall_reading.specs.Ingestions.{IsIngestible, is_above_last}
use Rattle.fjall_reading.proofs.Ascents.{nothing_due, one_more}
use Rattle.fjall_reading.proofs.ingestion.Ingestion.push.Goals as goal

pub invariant_of-self-2 : goal.invariant_of-self-2
invariant_of-self-2 g c =
    let none : item_refusal c.args.key (bytes_in c.args.op) ≡ None = rw (sym c.as_slice.ensures, sym c.bytes.ensures) (nothing_due _ _ c.in_ok-check_item.ensures) in
    let above = ap (is_above_last c.args.key) (sym c.as_slice-2.ensures.value) ∙ sym c.if-not-is_above_last.ensures in
    subst IsIngestible (sym c.in_ok-push.ensures.items) (one_more c.self.inside.items.items (c.args.key, c.args.op) none above c.self.invariant)
