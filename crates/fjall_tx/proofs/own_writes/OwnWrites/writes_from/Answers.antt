use Rattle.std.proofs.Common.{List, ap, sym, ◌∙◌}
use Rattle.std.specs.BTreeMap.Range.{entries_between}
use Rattle.std.specs.FinMap.{entries}
use Rattle.std.specs.declared.ops.Bound.{Bound}
use Rattle.std.specs.declared.ops.Bound.TheVariants.{Unbounded}
use Rattle.fjall_journal.specs.declared.op.Op.{Op}
use Rattle.fjall_tx.specs.declared.key.Key.{Key}
use Rattle.fjall_tx.specs.Owns.{Own, key_order, start_at}
use Rattle.fjall_tx.proofs.Keys.{same_entries}
use Rattle.fjall_tx.proofs.own_writes.OwnWrites.writes_from.Goals as goal

pub returns-clause-ok : goal.returns-clause-ok
returns-clause-ok c =
    let es = c.self.inside.writes.entries in
    c.range.ensures.between tt
    ∙ ap (λ (start : Bound Key). entries_between key_order start Unbounded es) c.in_ok-start.ensures.ok
    ∙ ap (λ (fs : List (Key × Op)). entries_between key_order (start_at c.args.id c.args.start.now) Unbounded fs) (sym (same_entries es c.range.ensures.ordered) ∙ ap (λ (own : Own). entries own) c.self.view_is)
