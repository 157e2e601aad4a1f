use Rattle.std.proofs.Common.{sym, ◌∙◌}
use Rattle.std.specs.FinMap.{entries, entries_sorted, get-entries}
use Rattle.fjall_tx.specs.Owns.{key_of}
use Rattle.fjall_tx.proofs.Items.{found_item, item_found, items_ascend}
use Rattle.fjall_tx.proofs.own_laws.items_are_the_own_writes.Goals as goal

pub returns-clause-items : goal.returns-clause-items
returns-clause-items c own id key op = (
  λ m. get-entries own (key_of id key) ∙ found_item id key op (entries own) (entries_sorted own) m.0 m.1 m.2,
  λ is. item_found id key op (entries own) (sym (get-entries own (key_of id key)) ∙ is),
)

pub returns-clause-once : goal.returns-clause-once
returns-clause-once c own = items_ascend (entries own) (entries_sorted own)
