use Rattle.std.proofs.Common.{◌≡◌, take}
use Rattle.fjall_core.specs.Transactions.{marks_of_items}
use Rattle.fjall_core.proofs.transactions.mark_items.Given as goal

abbrev pub invariant-loop-item : goal.invariant-loop-item
invariant-loop-item l = l.marks ≡ marks_of_items l.initial.marks (take l.item-index l.items)
