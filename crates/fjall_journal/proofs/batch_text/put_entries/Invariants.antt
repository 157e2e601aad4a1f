use Rattle.std.proofs.Common.{◌≡◌, ◌++◌, map, take}
use Rattle.std.specs.List.{flat_map, AllByRecursion}
use Rattle.fjall_journal.specs.Spelling.{spelling}
use Rattle.fjall_journal.specs.Batches.{IsChange}
use Rattle.fjall_journal.specs.Ops.{entry_of_item}
use Rattle.fjall_journal.proofs.batch_text.put_entries.Given as goal

abbrev pub invariant-loop-item : goal.invariant-loop-item
invariant-loop-item l = record {
  text : l.out.items ≡ l.fn.out.items ++ flat_map spelling (map entry_of_item (take l.item-index l.items));
  each : AllByRecursion IsChange (map entry_of_item (take l.item-index l.items));
}
