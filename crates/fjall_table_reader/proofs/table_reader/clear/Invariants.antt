use Rattle.std.proofs.Common.{◌≡◌, None, length, replicate, take}
use Rattle.fjall_table_reader.proofs.table_reader.clear.Given as goal

abbrev pub invariant-loop-at : goal.invariant-loop-at
invariant-loop-at l = (take l.at l.blocks.items ≡ replicate l.at None) × (length l.blocks.items ≡ length l.fn.blocks.items)
