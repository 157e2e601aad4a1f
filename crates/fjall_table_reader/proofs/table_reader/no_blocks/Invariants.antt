use Rattle.std.proofs.Common.{◌≡◌, None, replicate}
use Rattle.fjall_table_reader.proofs.table_reader.no_blocks.Given as goal

abbrev pub invariant-loop : goal.invariant-loop
invariant-loop l = l.blocks.items ≡ replicate l.counter None
