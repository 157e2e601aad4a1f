use Rattle.std.proofs.Common.{◌-◌, filter, length}
use Rattle.fjall_table_reader.specs.Ahead.{stands_ahead}
use Rattle.fjall_table_reader.proofs.Searches.{Searching}
use Rattle.fjall_table_reader.proofs.block.Block.count_ahead.Given as goal

abbrev pub invariant-loop-low : goal.invariant-loop-low
invariant-loop-low l = Searching (length (filter (stands_ahead l.key l.instant) l.self)) (length l.self) l.low l.high

abbrev pub decreases-loop-low : goal.decreases-loop-low
decreases-loop-low l = l.high - l.low
