use Rattle.std.proofs.Common.{take}
use Rattle.fjall_base.specs.Pairs.{key_range}
use Rattle.fjall_cursors.specs.Tables.{AllBegin}
use Rattle.fjall_cursors.proofs.starts.table_runs.Given as goal

abbrev pub invariant-loop-reader : goal.invariant-loop-reader
invariant-loop-reader l = AllBegin (key_range l.range) l.back (take l.reader-index l.tables) l.runs.items
