use Rattle.std.proofs.Common.{take}
use Rattle.std.specs.List.{filter}
use Rattle.fjall_inspect.specs.Surveys.{AreCounts, is_at}
use Rattle.fjall_inspect.proofs.surveying.count_at.Given as goal

abbrev pub invariant-loop-table : goal.invariant-loop-table
invariant-loop-table l = AreCounts (filter (is_at l.level) (take l.table-index l.tables)) l.counts
