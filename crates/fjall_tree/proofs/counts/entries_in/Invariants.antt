use Rattle.std.proofs.Common.{◌≡◌, ◌-◌, ◌^◌, min, take}
use Rattle.std.specs.List.{sum_by}
use Rattle.fjall_tree.proofs.counts.entries_in.Given as goal

abbrev pub invariant-loop-table : goal.invariant-loop-table
invariant-loop-table l = l.total ≡ min (sum_by (λ t. t.info.entry_count) (take l.table-index l.tables)) (2 ^ 64 - 1)
