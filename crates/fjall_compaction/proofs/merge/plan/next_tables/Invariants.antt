use Rattle.std.proofs.Common.{◌≡◌, take}
use Rattle.fjall_compaction.specs.Merges.{merged_infos}
use Rattle.fjall_compaction.proofs.merge.plan.next_tables.Given as goal

abbrev pub invariant-loop-at : goal.invariant-loop-at
invariant-loop-at l = l.infos.items ≡ merged_infos l.fn.last.next_table_id (take l.at l.fn.tables)
