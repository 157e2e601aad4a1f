use Rattle.std.proofs.Common.{get_or, refl}
use Rattle.fjall_table.specs.declared.level.Level.TheVariants.{L0}
use Rattle.fjall_table.specs.declared.table_info.TableInfo.{TableInfo}
use Rattle.fjall_inspect.proofs.Counting.{counted_more}
use Rattle.fjall_inspect.proofs.surveying.count_at.Goals as goal

pub loop-table-preserved : goal.loop-table-preserved
loop-table-preserved c =
    let none : TableInfo = record { id = 0; level = L0; file_len = 0; entry_count = 0 } in
    counted_more c.args.level c.args.tables.now c.loop-table.table-index none (get_or c.args.tables.now c.loop-table.table-index none) c.loop-table-test.true refl c.loop-table.counts c.counts_with-counts.result
    c.counts_with-counts.ensures c.loop-table.invariant
