use Rattle.std.proofs.Common.{◌∙◌, ap}
use Rattle.fjall_memtable.specs.Sorted.{flat}
use Rattle.fjall_jobs.specs.Blocks.{entries_in}
use Rattle.fjall_jobs.proofs.Merging.{table_more}
use Rattle.fjall_jobs.proofs.merge_job.block_runs.Goals as goal

pub loop-table-preserved : goal.loop-table-preserved
loop-table-preserved c =
    c.in_ok-push.ensures.items
    ∙ table_more c.args.tables.now c.loop-table.table-index c.table-item.result c.loop-table.runs.items c.new.result c.loop-table-test.true c.table-item.is c.loop-table.invariant
    (c.new.ensures ∙ ap (λ blocks. flat (entries_in blocks)) c.as_slice.ensures.value)
