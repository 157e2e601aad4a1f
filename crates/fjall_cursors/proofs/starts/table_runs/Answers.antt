use Rattle.std.proofs.Common.{List, ◌+◌, sym, subst, take}
use Rattle.fjall_base.specs.Pairs.{key_range}
use Rattle.fjall_cursors.specs.declared.page_run.PageRun.{PageRun}
use Rattle.fjall_cursors.specs.declared.page_run.PageRun.TheVariants.{Table}
use Rattle.fjall_cursors.specs.Tables.{AllBegin}
use Rattle.fjall_cursors.proofs.Reading.{begun_more}
use Rattle.fjall_cursors.proofs.starts.table_runs.Goals as goal

pub loop-reader-preserved : goal.loop-reader-preserved
loop-reader-preserved c =
    subst (λ (rs : List PageRun). AllBegin (key_range c.args.range) c.args.back (take (c.loop-reader.reader-index + 1) c.args.tables.now) rs) (sym c.in_ok-push.ensures.items)
    (begun_more (key_range c.args.range) c.args.back c.args.tables.now c.loop-reader.runs.items c.loop-reader.reader-index c.reader-item.result (Table c.new.result) c.loop-reader-test.true c.reader-item.is c.loop-reader.invariant (record { end = c.new.ensures.end; all = c.new.ensures.all }))
