use Rattle.std.proofs.Common.{◌≡◌, Err, rules}
use Rattle.fjall_table.specs.Blocks.{seen}
use Rattle.fjall_compaction.proofs.Tables.{one_more, write_only}
use Rattle.fjall_compaction.proofs.ingestion.table.write_items.Goals as goal

pub returns-in_err-write-clause-only : goal.returns-in_err-write-clause-only
returns-in_err-write-clause-only c =
    let is : c.from_residual.result ≡ Err c.in_err-write.field-0.0 = search rules in
    rw is (write_only c.args.number c.args.items.now c.loop-item.item-index c.item-item.result c.loop-item.writer (seen c.entry_of.result) _ c.loop-item-test.true c.item-item.is
    c.loop-item.invariant c.entry_of.ensures c.requires.ascend c.requires.writable c.in_err-write.ensures.only)

pub loop-item-preserved : goal.loop-item-preserved
loop-item-preserved c =
    one_more c.args.number c.args.items.now c.loop-item.item-index c.item-item.result c.loop-item.writer c.write.new.self (seen c.entry_of.result) c.loop-item-test.true c.item-item.is
    c.loop-item.invariant c.entry_of.ensures c.in_ok-write.ensures.ok
