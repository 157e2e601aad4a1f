use Rattle.std.proofs.Common.{arith}
use Rattle.fjall_table.proofs.Lookups.{filter_len}
use Rattle.fjall_table_reader.specs.Ahead.{stands_ahead}
use Rattle.fjall_table_reader.proofs.Searches.{search_up, search_down}
use Rattle.fjall_table_reader.proofs.block.Block.count_ahead.Goals as goal

pub loop-low-init : goal.loop-low-init
loop-low-init c =
    let l = filter_len (stands_ahead c.args.key.now c.args.instant) c.args.self.now in
    record { above = omega arith; below = omega (arith, l, c.len-high.ensures.len); within = omega (arith, c.len-high.ensures.len) }

pub loop-low-preserved-then-is_ahead : goal.loop-low-preserved-then-is_ahead
loop-low-preserved-then-is_ahead c =
    search_up c.args.key.now c.args.instant c.args.self.now c.loop-low.low c.loop-low.high _ c.is_ahead.result c.len-high.ensures.ordered c.loop-low.invariant (omega (arith, c.loop-low-test.true, c.loop-low.invariant.within)) c.is_ahead.ensures c.if-is_ahead.true

pub loop-low-preserved : goal.loop-low-preserved
loop-low-preserved c =
    search_down c.args.key.now c.args.instant c.args.self.now c.loop-low.low c.loop-low.high _ c.is_ahead.result c.len-high.ensures.ordered c.loop-low.invariant (omega (arith, c.loop-low-test.true, c.loop-low.invariant.within)) c.is_ahead.ensures c.if-is_ahead.false
