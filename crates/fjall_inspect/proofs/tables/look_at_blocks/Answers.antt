use Rattle.std.proofs.Common.{◌<◌, ◌≤◌, List, arith, length, subst, sym, take, ◌+◌}
use Rattle.fjall_table.specs.declared.index.BlockHandle.{BlockHandle}
use Rattle.fjall_table.specs.TableReading.{handle_of}
use Rattle.fjall_inspect.specs.declared.report.Fault.{Fault}
use Rattle.fjall_inspect.specs.Faults.{AreToldOf, BlockTells}
use Rattle.fjall_inspect.proofs.Telling.{told_all, told_map, told_more_at}
use Rattle.fjall_inspect.proofs.tables.look_at_blocks.Goals as goal

pub loop-at-preserved : goal.loop-at-preserved
loop-at-preserved c =
    let table = c.args.table.now in
    let handles = table.index.handles.items in
    let lt : c.loop-at.at < length handles = omega (arith, c.block_count-at-end.ensures, c.loop-at-test.true) in
    subst (λ (l : List Fault). AreToldOf (λ (h : BlockHandle). BlockTells c.args.file.now table.bytes.now (handle_of h)) (take (c.loop-at.at + 1) handles) l) (sym c.in_ok-append.ensures.items)
    (told_more_at (λ (h : BlockHandle). BlockTells c.args.file.now table.bytes.now (handle_of h)) handles c.loop-at.at lt c.loop-at.faults.items c.in_ok-more.more.items c.loop-at.invariant c.in_ok-more.ensures.tells)

pub returns-clause-tells : goal.returns-clause-tells
returns-clause-tells c =
    let table = c.args.table.now in
    let handles = table.index.handles.items in
    let over : length handles ≤ c.loop-at.at = omega (arith, c.block_count-at-end.ensures, c.loop-at-test.false) in
    told_map handle_of (BlockTells c.args.file.now table.bytes.now) handles c.loop-at.faults.items
    (told_all (λ (h : BlockHandle). BlockTells c.args.file.now table.bytes.now (handle_of h)) handles c.loop-at.at over c.loop-at.faults.items c.loop-at.invariant)
