use Rattle.std.proofs.Common.{◌≡◌, ◌<◌, Err, ap, arith, length, rules}
use Rattle.fjall_table_reader.proofs.TableFiles.{refused_later}
use Rattle.fjall_table_reader.proofs.Readers.{still, wrong_at}
use Rattle.fjall_tree.proofs.Inputs.{gathered, gathering_more}
use Rattle.fjall_tree.proofs.input.blocks_of.Goals as goal

pub returns-in_err-block-clause-refused : goal.returns-in_err-block-clause-refused
returns-in_err-block-clause-refused g c honest entries r =
    let is : c.from_residual.result ≡ Err c.in_err-block.field-0.0 = search rules in
    let at = c.loop-at.at in
    let now = c.loop-at.invariant in
    let handles = ap length now.table.handles in
    let lt : at < length c.loop-at.reader.handles = omega (arith, c.loop-at-test.true, c.block_count-at-end.ensures, handles) in
    rw is (refused_later _ _ _ _ _ c.in_err-block.field-0.0 now.disk.later c.in_err-block.ensures.disk.later
    (wrong_at (g.D.Disk.meaning c.args.disk.now) (g.D.Disk.meaning c.loop-at.disk) c.args.reader.now c.loop-at.reader at (still g.D.Disk.honest (g.D.Disk.meaning c.args.disk.now) (g.D.Disk.meaning c.loop-at.disk) now.disk honest) now.table lt)
    (c.in_err-block.ensures.refused honest r.blocks (now.reads honest r.blocks r.reads)))

pub loop-at-preserved : goal.loop-at-preserved
loop-at-preserved g c =
    let e = c.in_ok-block.ensures in
    gathering_more g.D.Disk.honest (g.D.Disk.meaning c.args.disk.now) (g.D.Disk.meaning c.loop-at.disk) (g.D.Disk.meaning c.block.new.disk) c.args.reader.now c.loop-at.reader c.block.new.self c.loop-at.at c.loop-at.blocks.items c.push.new.self.items c.in_ok-block.field-0
    c.loop-at.invariant e.table e.disk e.reads e.block c.in_ok-push.ensures.items

pub returns-clause-blocks : goal.returns-clause-blocks
returns-clause-blocks g c honest entries r =
    let handles = ap length c.loop-at.invariant.table.handles in
    gathered g.D.Disk.honest (g.D.Disk.meaning c.args.disk.now) (g.D.Disk.meaning c.loop-at.disk) c.args.reader.now c.loop-at.reader c.loop-at.at c.loop-at.blocks.items entries c.loop-at.invariant (omega (arith, c.loop-at-test.false, c.block_count-at-end.ensures, handles)) honest r
