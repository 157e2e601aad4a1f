use Rattle.std.proofs.Common.{◌≡◌, Err, ap, arith, length, rules, slice_get, sym, ◌∙◌, ◌<◌, ◌≤◌}
use Rattle.fjall_base.specs.Pairs.{key_range}
use Rattle.fjall_table_reader.proofs.TableFiles.{refused_later}
use Rattle.fjall_table_reader.proofs.Readers.{still, wrong_at}
use Rattle.fjall_cursors.proofs.Parts.{filling_more, next_within}
use Rattle.fjall_cursors.proofs.table_run.TableRun.fill.Goals as goal

pub returns-in_err-block-clause-refused : goal.returns-in_err-block-clause-refused
returns-in_err-block-clause-refused g c honest blocks r =
    let is : c.from_residual.result ≡ Err c.in_err-block.field-0.0 = search rules in
    let f = c.reading.invariant in
    let dry = c.is_dry.ensures.0 c.reading-test.true in
    let ends = f.end in
    let count = ap length f.table.handles in
    let le : c.reading.self.ahead.last ≤ length c.reading.reader.handles = omega (arith, ends, count, c.requires) in
    let below = next_within c.reading.self.ahead (length c.reading.reader.handles) dry.1 le in
    let lt : c.next_block.result < length c.reading.reader.handles = omega (arith, below, c.next_block.ensures) in
    rw is (refused_later _ _ _ _ _ c.in_err-block.field-0.0 f.disk.later c.in_err-block.ensures.disk.later (wrong_at (g.D.Disk.meaning c.args.disk.now) (g.D.Disk.meaning c.reading.disk) c.args.reader.now c.reading.reader c.next_block.result (still g.D.Disk.honest (g.D.Disk.meaning c.args.disk.now) (g.D.Disk.meaning c.reading.disk) f.disk honest) f.table lt) (c.in_err-block.ensures.refused honest blocks (f.reads honest blocks r)))

pub reading-preserved : goal.reading-preserved
reading-preserved g c =
    let e = c.in_ok-block.ensures in
    let dry = c.is_dry.ensures.0 c.reading-test.true in
    filling_more g.D.Disk.honest (g.D.Disk.meaning c.args.disk.now) (g.D.Disk.meaning c.reading.disk) (g.D.Disk.meaning c.block.new.disk) c.args.reader.now c.reading.reader c.block.new.self (key_range c.args.range) c.args.self.now c.reading.self c.hold.new.self c.in_ok-block.block.value
    c.reading.invariant dry e.table e.disk e.reads (λ h blocks r. ap (slice_get blocks) (sym c.next_block.ensures) ∙ e.block h blocks r) c.hold.ensures.held c.hold.ensures.ahead
