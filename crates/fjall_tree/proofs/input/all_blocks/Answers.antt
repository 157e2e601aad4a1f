use Rattle.std.proofs.Common.{◌≡◌, ◌<◌, Err, arith, get_or, length, refl, rules}
use Rattle.fjall_table_reader.proofs.TableFiles.{refused_later}
use Rattle.fjall_table_reader.proofs.Readers.{still}
use Rattle.fjall_table_reader.proofs.Several.{got, read_at, same_set}
use Rattle.fjall_tree.proofs.Inputs.{collected, collecting_more, collecting_none, reads_set}
use Rattle.fjall_table_reader.specs.Readers.{HoldsAWrongBlock}
use Rattle.fjall_tree.proofs.Searches.{table_before}
use Rattle.fjall_tree.proofs.input.all_blocks.Goals as goal

pub loop-at-init : goal.loop-at-init
loop-at-init g c = rw c.new-input.ensures.items (collecting_none g.D.Disk.honest (g.D.Disk.meaning c.args.disk.now) c.args.tables.now)

pub returns-in_err-blocks_of-clause-reads : goal.returns-in_err-blocks_of-clause-reads
returns-in_err-blocks_of-clause-reads g c =
    let at = c.loop-at.at in
    let d = c.index-tables-at.result in
    let t = get_or c.loop-at.tables at d in
    let lt : at < length c.loop-at.tables = omega arith in
    let e = c.in_err-blocks_of.ensures in
    reads_set _ _ _ _ c.args.tables.now c.loop-at.tables at t c.blocks_of.new.reader c.loop-at.invariant.reads (got c.loop-at.tables at t d lt refl) e.disk e.reads

pub returns-in_err-blocks_of-clause-refused : goal.returns-in_err-blocks_of-clause-refused
returns-in_err-blocks_of-clause-refused g c honest entries r =
    let at = c.loop-at.at in
    let d = c.index-tables-at.result in
    let t = get_or c.loop-at.tables at d in
    let lt : at < length c.loop-at.tables = omega arith in
    let here = got c.loop-at.tables at t d lt refl in
    let e = c.in_err-blocks_of.ensures in
    let s = c.loop-at.invariant in
    let old = g.D.Disk.meaning c.args.disk.now in
    let mid = g.D.Disk.meaning c.loop-at.disk in
    let one = read_at mid c.loop-at.tables entries at t (s.reads honest entries r) here in
    let is : c.from_residual.result ≡ Err c.in_err-blocks_of.field-0.0 = search rules in
    rw is (refused_later _ _ _ _ _ c.in_err-blocks_of.field-0.0 s.disk.later e.disk.later (table_before HoldsAWrongBlock old mid c.args.tables.now c.loop-at.tables at t (still g.D.Disk.honest old mid s.disk honest) s.same here) (e.refused honest one.0 one.2))

pub returns-in_err-blocks_of-clause-tables : goal.returns-in_err-blocks_of-clause-tables
returns-in_err-blocks_of-clause-tables g c =
    let at = c.loop-at.at in
    let d = c.index-tables-at.result in
    let t = get_or c.loop-at.tables at d in
    let lt : at < length c.loop-at.tables = omega arith in
    same_set c.args.tables.now c.loop-at.tables at t c.blocks_of.new.reader c.loop-at.invariant.same (got c.loop-at.tables at t d lt refl) c.in_err-blocks_of.ensures.table

pub returns-in_err-push-clause-reads : goal.returns-in_err-push-clause-reads
returns-in_err-push-clause-reads g c =
    let at = c.loop-at.at in
    let d = c.index-tables-at.result in
    let t = get_or c.loop-at.tables at d in
    let lt : at < length c.loop-at.tables = omega arith in
    let e = c.in_ok-blocks_of.ensures in
    reads_set _ _ _ _ c.args.tables.now c.loop-at.tables at t c.blocks_of.new.reader c.loop-at.invariant.reads (got c.loop-at.tables at t d lt refl) e.disk e.reads

pub returns-in_err-push-clause-tables : goal.returns-in_err-push-clause-tables
returns-in_err-push-clause-tables g c =
    let at = c.loop-at.at in
    let d = c.index-tables-at.result in
    let t = get_or c.loop-at.tables at d in
    let lt : at < length c.loop-at.tables = omega arith in
    same_set c.args.tables.now c.loop-at.tables at t c.blocks_of.new.reader c.loop-at.invariant.same (got c.loop-at.tables at t d lt refl) c.in_ok-blocks_of.ensures.table

pub loop-at-preserved : goal.loop-at-preserved
loop-at-preserved g c =
    let at = c.loop-at.at in
    let d = c.index-tables-at.result in
    let t = get_or c.loop-at.tables at d in
    let lt : at < length c.loop-at.tables = omega arith in
    let e = c.in_ok-blocks_of.ensures in
    collecting_more _ _ _ _ c.args.tables.now c.loop-at.tables at t c.blocks_of.new.reader c.loop-at.input.items c.push.new.self.items c.in_ok-blocks_of.field-0
    c.loop-at.invariant (got c.loop-at.tables at t d lt refl) e.table e.disk e.reads e.blocks c.in_ok-push.ensures.items

pub returns-clause-input : goal.returns-clause-input
returns-clause-input g c honest entries r =
    collected _ _ _ c.args.tables.now c.loop-at.tables c.loop-at.at c.loop-at.input.items entries c.loop-at.invariant c.loop-at-test.false honest r
