use Rattle.std.proofs.Common.{◌≡◌, ◌<◌, Err, arith, get_or, length, refl, rules}
use Rattle.fjall_table_reader.specs.Readers.{HoldsAWrongBlockFor}
use Rattle.fjall_table_reader.proofs.TableFiles.{refused_later}
use Rattle.fjall_table_reader.proofs.Readers.{still}
use Rattle.fjall_table_reader.proofs.Several.{got, read_at, same_set}
use Rattle.fjall_tree.proofs.Searches.{found_in_all, searching_more, searching_none, stopped, table_before}
use Rattle.fjall_tree.proofs.search.newest_in.Goals as goal

pub loop-at-init : goal.loop-at-init
loop-at-init g c = searching_none _ _ c.args.tables.now c.args.key.now c.args.instant

pub returns-in_err-found-clause-reads : goal.returns-in_err-found-clause-reads
returns-in_err-found-clause-reads g c =
    let at = c.loop-at.at in
    let d = c.index-tables-at.result in
    let t = get_or c.loop-at.tables at d in
    let lt : at < length c.loop-at.tables = omega arith in
    let e = c.in_err-found.ensures in
    stopped _ _ _ _ c.args.tables.now c.loop-at.tables c.args.key.now c.args.instant at c.loop-at.newest t c.find.new.self c.loop-at.invariant (got c.loop-at.tables at t d lt refl) e.table e.disk e.reads

pub returns-in_err-found-clause-refused : goal.returns-in_err-found-clause-refused
returns-in_err-found-clause-refused g c honest entries r =
    let at = c.loop-at.at in
    let d = c.index-tables-at.result in
    let t = get_or c.loop-at.tables at d in
    let lt : at < length c.loop-at.tables = omega arith in
    let here = got c.loop-at.tables at t d lt refl in
    let e = c.in_err-found.ensures in
    let s = c.loop-at.invariant in
    let old = g.D.Disk.meaning c.args.disk.now in
    let mid = g.D.Disk.meaning c.loop-at.disk in
    let one = read_at mid c.loop-at.tables entries at t (s.reads honest entries r) here in
    let is : c.from_residual.result ≡ Err c.in_err-found.field-0.0 = search rules in
    rw is (refused_later _ _ _ _ _ c.in_err-found.field-0.0 s.disk.later e.disk.later (table_before (HoldsAWrongBlockFor c.args.key.now) old mid c.args.tables.now c.loop-at.tables at t (still g.D.Disk.honest old mid s.disk honest) s.same here) (e.refused honest one.0 one.2))

pub returns-in_err-found-clause-tables : goal.returns-in_err-found-clause-tables
returns-in_err-found-clause-tables g c =
    let at = c.loop-at.at in
    let d = c.index-tables-at.result in
    let t = get_or c.loop-at.tables at d in
    let lt : at < length c.loop-at.tables = omega arith in
    same_set c.args.tables.now c.loop-at.tables at t c.find.new.self c.loop-at.invariant.same (got c.loop-at.tables at t d lt refl) c.in_err-found.ensures.table

pub loop-at-preserved : goal.loop-at-preserved
loop-at-preserved g c =
    let at = c.loop-at.at in
    let d = c.index-tables-at.result in
    let t = get_or c.loop-at.tables at d in
    let lt : at < length c.loop-at.tables = omega arith in
    let e = c.in_ok-found.ensures in
    searching_more _ _ _ _ c.args.tables.now c.loop-at.tables c.args.key.now c.args.instant at c.loop-at.newest c.in_ok-found.found c.later-newest.result t c.find.new.self
    c.loop-at.invariant (got c.loop-at.tables at t d lt refl) e.table e.disk e.reads e.found (c.later-newest.ensures c.args.key.now)

pub returns-clause-found : goal.returns-clause-found
returns-clause-found g c honest entries r =
    found_in_all _ _ _ c.args.tables.now c.loop-at.tables c.args.key.now c.args.instant c.loop-at.at c.loop-at.newest entries c.loop-at.invariant honest r c.loop-at-test.false
