use Rattle.std.proofs.Common.{◌≡◌, Err, List, None, rules, subst, sym}
use Rattle.fjall_base.specs.Pairs.{key_range}
use Rattle.fjall_table_reader.proofs.Several.{all_same_none}
use Rattle.fjall_cursors.specs.declared.page_run.PageRun.{PageRun}
use Rattle.fjall_cursors.specs.Tables.{StartsAt}
use Rattle.fjall_cursors.proofs.Looping.{dry_at, entries_read, fewer_filled, looked_more, looping_filled, looping_none, looping_on, page_made, refused_there, within_tables}
use Rattle.fjall_cursors.proofs.pages.page.Goals as goal

pub returns-in_err-all-clause-tables : goal.returns-in_err-all-clause-tables
returns-in_err-all-clause-tables g c = all_same_none c.args.tables.now

pub filling-init : goal.filling-init
filling-init g c =
    let starts = subst (λ (runs : List PageRun). StartsAt (key_range c.args.range) c.args.query.back c.args.tables.now c.args.memory.items runs) (sym c.as_mut_slice-runs.ensures.value) c.in_ok-all.ensures in
    let e = c.new-maker.ensures in
    looping_none starts e.back e.none e.all

pub returns-in_err-at-clause-reads : goal.returns-in_err-at-clause-reads
returns-in_err-at-clause-reads g c = entries_read c.filling.invariant.looked

pub bounds-tables-at : goal.bounds-tables-at
bounds-tables-at g c =
    let e = c.in_ok-at.ensures in
    let on = looping_on c.go_on.new.runs c.go_on.new.self c.filling.invariant e.ahead e.back e.few e.all in
    within_tables c.index-runs-at.result on e.dry c.in-Some.is

pub fill-requires : goal.fill-requires
fill-requires g c =
    let e = c.in_ok-at.ensures in
    let on = looping_on c.go_on.new.runs c.go_on.new.self c.filling.invariant e.ahead e.back e.few e.all in
    let dry = dry_at c.index-runs-at.result c.index-tables-at.result on e.dry c.in-Some.is in
    dry.ends

pub filling-smaller : goal.filling-smaller
filling-smaller g c =
    let e = c.in_ok-at.ensures in
    let on = looping_on c.go_on.new.runs c.go_on.new.self c.filling.invariant e.ahead e.back e.few e.all in
    let dry = dry_at c.index-runs-at.result c.index-tables-at.result on e.dry c.in-Some.is in
    fewer_filled c.filling.runs c.fill.new.self e.ahead dry c.in_ok-fill.ensures.fewer

pub filling-preserved : goal.filling-preserved
filling-preserved g c =
    let e = c.in_ok-at.ensures in
    let on = looping_on c.go_on.new.runs c.go_on.new.self c.filling.invariant e.ahead e.back e.few e.all in
    let dry = dry_at c.index-runs-at.result c.index-tables-at.result on e.dry c.in-Some.is in
    let f = c.in_ok-fill.ensures in
    looping_filled c.fill.new.self on dry f.table f.disk f.reads f.all f.end

pub returns-in_err-fill-clause-reads : goal.returns-in_err-fill-clause-reads
returns-in_err-fill-clause-reads g c =
    let e = c.in_ok-at.ensures in
    let on = looping_on c.go_on.new.runs c.go_on.new.self c.filling.invariant e.ahead e.back e.few e.all in
    let dry = dry_at c.index-runs-at.result c.index-tables-at.result on e.dry c.in-Some.is in
    let f = c.in_err-fill.ensures in
    entries_read (looked_more on.looked dry f.table f.disk f.reads)

pub returns-in_err-fill-clause-refused : goal.returns-in_err-fill-clause-refused
returns-in_err-fill-clause-refused g c =
    let e = c.in_ok-at.ensures in
    let on = looping_on c.go_on.new.runs c.go_on.new.self c.filling.invariant e.ahead e.back e.few e.all in
    let dry = dry_at c.index-runs-at.result c.index-tables-at.result on e.dry c.in-Some.is in
    let f = c.in_err-fill.ensures in
    let is : c.from_residual-in_err-fill.result ≡ Err c.in_err-fill.field-0.0 = search rules in
    rw is (refused_there c.in_err-fill.field-0.0 on.looked dry f.disk f.refused)

pub returns-in_err-fill-clause-tables : goal.returns-in_err-fill-clause-tables
returns-in_err-fill-clause-tables g c =
    let e = c.in_ok-at.ensures in
    let on = looping_on c.go_on.new.runs c.go_on.new.self c.filling.invariant e.ahead e.back e.few e.all in
    let dry = dry_at c.index-runs-at.result c.index-tables-at.result on e.dry c.in-Some.is in
    let f = c.in_err-fill.ensures in
    (looked_more on.looked dry f.table f.disk f.reads).table

pub returns-in_err-finish-clause-reads : goal.returns-in_err-finish-clause-reads
returns-in_err-finish-clause-reads g c = entries_read c.filling.invariant.looked

pub returns-clause-pairs : goal.returns-clause-pairs
returns-clause-pairs g c =
    let e = c.in_ok-at.ensures in
    let none : c.in_ok-at.field-0 ≡ None = search rules in
    page_made c.go_on.new.self c.filling.invariant e.back (λ range tables whole is. e.done range tables whole is none) c.in_ok-finish.ensures

pub returns-clause-reads : goal.returns-clause-reads
returns-clause-reads g c = entries_read c.filling.invariant.looked
