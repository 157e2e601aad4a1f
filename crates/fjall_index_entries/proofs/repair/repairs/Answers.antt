use Rattle.std.proofs.Common.{rules, ◌≡◌, ◌++◌, ◌∙◌, ℕ, None, Some, Option, map, true, sym, subst, ap}
use Rattle.std.specs.Result.{result_err}
use Rattle.fjall_base.specs.Pairs.{Pairs}
use Rattle.fjall_base.specs.declared.error.Error.{Error}
use Rattle.fjall_journal.specs.Ops.{item_in}
use Rattle.fjall_reading.specs.Readers.{all_of}
use Rattle.fjall_index_entries.specs.Repairs.{ReadsOrLong, additions, lacks_long, removals}
use Rattle.fjall_index_entries.proofs.Repairing.{items_repair, reads_then}
use Rattle.fjall_index_entries.proofs.repair.repairs.Goals as goal

pub returns-in_err-add_additions-clause-reads : goal.returns-in_err-add_additions-clause-reads
returns-in_err-add_additions-clause-reads g c =
    let old = c.args.reader.now in
    let mid = c.add_removals.new.reader in
    let field = g.E.Extract.field_of c.args.extract.now in
    let was = (pairs found : Pairs) → g.R.Pages.shows old c.args.main pairs → g.R.Pages.shows old c.args.index found → lacks_long field found (all_of pairs) ≡ true in
    let is = (pairs found : Pairs) → g.R.Pages.shows mid c.args.main pairs → g.R.Pages.shows mid c.args.index found → lacks_long field found (all_of pairs) ≡ true in
    let same : result_err c.from_residual-in_err-add_additions.result ≡ Some c.in_err-add_additions.field-0.0 = search rules in
    subst (λ (e : Option Error). ReadsOrLong g.R.Pages.reads was old c.args.main c.args.index e c.add_additions.new.reader) (sym same)
    (reads_then g.R.Pages.reads g.met.R.Pages.reads_on is was
    (λ long pairs found main index. long pairs found (c.add_removals.ensures.same c.args.main pairs main) (c.add_removals.ensures.same c.args.index found index))
    old mid c.add_additions.new.reader c.args.main c.args.index (Some c.in_err-add_additions.field-0.0) c.in_ok-add_removals.ensures.reads c.in_err-add_additions.ensures.reads)

pub returns-clause-ok : goal.returns-clause-ok
returns-clause-ok g c = λ pairs found main index.
    let field = g.E.Extract.field_of c.args.extract.now in
    let gone = c.in_ok-add_removals.ensures.ok pairs found main index in
    let come = c.in_ok-add_additions.ensures.ok pairs found (c.add_removals.ensures.same c.args.main pairs main) (c.add_removals.ensures.same c.args.index found index) in
    items_repair field c.args.index pairs found (map item_in c.add_additions.new.items.items)
    (come ∙ ap (λ l. l ++ additions field c.args.index found (all_of pairs))
    (gone ∙ ap (λ l. map item_in l ++ removals field c.args.index pairs (all_of found)) c.new-items.ensures.items))

pub returns-clause-reads : goal.returns-clause-reads
returns-clause-reads g c =
    let old = c.args.reader.now in
    let mid = c.add_removals.new.reader in
    let field = g.E.Extract.field_of c.args.extract.now in
    reads_then g.R.Pages.reads g.met.R.Pages.reads_on
    ((pairs found : Pairs) → g.R.Pages.shows mid c.args.main pairs → g.R.Pages.shows mid c.args.index found → lacks_long field found (all_of pairs) ≡ true)
    ((pairs found : Pairs) → g.R.Pages.shows old c.args.main pairs → g.R.Pages.shows old c.args.index found → lacks_long field found (all_of pairs) ≡ true)
    (λ long pairs found main index. long pairs found (c.add_removals.ensures.same c.args.main pairs main) (c.add_removals.ensures.same c.args.index found index))
    old mid c.add_additions.new.reader c.args.main c.args.index None c.in_ok-add_removals.ensures.reads c.in_ok-add_additions.ensures.reads
