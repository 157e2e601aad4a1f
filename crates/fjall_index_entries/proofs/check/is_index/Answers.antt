use Rattle.std.proofs.Common.{rules, ◌+◌, ◌∙◌, ℕ, None, Option, inr, sym, subst, ap, arith}
use Rattle.fjall_base.specs.declared.error.Error.{Error}
use Rattle.fjall_reading.specs.Cursors.{left}
use Rattle.fjall_index_entries.proofs.Tallying.{at_end, at_missing, first_taken, goes_by, none_in}
use Rattle.fjall_index_entries.proofs.check.is_index.Goals as goal

pub returns-in_default-clause-ok : goal.returns-in_default-clause-ok
returns-in_default-clause-ok g c = λ map found main index.
    let i = c.loop.invariant in
    let here = subst (λ (id : ℕ). g.R.Pages.shows c.loop.reader id map) (sym i.keyspace) (i.same c.args.main map main) in
    let few = i.few in
    let below = c.loop.auto.counter-end in
    let test = c.loop-test.true in
    at_end (g.E.Extract.field_of c.args.extract.now) map found c.loop.count c.in_ok-len.field-0 (left c.loop.pairs map) (i.whole map found main index) (c.in_default.ensures.taken map here).0
    (c.in_ok-len.ensures.ok found (c.next.ensures.same c.args.index found (i.same c.args.index found index))) (omega (arith, few, below, test))

pub returns-in_default-clause-reads : goal.returns-in_default-clause-reads
returns-in_default-clause-reads g c =
    let p = g.met.R.Pages in
    let old = c.args.reader.now in
    let next = p.paging_reads c.loop.reader c.next.new.pages c.loop.pairs.id None c.in_default.ensures.paging in
    inr (p.reads_on old c.next.new.pages c.len.new.self c.loop.pairs.id c.args.index None (p.reads_on old c.loop.reader c.next.new.pages c.args.main c.loop.pairs.id None c.loop.invariant.reads next) c.in_ok-len.ensures.reads)

pub returns-in_err-has-clause-reads : goal.returns-in_err-has-clause-reads
returns-in_err-has-clause-reads g c =
    let p = g.met.R.Pages in
    let old = c.args.reader.now in
    let paged = subst (λ (e : Option Error). g.R.Pages.paging c.loop.reader c.loop.pairs.id e c.next.new.pages) (none_in c.in-Some.pair c.in_ok-pair.pair c.in_ok-pair.was) c.in-Some.ensures.paging in
    let next = p.paging_reads c.loop.reader c.next.new.pages c.loop.pairs.id None paged in
    let read = p.reads_on old c.next.new.pages c.told_by.new.reader c.loop.pairs.id c.args.index _ (p.reads_on old c.loop.reader c.next.new.pages c.args.main c.loop.pairs.id None c.loop.invariant.reads next) c.in_err-has.ensures.reads in
    inr (search (rules, read))

pub returns-in_default-2-clause-ok : goal.returns-in_default-2-clause-ok
returns-in_default-2-clause-ok g c = λ map found main index.
    let i = c.loop.invariant in
    let here = subst (λ (id : ℕ). g.R.Pages.shows c.loop.reader id map) (sym i.keyspace) (i.same c.args.main map main) in
    let told = c.in_ok-has.ensures.ok found (c.next.ensures.same c.args.index found (i.same c.args.index found index)) in
    at_missing (g.E.Extract.field_of c.args.extract.now) map found c.loop.count (left c.loop.pairs map) (left c.next.new.self map) c.in_ok-pair.pair (i.whole map found main index)
    (first_taken (left c.loop.pairs map) (left c.next.new.self map) c.in-Some.pair c.in_ok-pair.pair c.in_ok-pair.was (c.in-Some.ensures.taken map here)) (search (rules, told))

pub returns-in_default-2-clause-reads : goal.returns-in_default-2-clause-reads
returns-in_default-2-clause-reads g c =
    let p = g.met.R.Pages in
    let old = c.args.reader.now in
    let paged = subst (λ (e : Option Error). g.R.Pages.paging c.loop.reader c.loop.pairs.id e c.next.new.pages) (none_in c.in-Some.pair c.in_ok-pair.pair c.in_ok-pair.was) c.in-Some.ensures.paging in
    let next = p.paging_reads c.loop.reader c.next.new.pages c.loop.pairs.id None paged in
    inr (p.reads_on old c.next.new.pages c.told_by.new.reader c.loop.pairs.id c.args.index None (p.reads_on old c.loop.reader c.next.new.pages c.args.main c.loop.pairs.id None c.loop.invariant.reads next) c.in_ok-has.ensures.reads)

pub loop-preserved : goal.loop-preserved
loop-preserved g c =
    let p = g.met.R.Pages in
    let i = c.loop.invariant in
    let old = c.args.reader.now in
    let paged = subst (λ (e : Option Error). g.R.Pages.paging c.loop.reader c.loop.pairs.id e c.next.new.pages) (none_in c.in-Some.pair c.in_ok-pair.pair c.in_ok-pair.was) c.in-Some.ensures.paging in
    let next = p.paging_reads c.loop.reader c.next.new.pages c.loop.pairs.id None paged in
    let first = p.reads_on old c.loop.reader c.next.new.pages c.args.main c.loop.pairs.id None i.reads next in
    let then = p.reads_on old c.next.new.pages c.told_by.new.reader c.loop.pairs.id c.args.index None first c.in_ok-has.ensures.reads in
    let most = c.one_if.ensures.most in
    let few = i.few in
    record {
      whole = λ map found main index.
          let here = subst (λ (id : ℕ). g.R.Pages.shows c.loop.reader id map) (sym i.keyspace) (i.same c.args.main map main) in
          let told = c.in_ok-has.ensures.ok found (c.next.ensures.same c.args.index found (i.same c.args.index found index)) in
          goes_by (g.E.Extract.field_of c.args.extract.now) map found c.loop.count (c.loop.count + c.one_if.result) (left c.loop.pairs map) (left c.next.new.self map) c.in_ok-pair.pair c.in-Some-2.has (i.whole map found main index)
          (first_taken (left c.loop.pairs map) (left c.next.new.self map) c.in-Some.pair c.in_ok-pair.pair c.in_ok-pair.was (c.in-Some.ensures.taken map here)) (search (rules, told)) (ap (λ n. c.loop.count + n) c.one_if.ensures.is);
      same = λ id map shown. c.told_by.ensures.same id map (c.next.ensures.same id map (i.same id map shown));
      reads = p.reads_on old c.told_by.new.reader c.told_by.new.reader c.args.index c.args.main None then (p.reads_none c.told_by.new.reader c.args.main);
      keyspace = c.next.ensures.id ∙ i.keyspace;
      few = omega (arith, few, most);
    }
