use Rattle.std.proofs.Common.{rules, ◌≡◌, ◌++◌, ◌∙◌, ℕ, None, Some, Option, inl, inr, map, sym, subst, ap}
use Rattle.std.specs.Result.{result_err}
use Rattle.fjall_base.specs.declared.error.Error.{Error}
use Rattle.fjall_base.specs.declared.error.Error.TheVariants.{KeyTooLong, OutOfMemory}
use Rattle.fjall_journal.specs.Ops.{item_in}
use Rattle.fjall_reading.specs.Cursors.{left}
use Rattle.fjall_reading.specs.Readers.{all_of}
use Rattle.fjall_index_entries.specs.Repairs.{additions, lacks_long, with_pair}
use Rattle.fjall_index_entries.proofs.Repairing.{one_added, one_fits, one_is_long}
use Rattle.fjall_index_entries.proofs.repair.add_additions.Goals as goal

pub returns-in_err-lacks-clause-reads : goal.returns-in_err-lacks-clause-reads
returns-in_err-lacks-clause-reads g c =
    let p = g.met.R.Pages in
    let old = c.args.reader.now in
    let next = c.next_pair.new.reader in
    let first = p.reads_on old c.loop.reader next c.args.main c.loop.pairs.id None c.loop.invariant.reads c.in_ok-pair.ensures.reads in
    let read = p.reads_on old next c.lacking_of.new.reader c.loop.pairs.id c.args.index (Some c.in_err-lacks.field-0.0) first c.in_err-lacks.ensures.reads in
    inl (inr (search (rules, read)))

pub returns-in_err-coming-clause-reads : goal.returns-in_err-coming-clause-reads
returns-in_err-coming-clause-reads g c =
    let p = g.met.R.Pages in
    let i = c.loop.invariant in
    let old = c.args.reader.now in
    let next = c.next_pair.new.reader in
    let field = g.E.Extract.field_of c.args.extract.now in
    let first = p.reads_on old c.loop.reader next c.args.main c.loop.pairs.id None i.reads c.in_ok-pair.ensures.reads in
    let then = p.reads_on old next c.lacking_of.new.reader c.loop.pairs.id c.args.index None first c.in_ok-lacks.ensures.reads in
    let is : result_err c.from_residual-in_err-coming.result ≡ Some KeyTooLong = search rules in
    inr (
      is,
      inr then,
      λ pairs found main index.
          let here = subst (λ (id : ℕ). g.R.Pages.shows c.loop.reader id pairs) (sym i.keyspace) (i.same c.args.main pairs main) in
          let taken = c.in_ok-pair.ensures.taken pairs here ∙ ap (λ o. with_pair o (left c.next_pair.new.pairs pairs)) c.in-Some.is in
          one_is_long field found (lacks_long field found (all_of pairs)) (left c.loop.pairs pairs) (left c.next_pair.new.pairs pairs) c.in-Some.pair c.in_ok-lacks.lacks
          (i.fits pairs found main index) taken (c.in_ok-lacks.ensures.ok found (c.next_pair.ensures.same c.args.index found (i.same c.args.index found index)))
          (c.in_err-coming.ensures.cause).1,
    )

pub returns-in_err-add_entry-clause-reads : goal.returns-in_err-add_entry-clause-reads
returns-in_err-add_entry-clause-reads g c =
    let p = g.met.R.Pages in
    let old = c.args.reader.now in
    let next = c.next_pair.new.reader in
    let told = c.lacking_of.new.reader in
    let first = p.reads_on old c.loop.reader next c.args.main c.loop.pairs.id None c.loop.invariant.reads c.in_ok-pair.ensures.reads in
    let then = p.reads_on old next told c.loop.pairs.id c.args.index None first c.in_ok-lacks.ensures.reads in
    let is : result_err c.from_residual-in_err-add_entry.result ≡ Some OutOfMemory = search rules in
    inl (inr (subst (λ (e : Option Error). g.R.Pages.reads old c.args.index e told) (sym is) (p.reads_short old told c.args.index then)))

pub loop-preserved : goal.loop-preserved
loop-preserved g c =
    let p = g.met.R.Pages in
    let i = c.loop.invariant in
    let old = c.args.reader.now in
    let next = c.next_pair.new.reader in
    let told = c.lacking_of.new.reader in
    let field = g.E.Extract.field_of c.args.extract.now in
    let first = p.reads_on old c.loop.reader next c.args.main c.loop.pairs.id None i.reads c.in_ok-pair.ensures.reads in
    let then = p.reads_on old next told c.loop.pairs.id c.args.index None first c.in_ok-lacks.ensures.reads in
    record {
      added = λ pairs found main index.
          let here = subst (λ (id : ℕ). g.R.Pages.shows c.loop.reader id pairs) (sym i.keyspace) (i.same c.args.main pairs main) in
          let taken = c.in_ok-pair.ensures.taken pairs here ∙ ap (λ o. with_pair o (left c.next_pair.new.pairs pairs)) c.in-Some.is in
          let lacks = c.in_ok-lacks.ensures.ok found (c.next_pair.ensures.same c.args.index found (i.same c.args.index found index)) in
          one_added field c.args.index found (map item_in c.loop.items.items) (map item_in c.add_entry.new.items.items)
          (map item_in c.args.items.now.items ++ additions field c.args.index found (all_of pairs))
          (left c.loop.pairs pairs) (left c.next_pair.new.pairs pairs) c.in-Some.pair c.in_ok-coming.coming c.empty.result
          (i.added pairs found main index) taken ((c.in_ok-coming.ensures.ok).0 ∙ lacks) c.empty.ensures c.in_ok-add_entry.ensures.ok;
      fits = λ pairs found main index.
          let here = subst (λ (id : ℕ). g.R.Pages.shows c.loop.reader id pairs) (sym i.keyspace) (i.same c.args.main pairs main) in
          let taken = c.in_ok-pair.ensures.taken pairs here ∙ ap (λ o. with_pair o (left c.next_pair.new.pairs pairs)) c.in-Some.is in
          one_fits field found (lacks_long field found (all_of pairs)) (left c.loop.pairs pairs) (left c.next_pair.new.pairs pairs) c.in-Some.pair c.in_ok-lacks.lacks
          (i.fits pairs found main index) taken (c.in_ok-lacks.ensures.ok found (c.next_pair.ensures.same c.args.index found (i.same c.args.index found index)))
          (c.in_ok-coming.ensures.ok).1;
      same = λ id map shown. c.lacking_of.ensures.same id map (c.next_pair.ensures.same id map (i.same id map shown));
      reads = p.reads_on old told told c.args.index c.args.main None then (p.reads_none told c.args.main);
      keyspace = c.next_pair.ensures.id ∙ i.keyspace;
    }
