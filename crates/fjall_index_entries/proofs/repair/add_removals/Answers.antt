use Rattle.std.proofs.Common.{rules, ◌≡◌, ◌++◌, ◌∙◌, ℕ, None, Some, Option, inl, map, sym, subst, ap}
use Rattle.std.specs.Result.{result_err}
use Rattle.fjall_base.specs.declared.error.Error.{Error}
use Rattle.fjall_base.specs.declared.error.Error.TheVariants.{OutOfMemory}
use Rattle.fjall_journal.specs.Ops.{item_in}
use Rattle.fjall_reading.specs.Cursors.{left}
use Rattle.fjall_reading.specs.Readers.{all_of}
use Rattle.fjall_index_entries.specs.Repairs.{removals, with_pair}
use Rattle.fjall_index_entries.proofs.Repairing.{one_removed}
use Rattle.fjall_index_entries.proofs.repair.add_removals.Goals as goal

pub returns-in_err-add_entry-clause-reads : goal.returns-in_err-add_entry-clause-reads
returns-in_err-add_entry-clause-reads g c =
    let p = g.met.R.Pages in
    let old = c.args.reader.now in
    let told = c.stale.new.reader in
    let first = p.reads_on old c.loop.reader c.next_pair.new.reader c.args.main c.loop.stood.id None c.loop.invariant.reads c.in_ok-pair.ensures.reads in
    let then = p.reads_on old c.next_pair.new.reader told c.loop.stood.id c.args.main None first c.in_ok-going.ensures.reads in
    let is : result_err c.from_residual-in_err-add_entry.result ≡ Some OutOfMemory = search rules in
    inl (subst (λ (e : Option Error). g.R.Pages.reads old c.args.main e told) (sym is) (p.reads_short old told c.args.main then))

pub loop-preserved : goal.loop-preserved
loop-preserved g c =
    let p = g.met.R.Pages in
    let i = c.loop.invariant in
    let old = c.args.reader.now in
    let next = c.next_pair.new.reader in
    let field = g.E.Extract.field_of c.args.extract.now in
    let first = p.reads_on old c.loop.reader next c.args.main c.loop.stood.id None i.reads c.in_ok-pair.ensures.reads in
    record {
      added = λ pairs found main index.
          let here = subst (λ (id : ℕ). g.R.Pages.shows c.loop.reader id found) (sym i.keyspace) (i.same c.args.index found index) in
          let taken = c.in_ok-pair.ensures.taken found here ∙ ap (λ o. with_pair o (left c.next_pair.new.pairs found)) c.in-Some.is in
          one_removed field c.args.index pairs (map item_in c.loop.items.items) (map item_in c.add_entry.new.items.items)
          (map item_in c.args.items.now.items ++ removals field c.args.index pairs (all_of found))
          (left c.loop.stood found) (left c.next_pair.new.pairs found) c.in-Some.pair c.in_ok-going.going
          (i.added pairs found main index) taken (c.in_ok-going.ensures.ok pairs (c.next_pair.ensures.same c.args.main pairs (i.same c.args.main pairs main)))
          c.in_ok-add_entry.ensures.ok;
      same = λ id map shown. c.stale.ensures.same id map (c.next_pair.ensures.same id map (i.same id map shown));
      reads = p.reads_on old next c.stale.new.reader c.loop.stood.id c.args.main None first c.in_ok-going.ensures.reads;
      keyspace = c.next_pair.ensures.id ∙ i.keyspace;
    }
