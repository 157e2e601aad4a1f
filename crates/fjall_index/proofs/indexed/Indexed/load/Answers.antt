use Rattle.std.proofs.Common.{Err, refl}
use Rattle.fjall_index.proofs.Loads.{committed, not_committed, not_loaded, rolled_back}
use Rattle.fjall_index_entries.specs.declared.error.IndexError.TheVariants.{Engine}
use Rattle.fjall_base.specs.declared.error.Error.TheVariants.{TransactionOpen}
use Rattle.fjall_index.proofs.indexed.Indexed.load.Goals as goal

pub returns-in_err-tx : goal.returns-in_err-tx
returns-in_err-tx g c = record {
  keeps = λ h since t d all.
      let (next, e, goes, none) = c.begin.ensures.keeps h since t d all in
      not_loaded (g.E.Extract.field_of c.args.self.now.extract) c.args.self.now.main c.args.self.now.index since c.begin.new.core.engine c.begin.new.core.transactions t next d e c.args.pairs.items
      c.from_residual.result c.from_residual.ensures.0 goes;
}

pub returns-in_err-rollback : goal.returns-in_err-rollback
returns-in_err-rollback g c = record {
  keeps = λ h since t d all.
      let (u, m, first, is) = c.in_ok-tx.ensures.keeps h since t d all in
      rolled_back (g.E.Extract.field_of c.args.self.now.extract) c.args.self.now.main c.args.self.now.index since
      c.begin.new.core.engine c.put_all.new.core.engine c.rollback.new.core.engine c.begin.new.core.transactions c.put_all.new.core.transactions c.rollback.new.core.transactions t u d m
      c.in_ok-tx.tx c.put_all.new.tx c.args.pairs.items first c.put_all.result c.from_residual-in_err-rollback.result c.from_residual-in_err-rollback.ensures.0 (c.put_all.ensures.keeps h) (c.rollback.ensures.keeps h);
}

pub returns-in-Err : goal.returns-in-Err
returns-in-Err g c = record {
  keeps = λ h since t d all.
      let (u, m, first, is) = c.in_ok-tx.ensures.keeps h since t d all in
      rolled_back (g.E.Extract.field_of c.args.self.now.extract) c.args.self.now.main c.args.self.now.index since
      c.begin.new.core.engine c.put_all.new.core.engine c.rollback.new.core.engine c.begin.new.core.transactions c.put_all.new.core.transactions c.rollback.new.core.transactions t u d m
      c.in_ok-tx.tx c.put_all.new.tx c.args.pairs.items first c.put_all.result (Err c.in-Err.error) refl (c.put_all.ensures.keeps h) (c.rollback.ensures.keeps h);
}

pub returns-in-Ok : goal.returns-in-Ok
returns-in-Ok g c = record {
  keeps = λ h since t d all.
      let (u, m, first, is) = c.in_ok-tx.ensures.keeps h since t d all in
      committed (g.E.Extract.field_of c.args.self.now.extract) c.args.self.now.main c.args.self.now.index since
      c.begin.new.core.engine c.put_all.new.core.engine c.commit.new.core.engine c.begin.new.core.transactions c.put_all.new.core.transactions c.commit.new.core.transactions t u d m
      c.in_ok-tx.tx c.put_all.new.tx c.args.pairs.items first is c.in_ok-tx.ensures.none (c.in_default.ensures.keeps h) (c.in-Ok.ensures.keeps h since);
}

pub returns-in-Conflicted : goal.returns-in-Conflicted
returns-in-Conflicted g c = record {
  keeps = λ h since t d all.
      let (u, m, first, is) = c.in_ok-tx.ensures.keeps h since t d all in
      not_committed (g.E.Extract.field_of c.args.self.now.extract) c.args.self.now.main c.args.self.now.index since
      c.begin.new.core.engine c.put_all.new.core.engine c.commit.new.core.engine c.begin.new.core.transactions c.put_all.new.core.transactions c.commit.new.core.transactions t u d m
      c.in_ok-tx.tx c.put_all.new.tx c.args.pairs.items first (Err (Engine TransactionOpen)) refl is (c.in_default.ensures.keeps h) (c.in-Conflicted.ensures.keeps h since);
}

pub returns-in-Aborted : goal.returns-in-Aborted
returns-in-Aborted g c = record {
  keeps = λ h since t d all.
      let (u, m, first, is) = c.in_ok-tx.ensures.keeps h since t d all in
      not_committed (g.E.Extract.field_of c.args.self.now.extract) c.args.self.now.main c.args.self.now.index since
      c.begin.new.core.engine c.put_all.new.core.engine c.commit.new.core.engine c.begin.new.core.transactions c.put_all.new.core.transactions c.commit.new.core.transactions t u d m
      c.in_ok-tx.tx c.put_all.new.tx c.args.pairs.items first (Err c.in-Aborted.error) refl is (c.in_default.ensures.keeps h) (c.in-Aborted.ensures.keeps h since);
}
