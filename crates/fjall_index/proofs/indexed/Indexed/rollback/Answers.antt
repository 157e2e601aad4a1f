use Rattle.fjall_core.specs.CoreStanding.{reply_of}
use Rattle.fjall_index.proofs.Keeping.{closes_tx}
use Rattle.fjall_index.proofs.indexed.Indexed.rollback.Goals as goal

pub returns : goal.returns
returns g c = record {
  keeps = λ h since t d all.
      closes_tx (g.E.Extract.field_of c.args.self.now.extract) c.args.self.now.main c.args.self.now.index since c.args.core.now.engine c.rollback.new.self.engine c.args.core.now.transactions c.rollback.new.self.transactions t d _ (reply_of c.rollback.result)
      all (c.rollback.ensures.steps h t all.stands all.reads);
  told = c.in-Err.ensures.owes;
}

pub returns-in-Ok : goal.returns-in-Ok
returns-in-Ok g c = record {
  keeps = λ h since t d all.
      closes_tx (g.E.Extract.field_of c.args.self.now.extract) c.args.self.now.main c.args.self.now.index since c.args.core.now.engine c.rollback.new.self.engine c.args.core.now.transactions c.rollback.new.self.transactions t d _ (reply_of c.rollback.result)
      all (c.rollback.ensures.steps h t all.stands all.reads);
  told = c.in-Ok.ensures.owes;
}
