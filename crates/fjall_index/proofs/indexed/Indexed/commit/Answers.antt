use Rattle.std.proofs.Common.{◌≡◌, inl, inr, None, refl, subst}
use Rattle.std.specs.FinMap.{get}
use Rattle.fjall_history.specs.declared.ticket.Ticket.{Ticket}
use Rattle.fjall_core.specs.CoreStanding.{reply_of}
use Rattle.fjall_core.specs.Standing.{CommitStep}
use Rattle.fjall_core.specs.Transactions.{Tx}
use Rattle.fjall_index.proofs.Keeping.{closes_tx, commits_tx}
use Rattle.fjall_index.proofs.Refusing.{close_none}
use Rattle.fjall_index.proofs.indexed.Indexed.commit.Goals as goal

pub returns-in-Ok : goal.returns-in-Ok
returns-in-Ok g c = record {
  keeps = λ h since t d all kept.
      closes_tx (g.E.Extract.field_of c.args.self.now.extract) c.args.self.now.main c.args.self.now.index since c.args.core.now.engine c.rollback.new.self.engine c.args.core.now.transactions c.rollback.new.self.transactions t d _ (reply_of c.rollback.result)
      all (c.rollback.ensures.steps h t all.stands all.reads);
  told = λ t stands. inr (c.in-Err.error, refl, elim c.in-Err.ensures.cause [ inl memory ↦ inl memory | inr wrong ↦ inr (inl wrong) ]);
}

pub returns-in-Err-rollback : goal.returns-in-Err-rollback
returns-in-Err-rollback g c = record {
  keeps = λ h since t d all kept.
      closes_tx (g.E.Extract.field_of c.args.self.now.extract) c.args.self.now.main c.args.self.now.index since c.args.core.now.engine c.rollback.new.self.engine c.args.core.now.transactions c.rollback.new.self.transactions t d _ (reply_of c.rollback.result)
      all (c.rollback.ensures.steps h t all.stands all.reads);
  told = λ t stands.
      let (s, stay, step) = c.in-Err-rollback.ensures.stands t stands in
      inr (c.in-Err-rollback.gone, refl, inr (inr (subst (λ (k : Ticket). get t.state.tickets.instants k.id ≡ None) c.in-Err.ensures.ticket (close_none t.state s c.write_kept.new.transaction.ticket.id c.in-Err-rollback.gone step))));
}

pub returns : goal.returns
returns g c = record {
  keeps = λ h since t d all kept.
      commits_tx (g.E.Extract.field_of c.args.self.now.extract) c.args.self.now.main c.args.self.now.index since c.args.core.now.engine c.commit.new.self.engine c.args.core.now.transactions c.commit.new.self.transactions t d
      c.args.tx c.write_kept.new.transaction c.commit.result c.outcome_of.result c.own_writes_keep_the_index.ensures.keeps c.own_writes_keep_the_index.ensures.reads c.own_writes_grow.ensures.many
      c.in_default.ensures.ok c.in_default.ensures.ordered all kept (c.commit.ensures.steps h t all.stands all.reads) c.outcome_of.ensures;
  told = λ t stands.
      let (next, stay, step) = c.commit.ensures.stands t stands in
      inl (c.commit.result, c.outcome_of.ensures, next, stay, subst (λ (x : Tx). CommitStep t x c.commit.result next) c.in_default.ensures.ok step);
}
