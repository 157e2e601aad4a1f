use Rattle.std.proofs.Common.{rules, Err, refl}
use Rattle.fjall_core.specs.CoreStanding.{reply_of}
use Rattle.fjall_index.proofs.Answering.{answers_commit, answers_rollback}
use Rattle.fjall_index.proofs.Ending.{done_so, ends_commit, ends_rollback, refused_so}
use Rattle.fjall_index.proofs.Refusing.{commit_cause, rollback_cause}
use Rattle.fjall_index.specs.Refusing.{IsNotDone}
use Rattle.fjall_index.proofs.changing.end.Goals as goal

pub returns-in_err-rollback : goal.returns-in_err-rollback
returns-in_err-rollback g c = record {
  keeps = λ h. ends_rollback c.args.core.now.engine c.rollback.new.self.engine c.args.core.now.transactions c.rollback.new.self.transactions c.args.transaction _ (reply_of c.rollback.result) c.args.done _ (c.rollback.ensures.steps h) c.from_residual.ensures.0;
  ends = λ h. answers_rollback c.args.core.now.engine c.rollback.new.self.engine c.args.core.now.transactions c.rollback.new.self.transactions c.args.transaction _ (reply_of c.rollback.result) c.args.done _ (c.rollback.ensures.steps h) c.from_residual.ensures.0;
  refused = refused_so c.args.done _ c.from_residual.ensures.0;
  cause = λ t stands.
      let (s, stay, step) = c.in_err-rollback.ensures.stands t stands in
      rollback_cause t s c.args.transaction c.args.done c.from_residual.result c.in_err-rollback.field-0.0 c.from_residual.ensures.1 step;
}

pub returns-in-Err : goal.returns-in-Err
returns-in-Err g c = record {
  keeps = λ h. ends_rollback c.args.core.now.engine c.rollback.new.self.engine c.args.core.now.transactions c.rollback.new.self.transactions c.args.transaction _ (reply_of c.rollback.result) c.args.done (Err c.in-Err.error) (c.rollback.ensures.steps h) refl;
  ends = λ h. answers_rollback c.args.core.now.engine c.rollback.new.self.engine c.args.core.now.transactions c.rollback.new.self.transactions c.args.transaction _ (reply_of c.rollback.result) c.args.done (Err c.in-Err.error) (c.rollback.ensures.steps h) refl;
  refused = refused_so c.args.done (Err c.in-Err.error) refl;
  cause = λ t stands. IsNotDone (search rules);
}

pub returns : goal.returns
returns g c = record {
  keeps = λ h. ends_commit c.args.core.now.engine c.commit.new.self.engine c.args.core.now.transactions c.commit.new.self.transactions c.args.transaction c.commit.result c.args.done c.answer_of.result (c.commit.ensures.steps h) c.answer_of.ensures (search rules);
  ends = λ h. answers_commit c.args.core.now.engine c.commit.new.self.engine c.args.core.now.transactions c.commit.new.self.transactions c.args.transaction c.commit.result c.args.done c.answer_of.result (c.commit.ensures.steps h) c.answer_of.ensures;
  refused = done_so c.args.done c.answer_of.result (search rules);
  cause = λ t stands.
      let (after, stay, step) = c.commit.ensures.stands t stands in
      commit_cause t after c.args.transaction c.commit.result c.args.done c.answer_of.result (search rules) c.answer_of.ensures step;
}
