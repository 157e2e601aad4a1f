use Rattle.std.proofs.Common.{sym, ◌∙◌}
use Rattle.fjall_engine.proofs.WriteCalls.{found_due, none_due}
use Rattle.fjall_engine.proofs.engine.Engine.batch_refusal.Goals as goal

pub returns-then-is_empty : goal.returns-then-is_empty
returns-then-is_empty g c = record { due = λ how. sym (none_due c.args.self.now c.args.items.now how (sym c.is_empty.ensures ∙ c.if-is_empty.true)) }

pub returns : goal.returns
returns g c = record { due = λ how. sym (found_due _ c.args.self.now c.args.items.now how c.self.view_is (sym c.is_empty.ensures ∙ c.if-is_empty.false) _ c.change_refusal.ensures) }
