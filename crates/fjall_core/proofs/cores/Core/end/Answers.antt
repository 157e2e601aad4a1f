use Rattle.std.proofs.Common.{sym, ap, subst}
use Rattle.fjall_tx.specs.declared.outcome.CommitOutcome.TheVariants as outcomes
use Rattle.fjall_machine.specs.Shapes.{ByMode}
use Rattle.fjall_engine.specs.Standing.{Owes, Serves}
use Rattle.fjall_core.specs.Commits.{Comes}
use Rattle.fjall_core.specs.Transactions.{Tx}
use Rattle.fjall_core.proofs.Asking.{change_tickets, comes_of, not_true, outcome_of}
use Rattle.fjall_core.proofs.Items.{some_count}
use Rattle.fjall_core.proofs.cores.Core.end.Goals as goal

pub write-requires : goal.write-requires
write-requires g c = record { some = some_count c.transaction.inside.own (λ e. not_true c.is_empty.result c.if-is_empty.false (c.is_empty.ensures.1 e)) c.into_items.result.items c.into_items.ensures.items }

pub returns-in-Ok-clause-serves : goal.returns-in-Ok-clause-serves
returns-in-Ok-clause-serves g c = λ h.
    subst (λ (x : Tx). Comes Serves c.args.self.now.transactions.commits c.args.self.now.engine c.args.instant x outcomes.Ok c.write.new.self.transactions.commits c.write.new.self.engine) c.transaction.view_is
    (comes_of Serves c.args.self.now.transactions c.write.new.self.transactions c.args.self.now.engine c.write.new.self.engine c.args.instant (record { ticket = c.transaction.inside.ticket; own = c.transaction.inside.own; marks = c.transaction.inside.marks; mode = c.transaction.inside.mode }) c.into_items.result.items c.write.result (outcomes.Ok) c.into_items.ensures.items
    (λ e. not_true c.is_empty.result c.if-is_empty.false (c.is_empty.ensures.1 e)) (c.meets.ensures.no c.if-meets.false) (sym (ap outcome_of c.in-Ok.is)) (c.write.ensures.serves h) c.write.ensures.ok c.write.ensures.err)

pub returns-in-Ok-clause-owes : goal.returns-in-Ok-clause-owes
returns-in-Ok-clause-owes g c =
    subst (λ (x : Tx). Comes Owes c.args.self.now.transactions.commits c.args.self.now.engine c.args.instant x outcomes.Ok c.write.new.self.transactions.commits c.write.new.self.engine) c.transaction.view_is
    (comes_of Owes c.args.self.now.transactions c.write.new.self.transactions c.args.self.now.engine c.write.new.self.engine c.args.instant (record { ticket = c.transaction.inside.ticket; own = c.transaction.inside.own; marks = c.transaction.inside.marks; mode = c.transaction.inside.mode }) c.into_items.result.items c.write.result (outcomes.Ok) c.into_items.ensures.items
    (λ e. not_true c.is_empty.result c.if-is_empty.false (c.is_empty.ensures.1 e)) (c.meets.ensures.no c.if-meets.false) (sym (ap outcome_of c.in-Ok.is)) c.write.ensures.owes c.write.ensures.ok c.write.ensures.err)

pub returns-in-Err-clause-serves : goal.returns-in-Err-clause-serves
returns-in-Err-clause-serves g c = λ h.
    subst (λ (x : Tx). Comes Serves c.args.self.now.transactions.commits c.args.self.now.engine c.args.instant x (outcomes.Aborted c.in-Err.error) c.write.new.self.transactions.commits c.write.new.self.engine) c.transaction.view_is
    (comes_of Serves c.args.self.now.transactions c.write.new.self.transactions c.args.self.now.engine c.write.new.self.engine c.args.instant (record { ticket = c.transaction.inside.ticket; own = c.transaction.inside.own; marks = c.transaction.inside.marks; mode = c.transaction.inside.mode }) c.into_items.result.items c.write.result (outcomes.Aborted c.in-Err.error) c.into_items.ensures.items
    (λ e. not_true c.is_empty.result c.if-is_empty.false (c.is_empty.ensures.1 e)) (c.meets.ensures.no c.if-meets.false) (sym (ap outcome_of c.in-Err.is)) (c.write.ensures.serves h) c.write.ensures.ok c.write.ensures.err)

pub returns-in-Err-clause-owes : goal.returns-in-Err-clause-owes
returns-in-Err-clause-owes g c =
    subst (λ (x : Tx). Comes Owes c.args.self.now.transactions.commits c.args.self.now.engine c.args.instant x (outcomes.Aborted c.in-Err.error) c.write.new.self.transactions.commits c.write.new.self.engine) c.transaction.view_is
    (comes_of Owes c.args.self.now.transactions c.write.new.self.transactions c.args.self.now.engine c.write.new.self.engine c.args.instant (record { ticket = c.transaction.inside.ticket; own = c.transaction.inside.own; marks = c.transaction.inside.marks; mode = c.transaction.inside.mode }) c.into_items.result.items c.write.result (outcomes.Aborted c.in-Err.error) c.into_items.ensures.items
    (λ e. not_true c.is_empty.result c.if-is_empty.false (c.is_empty.ensures.1 e)) (c.meets.ensures.no c.if-meets.false) (sym (ap outcome_of c.in-Err.is)) c.write.ensures.owes c.write.ensures.ok c.write.ensures.err)

pub returns-in-Err-clause-tickets : goal.returns-in-Err-clause-tickets
returns-in-Err-clause-tickets g c = change_tickets c.args.self.now.engine c.write.new.self.engine c.into_items.result.items (ByMode c.transaction.inside.mode) c.write.result c.write.ensures.owes
