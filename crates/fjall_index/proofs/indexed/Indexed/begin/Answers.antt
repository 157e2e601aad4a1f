use Rattle.std.proofs.Common.{sym, subst}
use Rattle.fjall_history.specs.declared.reply.Reply.TheVariants.{Opened}
use Rattle.fjall_machine.specs.Shapes.{OfTickets, Open}
use Rattle.fjall_core.specs.Commits.{begun_reply}
use Rattle.fjall_core.specs.CoreStanding.{Owes}
use Rattle.fjall_core.specs.Transactions.{Tx}
use Rattle.fjall_index.specs.Changes.{IsIndexedTx}
use Rattle.fjall_index.proofs.Keeping.{begin_goes, not_begun}
use Rattle.fjall_index.proofs.Refusing.{not_begun_so}
use Rattle.fjall_index.proofs.indexed.Indexed.begin.Goals as goal

pub returns-in_err-transaction-clause-keeps : goal.returns-in_err-transaction-clause-keeps
returns-in_err-transaction-clause-keeps g c = λ h since t d all.
    let of = g.E.Extract.field_of c.args.self.now.extract in
    not_begun of c.args.self.now.main c.args.self.now.index since c.args.core.now.engine c.begin_optimistic.new.self.engine c.args.core.now.transactions c.begin_optimistic.new.self.transactions t d (begun_reply c.begin_optimistic.result)
    c.from_residual.result (IsIndexedTx of c.args.self.now.main c.args.self.now.index) c.from_residual.ensures.0 all (c.begin_optimistic.ensures.steps h t all.stands all.reads)

pub returns-clause-keeps : goal.returns-clause-keeps
returns-clause-keeps g c = λ h since t d all.
    let of = g.E.Extract.field_of c.args.self.now.extract in
    begin_goes of c.args.self.now.main c.args.self.now.index since c.args.core.now.engine c.begin_optimistic.new.self.engine c.args.core.now.transactions c.begin_optimistic.new.self.transactions t d c.in_ok-transaction.transaction _
    all (c.in_ok-transaction.ensures.steps h t all.stands all.reads) c.in_ok-transaction.ensures.begun c.new.ensures.transaction c.new.ensures.none

pub returns-in_err-transaction-clause-told : goal.returns-in_err-transaction-clause-told
returns-in_err-transaction-clause-told g c = not_begun_so c.args.core.now.engine c.begin_optimistic.new.self.engine c.from_residual.result c.in_err-transaction.field-0.0 c.from_residual.ensures.1 c.in_err-transaction.ensures.owes

pub returns-clause-told : goal.returns-clause-told
returns-clause-told g c = subst (λ (x : Tx). Owes c.args.core.now.engine (OfTickets Open) (Opened x.ticket) c.begin_optimistic.new.self.engine) (sym c.new.ensures.transaction) c.in_ok-transaction.ensures.owes
