use Rattle.std.proofs.Common.{None, Option, Some, refl, sym, ap, ◌∙◌, subst}
use Rattle.fjall_history.specs.declared.reply.Reply.{Reply}
use Rattle.fjall_base.specs.declared.error.Error.TheVariants.{SnapshotClosed}
use Rattle.fjall_history.specs.declared.reply.Reply.TheVariants.{Refused}
use Rattle.fjall_calls.specs.Names.{Takes, is_wanted}
use Rattle.fjall_calls.specs.declared.call.TxCall.TheVariants as calls
use Rattle.fjall_calls.specs.declared.named.Named.{Named}
use Rattle.fjall_calls.proofs.Jobs.{one_reply_more, kept_on}
use Rattle.fjall_core.specs.CoreStanding.{reply_of}
use Rattle.fjall_machine.specs.Shapes.{Close, OfTickets}
use Rattle.fjall_calls.specs.Serving.{ServesTx}
use Rattle.fjall_calls.proofs.Beginning.{unknown}
use Rattle.fjall_calls.proofs.Ending.{no_job_behind, rollback_serves}
use Rattle.fjall_calls.proofs.ends.roll_back.Goals as goal

pub returns-in_default-clause-serves : goal.returns-in_default-clause-serves
returns-in_default-clause-serves g c before =
    let a = c.args in
    unknown g.D.Disk.honest a.core.now.engine a.core.now.transactions a.listed.now.items c.take_named.new.listed.items before (calls.Rollback a.name) a.name None refl tt
    (subst (λ (o : Option Named). Takes (is_wanted a.core.now.engine.memory.tickets a.name None) a.listed.now.items o c.take_named.new.listed.items) c.in_default.is c.take_named.ensures.takes)

pub returns-in_default-clause-keeps : goal.returns-in_default-clause-keeps
returns-in_default-clause-keeps g c jobs before keeps = one_reply_more c.args.core.now.engine.memory jobs before (Refused SnapshotClosed) (λ job is. let bad : ⊥ = cc in bad) keeps

pub returns-clause-serves : goal.returns-clause-serves
returns-clause-serves g c before =
    let a = c.args in
    let rest = c.take_named.new.listed.items in
    let e = c.rollback.ensures in
    let takes = subst (λ (o : Option Named). Takes (is_wanted a.core.now.engine.memory.tickets a.name None) a.listed.now.items o c.take_named.new.listed.items) c.in-Some.is c.take_named.ensures.takes in
    subst (λ (r : Reply). ServesTx g.D.Disk.honest a.core.now.engine a.core.now.transactions a.listed.now.items before (calls.Rollback a.name) r c.rollback.new.self.engine c.rollback.new.self.transactions rest) (sym c.reply_of.ensures)
    (rollback_serves g.D.Disk.honest a.core.now.engine c.rollback.new.self.engine a.core.now.transactions c.rollback.new.self.transactions a.listed.now.items rest before a.name c.in-Some.named c.rollback.result takes e.serves e.owes e.ok e.err)

pub returns-clause-keeps : goal.returns-clause-keeps
returns-clause-keeps g c jobs before keeps =
    let a = c.args in
    one_reply_more c.rollback.new.self.engine.memory jobs before c.reply_of.result (λ job is. no_job_behind c.rollback.result job (sym (ap (λ (r : Reply). Some r) c.reply_of.ensures) ∙ is))
    (kept_on a.core.now.engine c.rollback.new.self.engine (OfTickets (Close c.in-Some.named.transaction.ticket.id)) (reply_of c.rollback.result) tt c.rollback.ensures.owes jobs before keeps)
