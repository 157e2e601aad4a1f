use Rattle.std.proofs.Common.{rules, ◌≡◌, ◌∷◌, ◌++◌, [], Result, OnErr, subst}
use Rattle.fjall_base.specs.declared.error.Error.{Error}
use Rattle.fjall_history.specs.declared.reply.Reply.TheVariants.{Done, Refused}
use Rattle.fjall_core.specs.Transactions.{Tx}
use Rattle.fjall_calls.proofs.Beginning.{begin_err, begin_keeps, begin_ok}
use Rattle.fjall_calls.proofs.Jobs.{one_reply_more}
use Rattle.fjall_calls.proofs.ends.begin.Goals as goal

pub returns-in-Ok-clause-serves : goal.returns-in-Ok-clause-serves
returns-in-Ok-clause-serves g c before at =
    let a = c.args in
    let e = c.begun.ensures in
    let pushed : c.push.new.self.items ≡ a.listed.now.items ++ record { place = a.place; transaction = c.in-Ok.transaction } ∷ [] = search rules in
    begin_ok g.D.Disk.honest a.core.now.engine c.begun.new.core.engine a.core.now.transactions c.begun.new.core.transactions a.listed.now.items before a.kind c.begun.result e.due e.serves e.owes
    a.place c.in-Ok.transaction c.push.new.self.items c.in-Ok.is e.begun at pushed

pub returns-in-Ok-clause-keeps : goal.returns-in-Ok-clause-keeps
returns-in-Ok-clause-keeps g c jobs before keeps =
    let a = c.args in
    let e = c.begun.ensures in
    one_reply_more c.begun.new.core.engine.memory jobs before Done (λ job is. let bad : ⊥ = cc in bad)
    (begin_keeps g.D.Disk.honest a.core.now.engine c.begun.new.core.engine a.core.now.transactions c.begun.new.core.transactions a.listed.now.items before a.kind c.begun.result e.due e.serves e.owes jobs before keeps)

pub returns-in-Err-clause-serves : goal.returns-in-Err-clause-serves
returns-in-Err-clause-serves g c before at =
    let a = c.args in
    let e = c.begun.ensures in
    begin_err g.D.Disk.honest a.core.now.engine c.begun.new.core.engine a.core.now.transactions c.begun.new.core.transactions a.listed.now.items before a.kind c.begun.result e.due e.serves e.owes c.in-Err.error c.in-Err.is
    (subst (λ (r : Result Tx Error). OnErr r (c.begun.new.core.transactions ≡ a.core.now.transactions)) c.in-Err.is e.unchanged)

pub returns-in-Err-clause-keeps : goal.returns-in-Err-clause-keeps
returns-in-Err-clause-keeps g c jobs before keeps =
    let a = c.args in
    let e = c.begun.ensures in
    one_reply_more c.begun.new.core.engine.memory jobs before (Refused c.in-Err.error) (λ job is. let bad : ⊥ = cc in bad)
    (begin_keeps g.D.Disk.honest a.core.now.engine c.begun.new.core.engine a.core.now.transactions c.begun.new.core.transactions a.listed.now.items before a.kind c.begun.result e.due e.serves e.owes jobs before keeps)
