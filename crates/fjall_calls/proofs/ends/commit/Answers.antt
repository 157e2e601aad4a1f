use Rattle.std.proofs.Common.{◌==◌, ◌<◌, ◌^◌, Option, Some, length, refl, sym, ap, ◌∙◌, subst}
use Rattle.fjall_tx.specs.Owns.{Own, items_of}
use Rattle.fjall_history.specs.Tickets.{is_open}
use Rattle.fjall_history.specs.declared.reply.Reply.{Reply}
use Rattle.fjall_base.specs.declared.error.Error.TheVariants.{SnapshotClosed}
use Rattle.fjall_history.specs.declared.reply.Reply.TheVariants.{Refused}
use Rattle.fjall_calls.specs.Names.{Takes, is_wanted, is_of_kind}
use Rattle.fjall_calls.specs.declared.call.TxCall.TheVariants as calls
use Rattle.fjall_calls.specs.declared.named.Named.{Named}
use Rattle.fjall_calls.proofs.Jobs.{one_reply_more}
use Rattle.fjall_core.specs.CoreStanding.{Owes, Serves}
use Rattle.fjall_core.proofs.ServedCalls.{either_owes, either_serves}
use Rattle.fjall_calls.specs.Serving.{ServesTx}
use Rattle.fjall_calls.proofs.Beginning.{unknown}
use Rattle.fjall_calls.proofs.Ending.{commit_keeps, commit_serves, ends_chain, ends_writer, in_list, in_list_has, no_job_told, wanted_open}
use Rattle.fjall_calls.proofs.ends.commit.Goals as goal

pub returns-in_default-clause-serves : goal.returns-in_default-clause-serves
returns-in_default-clause-serves g c before =
    let a = c.args in
    unknown g.D.Disk.honest a.core.now.engine a.core.now.transactions a.listed.now.items c.take_named.new.listed.items before (calls.Commit a.kind a.name) a.name (Some a.kind) refl tt
    (subst (λ (o : Option Named). Takes (is_wanted a.core.now.engine.memory.tickets a.name (Some a.kind)) a.listed.now.items o c.take_named.new.listed.items) c.in_default.is c.take_named.ensures.takes)

pub returns-in_default-clause-keeps : goal.returns-in_default-clause-keeps
returns-in_default-clause-keeps g c jobs before keeps = one_reply_more c.args.core.now.engine.memory jobs before (Refused SnapshotClosed) (λ job is. let bad : ⊥ = cc in bad) keeps

pub returns-clause-serves : goal.returns-clause-serves
returns-clause-serves g c before =
    let a = c.args in
    let tx = c.in-Some.named.transaction in
    let rest = c.take_named.new.listed.items in
    let e = c.commit.ensures in
    let takes = subst (λ (o : Option Named). Takes (is_wanted a.core.now.engine.memory.tickets a.name (Some a.kind)) a.listed.now.items o c.take_named.new.listed.items) c.in-Some.is c.take_named.ensures.takes in
    let opened = wanted_open (c.in-Some.named.place == a.name) (is_of_kind (Some a.kind) tx) (is_open a.core.now.engine.memory.tickets tx.ticket.id) takes.0 in
    let few = subst (λ (o : Own). length (items_of o) < 2 ^ 63) c.own.ensures c.len-written.ensures.few in
    subst (λ (r : Reply). ServesTx g.D.Disk.honest a.core.now.engine a.core.now.transactions a.listed.now.items before (calls.Commit a.kind a.name) r c.commit.new.self.engine c.commit.new.self.transactions rest) (sym c.told.ensures)
    (commit_serves g.D.Disk.honest a.core.now.engine c.commit.new.self.engine a.core.now.transactions c.commit.new.self.transactions a.listed.now.items rest before a.kind a.name c.in-Some.named takes
    (ends_writer Owes a.core.now.transactions c.commit.new.self.transactions a.core.now.engine c.commit.new.self.engine tx c.commit.result e.owes)
    (in_list c.take_named.new.listed (items_of tx.own) few) (in_list_has c.take_named.new.listed (items_of tx.own) few) c.commit.result
    (λ h. ends_chain Serves either_serves a.core.now.transactions c.commit.new.self.transactions a.core.now.engine c.commit.new.self.engine tx c.commit.result opened (e.serves h))
    (ends_chain Owes either_owes a.core.now.transactions c.commit.new.self.transactions a.core.now.engine c.commit.new.self.engine tx c.commit.result opened e.owes)
    (λ h t stands reads. let (new, stay, on, step, led) = e.steps h t stands reads in (new, stay, on, step)))

pub returns-clause-keeps : goal.returns-clause-keeps
returns-clause-keeps g c jobs before keeps =
    let a = c.args in
    let tx = c.in-Some.named.transaction in
    let e = c.commit.ensures in
    let takes = subst (λ (o : Option Named). Takes (is_wanted a.core.now.engine.memory.tickets a.name (Some a.kind)) a.listed.now.items o c.take_named.new.listed.items) c.in-Some.is c.take_named.ensures.takes in
    let opened = wanted_open (c.in-Some.named.place == a.name) (is_of_kind (Some a.kind) tx) (is_open a.core.now.engine.memory.tickets tx.ticket.id) takes.0 in
    one_reply_more c.commit.new.self.engine.memory jobs before c.told.result (λ job is. no_job_told c.commit.result job (sym (ap (λ (r : Reply). Some r) c.told.ensures) ∙ is))
    (commit_keeps a.core.now.engine c.commit.new.self.engine tx c.commit.result
    (ends_chain Owes either_owes a.core.now.transactions c.commit.new.self.transactions a.core.now.engine c.commit.new.self.engine tx c.commit.result opened e.owes) jobs before keeps)
