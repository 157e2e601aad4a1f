use Rattle.std.proofs.Common.{rules, ◌≡◌, ◌∷◌, ◌++◌, [], List, None, Option, refl, sym, subst}
use Rattle.fjall_base.specs.declared.error.Error.TheVariants.{SnapshotClosed}
use Rattle.fjall_history.specs.declared.reply.Reply.TheVariants.{Refused}
use Rattle.fjall_core.specs.Holding.{Held}
use Rattle.fjall_core.specs.Jobs.{KeepsJobs}
use Rattle.fjall_calls.specs.Names.{Takes, is_wanted}
use Rattle.fjall_calls.specs.declared.call.TxCall.TheVariants as calls
use Rattle.fjall_calls.specs.declared.named.Named.{Named}
use Rattle.fjall_calls.proofs.Jobs.{one_reply_more}
use Rattle.fjall_calls.specs.Serving.{ActsOn, ServesTx}
use Rattle.fjall_calls.proofs.Beginning.{acts_so, no_job_within, unknown}
use Rattle.fjall_calls.proofs.ends.within.Goals as goal

pub returns-in_default-clause-serves : goal.returns-in_default-clause-serves
returns-in_default-clause-serves g c before =
    let a = c.args in
    unknown g.D.Disk.honest a.core.now.engine a.core.now.transactions a.listed.now.items c.take_named.new.listed.items before (calls.Within a.name a.call) a.name None refl tt
    (subst (λ (o : Option Named). Takes (is_wanted a.core.now.engine.memory.tickets a.name None) a.listed.now.items o c.take_named.new.listed.items) c.in_default.is c.take_named.ensures.takes)

pub returns-in_default-clause-keeps : goal.returns-in_default-clause-keeps
returns-in_default-clause-keeps g c jobs before keeps = one_reply_more c.args.core.now.engine.memory jobs before (Refused SnapshotClosed) (λ job is. let bad : ⊥ = cc in bad) keeps

pub returns-clause-serves : goal.returns-clause-serves
returns-clause-serves g c before =
    let a = c.args in
    let core = a.core.now in
    let rest = c.take_named.new.listed.items in
    let reply = c.act-reply.result.0 in
    let takes = subst (λ (o : Option Named). Takes (is_wanted core.engine.memory.tickets a.name None) a.listed.now.items o c.take_named.new.listed.items) c.in-Some.is c.take_named.ensures.takes in
    let pushed : c.push.new.self.items ≡ rest ++ record { place = c.in-Some.named.place; transaction = c.act-reply.result.1 } ∷ [] = search rules in
    let acts = subst (λ (h : Held). ActsOn g.D.Disk.honest h c.in-Some.named.transaction a.call reply c.act-reply.new.core c.act-reply.result.1) c.deref_mut.ensures.value c.act-reply.ensures in
    subst (λ (l : List Named). ServesTx g.D.Disk.honest core.engine core.transactions a.listed.now.items before (calls.Within a.name a.call) reply c.act-reply.new.core core.transactions l) (sym pushed)
    (acts_so g.D.Disk.honest core.engine c.act-reply.new.core core.transactions a.listed.now.items rest before a.name a.call c.in-Some.named reply c.act-reply.result.1 takes acts)

pub returns-clause-keeps : goal.returns-clause-keeps
returns-clause-keeps g c jobs before keeps =
    let acts = c.act-reply.ensures in
    one_reply_more c.act-reply.new.core.memory jobs before c.act-reply.result.0 (λ job is. no_job_within c.args.call c.act-reply.result.0 job acts.fits is)
    (acts.keeps jobs before (subst (λ (h : Held). KeepsJobs h.memory jobs before) (sym c.deref_mut.ensures.value) keeps))
