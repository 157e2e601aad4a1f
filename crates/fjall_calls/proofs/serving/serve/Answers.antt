use Rattle.std.proofs.Common.{refl, sym, subst}
use Rattle.fjall_core.specs.Holding.{Held}
use Rattle.fjall_core.specs.Jobs.{KeepsJobs}
use Rattle.fjall_calls.specs.declared.call.TxCall.{TxCall}
use Rattle.fjall_calls.specs.declared.call.TxCall.TheVariants as calls
use Rattle.fjall_calls.specs.Serving.{ServesListed}
use Rattle.fjall_calls.proofs.Listed.{core_serves, others_serve}
use Rattle.fjall_calls.proofs.serving.serve.Goals as goal

pub serve-requires : goal.serve-requires
serve-requires g c = record {
  room = c.requires.jobs_room;
  keeps = subst (λ (h : Held). KeepsJobs h.memory c.args.jobs.now.items c.args.replies.now) (sym c.deref_mut.ensures.value) c.requires.keeps;
}

pub returns-in-Core-clause-serves : goal.returns-in-Core-clause-serves
returns-in-Core-clause-serves g c =
    let a = c.args in
    let core = a.core.now in
    let old = a.jobs.now.items in
    let new = c.serve.new.jobs.items in
    subst (λ (call : TxCall). ServesListed g.D.Disk.honest old new core.engine core.transactions a.listed.now.items a.replies.now call c.serve.result c.serve.new.self core.transactions a.listed.now.items) (sym c.in-Core.is)
    (subst (λ (h : Held). ServesListed g.D.Disk.honest old new h core.transactions a.listed.now.items a.replies.now (calls.Core c.in-Core.call) c.serve.result c.serve.new.self core.transactions a.listed.now.items) c.deref_mut.ensures.value
    (core_serves g.D.Disk.honest old new c.deref_mut.result.now c.serve.new.self core.transactions a.listed.now.items a.replies.now c.in-Core.call c.serve.result c.serve.ensures.serves c.serve.ensures.owes c.serve.ensures.merges))

pub returns-in-Begin-clause-serves : goal.returns-in-Begin-clause-serves
returns-in-Begin-clause-serves g c =
    let a = c.args in
    subst (λ (call : TxCall). ServesListed g.D.Disk.honest a.jobs.now.items a.jobs.now.items a.core.now.engine a.core.now.transactions a.listed.now.items a.replies.now call c.begin.result c.begin.new.core.engine c.begin.new.core.transactions c.begin.new.listed.items)
    (sym c.in-Begin.is)
    (others_serve g.D.Disk.honest a.jobs.now.items a.core.now.engine c.begin.new.core.engine a.core.now.transactions c.begin.new.core.transactions a.listed.now.items c.begin.new.listed.items a.replies.now (calls.Begin c.in-Begin.kind) c.begin.result refl
    (c.begin.ensures.serves a.replies.now refl))

pub returns-in-Begin-clause-keeps : goal.returns-in-Begin-clause-keeps
returns-in-Begin-clause-keeps g c = c.begin.ensures.keeps c.args.jobs.now.items c.args.replies.now c.requires.keeps

pub returns-in-Within-clause-serves : goal.returns-in-Within-clause-serves
returns-in-Within-clause-serves g c =
    let a = c.args in
    subst (λ (call : TxCall). ServesListed g.D.Disk.honest a.jobs.now.items a.jobs.now.items a.core.now.engine a.core.now.transactions a.listed.now.items a.replies.now call c.within.result c.within.new.core.engine c.within.new.core.transactions c.within.new.listed.items)
    (sym c.in-Within.is)
    (others_serve g.D.Disk.honest a.jobs.now.items a.core.now.engine c.within.new.core.engine a.core.now.transactions c.within.new.core.transactions a.listed.now.items c.within.new.listed.items a.replies.now (calls.Within c.in-Within.name c.in-Within.call) c.within.result refl
    (c.within.ensures.serves a.replies.now))

pub returns-in-Within-clause-keeps : goal.returns-in-Within-clause-keeps
returns-in-Within-clause-keeps g c = c.within.ensures.keeps c.args.jobs.now.items c.args.replies.now c.requires.keeps

pub returns-in-Commit-clause-serves : goal.returns-in-Commit-clause-serves
returns-in-Commit-clause-serves g c =
    let a = c.args in
    subst (λ (call : TxCall). ServesListed g.D.Disk.honest a.jobs.now.items a.jobs.now.items a.core.now.engine a.core.now.transactions a.listed.now.items a.replies.now call c.commit.result c.commit.new.core.engine c.commit.new.core.transactions c.commit.new.listed.items)
    (sym c.in-Commit.is)
    (others_serve g.D.Disk.honest a.jobs.now.items a.core.now.engine c.commit.new.core.engine a.core.now.transactions c.commit.new.core.transactions a.listed.now.items c.commit.new.listed.items a.replies.now (calls.Commit c.in-Commit.kind c.in-Commit.name) c.commit.result refl
    (c.commit.ensures.serves a.replies.now))

pub returns-in-Commit-clause-keeps : goal.returns-in-Commit-clause-keeps
returns-in-Commit-clause-keeps g c = c.commit.ensures.keeps c.args.jobs.now.items c.args.replies.now c.requires.keeps

pub returns-in-Rollback-clause-serves : goal.returns-in-Rollback-clause-serves
returns-in-Rollback-clause-serves g c =
    let a = c.args in
    subst (λ (call : TxCall). ServesListed g.D.Disk.honest a.jobs.now.items a.jobs.now.items a.core.now.engine a.core.now.transactions a.listed.now.items a.replies.now call c.roll_back.result c.roll_back.new.core.engine c.roll_back.new.core.transactions c.roll_back.new.listed.items)
    (sym c.in-Rollback.is)
    (others_serve g.D.Disk.honest a.jobs.now.items a.core.now.engine c.roll_back.new.core.engine a.core.now.transactions c.roll_back.new.core.transactions a.listed.now.items c.roll_back.new.listed.items a.replies.now (calls.Rollback c.in-Rollback.name) c.roll_back.result refl
    (c.roll_back.ensures.serves a.replies.now))

pub returns-in-Rollback-clause-keeps : goal.returns-in-Rollback-clause-keeps
returns-in-Rollback-clause-keeps g c = c.roll_back.ensures.keeps c.args.jobs.now.items c.args.replies.now c.requires.keeps
