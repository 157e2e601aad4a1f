use Rattle.std.proofs.Common.{subst, arith}
use Rattle.fjall_machine.specs.declared.call.Call.{Call}
use Rattle.fjall_machine.specs.declared.merge_kind.MergeKind.TheVariants.{Due, Major}
use Rattle.fjall_machine.specs.Machine.{State}
use Rattle.fjall_machine.specs.Places.{resolved}
use Rattle.fjall_machine.specs.Shapes.{OfFlushBegin, OfMergeBegin, shape_of}
use Rattle.fjall_engine.specs.declared.jobs.JobBegin.TheVariants as begins
use Rattle.fjall_engine.specs.declared.jobs.JobKind.TheVariants as kinds
use Rattle.fjall_engine.specs.Jobs.{KeepsMerges, KnowsMerges}
use Rattle.fjall_engine.specs.Standing.{Owes, ServesWhere}
use Rattle.fjall_engine.proofs.KeptJobs.{flush_kept, keeps_begun, keeps_finished, keeps_on, merge_kept, plain_begins, plain_call}
use Rattle.fjall_engine.proofs.KeptMerges.{finished_known, merges_stay, serves_where}
use Rattle.fjall_engine.proofs.engine.Engine.serve.Goals as goal

pub returns-in-FlushBegin-clause-serves : goal.returns-in-FlushBegin-clause-serves
returns-in-FlushBegin-clause-serves g c = λ h.
    let s = c.serve_begin in
    let old = c.args.self.now in
    let jobs = c.args.jobs.now.items in
    subst (λ (call : Call). ServesWhere (λ s. KnowsMerges s jobs) old (shape_of call) s.result s.new.self) c.in-FlushBegin.ensures
    (serves_where (λ (t : State). KnowsMerges t jobs) old s.new.self (OfFlushBegin c.in-FlushBegin.id) s.result (s.ensures.serves h))

pub returns-in-FlushBegin-clause-keeps : goal.returns-in-FlushBegin-clause-keeps
returns-in-FlushBegin-clause-keeps g c =
    let s = c.serve_begin in
    keeps_begun c.args.self.now s.new.self begins.Flush c.in-FlushBegin.id c.args.jobs.now.items s.new.jobs.items c.args.replies.now c.requires.keeps c.memory_is_lawful.ensures s.result s.ensures.owes s.ensures.keeps

pub returns-in-FlushBegin-clause-merges : goal.returns-in-FlushBegin-clause-merges
returns-in-FlushBegin-clause-merges g c = λ h.
    let s = c.serve_begin in
    subst (λ (call : Call). KeepsMerges c.args.self.now c.args.jobs.now.items (shape_of call) s.result s.new.jobs.items) c.in-FlushBegin.ensures (s.ensures.merges h)

pub returns-in-MergeBegin-clause-serves : goal.returns-in-MergeBegin-clause-serves
returns-in-MergeBegin-clause-serves g c = λ h.
    let s = c.serve_begin-in-MergeBegin in
    let old = c.args.self.now in
    let jobs = c.args.jobs.now.items in
    subst (λ (call : Call). ServesWhere (λ s. KnowsMerges s jobs) old (shape_of call) s.result s.new.self) c.in-MergeBegin.ensures
    (serves_where (λ (t : State). KnowsMerges t jobs) old s.new.self (OfMergeBegin Due c.in-MergeBegin.id) s.result (s.ensures.serves h))

pub returns-in-MergeBegin-clause-keeps : goal.returns-in-MergeBegin-clause-keeps
returns-in-MergeBegin-clause-keeps g c =
    let s = c.serve_begin-in-MergeBegin in
    keeps_begun c.args.self.now s.new.self (begins.Merge Due) c.in-MergeBegin.id c.args.jobs.now.items s.new.jobs.items c.args.replies.now c.requires.keeps c.memory_is_lawful.ensures s.result s.ensures.owes s.ensures.keeps

pub returns-in-MergeBegin-clause-merges : goal.returns-in-MergeBegin-clause-merges
returns-in-MergeBegin-clause-merges g c = λ h.
    let s = c.serve_begin-in-MergeBegin in
    subst (λ (call : Call). KeepsMerges c.args.self.now c.args.jobs.now.items (shape_of call) s.result s.new.jobs.items) c.in-MergeBegin.ensures (s.ensures.merges h)

pub returns-in-MajorBegin-clause-serves : goal.returns-in-MajorBegin-clause-serves
returns-in-MajorBegin-clause-serves g c = λ h.
    let s = c.serve_begin-in-MajorBegin in
    let old = c.args.self.now in
    let jobs = c.args.jobs.now.items in
    subst (λ (call : Call). ServesWhere (λ s. KnowsMerges s jobs) old (shape_of call) s.result s.new.self) c.in-MajorBegin.ensures
    (serves_where (λ (t : State). KnowsMerges t jobs) old s.new.self (OfMergeBegin Major c.in-MajorBegin.id) s.result (s.ensures.serves h))

pub returns-in-MajorBegin-clause-keeps : goal.returns-in-MajorBegin-clause-keeps
returns-in-MajorBegin-clause-keeps g c =
    let s = c.serve_begin-in-MajorBegin in
    keeps_begun c.args.self.now s.new.self (begins.Merge Major) c.in-MajorBegin.id c.args.jobs.now.items s.new.jobs.items c.args.replies.now c.requires.keeps c.memory_is_lawful.ensures s.result s.ensures.owes s.ensures.keeps

pub returns-in-MajorBegin-clause-merges : goal.returns-in-MajorBegin-clause-merges
returns-in-MajorBegin-clause-merges g c = λ h.
    let s = c.serve_begin-in-MajorBegin in
    subst (λ (call : Call). KeepsMerges c.args.self.now c.args.jobs.now.items (shape_of call) s.result s.new.jobs.items) c.in-MajorBegin.ensures (s.ensures.merges h)

pub serve_finish-requires-clause-kept : goal.serve_finish-requires-clause-kept
serve_finish-requires-clause-kept g c = flush_kept c.args.self.now.memory c.args.jobs.now.items c.args.replies.now c.memory_is_lawful.ensures c.requires.keeps c.args.call c.in-FlushFinish.job c.in-FlushFinish.ensures

pub returns-in-FlushFinish-clause-serves : goal.returns-in-FlushFinish-clause-serves
returns-in-FlushFinish-clause-serves g c = λ h.
    let s = c.serve_finish in
    subst (λ (call : Call). ServesWhere (λ s. KnowsMerges s c.args.jobs.now.items) c.args.self.now (shape_of call) s.result s.new.self) c.in-FlushFinish.ensures (s.ensures.serves h)

pub returns-in-FlushFinish-clause-keeps : goal.returns-in-FlushFinish-clause-keeps
returns-in-FlushFinish-clause-keeps g c =
    let s = c.serve_finish in
    keeps_finished c.args.self.now s.new.self kinds.Flush c.in-FlushFinish.job s.result c.args.jobs.now.items s.new.jobs.items c.args.replies.now c.requires.keeps s.ensures.owes s.ensures.keeps

pub returns-in-FlushFinish-clause-merges : goal.returns-in-FlushFinish-clause-merges
returns-in-FlushFinish-clause-merges g c = λ h.
    let s = c.serve_finish in
    let jobs = c.args.jobs.now.items in
    subst (λ (call : Call). KeepsMerges c.args.self.now jobs (shape_of call) s.result s.new.jobs.items) c.in-FlushFinish.ensures (finished_known c.args.self.now kinds.Flush c.in-FlushFinish.job s.result jobs s.new.jobs.items s.ensures.keeps)

pub serve_finish-requires-in-MergeFinish-clause-kept : goal.serve_finish-requires-in-MergeFinish-clause-kept
serve_finish-requires-in-MergeFinish-clause-kept g c = merge_kept c.args.self.now.memory c.args.jobs.now.items c.args.replies.now c.memory_is_lawful.ensures c.requires.keeps c.args.call c.in-MergeFinish.job c.in-MergeFinish.ensures

pub returns-in-MergeFinish-clause-serves : goal.returns-in-MergeFinish-clause-serves
returns-in-MergeFinish-clause-serves g c = λ h.
    let s = c.serve_finish-in-MergeFinish in
    subst (λ (call : Call). ServesWhere (λ s. KnowsMerges s c.args.jobs.now.items) c.args.self.now (shape_of call) s.result s.new.self) c.in-MergeFinish.ensures (s.ensures.serves h)

pub returns-in-MergeFinish-clause-keeps : goal.returns-in-MergeFinish-clause-keeps
returns-in-MergeFinish-clause-keeps g c =
    let s = c.serve_finish-in-MergeFinish in
    keeps_finished c.args.self.now s.new.self kinds.Merge c.in-MergeFinish.job s.result c.args.jobs.now.items s.new.jobs.items c.args.replies.now c.requires.keeps s.ensures.owes s.ensures.keeps

pub returns-in-MergeFinish-clause-merges : goal.returns-in-MergeFinish-clause-merges
returns-in-MergeFinish-clause-merges g c = λ h.
    let s = c.serve_finish-in-MergeFinish in
    let jobs = c.args.jobs.now.items in
    subst (λ (call : Call). KeepsMerges c.args.self.now jobs (shape_of call) s.result s.new.jobs.items) c.in-MergeFinish.ensures (finished_known c.args.self.now kinds.Merge c.in-MergeFinish.job s.result jobs s.new.jobs.items s.ensures.keeps)

pub returns-in_default : goal.returns-in_default
returns-in_default g c =
    let old = c.args.self.now in
    let s = c.serve_plain in
    let jobs = c.args.jobs.now.items in
    let plain = plain_call c.resolve.result c.in_default.not-FlushBegin c.in_default.not-FlushFinish c.in_default.not-MergeBegin c.in_default.not-MajorBegin c.in_default.not-MergeFinish in
    record {
      serves = λ h. subst (λ (call : Call). ServesWhere (λ s. KnowsMerges s jobs) old (shape_of call) s.result s.new.self) c.resolve.ensures
          (serves_where (λ (t : State). KnowsMerges t jobs) old s.new.self (shape_of c.resolve.result) s.result (s.ensures.serves h));
      owes = subst (λ (call : Call). Owes old (shape_of call) s.result s.new.self) c.resolve.ensures s.ensures.owes;
      keeps = keeps_on old s.new.self jobs c.args.replies.now c.requires.keeps (shape_of c.resolve.result) s.result s.ensures.owes (plain_begins (shape_of c.resolve.result) plain);
      merges = λ h. merges_stay old jobs (shape_of (resolved c.args.replies.now c.args.call)) s.result;
      room = omega arith;
      len = omega arith;
    }
