use Rattle.std.proofs.Common.{ℕ, ◌-◌, ◌<◌, ◌^◌, Option, refl, rules, subst, sym}
use Rattle.std.specs.Prelude.{IfSome}
use Rattle.fjall_jobs.specs.declared.merge_job.MergeJob.{MergeJob}
use Rattle.fjall_jobs.specs.Merges.{merge_task}
use Rattle.fjall_table_reader.specs.Readers.{SomeTableIsWrong}
use Rattle.fjall_tree.specs.Jobs.{IsMerging, merge_begun}
use Rattle.fjall_table_reader.specs.Files.{IsRefused}
use Rattle.fjall_trees.specs.Forests.{altered_at}
use Rattle.fjall_trees.specs.Tables.{AreReadOn, AreSameTrees, shape_in}
use Rattle.fjall_trees.specs.Views.{forest_of}
use Rattle.fjall_machine.specs.Remembered.{Remembered, merge_out_in_memory, with_trees}
use Rattle.fjall_state.proofs.Inside.{memory_in}
use Rattle.fjall_machine.proofs.Lawful.{alike, read_is_lawful}
use Rattle.fjall_machine.proofs.MergesLawful.{merge_out_is_lawful}
use Rattle.fjall_state.proofs.engine_state.EngineState.begin_merge.Goals as goal

pub invariant_of-self : goal.invariant_of-self
invariant_of-self g c =
    let m = memory_in c.self.inside in
    let trees = forest_of c.begin_merge.new.self in
    alike (with_trees trees m) _ (read_is_lawful trees m c.in_err-job.ensures.err c.self.invariant) refl refl refl refl refl refl

pub returns-in_err-job-clause-refused : goal.returns-in_err-job-clause-refused
returns-in_err-job-clause-refused g c = λ honest entries read.
    let id = c.args.id in
    let old = g.D.Disk.meaning c.args.disk.now in
    let new = g.D.Disk.meaning c.begin_merge.new.disk in
    let here = subst (λ (m : Remembered). AreReadOn old m.trees entries) (sym c.self.view_is) read in
    let is = subst (λ (m : Remembered). IsRefused (SomeTableIsWrong old (shape_in id m.trees).tables) old.faults new.faults c.in_err-job.field-0.0) c.self.view_is (c.in_err-job.ensures.refused honest entries here) in
    search rules

pub returns-in_err-job-clause-reads : goal.returns-in_err-job-clause-reads
returns-in_err-job-clause-reads g c = λ honest entries read.
    c.in_err-job.ensures.reads honest entries (subst (λ (m : Remembered). AreReadOn (g.D.Disk.meaning c.args.disk.now) m.trees entries) (sym c.self.view_is) read)

pub invariant_of-self-in-Some : goal.invariant_of-self-in-Some
invariant_of-self-in-Some g c =
    let a = c.self.inside in
    let id = c.args.id in
    let m = memory_in a in
    let trees = forest_of c.begin_merge.new.self in
    let small = subst (λ (k : Remembered). k.next_job < 2 ^ 64 - 1) (sym c.self.view_is) c.requires.numbered in
    let begun = subst (λ (o : Option MergeJob). IfSome o (λ _. AreSameTrees (altered_at id (merge_begun a.next_job c.watermark-watermark.result) (forest_of a.trees)) trees)) c.in-Some.is c.in_ok-job.ensures.begun in
    let same = subst (λ (w : ℕ). AreSameTrees (altered_at id (merge_begun a.next_job w) (forest_of a.trees)) trees) c.watermark-watermark.ensures.value begun in
    alike (with_trees trees (merge_out_in_memory id m)) _ (read_is_lawful trees (merge_out_in_memory id m) same (merge_out_is_lawful id m c.self.invariant small)) refl refl refl refl refl refl

pub returns-clause-out : goal.returns-clause-out
returns-clause-out g c = λ honest entries read.
    let id = c.args.id in
    let here = subst (λ (m : Remembered). AreReadOn (g.D.Disk.meaning c.args.disk.now) m.trees entries) (sym c.self.view_is) read in
    subst (λ (o : Option MergeJob). IfSome o (λ made. IsMerging (shape_in id (forest_of c.begin_merge.new.self)) (entries id) (merge_task made))) c.in-Some.is (c.in_ok-job.ensures.out honest entries here)

pub returns-clause-reads : goal.returns-clause-reads
returns-clause-reads g c = λ honest entries read.
    c.in_ok-job.ensures.reads honest entries (subst (λ (m : Remembered). AreReadOn (g.D.Disk.meaning c.args.disk.now) m.trees entries) (sym c.self.view_is) read)
