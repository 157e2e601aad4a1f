use Rattle.std.proofs.Common.{◌≡◌, ◌∙◌, ◌+◌, List, Err, None, Some, true, refl, ap, subst, sym, rules}
use Rattle.fjall_table.specs.Blocks.{Entry}
use Rattle.fjall_memtable.specs.Jobs.{merged_clears}
use Rattle.fjall_memtable.specs.SortedPages.{barrier}
use Rattle.fjall_memtable.specs.Sorted.{flat, sorted}
use Rattle.fjall_jobs.specs.Keeping.{AreSorted, kept_by}
use Rattle.fjall_jobs.specs.MergeInputs.{table_runs}
use Rattle.fjall_jobs.specs.Merges.{merge_task}
use Rattle.fjall_jobs.specs.Sequences.{MakesTables}
use Rattle.fjall_jobs.proofs.Keeping.{same_runs}
use Rattle.fjall_jobs.proofs.Merging.{merged_is}
use Rattle.fjall_jobs.proofs.merge_job.MergeJob.make.Goals as goal

pub returns-in_err-tables-clause-only : goal.returns-in_err-tables-clause-only
returns-in_err-tables-clause-only c are =
    let job = c.args.self.now in
    let runs : c.as_mut_slice.result.now ≡ table_runs job.tables.items = c.as_mut_slice.ensures.value ∙ c.in_ok-runs.ensures.runs ∙ ap table_runs c.as_slice-3.ensures.value in
    let e : c.from_residual-in_err-tables.result ≡ Err c.in_err-tables.field-0.0 = search rules in
    rw e (c.in_err-tables.ensures.only (subst AreSorted (sym (same_runs c.as_mut_slice.result.now ∙ runs)) are))

pub returns-clause-made : goal.returns-clause-made
returns-clause-made c are =
    let job = c.args.self.now in
    let runs : c.as_mut_slice.result.now ≡ table_runs job.tables.items = c.as_mut_slice.ensures.value ∙ c.in_ok-runs.ensures.runs ∙ ap table_runs c.as_slice-3.ensures.value in
    let is = same_runs c.as_mut_slice.result.now ∙ runs in
    merged_is job.target (merge_task job) (record { watermark = job.watermark; bound = c.bound_of-bound.result; spends = true }) c.in_ok-tables.tables.items c.in_ok-clears.clears.items are refl refl
    (c.bound_of-bound.ensures ∙ ap (barrier (job.watermark + 1)) c.as_slice-2.ensures.value)
    (c.in_ok-clears.ensures.clears ∙ ap (merged_clears job.watermark) c.as_slice.ensures.value)
    (subst (λ (rs : List (List Entry)). MakesTables (Some job.target) c.in_ok-tables.tables.items (kept_by (record { watermark = job.watermark; bound = c.bound_of-bound.result; spends = true }) None (sorted (flat rs)))) is
    (c.in_ok-tables.ensures.made (subst AreSorted (sym is) are)))
