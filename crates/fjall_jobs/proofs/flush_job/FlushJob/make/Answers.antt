use Rattle.std.proofs.Common.{◌≡◌, ◌∙◌, ◌+◌, List, Err, None, false, refl, ap, subst, rules}
use Rattle.std.specs.declared.alloc.Global.{Global}
use Rattle.std.specs.declared.sync.Arc.{Arc}
use Rattle.fjall_table.specs.Blocks.{Entry}
use Rattle.fjall_memtable.specs.SortedPages.{barrier}
use Rattle.fjall_memtable.specs.Sorted.{flat, sorted}
use Rattle.fjall_memtable.specs.declared.part.Part.{Part}
use Rattle.fjall_memtable.specs.Parts.{clears_in}
use Rattle.fjall_memtable.specs.Shares.{shared}
use Rattle.fjall_jobs.specs.Flushes.{flush_task}
use Rattle.fjall_jobs.specs.Inputs.{runs_of}
use Rattle.fjall_jobs.specs.Keeping.{kept_by}
use Rattle.fjall_jobs.specs.Sequences.{MakesTables}
use Rattle.fjall_jobs.proofs.Flushing.{flushed_is, input_once, input_sorted, runs_are}
use Rattle.fjall_jobs.proofs.flush_job.FlushJob.make.Goals as goal

pub returns-in_err-tables-clause-only : goal.returns-in_err-tables-clause-only
returns-in_err-tables-clause-only c =
    let job = c.args.self.now in
    let parts = job.parts.items in
    let runs : c.as_mut_slice.result.now ≡ runs_of parts = c.as_mut_slice.ensures.value ∙ c.in_ok-runs.ensures.runs ∙ ap runs_of c.as_slice-3.ensures.value in
    let e : c.from_residual-in_err-tables.result ≡ Err c.in_err-tables.field-0.0 = search rules in
    rw e (c.in_err-tables.ensures.only (input_sorted c.as_mut_slice.result.now parts runs job.apart))

pub returns-clause-made : goal.returns-clause-made
returns-clause-made c =
    let job = c.args.self.now in
    let parts = job.parts.items in
    let runs : c.as_mut_slice.result.now ≡ runs_of parts = c.as_mut_slice.ensures.value ∙ c.in_ok-runs.ensures.runs ∙ ap runs_of c.as_slice-3.ensures.value in
    let is = runs_are c.as_mut_slice.result.now parts runs in
    let clears : c.in_ok-clears.clears.items ≡ clears_in (shared parts) = c.in_ok-clears.ensures.clears ∙ ap (λ (ps : List (Arc Part Global)). clears_in (shared ps)) c.as_slice.ensures.value in
    flushed_is (flush_task job) (record { watermark = job.watermark; bound = c.bound_of-bound.result; spends = false }) c.in_ok-tables.tables.items c.in_ok-clears.clears.items (input_once parts job.apart) refl refl
    (c.bound_of-bound.ensures ∙ ap (barrier (job.watermark + 1)) c.as_slice-2.ensures.value) clears
    (subst (λ (rs : List (List Entry)). MakesTables None c.in_ok-tables.tables.items (kept_by (record { watermark = job.watermark; bound = c.bound_of-bound.result; spends = false }) None (sorted (flat rs)))) is (c.in_ok-tables.ensures.made (input_sorted c.as_mut_slice.result.now parts runs job.apart)))
