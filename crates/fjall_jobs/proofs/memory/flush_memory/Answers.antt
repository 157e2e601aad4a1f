use Rattle.std.proofs.Common.{◌≡◌, ◌∙◌, ◌+◌, ◌++◌, [], ◌∷◌, Err, false, refl, ap, rules}
use Rattle.fjall_memtable.specs.SortedPages.{barrier}
use Rattle.fjall_memtable.specs.Held.{held_of}
use Rattle.fjall_jobs.specs.Inputs.{runs_of}
use Rattle.fjall_jobs.proofs.Holding.{memory_flushed, seen_sorted}
use Rattle.fjall_jobs.proofs.memory.flush_memory.Goals as goal

pub returns-in_err-tables-clause-only : goal.returns-in_err-tables-clause-only
returns-in_err-tables-clause-only c =
    let sealed = c.args.sealed.now in
    let active = c.args.active.now in
    let runs : c.as_mut_slice.result.now ≡ runs_of sealed ++ (held_of active).versions ∷ [] =
    c.as_mut_slice.ensures.value ∙ c.in_ok-push.ensures.items ∙ (λ i. c.in_ok-runs.ensures.runs i ++ (c.new.ensures ∙ c.versions-2.ensures.versions ∙ c.versions.ensures) i ∷ []) in
    let e : c.from_residual-in_err-tables.result ≡ Err c.in_err-tables.field-0.0 = search rules in
    rw e (c.in_err-tables.ensures.only (seen_sorted sealed active active.held c.as_mut_slice.result.now runs c.requires.apart))

pub returns-clause-made : goal.returns-clause-made
returns-clause-made c id keyspace =
    let sealed = c.args.sealed.now in
    let active = c.args.active.now in
    let runs : c.as_mut_slice.result.now ≡ runs_of sealed ++ (held_of active).versions ∷ [] =
    c.as_mut_slice.ensures.value ∙ c.in_ok-push.ensures.items ∙ (λ i. c.in_ok-runs.ensures.runs i ++ (c.new.ensures ∙ c.versions-2.ensures.versions ∙ c.versions.ensures) i ∷ []) in
    let clears = c.in_ok-extend_from_slice.ensures.items ∙ (λ i. c.in_ok-clears.ensures.clears i ++ c.clears.ensures i) in
    memory_flushed sealed active active.held id keyspace (record { watermark = c.args.watermark; bound = c.bound_of.result; spends = false }) c.in_ok-tables.tables.items c.extend_from_slice.new.self.items
    c.as_mut_slice.result.now c.requires.apart refl (c.bound_of.ensures ∙ ap (barrier (c.args.watermark + 1)) c.as_slice.ensures.value) clears runs
    (c.in_ok-tables.ensures.made (seen_sorted sealed active active.held c.as_mut_slice.result.now runs c.requires.apart))
