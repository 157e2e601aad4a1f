use Rattle.std.proofs.Common.{ap, ◌∙◌}
use Rattle.fjall_memtable.specs.SortedPages.{barrier}
use Rattle.fjall_memtable.specs.declared.part.Part.{Part}
use Rattle.fjall_memtable.specs.Parts.{clears_in}
use Rattle.fjall_memtable.specs.Held.{held_of}
use Rattle.fjall_memtable.specs.Shares.{shared}
use Rattle.fjall_memtable.proofs.Apart.{all_held, shared_last}
use Rattle.fjall_memtable.proofs.PartBarriers.{barrier_found, barrier_rest}
use Rattle.fjall_memtable.proofs.shared.barrier_of.Goals as goal

pub returns-then-found-ne0 : goal.returns-then-found-ne0
returns-then-found-ne0 c =
    let t = c.args.instant in
    let rest = c.loop-part.rest.now in
    let part = c.in-Some.part.now in
    barrier_found t (shared rest) (shared c.in-Some.before.now) (held_of part.value) c.barrier-found.result (barrier t (clears_in (shared c.args.parts.now)))
    (shared_last rest c.in-Some.before.now part c.in-Some.ensures.cases.0) (all_held rest) c.loop-part.invariant.apart c.loop-part.invariant.same
    (c.barrier-found.ensures ∙ ap (λ (p : Part). barrier t (held_of p).clears) c.deref.ensures) c.if-found-ne0.true

pub loop-part-preserved : goal.loop-part-preserved
loop-part-preserved c =
    let t = c.args.instant in
    let rest = c.loop-part.rest.now in
    let part = c.in-Some.part.now in
    let left = barrier_rest t (shared rest) (shared c.in-Some.before.now) (held_of part.value) c.barrier-found.result (barrier t (clears_in (shared c.args.parts.now)))
    (shared_last rest c.in-Some.before.now part c.in-Some.ensures.cases.0) c.loop-part.invariant.apart c.loop-part.invariant.same
    (c.barrier-found.ensures ∙ ap (λ (p : Part). barrier t (held_of p).clears) c.deref.ensures) c.if-found-ne0.false in
    record { apart = left.0; same = left.1 }
