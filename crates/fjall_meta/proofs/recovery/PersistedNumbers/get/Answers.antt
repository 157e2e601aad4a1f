use Rattle.std.proofs.Common.{rules}
use Rattle.std.proofs.lemmas.List.Sorted.{answers_always}
use Rattle.fjall_meta.proofs.ContentSearches.{found_place, no_place}
use Rattle.fjall_meta.proofs.recovery.PersistedNumbers.get.Goals as goal

pub returns-in-Ok : goal.returns-in-Ok
returns-in-Ok c =
    let by_key = c.in-Ok.ensures.position (λ k. k.id) (answers_always _ _ _ (λ f a r g called. search rules)) in
    let told = c.deref.ensures.value in
    rw (← c.self.view_is) (found_place c.self.inside.numbers.items c.args.id c.in-Ok.place c.index.result.now c.self.invariant (rw told at c.in-Ok.ensures.bound) (rw told at by_key) c.index.ensures)

pub returns-in-Err : goal.returns-in-Err
returns-in-Err c =
    let by_key = c.in-Err.ensures.position (λ k. k.id) (answers_always _ _ _ (λ f a r g called. search rules)) in
    let told = c.deref.ensures.value in
    rw (← c.self.view_is) (no_place c.self.inside.numbers.items c.args.id c.in-Err.field-0 c.self.invariant (rw told at by_key))
