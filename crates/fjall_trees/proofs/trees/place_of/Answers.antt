use Rattle.std.proofs.Common.{rules}
use Rattle.std.proofs.lemmas.List.Sorted.{answers_always}
use Rattle.fjall_trees.proofs.Searches.{found_place, no_place}
use Rattle.fjall_trees.proofs.trees.place_of.Goals as goal

pub returns-in-Ok : goal.returns-in-Ok
returns-in-Ok c =
    let by_key = c.in-Ok.ensures.position (λ k. k.id) (answers_always _ _ _ (λ f a r g called. search rules)) in
    found_place c.args.trees.now c.args.id c.in-Ok.place c.in-Ok.ensures.bound by_key

pub returns-in-Err : goal.returns-in-Err
returns-in-Err c =
    let by_key = c.in-Err.ensures.position (λ k. k.id) (answers_always _ _ _ (λ f a r g called. search rules)) in
    no_place c.args.trees.now c.args.id c.in-Err.field-0 c.requires by_key
