use Rattle.std.proofs.Common.{◌≡◌, ◌++◌, ◌∷◌, [], ◌∙◌, List, take, sym, ap, subst, arith, rules}
use Rattle.std.proofs.lemmas.List.{take_all, take_more}
use Rattle.std.proofs.lemmas.List.Elements.{All-push}
use Rattle.std.specs.List.{All}
use Rattle.std.specs.Prelude.{Some}
use Rattle.fjall_journal.specs.Ops.{BatchItem}
use Rattle.fjall_files.specs.Places.{HasPlace}
use Rattle.fjall_files.proofs.active_watermarks.ActiveWatermarks.make_places.Goals as goal
use Rattle.fjall_files.proofs.active_watermarks.ActiveWatermarks.make_places.Goals.{then-ne+in_ok-make_place, else-ne}

pub loop-item-preserved : goal.loop-item-preserved
loop-item-preserved c =
    let loop = c.loop-item.invariant in
    let items = c.args.items.now in
    let front : List BatchItem = take c.loop-item.item-index items in
    let item = c.item-item.result in
    let next = take_more items c.loop-item.item-index item c.loop-item-test.true ∙ ap (λ (i : BatchItem). front ++ i ∷ []) (sym c.item-item.is) in
    elim c.if-ne.branch [
      | then-ne+in_ok-make_place w ↦
          let new = w.make_place.new.self in
          let here = w.in_ok-make_place.ensures.place in
          rw w.self-is (rw w.made-is (
            w.make_place.ensures.told ∙ loop.0,
            subst (All (λ (i : BatchItem). HasPlace new i.0)) (sym next) (All-push (λ (i : BatchItem). HasPlace new i.0) front item (λ k d lt. w.make_place.ensures.kept _ (loop.1 k d lt)) here),
            here,
          ))
      | else-ne w ↦
          let is : c.loop-item.made ≡ Some item.0 = search rules in
          let here : HasPlace c.loop-item.self item.0 = rw is at loop.2 in
          rw w.self-is (rw w.made-is (
            loop.0,
            subst (All (λ (i : BatchItem). HasPlace c.loop-item.self i.0)) (sym next) (All-push (λ (i : BatchItem). HasPlace c.loop-item.self i.0) front item loop.1 here),
            loop.2,
          ))
    ]

pub returns-clause-places : goal.returns-clause-places
returns-clause-places c =
    subst (All (λ (i : BatchItem). HasPlace c.loop-item.self i.0)) (take_all c.loop-item.item-index c.args.items.now (omega (arith, c.loop-item-test.false))) c.loop-item.invariant.1
