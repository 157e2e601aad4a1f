use Rattle.std.proofs.Common.{arith, sym, ap, ◌∙◌}
use Rattle.fjall_history.specs.Seats.{Place, beside}
use Rattle.fjall_history.proofs.Rules.{looks_as, seen_joins_as}
use Rattle.fjall_history.proofs.word.Word.meet.Goals as goal

pub join_seat-requires : goal.join_seat-requires
join_seat-requires c =
    let v = c.seen.inside.seat.me.0 in
    let w = c.before-2.inside.seat.me.0 in (
      ap (λ (p : Place). p.table) (c.seen.view_is ∙ c.another_seat-spare.ensures.same) ∙ c.requires.seen ∙ sym c.self.view_is,
      ap (λ (p : Place). p.table) (c.before-2.view_is ∙ c.replace-before.ensures.value) ∙ c.requires.other ∙ sym c.self.view_is,
      (λ i. (c.before-2.invariant i).1),
      omega (arith, c.self.invariant),
      seen_joins_as _ _ v v.list _ w w.list (λ i. (c.seen.invariant i).0) (λ i. (c.before-2.invariant i).0),
    )

pub load-number-requires : goal.load-number-requires
load-number-requires c =
    let h = c.seen.inside.seat.me.0.list in
    let w = c.before-2.inside.seat.me.0 in
    let e = c.join_seat.ensures in (
      e.0 ∙ ap (λ (p : Place). p.table) (c.seen.view_is ∙ c.another_seat-spare.ensures.same) ∙ c.requires.seen ∙ sym c.self.view_is,
      omega (arith, c.self.invariant),
      looks_as _ _ _ c.join_seat.new.seat.me h w.list (e.2 ∙ (λ i. (beside (c.seen.invariant i).0 w, (c.seen.invariant i).1))),
    )
