use Rattle.std.proofs.Common.{arith, sym, ap, ◌∙◌}
use Rattle.fjall_history.specs.Seats.{Place}
use Rattle.fjall_history.proofs.Rules.{seen_splits_as}
use Rattle.fjall_history.proofs.word.Word.another_seat.Goals as goal

pub split_seat-requires : goal.split_seat-requires
split_seat-requires c =
    let v = c.seen.inside.seat.me.0 in (
      ap (λ (p : Place). p.table) c.seen.view_is ∙ c.requires ∙ sym c.self.view_is,
      omega (arith, c.self.invariant),
      seen_splits_as _ _ v v.list (λ i. (c.seen.invariant i).0),
    )
