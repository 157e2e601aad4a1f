use Rattle.std.proofs.Common.{arith, sym, ap, ◌∙◌}
use Rattle.fjall_history.specs.Seats.{Place}
use Rattle.fjall_history.proofs.Rules.{core_splits_as}
use Rattle.fjall_history.proofs.word.Word.seat_for_caller.Goals as goal

pub split_seat-requires : goal.split_seat-requires
split_seat-requires c =
    let v = c.core.inside.seat.me.0 in (
      ap (λ (p : Place). p.table) c.core.view_is ∙ c.requires ∙ sym c.self.view_is,
      omega (arith, c.self.invariant),
      core_splits_as _ _ v v.list (λ i. (c.core.invariant i).0),
    )
