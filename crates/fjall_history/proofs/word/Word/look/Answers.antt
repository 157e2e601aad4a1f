use Rattle.std.proofs.Common.{arith, sym, ap, ◌∙◌}
use Rattle.fjall_history.specs.Seats.{Place}
use Rattle.fjall_history.proofs.Rules.{looks_as}
use Rattle.fjall_history.proofs.word.Word.look.Goals as goal

pub load-requires : goal.load-requires
load-requires c =
    let h = c.seen.inside.seat.me.0.list in (
      ap (λ (p : Place). p.table) c.seen.view_is ∙ c.requires ∙ sym c.self.view_is,
      omega (arith, c.self.invariant),
      looks_as _ _ _ c.seen.inside.seat.me h h c.seen.invariant,
    )
