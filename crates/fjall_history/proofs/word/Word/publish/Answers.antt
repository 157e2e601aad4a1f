use Rattle.std.proofs.Common.{◌+◌, arith, sym, ap, ◌∙◌}
use Rattle.fjall_history.specs.Histories.{number}
use Rattle.fjall_history.specs.Seats.{Place}
use Rattle.fjall_history.proofs.Rules.{publishes_as}
use Rattle.fjall_history.proofs.word.Word.publish.Goals as goal

pub fetch_max-requires : goal.fetch_max-requires
fetch_max-requires g c =
    let h = c.core.inside.seat.me.0.list in (
      ap (λ (p : Place). p.table) c.core.view_is ∙ c.requires.table ∙ sym c.self.view_is,
      omega (arith, c.self.invariant),
      publishes_as _ _ _ c.core.inside.seat.me c.args.next h g.B.Saying.said c.core.invariant (c.requires.next ∙ sym (ap (λ (p : Place). number p.list + 1) c.core.view_is)),
    )
