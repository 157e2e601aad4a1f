use Rattle.std.proofs.Common.{ℕ, arith, sym, ap, ◌∙◌, []}
use Rattle.fjall_history.specs.Seats.{newcomer}
use Rattle.fjall_history.proofs.Rules.{settles_as}
use Rattle.fjall_history.proofs.word.Word.open.Goals as goal

pub load-requires : goal.load-requires
load-requires g c =
    let e = c.in_ok-table.ensures in (
      e.2,
      omega (arith, e.0),
      settles_as c.in_ok-table.table.shared.key _ _ c.in_ok-table.seat.me g.B.Origin.fits c.requires.0 (e.4 ∙ ap (λ (k : ℕ). (newcomer k, [])) (sym e.5)) c.requires.1 (c.requires.2 ∙ sym e.5),
    )
