use Rattle.std.proofs.Common.{◌≡◌, sym, ◌∙◌, refl, subst}
use Rattle.std.specs.Prelude.{IfOk, Option, Result}
use Rattle.fjall_base.specs.Pairs.{Bytes, lookup}
use Rattle.fjall_base.specs.Store.{map_at}
use Rattle.fjall_base.specs.declared.error.Error.{Error}
use Rattle.fjall_history.specs.Histories.{view}
use Rattle.fjall_history.specs.Seats.{Place}
use Rattle.fjall_seen.proofs.Seeing.{held_open, read_then, same_option}
use Rattle.fjall_seen.proofs.named.Named.read_as.Goals.{else-eq, then-eq}
use Rattle.fjall_seen.proofs.named.Named.read_as.Goals as goal

pub returns-clause-value : goal.returns-clause-value
returns-clause-value g c honest =
    elim c.if-eq.branch [
      | then-eq w ↦
          let own = same_option c.instant_of.result c.args.ticket.instant (sym c.eq.ensures ∙ w.if-eq.true) in
          let at = held_open c.self.inside.shared.core c.deref.result.now c.instant_of.result c.args.ticket c.args.ticket c.deref.ensures refl own c.instant_of.ensures.held in
          let shown : c.show.new.seen ≡ w.get_at-result.new.self.seat = c.show.ensures.shown ∙ (λ i. (w.self-inside-is i).shared.seat) in
          subst (λ (x : Result (Option Bytes) Error × Place). IfOk x.0 (λ found. found ≡ lookup (map_at (view x.1.list c.args.ticket.instant).maps c.args.id) c.args.key.now))
          (λ i. (sym w.result-is i, sym shown i))
          (read_then g.D.Disk.honest _ _ c.args.ticket c.args.id c.args.key.now w.get_at-result.result honest at w.get_at-result.ensures)
      | else-eq w ↦
          subst (λ (r : Result (Option Bytes) Error). IfOk r (λ found. found ≡ lookup (map_at (view c.show.new.seen.list c.args.ticket.instant).maps c.args.id) c.args.key.now))
          (sym w.result-is) tt
    ]
