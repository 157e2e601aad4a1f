use Rattle.std.proofs.Common.{◌≡◌, sym, ◌∙◌, subst}
use Rattle.std.specs.Prelude.{IfOk, Option, Result}
use Rattle.fjall_base.specs.Pairs.{Bytes, lookup}
use Rattle.fjall_base.specs.Store.{map_at}
use Rattle.fjall_base.specs.declared.error.Error.{Error}
use Rattle.fjall_tx.specs.Owns.{own_written}
use Rattle.fjall_history.specs.Histories.{view}
use Rattle.fjall_history.specs.Seats.{Place}
use Rattle.fjall_seen.proofs.Seeing.{held_open, same_option, within_then}
use Rattle.fjall_seen.proofs.named.Named.get_within_as.Goals.{else-eq, then-eq}
use Rattle.fjall_seen.proofs.named.Named.get_within_as.Goals as goal

pub returns-clause-value : goal.returns-clause-value
returns-clause-value g c honest =
    let tx = c.args.transaction.now in
    elim c.if-eq.branch [
      | then-eq w ↦
          let own = same_option c.instant_of.result c.ticket-ticket.result.instant (sym c.eq.ensures ∙ w.if-eq.true) in
          let at = held_open c.self.inside.shared.core c.deref.result.now c.instant_of.result c.ticket-ticket.result tx.ticket c.deref.ensures c.ticket-ticket.ensures own c.instant_of.ensures.held in
          let shown : c.show.new.seen ≡ w.get_within-result.new.self.seat = c.show.ensures.shown ∙ (λ i. (w.self-inside-is i).shared.seat) in
          subst (λ (x : Result (Option Bytes) Error × Place). IfOk x.0 (λ found. found ≡ lookup (map_at (own_written (view x.1.list tx.ticket.instant).maps tx.own) c.args.id) c.args.key.now))
          (λ i. (sym w.result-is i, sym shown i))
          (within_then g.D.Disk.honest _ _ tx c.args.id c.args.key.now w.get_within-result.result at w.get_within-result.ensures.reads (w.get_within-result.ensures.value honest))
      | else-eq w ↦
          subst (λ (r : Result (Option Bytes) Error). IfOk r (λ found. found ≡ lookup (map_at (own_written (view c.show.new.seen.list tx.ticket.instant).maps tx.own) c.args.id) c.args.key.now))
          (sym w.result-is) tt
    ]
