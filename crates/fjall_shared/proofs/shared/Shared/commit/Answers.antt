use Rattle.std.proofs.Common.{◌∙◌, sym, ap, subst, ℕ, Option, unwrap_or}
use Rattle.std.specs.FinMap.{get}
use Rattle.fjall_tx.specs.Owns.{items_of}
use Rattle.fjall_history.specs.declared.ticket.Ticket.{Ticket}
use Rattle.fjall_core.specs.Holding.{Held}
use Rattle.fjall_core.specs.CoreStanding.{StandsFor}
use Rattle.fjall_core.specs.Transactions.{Tx}
use Rattle.fjall_shared.specs.Locked.{Locked}
use Rattle.fjall_shared.specs.Does.{entry_of}
use Rattle.fjall_shared.proofs.Settled.{grown_so, more_as}
use Rattle.fjall_shared.proofs.Committing.{commit_done, commit_settles, ends_next, same_or_next}
use Rattle.fjall_shared.proofs.shared.Shared.commit.Goals as goal

pub tell-requires-clause-more : goal.tell-requires-clause-more
tell-requires-clause-more g c =
    let tx = c.args.transaction in
    let left = c.commit-outcome.new.self.engine in
    more_as c.self.inside.core.engine.memory.next left.memory.next c.visible_seqno-before.result c.visible_seqno-after.result
    (c.visible_seqno-before.ensures.held ∙ ap (λ (h : Held). h.memory.next) c.deref-2.ensures) (c.visible_seqno-after.ensures.held ∙ ap (λ (h : Held). h.memory.next) c.deref-3.ensures)
    (same_or_next (items_of tx.own) c.commit-outcome.result c.self.inside.core.engine.memory.next left.memory.next
    (ends_next c.self.inside.core.transactions c.self.inside.core.engine tx c.commit-outcome.result c.commit-outcome.new.self.transactions left c.commit-outcome.ensures.owes))

pub invariant_of-self : goal.invariant_of-self
invariant_of-self g c =
    let old : Locked = record { core = c.self.inside.core.engine; kept = c.self.inside.core.transactions; seat = c.self.inside.seat; flushes = c.self.inside.flushes.items; merges = c.self.inside.merges.items } in
    let tx = c.args.transaction in
    let new = c.commit-outcome.new.self in
    let instant = c.unwrap_or-instant.result in
    let told = grown_so _ (entry_of tx instant) old.core.memory.next new.engine.memory.next c.visible_seqno-before.result c.visible_seqno-after.result old.seat.list c.tell.new.seat.list
    (ap (λ (v : ℕ × Tx). entry_of v.1 v.0) c.of-said.ensures)
    (c.visible_seqno-before.ensures.held ∙ ap (λ (h : Held). h.memory.next) c.deref-2.ensures) (c.visible_seqno-after.ensures.held ∙ ap (λ (h : Held). h.memory.next) c.deref-3.ensures) c.tell.ensures.told in (
      c.tell.ensures.table ∙ c.self.invariant.0,
      commit_settles g.D.Disk.honest old new.engine new.transactions c.tell.new.seat tx c.commit-outcome.result instant c.self.invariant.1
          (λ s st i is. sym (c.unwrap_or-instant.ensures ∙ ap (λ (o : Option ℕ). unwrap_or o 0) (c.instant_of.ensures.instant s (subst (λ (h : Held). StandsFor h s) (sym c.deref.ensures) st) ∙ ap (λ (t : Ticket). get s.tickets.instants t.id) c.ticket-ticket.ensures ∙ is)))
          told c.commit-outcome.ensures.owes c.commit-outcome.ensures.steps,
    )

pub returns : goal.returns
returns g c =
    let old : Locked = record { core = c.self.inside.core.engine; kept = c.self.inside.core.transactions; seat = c.self.inside.seat; flushes = c.self.inside.flushes.items; merges = c.self.inside.merges.items } in
    let tx = c.args.transaction in
    let new = c.commit-outcome.new.self in
    let instant = c.unwrap_or-instant.result in
    let told = grown_so _ (entry_of tx instant) old.core.memory.next new.engine.memory.next c.visible_seqno-before.result c.visible_seqno-after.result old.seat.list c.tell.new.seat.list
    (ap (λ (v : ℕ × Tx). entry_of v.1 v.0) c.of-said.ensures)
    (c.visible_seqno-before.ensures.held ∙ ap (λ (h : Held). h.memory.next) c.deref-2.ensures) (c.visible_seqno-after.ensures.held ∙ ap (λ (h : Held). h.memory.next) c.deref-3.ensures) c.tell.ensures.told in
    commit_done g.D.Disk.honest old new.engine new.transactions c.tell.new.seat tx c.commit-outcome.result instant c.self.invariant.1
    (λ s st i is. sym (c.unwrap_or-instant.ensures ∙ ap (λ (o : Option ℕ). unwrap_or o 0) (c.instant_of.ensures.instant s (subst (λ (h : Held). StandsFor h s) (sym c.deref.ensures) st) ∙ ap (λ (t : Ticket). get s.tickets.instants t.id) c.ticket-ticket.ensures ∙ is)))
    told c.commit-outcome.ensures.owes c.commit-outcome.ensures.steps _ c.self.view_is c.tell.ensures.table
