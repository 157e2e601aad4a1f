use Rattle.std.proofs.Common.{◌≡◌, ◌+◌, ◌∙◌, Option, Some, ap, arith, false, subst, sym}
use Rattle.std.specs.FinMap.{get, insert}
use Rattle.fjall_base.specs.declared.error.Error.{Error}
use Rattle.fjall_history.specs.Tickets.{AreTracked, IsDueOrMemory, Tracked, ids_used_up, opened, tracked}
use Rattle.fjall_history.proofs.Maps.{inserted, map_of, undone}
use Rattle.fjall_history.proofs.Tracking.{cloning_due, has_room, is_there, next_is_free, only_memory, opening_due, tracked_given}
use Rattle.fjall_history.proofs.tickets.Tickets.clone_ticket.Goals as goal

back : (c : goal.After-remove) → map_of c.remove.new.self ≡ map_of c.self.inside.instants
back c =
    undone c.self.inside.instants c.insert.new.self c.remove.new.self c.self.inside.next c.in-Some.instant
    (next_is_free c.self.inside.tracker (map_of c.self.inside.instants) c.self.inside.next c.self.invariant) c.in_ok-insert.ensures.updates.0 c.remove.ensures.updates.0

pub invariant_of-self-in-Err : goal.invariant_of-self-in-Err
invariant_of-self-in-Err c =
    subst (λ m. AreTracked c.clone_snapshot.new.self m c.self.inside.next) (sym (back c))
    (subst (λ t. AreTracked t (map_of c.self.inside.instants) c.self.inside.next) (sym c.in-Err.ensures.unchanged) c.self.invariant)

pub returns-in-Err-clause-unchanged : goal.returns-in-Err-clause-unchanged
returns-in-Err-clause-unchanged c = (λ i. tracked (c.in-Err.ensures.unchanged i) (back c i) c.self.inside.next) ∙ c.self.view_is

pub returns-in-Err-clause-cause : goal.returns-in-Err-clause-cause
returns-in-Err-clause-cause c =
    let now = c.args.self.now in
    let there : get now.tickets.instants c.args.id ≡ Some c.in-Some.instant = sym c.instant_of.ensures ∙ c.in-Some.is in
    let inside : get (map_of c.self.inside.instants) c.args.id ≡ Some c.in-Some.instant = ap (λ (t : Tracked). get t.tickets.instants c.args.id) c.self.view_is ∙ there in
    let here = is_there c.self.inside.tracker (map_of c.self.inside.instants) c.self.inside.next c.args.id c.in-Some.instant c.self.invariant inside in
    let left = opening_due now.tickets false (sym c.are_ids_used_up.ensures ∙ c.if-are_ids_used_up.false) in
    let room = has_room c.self.inside.tracker (map_of c.self.inside.instants) c.self.inside.next c.self.invariant (omega arith)
    (ap (λ (t : Tracked). ids_used_up t.tickets) c.self.view_is ∙ sym c.are_ids_used_up.ensures ∙ c.if-are_ids_used_up.false) in
    subst (λ (o : Option Error). IsDueOrMemory o c.in-Err.error) (sym (cloning_due c.args.id c.in-Some.instant now.tickets there ∙ left))
    (only_memory c.in-Some.instant c.self.inside.tracker.instants c.in-Err.error here room c.in-Err.ensures.cause)

pub invariant_of-self-2 : goal.invariant_of-self-2
invariant_of-self-2 c =
    let tracker = c.self.inside.tracker in
    subst (λ m. AreTracked c.clone_snapshot.new.self m (c.self.inside.next + 1)) (sym (inserted c.self.inside.instants c.insert.new.self c.self.inside.next c.in-Some.instant c.in_ok-insert.ensures.updates.0))
    (subst (λ t. AreTracked t (insert (map_of c.self.inside.instants) c.self.inside.next c.in-Some.instant) (c.self.inside.next + 1)) (sym c.in_default-clone_snapshot.ensures.opened)
    (tracked_given c.in-Some.instant tracker (map_of c.self.inside.instants) c.self.inside.next c.self.invariant (rw c.in_default-clone_snapshot.ensures.opened at c.in_default-clone_snapshot.ensures.sound)))

pub returns-clause-ok : goal.returns-clause-ok
returns-clause-ok c = (
  ap (λ (t : Tracked). t.tickets.next) c.self.view_is,
  sym c.instant_of.ensures ∙ c.in-Some.is,
  (λ i. tracked (c.in_default-clone_snapshot.ensures.opened i) (inserted c.self.inside.instants c.insert.new.self c.self.inside.next c.in-Some.instant c.in_ok-insert.ensures.updates.0 i) (c.self.inside.next + 1))
      ∙ ap (λ (t : Tracked). record t { tickets = opened c.in-Some.instant t.tickets }) c.self.view_is,
)
