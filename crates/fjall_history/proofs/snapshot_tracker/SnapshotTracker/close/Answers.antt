use Rattle.std.proofs.Common.{◌≡◌, ℕ, ◌+◌, List, ap, sym, ◌∙◌, arith, false}
use Rattle.fjall_history.specs.Trackers.{Tracker, is_open}
use Rattle.fjall_history.proofs.TrackerOpenings.{without-none}
use Rattle.fjall_history.proofs.TrackerSound.{sound-closed, closing-none}
use Rattle.fjall_history.proofs.snapshot_tracker.SnapshotTracker.close.Goals as goal

unchanged : (c : goal.Then-not-remove) → c.remove.new.self ≡ c.self.inside.instants
unchanged c =
    c.remove.ensures.removed
    ∙ without-none c.args.instant c.self.inside.instants (sym c.remove.ensures.was_open ∙ c.if-not-remove.true)

pub invariant_of-self : goal.invariant_of-self
invariant_of-self c = rw (unchanged c) c.self.invariant

pub returns-then-not-remove-clause-closed : goal.returns-then-not-remove-clause-closed
returns-then-not-remove-clause-closed c =
    let with_instants : List ℕ → Tracker = λ xs. record { instants = xs; visible = c.self.inside.visible; watermark = c.self.inside.watermark; closings = c.self.inside.closings } in
    let none : is_open c.args.instant c.args.self.now.instants ≡ false =
    ap (λ (t : Tracker). is_open c.args.instant t.instants) (sym c.self.view_is) ∙ sym c.remove.ensures.was_open ∙ c.if-not-remove.true in
    ap with_instants (unchanged c) ∙ c.self.view_is ∙ sym (closing-none c.args.instant c.args.self.now none)

pub returns-then-not-remove-clause-sound : goal.returns-then-not-remove-clause-sound
returns-then-not-remove-clause-sound c = rw (unchanged c) c.self.invariant

pub invariant_of-self-then-self-eq-CLOSINGS_PER_GC : goal.invariant_of-self-then-self-eq-CLOSINGS_PER_GC
invariant_of-self-then-self-eq-CLOSINGS_PER_GC c =
    rw c.remove.ensures.removed (sound-closed c.args.instant 0 _ c.self.invariant (sym c.remove.ensures.was_open ∙ c.if-not-remove.false) (omega arith))

pub invariant_of-self-else-self-eq-CLOSINGS_PER_GC : goal.invariant_of-self-else-self-eq-CLOSINGS_PER_GC
invariant_of-self-else-self-eq-CLOSINGS_PER_GC c =
    rw c.remove.ensures.removed (sound-closed c.args.instant (c.self.inside.closings + 1) _ c.self.invariant (sym c.remove.ensures.was_open ∙ c.if-not-remove.false) (omega (arith, c.self.invariant.counted)))

pub returns-else-self-eq-CLOSINGS_PER_GC-clause-sound : goal.returns-else-self-eq-CLOSINGS_PER_GC-clause-sound
returns-else-self-eq-CLOSINGS_PER_GC-clause-sound c =
    rw c.remove.ensures.removed (sound-closed c.args.instant (c.self.inside.closings + 1) _ c.self.invariant (sym c.remove.ensures.was_open ∙ c.if-not-remove.false) (omega (arith, c.self.invariant.counted)))
