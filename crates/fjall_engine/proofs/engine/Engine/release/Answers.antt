use Rattle.std.proofs.Common.{arith, ◌≡◌, ◌⊎◌, inl, inr, true, false, IsTrue, refl, sym, ◌∙◌, ap, subst}
use Rattle.fjall_machine.specs.Shapes.{OfHandle, OneLess}
use Rattle.fjall_history.specs.declared.reply.Reply.TheVariants.{Done}
use Rattle.fjall_engine.specs.Holding.{Held}
use Rattle.fjall_engine.specs.Standing.{Serves, held_due}
use Rattle.fjall_engine.proofs.ServedCalls.{due_serves}
use Rattle.fjall_machine.specs.Remembered.{is_last_in_memory, released_in_memory}
use Rattle.fjall_engine.proofs.Releases.{counted_serves, left_by, then_serves, unremoved_owes, unremoved_serves}
use Rattle.fjall_engine.proofs.engine.Engine.release.Goals as goal
use Rattle.fjall_engine.proofs.engine.Engine.release.Goals.{then-not-is_last-via-then-not-is_last, then-not-is_last-via-else-not-is_last+then-is_poisoned}

pub returns-in-Some-clause-serves : goal.returns-in-Some-clause-serves
returns-in-Some-clause-serves g c = λ h.
    due_serves c.args.self.now (OfHandle OneLess c.args.id) c.in-Some.error (ap (λ (core : Held). held_due core (OfHandle OneLess c.args.id)) (sym c.self.view_is) ∙ sym c.release_refusal.ensures ∙ c.in-Some.is)

pub returns-then-not-is_last-clause-serves : goal.returns-then-not-is_last-clause-serves
returns-then-not-is_last-clause-serves g c = λ h.
    let m = g.D.Disk.meaning in
    let old : Held = record { disk = m c.self.inside.disk; journal = c.self.inside.journal; catalog = c.self.inside.catalog; memory = c.self.inside.memory } in
    let new : Held = record { disk = m c.self.inside.disk; journal = c.self.inside.journal; catalog = c.self.inside.catalog; memory = c.release.new.self } in
    let why : (is_last_in_memory old.memory c.args.id ≡ false) ⊎ (old.memory.poisoned ≡ true) = elim c.then-not-is_last.branch [
      | then-not-is_last-via-then-not-is_last w ↦ inl (sym c.is_last.ensures ∙ w.if-not-is_last.true)
      | then-not-is_last-via-else-not-is_last+then-is_poisoned w ↦ inr (sym w.is_poisoned.ensures ∙ w.if-is_poisoned.true)
    ] in
    subst (λ (core : Held). Serves core (OfHandle OneLess c.args.id) Done new) c.self.view_is
    (counted_serves old new c.args.id (sym c.release_refusal.ensures ∙ c.in_default.is) why (record { memory_is = c.release.ensures; catalog = refl; journal = refl; faults = omega arith }) refl)

pub returns-in-Err : goal.returns-in-Err
returns-in-Err g c =
    let old = c.args.self.now in
    let mid = c.remove_files.new.self in
    let new = c.give_up.new.self in
    let none = ap (λ (core : Held). held_due core (OfHandle OneLess c.args.id)) (sym c.self.view_is) ∙ sym c.release_refusal.ensures ∙ c.in_default.is in
    let last = ap (λ (core : Held). is_last_in_memory core.memory c.args.id) (sym c.self.view_is) ∙ sym c.is_last.ensures ∙ c.if-not-is_last.false in
    let well = ap (λ (core : Held). core.memory.poisoned) (sym c.self.view_is) ∙ sym c.is_poisoned.ensures ∙ c.if-is_poisoned.false in
    let left = left_by old mid new c.args.id c.in-Err.error c.give_up.ensures in
    record {
      serves = unremoved_serves (IsTrue g.D.Disk.honest) old mid new c.args.id c.in-Err.error none last well c.in-Err.ensures.removed left;
      owes = unremoved_owes (IsTrue g.D.Disk.honest) old mid new c.args.id c.in-Err.error none c.in-Err.ensures.removed left;
    }

pub returns-clause-serves : goal.returns-clause-serves
returns-clause-serves g c = λ h.
    let old = c.args.self.now in
    let none = ap (λ (core : Held). held_due core (OfHandle OneLess c.args.id)) (sym c.self.view_is) ∙ sym c.release_refusal.ensures ∙ c.in_default.is in
    let last = ap (λ (core : Held). is_last_in_memory core.memory c.args.id) (sym c.self.view_is) ∙ sym c.is_last.ensures ∙ c.if-not-is_last.false in
    let well = ap (λ (core : Held). core.memory.poisoned) (sym c.self.view_is) ∙ sym c.is_poisoned.ensures ∙ c.if-is_poisoned.false in
    let m = g.D.Disk.meaning in
    let view : Held = record { disk = m c.self-2.inside.disk; journal = c.self-2.inside.journal; catalog = c.self-2.inside.catalog; memory = c.self-2.inside.memory } in
    let new : Held = record { disk = m c.self-2.inside.disk; journal = c.self-2.inside.journal; catalog = c.self-2.inside.catalog; memory = c.release-2.new.self } in
    let is : new ≡ record c.remove_files.new.self { memory = released_in_memory c.args.id c.remove_files.new.self.memory } =
    (λ i. record { disk = view.disk; journal = view.journal; catalog = view.catalog; memory = c.release-2.ensures i }) ∙ ap (λ (core : Held). record core { memory = released_in_memory c.args.id core.memory }) c.self-2.view_is in
    then_serves (IsTrue g.D.Disk.honest) old c.remove_files.new.self new c.args.id none last well c.in_default-remove_files.ensures.removed is h
