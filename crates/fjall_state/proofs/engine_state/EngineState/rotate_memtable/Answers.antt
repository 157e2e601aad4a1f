use Rattle.std.proofs.Common.{Ok, ap, refl}
use Rattle.fjall_history.specs.Tickets.{Tracked}
use Rattle.fjall_machine.specs.Remembered.{rotated_in_memory}
use Rattle.fjall_state.proofs.Inside.{memory_in}
use Rattle.fjall_machine.proofs.Lawful.{alike, rotated_is_lawful}
use Rattle.fjall_state.proofs.engine_state.EngineState.rotate_memtable.Goals as goal

pub invariant_of-self-then-is_sealed : goal.invariant_of-self-then-is_sealed
invariant_of-self-then-is_sealed c =
    let a = c.self.inside in
    let id = c.args.id in
    let m = memory_in a in
    alike (rotated_in_memory id m) _ (rotated_is_lawful id m c.self.invariant) refl
    (c.in_ok-is_sealed.ensures.sealed (ap Ok c.if-is_sealed.true)) (ap (λ (t : Tracked). t.visible) c.gc.ensures.raised) (ap (λ (t : Tracked). t.tickets) c.gc.ensures.raised) refl refl
