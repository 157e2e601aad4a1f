use Rattle.std.proofs.Common.{refl}
use Rattle.fjall_machine.specs.Remembered.{flush_gone_in_memory}
use Rattle.fjall_state.proofs.Inside.{memory_in}
use Rattle.fjall_machine.proofs.Flushing.{gone_is_lawful}
use Rattle.fjall_machine.proofs.Lawful.{alike}
use Rattle.fjall_state.proofs.engine_state.EngineState.drop_flush.Goals as goal

pub invariant_of-self : goal.invariant_of-self
invariant_of-self c =
    let a = c.self.inside in
    let id = c.args.id in
    let m = memory_in a in
    alike (flush_gone_in_memory id m) _ (gone_is_lawful id m c.self.invariant) refl c.drop_flush.ensures refl refl refl refl
