use Rattle.fjall_state.proofs.Inside.{memory_in}
use Rattle.fjall_machine.proofs.Lawful.{collecting_is_lawful}
use Rattle.fjall_state.proofs.engine_state.EngineState.gc.Goals as goal

pub invariant_of-self : goal.invariant_of-self
invariant_of-self c =
    let a = c.self.inside in
    let m = memory_in a in
    collecting_is_lawful m c.self.invariant c.gc.new.self c.gc.ensures.raised
