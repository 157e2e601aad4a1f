use Rattle.fjall_state.proofs.Inside.{memory_in}
use Rattle.fjall_machine.proofs.Lawful.{closing_is_lawful}
use Rattle.fjall_state.proofs.engine_state.EngineState.close_ticket.Goals as goal

pub invariant_of-self : goal.invariant_of-self
invariant_of-self c =
    let a = c.self.inside in
    let m = memory_in a in
    closing_is_lawful m c.self.invariant c.close.new.self c.args.id c.close.result c.close.ensures.ok c.close.ensures.unchanged
