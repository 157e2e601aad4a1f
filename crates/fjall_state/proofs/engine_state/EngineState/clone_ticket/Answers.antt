use Rattle.fjall_state.proofs.Inside.{memory_in}
use Rattle.fjall_machine.proofs.Lawful.{cloning_is_lawful}
use Rattle.fjall_state.proofs.engine_state.EngineState.clone_ticket.Goals as goal

pub invariant_of-self : goal.invariant_of-self
invariant_of-self c =
    let a = c.self.inside in
    let m = memory_in a in
    cloning_is_lawful m c.self.invariant c.clone_ticket.new.self c.args.id c.clone_ticket.result c.clone_ticket.ensures.ok c.clone_ticket.ensures.unchanged
