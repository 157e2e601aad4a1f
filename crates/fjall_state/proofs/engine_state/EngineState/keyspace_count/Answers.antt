use Rattle.std.proofs.Common.{◌∙◌, length, ap, sym, subst}
use Rattle.fjall_machine.specs.Remembered.{IsLawful, Remembered}
use Rattle.fjall_machine.proofs.Facts.{counted_is}
use Rattle.fjall_state.proofs.engine_state.EngineState.keyspace_count.Goals as goal

pub returns-clause-named : goal.returns-clause-named
returns-clause-named c =
    let is = subst IsLawful c.self.view_is c.self.invariant in
    c.keyspace_count.ensures ∙ ap (λ (m : Remembered). length m.keyspaces.living) c.self.view_is ∙ sym (counted_is c.args.self.now.keyspaces is.keyspaces c.args.self.now.trees)
