use Rattle.std.proofs.Common.{◌∙◌, ap, sym, subst}
use Rattle.std.specs.Option.{is_some}
use Rattle.fjall_meta.specs.Keyspaces.{id_of}
use Rattle.fjall_machine.specs.Remembered.{IsLawful, Remembered}
use Rattle.fjall_machine.proofs.Facts.{named_is}
use Rattle.fjall_state.proofs.engine_state.EngineState.resolve.Goals as goal

pub returns-clause-named : goal.returns-clause-named
returns-clause-named c =
    let is = subst IsLawful c.self.view_is c.self.invariant in
    ap is_some (c.resolve_id.ensures ∙ ap (λ (m : Remembered). id_of c.args.name.now m.keyspaces.living) c.self.view_is)
    ∙ sym (named_is c.args.self.now.keyspaces is.keyspaces c.args.self.now.trees c.args.name.now)
