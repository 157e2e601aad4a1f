use Rattle.std.proofs.Common.{◌∙◌, IfOk, IsPermutation, List, ap, map, subst, sym}
use Rattle.fjall_base.specs.Pairs.{Bytes}
use Rattle.fjall_machine.specs.Remembered.{IsLawful, Remembered}
use Rattle.fjall_machine.proofs.Facts.{names_are}
use Rattle.fjall_state.proofs.engine_state.EngineState.list_keyspace_names.Goals as goal

pub returns-clause-named : goal.returns-clause-named
returns-clause-named c =
    let now = c.args.self.now in
    let is = subst IsLawful c.self.view_is c.self.invariant in
    let same = ap (λ (m : Remembered). map (λ k. k.name) m.keyspaces.living) c.self.view_is ∙ sym (names_are now.keyspaces is.keyspaces now.trees) in
    subst (λ (l : List Bytes). IfOk c.list_keyspace_names.result (λ names. IsPermutation l names.items)) same c.list_keyspace_names.ensures.names
