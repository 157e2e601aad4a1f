use Rattle.std.proofs.Common.{◌≡◌, ◌∙◌, ap, sym, rules}
use Rattle.std.specs.Option.{is_some}
use Rattle.fjall_meta.specs.Keyspaces.{keyspace_at}
use Rattle.fjall_machine.proofs.Facts.{living_names}
use Rattle.fjall_machine.specs.Remembered.{Remembered}
use Rattle.fjall_state.proofs.engine_state.EngineState.is_living.Goals as goal

pub returns : goal.returns
returns c =
    let found : c.is_some.result ≡ is_some (keyspace_at c.args.id c.self.inside.keyspaces.living) = search rules in
    found ∙ ap (λ (m : Remembered). is_some (keyspace_at c.args.id m.keyspaces.living)) c.self.view_is ∙ sym (living_names c.args.self.now.keyspaces c.args.self.now.trees c.args.id)
