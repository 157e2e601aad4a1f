use Rattle.std.proofs.Common.{◌+◌, ◌∙◌, ap, subst}
use Rattle.fjall_meta.specs.Keyspaces.{without_keyspace}
use Rattle.fjall_history.specs.Tickets.{Tracked}
use Rattle.fjall_machine.specs.Remembered.{IsLawful, Remembered, with_deletion}
use Rattle.fjall_machine.proofs.Lawful.{alike, deletion_is_lawful}
use Rattle.fjall_state.proofs.engine_state.EngineState.delete.Goals as goal

pub invariant_of-self : goal.invariant_of-self
invariant_of-self c =
    let old = c.args.self.now in
    let is = subst IsLawful c.self.view_is c.self.invariant in
    alike (with_deletion c.args.id old) _ (deletion_is_lawful c.args.id old is c.requires.numbered)
    (c.remove_keyspace.ensures ∙ ap (λ (m : Remembered). without_keyspace c.args.id m.keyspaces) c.self.view_is)
    (ap (λ (m : Remembered). m.trees) c.self.view_is) (ap (λ (t : Tracked). t.visible) c.publish.ensures ∙ ap (λ (m : Remembered). m.next + 1) c.self.view_is)
    (ap (λ (t : Tracked). t.tickets) c.publish.ensures ∙ ap (λ (m : Remembered). m.tickets) c.self.view_is)
    (ap (λ (m : Remembered). m.records) c.self.view_is) (ap (λ (m : Remembered). m.next_job) c.self.view_is)
