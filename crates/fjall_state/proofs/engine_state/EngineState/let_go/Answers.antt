use Rattle.std.proofs.Common.{◌≡◌, ◌∙◌, ap, subst, rules}
use Rattle.std.proofs.lemmas.Fn.{filter_same}
use Rattle.std.specs.FinMap.{remove}
use Rattle.fjall_trees.specs.Forests as forests
use Rattle.fjall_machine.specs.Machine.{without_id}
use Rattle.fjall_machine.specs.Remembered.{IsLawful, Remembered, journals_of, let_go}
use Rattle.fjall_machine.proofs.Counting.{map_of}
use Rattle.fjall_machine.proofs.Lawful.{alike, let_go_is_lawful}
use Rattle.fjall_state.proofs.engine_state.EngineState.let_go.Goals as goal

pub invariant_of-self : goal.invariant_of-self
invariant_of-self c =
    let id = c.args.id in
    let is = subst IsLawful c.self.view_is c.self.invariant in
    alike (let_go id c.args.self.now) _ (let_go_is_lawful id c.args.self.now is c.requires) (ap (λ (m : Remembered). m.keyspaces) c.self.view_is)
    (c.let_go.ensures ∙ ap (λ (m : Remembered). forests.without id m.trees) c.self.view_is) (ap (λ (m : Remembered). m.next) c.self.view_is) (ap (λ (m : Remembered). m.tickets) c.self.view_is)
    (c.remove.ensures ∙ ap (λ (m : Remembered). remove m.records id) c.self.view_is) (ap (λ (m : Remembered). m.next_job) c.self.view_is)

pub returns : goal.returns
returns c =
    let ids : c.retain.new.self.items ≡ without_id c.self.inside.lasting.items c.args.id = filter_same _ _ _ (λ x b f' k. search rules) _ _ c.retain.ensures.filtered in
    (λ i.
    record {
      keyspaces = c.self.inside.keyspaces;
      trees = c.let_go.ensures i;
      next = c.self.inside.tickets.visible;
      poisoned = c.self.inside.poisoned;
      handles = map_of c.self.inside.handles;
      lasting = ids i;
      tickets = c.self.inside.tickets.tickets;
      journals = journals_of c.self.inside.sealed c.self.inside.active c.self.inside.watermarks;
      records = c.remove.ensures i;
      next_job = c.self.inside.next_job;
      merges_done = c.self.inside.merges_done;
    })
    ∙ ap (let_go c.args.id) c.self.view_is
