use Rattle.std.proofs.Common.{◌≡◌, ◌+◌, ◌∙◌, ap, sym}
use Rattle.std.specs.FinMap.{insert}
use Rattle.fjall_trees.specs.Views.{forest_of}
use Rattle.fjall_machine.specs.Machine.{handles_of, one_more}
use Rattle.fjall_machine.specs.Remembered.{Remembered, journals_of, retained}
use Rattle.fjall_machine.proofs.Counting.{inserted, map_of}
use Rattle.fjall_state.proofs.engine_state.EngineState.retain.Goals as goal

pub returns-clause-ok : goal.returns-clause-ok
returns-clause-ok c =
    let id = c.args.id in
    let handles = map_of c.self.inside.handles in
    let counts : c.in-Some-checked_add.count ≡ handles_of handles id + 1 =
    c.in-Some-checked_add.ensures.1 ∙ ap (λ n. n + 1) (c.handle_count.ensures ∙ ap (λ (m : Remembered). handles_of m.handles id) (sym c.self.view_is)) in
    let more : map_of c.insert.new.self ≡ one_more handles id =
    inserted c.self.inside.handles c.insert.new.self id c.in-Some-checked_add.count c.in_ok-insert.ensures.updates.0 ∙ ap (insert handles id) counts in
    (λ i.
    record {
      keyspaces = c.self.inside.keyspaces;
      trees = forest_of c.self.inside.trees;
      next = c.self.inside.tickets.visible;
      poisoned = c.self.inside.poisoned;
      handles = more i;
      lasting = c.self.inside.lasting.items;
      tickets = c.self.inside.tickets.tickets;
      journals = journals_of c.self.inside.sealed c.self.inside.active c.self.inside.watermarks;
      records = c.self.inside.records;
      next_job = c.self.inside.next_job;
      merges_done = c.self.inside.merges_done;
    })
    ∙ ap (retained id) c.self.view_is
