use Rattle.std.proofs.Common.{◌∙◌, ap}
use Rattle.fjall_trees.specs.Views.{forest_of}
use Rattle.fjall_machine.specs.Machine.{one_less}
use Rattle.fjall_machine.specs.Remembered.{Remembered, journals_of}
use Rattle.fjall_state.proofs.engine_state.EngineState.count_less.Goals as goal

pub returns : goal.returns
returns c =
    (λ i.
    record {
      keyspaces = c.self.inside.keyspaces;
      trees = forest_of c.self.inside.trees;
      next = c.self.inside.tickets.visible;
      poisoned = c.self.inside.poisoned;
      handles = c.count_less.ensures i;
      lasting = c.self.inside.lasting.items;
      tickets = c.self.inside.tickets.tickets;
      journals = journals_of c.self.inside.sealed c.self.inside.active c.self.inside.watermarks;
      records = c.self.inside.records;
      next_job = c.self.inside.next_job;
      merges_done = c.self.inside.merges_done;
    })
    ∙ ap (λ (m : Remembered). record m { handles = one_less m.handles c.args.id }) c.self.view_is
