-- What an engine holds in memory, by the fields that hold it.
use Rattle.std.specs.FinMap.{from_entries}
use Rattle.fjall_trees.specs.Views.{forest_of}
use Rattle.fjall_state.specs.declared.engine_state.EngineState.TheInside.{Inside}
use Rattle.fjall_machine.specs.Remembered.{Remembered, journals_of}

abbrev pub memory_in : Inside → Remembered
memory_in a = record {
  keyspaces = a.keyspaces;
  trees = forest_of a.trees;
  next = a.tickets.visible;
  poisoned = a.poisoned;
  handles = from_entries a.handles.entries;
  lasting = a.lasting.items;
  tickets = a.tickets.tickets;
  journals = journals_of a.sealed a.active a.watermarks;
  records = a.records;
  next_job = a.next_job;
  merges_done = a.merges_done;
}
