-- What was made of the flush that is out.
use Rattle.fjall_jobs.specs.declared.flush_made.FlushMade.{FlushMade}
use Rattle.fjall_jobs.specs.Made.{flushed_task}
use Rattle.fjall_tree.specs.Jobs.{IsFlushing}
use Rattle.fjall_trees.specs.Tables.{shape_in}
use Rattle.fjall_machine.specs.Finishing.{keyspace_of}
use Rattle.fjall_machine.specs.Remembered.{Remembered}

-- The flush that is out of its keyspace was begun with the task that it was made of.
abbrev pub IsOfFlush : Remembered → FlushMade → Type 0
IsOfFlush m made = IsFlushing (shape_in (keyspace_of made) m.trees) (flushed_task made)
