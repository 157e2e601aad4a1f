-- A merge that is out of a keyspace's tree, as it counts once it is finished.
use Rattle.std.specs.Prelude.{◌≡◌, ℕ, List, Some}
use Rattle.fjall_compaction.specs.FlushFinishing.{AreTreesKnown}
use Rattle.fjall_jobs.specs.declared.made_table.MadeTable.{MadeTable}
use Rattle.fjall_jobs.specs.Tasks.{Task}
use Rattle.fjall_replay.specs.Known.{LastFields}
use Rattle.fjall_tree.specs.Jobs.{IsMerging}
use Rattle.fjall_tree.specs.Trees.{Merging}
use Rattle.fjall_meta.specs.declared.living.LivingKeyspace.{LivingKeyspace}
use Rattle.fjall_meta.specs.Keyspaces.{keyspace_at}
use Rattle.fjall_recovery.specs.Halves.{Tree}
use Rattle.fjall_recovery.specs.Homes.{HaveVersions}
use Rattle.fjall_recovery.specs.Places.{Journaling}
use Rattle.fjall_table.specs.Blocks.{Entry}
use Rattle.fjall_trees.specs.Forests.{Forest, IsForest}
use Rattle.fjall_trees.specs.Tables.{shape_in}
use Rattle.fjall_compaction.specs.Merges.{Merge}

-- the merge that is out, where it made these tables and left these clears
abbrev pub merge_out : Merging → List MadeTable → List ℕ → Merge
merge_out out tables clears = record { table_count = out.tables; clear_count = out.clears; tables = tables; clears = clears }

-- The merge that is out of this keyspace, which lives, can be finished: it was begun with this task, and all keyspaces are known.
pub record CanMerge (j : Journaling) (t : Tree) (trees : Forest) (entries : ℕ → List (List Entry)) (records : LastFields) (k : LivingKeyspace) (task : Task) : Type 0 where
  pub forest : IsForest trees
  pub have : HaveVersions t.homes t.versions
  pub living : keyspace_at k.id t.keyspaces.living ≡ Some k
  pub are : AreTreesKnown j t trees entries records
  pub merging : IsMerging (shape_in k.id trees) (entries k.id) task
