-- A flush that is out of a keyspace's tree, as it counts once it is finished.
use Rattle.std.specs.Prelude.{◌≡◌, ◌≢◌, ℕ, ◌-◌, ◌≤◌, ◌^◌, List, [], All, Some, map}
use Rattle.fjall_journal.specs.Batches.{shown}
use Rattle.fjall_jobs.specs.declared.made_table.MadeTable.{MadeTable}
use Rattle.fjall_jobs.specs.Tasks.{Task}
use Rattle.fjall_replay.specs.Known.{IsKnown, LastFields}
use Rattle.fjall_tree.specs.Jobs.{IsFlushing, flush_end}
use Rattle.fjall_meta.specs.declared.living.LivingKeyspace.{LivingKeyspace}
use Rattle.fjall_meta.specs.Keyspaces.{keyspace_at}
use Rattle.fjall_recovery.specs.Halves.{Tree}
use Rattle.fjall_recovery.specs.Homes.{HaveVersions, stored_in}
use Rattle.fjall_recovery.specs.Journals.{batches_in}
use Rattle.fjall_recovery.specs.Places.{Journaling, journals_with}
use Rattle.fjall_replay.specs.Beside.{AreReplayedWith}
use Rattle.fjall_table.specs.Blocks.{Entry}
use Rattle.fjall_trees.specs.Forests.{Forest, IsForest}
use Rattle.fjall_trees.specs.Tables.{shape_in}
use Rattle.fjall_compaction.specs.Flushes.{Flush}

-- the flush that is out of a keyspace, where it made these tables and these are its clears: it covers all up to where the memtables
-- begin that it leaves
abbrev pub flush_out : ℕ → Forest → List MadeTable → List ℕ → Flush
flush_out id trees tables clears = record { number = flush_end (shape_in id trees) - 1; tables = tables; clears = clears }

-- All keyspaces that live are known, where their tables have these entries: each tree shows with its tables what the keyspace's files
-- hold and what all batches make beyond that, and goes on from the last record of the keyspace's home.
pub record AreTreesKnown (j : Journaling) (t : Tree) (trees : Forest) (entries : ℕ → List (List Entry)) (records : LastFields) : Type 0 where
  pub replayed : AreReplayedWith entries t.keyspaces (stored_in t.homes t.versions) (map shown (batches_in (journals_with j j.later))) trees
  pub known : All (IsKnown records trees entries t.homes t.versions) t.keyspaces.living

-- The flush that is out of this keyspace, which lives, can be finished. It was begun with this task, of some memtables. All
-- keyspaces are known; what the flush takes is numbered below 2 ^ 63, and the batches that aren't synced yet are numbered from where
-- the memtables begin that it leaves.
pub record CanFinish (j : Journaling) (t : Tree) (trees : Forest) (entries : ℕ → List (List Entry)) (records : LastFields) (k : LivingKeyspace) (task : Task) : Type 0 where
  pub forest : IsForest trees
  pub have : HaveVersions t.homes t.versions
  pub living : keyspace_at k.id t.keyspaces.living ≡ Some k
  pub are : AreTreesKnown j t trees entries records
  pub flushing : IsFlushing (shape_in k.id trees) task
  pub some : task.runs ≢ []
  pub small : flush_end (shape_in k.id trees) ≤ 2 ^ 63
  pub later : All (λ b. flush_end (shape_in k.id trees) ≤ b.number) j.later
