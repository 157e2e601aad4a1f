-- A flush that is finished: what is written of it, and what memory holds then.
use Rattle.std.specs.Prelude.{◌≡◌, ℕ, List, Some}
use Rattle.fjall_base.specs.Disk.{Meaning, state_in}
use Rattle.fjall_base.specs.declared.error.Error.{Error}
use Rattle.fjall_base.specs.declared.error.Error.TheVariants.{Io}
use Rattle.fjall_base.specs.Errors.{IsFault}
use Rattle.fjall_table_reader.specs.Readers.{Reader}
use Rattle.fjall_compaction.specs.Flushes.{Flush, Follows, HasAt, record_after_flush, tree_after}
pub use Rattle.fjall_compaction.specs.FlushPlans.{AreReadersOf}
use Rattle.fjall_compaction.specs.FlushPlans.{IsFlushPlanRefusal}
use Rattle.fjall_manifest.specs.Homes.{Home}
use Rattle.fjall_jobs.specs.declared.flush_made.FlushMade.{FlushMade}
use Rattle.fjall_jobs.specs.declared.made_table.MadeTable.{MadeTable}
use Rattle.fjall_jobs.specs.Made.{flush_tables, flushed_task}
use Rattle.fjall_replay.specs.Known.{last_known}
use Rattle.fjall_tree.specs.Trees.{Flushing}
use Rattle.fjall_meta.specs.declared.living.LivingKeyspace.{LivingKeyspace}
use Rattle.fjall_meta.specs.Keyspaces.{keyspace_at}
use Rattle.fjall_recovery.specs.Halves.{Tree}
use Rattle.fjall_recovery.specs.Places.{LiesInTree}
use Rattle.fjall_table.specs.Blocks.{Entry}
use Rattle.fjall_manifest.specs.Records.{Fields}
use Rattle.fjall_trees.specs.Tables.{shape_in}
use Rattle.fjall_machine.specs.Machine.{flush_with}
use Rattle.fjall_machine.specs.Remembered.{Remembered, with_flush}

-- the keyspace of a flush
abbrev pub keyspace_of : FlushMade → ℕ
keyspace_of made = (flushed_task made).keyspace

-- ---- memory

-- for the keyspace of this id, which lives, and the flush of it that is out
abbrev pub ForFlush : Remembered → ℕ → (LivingKeyspace → Flushing → Type 0) → Type 0
ForFlush m id Holds = (k : LivingKeyspace) (out : Flushing) → keyspace_at id m.keyspaces.living ≡ Some k → (shape_in id m.trees).flush ≡ Some out → Holds k out

-- The flush of a keyspace that was out is finished in memory: readers of its tables stand in the tree, and the record after it is the
-- keyspace's last one.
pub record IsFlushFinished (old : Remembered) (id : ℕ) (last : Fields) (out : Flushing) (tables : List MadeTable) (new : Remembered) : Type 0 where
  pub readers : List Reader
  pub are : AreReadersOf id last.next_table_id tables readers
  pub is : new ≡ with_flush id out readers (record_after_flush (flush_with (shape_in id old.trees) out tables) last) old

-- ---- the disk

-- why a flush isn't finished: the disk failed, or it can't be planned
abbrev pub IsFinishRefusal : Fields → Flush → (faults_before faults_after : ℕ) → Error → Type 0
IsFinishRefusal last f before after (Io kind) = IsFault before after (Io kind)
IsFinishRefusal last f before after error = IsFlushPlanRefusal last f error

-- For whichever tree lies on the disk where the home of the flush's keyspace has the record that is known as its last one, and what was
-- made follows that record; and for the tree after the flush.
abbrev pub ForFinishing : Meaning → Remembered → FlushMade → (ℕ → List Fields → Tree → Home → Tree → Type 0) → Type 0
ForFinishing disk m made Holds =
    let id = keyspace_of made in
    (k : LivingKeyspace) (out : Flushing) → keyspace_at id m.keyspaces.living ≡ Some k → (shape_in id m.trees).flush ≡ Some out
    → let f = flush_with (shape_in id m.trees) out (flush_tables made) in
    (records : List Fields) (t : Tree) (h : Home) (versions : List Entry) (lists : List (List Entry)) → LiesInTree (state_in disk) records t → HasAt t id h versions
    → h.last ≡ last_known m.records k → Follows f lists h.last → Holds id records t h (tree_after id f lists h versions t)
