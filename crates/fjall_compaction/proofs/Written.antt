-- A home that is changed on the disk: the tree at each moment of it, and at its end.
use Rattle.std.proofs.Common.{◌⊎◌, ℕ, ◌<◌, ◌^◌, List, [], ◌∷◌, ◌++◌, Result, OnOk}
use Rattle.fjall_base.specs.declared.error.Error.{Error}
use Rattle.fjall_base.specs.Disk.{LeavesOnly, LeavesOnlyBy, Meaning, state_in}
use Rattle.fjall_base.proofs.Moments.{runs_on}
use Rattle.fjall_files.specs.Names.{keyspace_folder}
use Rattle.fjall_files.specs.Regions.{Within}
use Rattle.fjall_files.proofs.Made.{within_both}
use Rattle.fjall_compaction.specs.Flushes.{Follows, HasAt, flush_with}
use Rattle.fjall_compaction.specs.Flushes as flushes
use Rattle.fjall_compaction.specs.FlushPlans.{IsFlushPlan}
use Rattle.fjall_compaction.specs.Merges.{Merge, MergesTables, entries_after}
use Rattle.fjall_compaction.specs.Merges as merges
use Rattle.fjall_compaction.specs.MergePlans.{IsMergePlan}
use Rattle.fjall_compaction.specs.declared.flush.plan.FlushPlan.{FlushPlan}
use Rattle.fjall_compaction.specs.declared.merge.plan.MergePlan.{MergePlan}
use Rattle.fjall_compaction.proofs.FlushAfterHomes as FlushAfterHomes
use Rattle.fjall_compaction.proofs.FlushAfterRecords as FlushAfterRecords
use Rattle.fjall_compaction.proofs.MergeAfterHomes as MergeAfterHomes
use Rattle.fjall_compaction.proofs.MergeAfterRecords as MergeAfterRecords
use Rattle.fjall_compaction.proofs.Composed as Composed
use Rattle.fjall_compaction.proofs.Composed.{IsHome, is_home}
use Rattle.fjall_jobs.specs.declared.made_table.MadeTable.{MadeTable}
use Rattle.fjall_manifest.specs.Changes.{HasEitherHome}
use Rattle.fjall_manifest.specs.Homes.{HasHome, Home, Rests, SyncedStays}
use Rattle.fjall_manifest.specs.Reading.{AreRight}
use Rattle.fjall_manifest.specs.Records.{Fields, IsRecord}
use Rattle.fjall_manifest.proofs.Resting.{last_record}
use Rattle.fjall_memtable.specs.Sorted.{flat}
use Rattle.fjall_recovery.specs.Halves.{HasTree, Tree, with_home_at}
use Rattle.fjall_recovery.specs.Homes.{ClearsAreWithin, HasVersions}
use Rattle.fjall_recovery.specs.Places.{LiesInTree}
use Rattle.fjall_table.specs.Blocks.{Entry}

-- ---- whatever changes it

-- A keyspace has that home in the tree that lies on the disk, and its next one, with these versions, is right.
pub record IsNextHome (m0 : Meaning) (records : List Fields) (t : Tree) (id : ℕ) (h : Home) (versions : List Entry) (next : Home) (more : List Entry) : Type 0 where
  pub small : id < 2 ^ 64
  pub lies : LiesInTree (state_in m0) records t
  pub at : HasAt t id h versions
  pub home : IsHome (state_in m0) t id h
  pub record_is : IsRecord next.last
  pub has : HasVersions next more
  pub clears : ClearsAreWithin next.last

module _ (m0 : Meaning) (records : List Fields) (t : Tree) (id : ℕ) (h : Home) (versions : List Entry) (next : Home) (more : List Entry) (is : IsNextHome m0 records t id h versions next more) where
  -- the records of the home
  abbrev pub own : List Fields
  own = is.home.safe.records

  abbrev pub rests : Rests (state_in m0) id own h
  rests = is.home.safe.rests

  abbrev after : Tree
  after = with_home_at id next more t

  -- while the tables are written
  pub put : (mid : Meaning) → Within (keyspace_folder id) m0 mid → LeavesOnlyBy SyncedStays m0 mid (λ image. HasHome image id own h)
      → LeavesOnly m0 mid (λ image. HasTree image t ⊎ HasTree image after)
  put mid run stays = Composed.each_moment m0 records t id h versions is.small is.lies is.at is.home next more is.has is.clears mid run (Composed.either_home m0 mid id own h next stays)

  -- and while the record is appended
  pub appended : (mid new : Meaning) → Within (keyspace_folder id) m0 mid → Within (keyspace_folder id) mid new → LeavesOnlyBy SyncedStays m0 mid (λ image. HasHome image id own h)
      → LeavesOnly mid new (HasEitherHome id own h next) → LeavesOnly m0 new (λ image. HasTree image t ⊎ HasTree image after)
  appended mid new one two stays either =
      Composed.each_moment m0 records t id h versions is.small is.lies is.at is.home next more is.has is.clears new (within_both (keyspace_folder id) m0 mid new one two)
      (runs_on m0 mid new (HasEitherHome id own h next) (Composed.either_home m0 mid id own h next stays) either)

  -- at the end
  pub ended : (mid new : Meaning) (r : Result Unit Error) → Within (keyspace_folder id) m0 mid → Within (keyspace_folder id) mid new
      → OnOk r (Rests (state_in new) id (own ++ next.last ∷ []) next) → OnOk r (LiesInTree (state_in new) records after)
  ended mid new r one two done =
      Composed.ends m0 records t id h versions is.small is.lies is.at is.home next more is.has is.clears new r (within_both (keyspace_folder id) m0 mid new one two) done

-- ---- a flush or an ingestion

pub flush_next : (m0 : Meaning) (records : List Fields) (t : Tree) (id number : ℕ) (tables : List MadeTable) (clears : List ℕ) (h : Home) (versions : List Entry) (lists : List (List Entry)) (plan : FlushPlan)
    → LiesInTree (state_in m0) records t → HasAt t id h versions → IsFlushPlan id h.last (flush_with number tables clears) plan → Follows (flush_with number tables clears) lists h.last
    → IsNextHome m0 records t id h versions (flushes.home_after (flush_with number tables clears) h) (versions ++ flat lists)
flush_next m0 records t id number tables clears h versions lists plan lies at is follows =
    let f = flush_with number tables clears in
    let home = is_home (state_in m0) records t id h versions lies at in
    record {
      small = is.folder.0;
      lies = lies;
      at = at;
      home = home;
      record_is = FlushAfterRecords.is_record f lists h.last follows is.fits (last_record (state_in m0) id home.safe.records h home.safe.rests);
      has = FlushAfterHomes.has_versions f lists h versions follows (FlushAfterHomes.versions_at t id h versions at lies.rests.versions);
      clears = FlushAfterRecords.clears_within f lists h.last follows home.safe.clears;
    }

-- ---- a merge

pub merge_next : (m0 : Meaning) (records : List Fields) (t : Tree) (id : ℕ) (m : Merge) (h : Home) (entries lists : List (List Entry)) (plan : MergePlan)
    → LiesInTree (state_in m0) records t → HasAt t id h (flat entries) → AreRight h.last.tables h.texts entries → IsMergePlan id h.last m plan → MergesTables m lists entries h.last
    → IsNextHome m0 records t id h (flat entries) (merges.home_after m h) (flat (entries_after m lists entries))
merge_next m0 records t id m h entries lists plan lies at right is merges =
    let home = is_home (state_in m0) records t id h (flat entries) lies at in
    let was = FlushAfterHomes.versions_at t id h (flat entries) at lies.rests.versions in
    record {
      small = is.folder.0;
      lies = lies;
      at = at;
      home = home;
      record_is = MergeAfterRecords.is_record m lists entries h.last merges is.fits (last_record (state_in m0) id home.safe.records h home.safe.rests);
      has = MergeAfterHomes.has_versions m lists entries h merges right was;
      clears = MergeAfterHomes.clears_within m lists entries h merges right was.once home.safe.clears;
    }
