-- What the parts of calls make of a core and of its disk.
use Rattle.std.specs.Prelude.{All, ◌≡◌, ◌≢◌, ◌⊎◌, ℕ, ◌^◌, ◌<◌, ◌+◌, ◌≤◌, Bool, true, false, if◌then◌else◌, List, [], ◌∷◌, ◌++◌, codes, length, map, Option, is_none, Result, Ok, Err, String, Vec, string_bytes}
use Rattle.std.specs.declared.alloc.Global.{Global}
use Rattle.fjall_base.specs.Disk.{IsNoFile, IsNoFolder, LeavesOnly, Meaning, Name, Took, state_in}
use Rattle.fjall_base.specs.Errors.{Rose}
use Rattle.fjall_base.specs.declared.error.Error.{Error}
use Rattle.fjall_base.specs.declared.error.Error.TheVariants.{Io, OutOfMemory, NumbersUsedUp}
use Rattle.fjall_journal.specs.declared.persist_mode.PersistMode.{PersistMode}
use Rattle.fjall_journal.specs.Batches.{Written}
use Rattle.fjall_journal.specs.Changes.{Change, change_text, of_change}
use Rattle.fjall_files.specs.Regions.{Within, is_under}
use Rattle.fjall_changes.specs.Evictions.{ForEvicting, LeavesEviction, evicted}
use Rattle.fjall_files.specs.Calls.{AllServed}
use Rattle.fjall_changes.specs.SyncedChanges as on_disk
use Rattle.fjall_files.specs.Names.{journal_name, keyspace_folder, table_name}
use Rattle.fjall_compaction.specs.FlushPlans.{HaveFiles, IsFlushPlanRefusal, KeepsTables}
use Rattle.fjall_jobs.specs.declared.flush_job.FlushJob.{FlushJob}
use Rattle.fjall_jobs.specs.declared.flush_made.FlushMade.{FlushMade}
use Rattle.fjall_jobs.specs.declared.merge_made.MergeMade.{MergeMade}
use Rattle.fjall_jobs.specs.Flushes.{flush_task}
use Rattle.fjall_jobs.specs.Made.{flush_tables, merge_tables}
use Rattle.fjall_journal.specs.declared.persist_mode.PersistMode.TheVariants.{SyncAll}
use Rattle.fjall_replay.specs.Known.{last_known}
use Rattle.fjall_trees.specs.Tables.{shape_in}
use Rattle.fjall_journal.specs.Rotations.{RotationTook, empty_journal, rotating}
use Rattle.fjall_changes.specs.Rotations.{KeepsSyncedKeyspaces, LeavesRotation, rotated}
use Rattle.fjall_files.specs.Tidy.{StaysTidy}
use Rattle.fjall_journal.specs.Writer.{BatchTook, Journal, after_command, batch_steps, written_out}
use Rattle.fjall_manifest.specs.Records.{Fields, view}
use Rattle.fjall_meta.specs.Keyspaces.{without_keyspace}
use Rattle.fjall_manifest.specs.declared.update.Update.{Update}
use Rattle.fjall_manifest.specs.Updates.{IsPreparingRefusal, IsUpdate}
use Rattle.fjall_recovery.specs.Halves.{HasTree, Tree, is_of_keyspaces}
use Rattle.fjall_recovery.specs.Places.{Journaling, LiesInTree}
use Rattle.fjall_changes.specs.Journaling.{CanFollow, IsWriting, KeepsHomes, LeavesRoot, after_mode, is_out, with_batch}
use Rattle.fjall_changes.specs.declared.creation.Creation.{Creation}
use Rattle.fjall_changes.specs.Changes.{IsCreation}
use Rattle.fjall_changes.specs.Removals.{IsUnused, RemovesOwn}
use Rattle.fjall_machine.specs.Evicting.{going_in}
use Rattle.fjall_manifest.specs.Changes.{AreGone}
use Rattle.fjall_compaction.specs.MergePlans as merging
use Rattle.fjall_machine.specs.Finishing.{ForFinishing, ForFlush, IsFlushFinished, keyspace_of}
use Rattle.fjall_machine.specs.Merging as merged
use Rattle.fjall_machine.specs.Remembered.{KnowsTask, Remembered, poisoned, with_change, with_merge_done, with_sealed_in_memory}
use Rattle.fjall_machine.specs.Machine.{flush_with}
use Rattle.fjall_compaction.specs.declared.ingestion.whole.PlannedIngestion.{PlannedIngestion}
use Rattle.fjall_compaction.specs.Planned.{ForIngestion, ForIngestionOn, HasNoTableFolder, KeepsGiven}
use Rattle.fjall_machine.specs.Ingesting.{with_record, with_tables}
use Rattle.fjall_engine.specs.Crashes.{is_io}
use Rattle.fjall_engine.specs.Holding.{Held}
use Rattle.fjall_engine.specs.Standing.{Becomes, BeginsAt, EvictionStopped, EvictionTook, EvictsInMemory, Poisons, RotatesJournal, SyncFailed, SyncTook, are_jobs_used_up_in, evicted_in_memory, is_journal_long, job_of, journal_synced_in, next_name}
use Rattle.fjall_changes.specs.SyncedChanges.{CreatedKeyspace, DeletedKeyspace, SyncedThenChanged, SyncsThenChanges}

-- What came of making a keyspace that stands in memory already: it is on the disk, and the catalog knows it; or the disk
-- failed; or nothing was changed.
abbrev pub Makes : Type 0 → Held → ℕ → ℕ → Result Unit Error → Held → Type 0
Makes honest old id number (Ok _) new =
    (creation : Creation) × IsCreation old.catalog old.memory.keyspaces id number creation
    × (new ≡ record old { disk = new.disk; catalog = creation.update.catalog; journal = written_out old.journal }) × (old.disk.faults ≤ new.disk.faults)
    × (honest → SyncedThenChanged (λ mid now done. CreatedKeyspace mid now creation done) old.disk new.disk old.journal new.journal true)
Makes honest old id number (Err (Io kind)) new =
    (creation : Creation) × IsCreation old.catalog old.memory.keyspaces id number creation
    × (new.memory ≡ old.memory) × (new.catalog ≡ old.catalog) × Rose old.disk.faults new.disk.faults
    × (honest → SyncsThenChanges (λ mid now done. CreatedKeyspace mid now creation done) old.disk new.disk old.journal new.journal (Err (Io kind)))
Makes honest old id number (Err error) new = (new ≡ old) × IsPreparingRefusal old.catalog old.memory.keyspaces number error

-- the same of a deletion, of which memory doesn't know yet
abbrev pub Unmakes : Type 0 → Held → ℕ → Result Unit Error → Held → Type 0
Unmakes honest old id (Ok _) new =
    (update : Update) × IsUpdate old.catalog (without_keyspace id old.memory.keyspaces) old.memory.next update
    × (new ≡ record old { disk = new.disk; catalog = update.catalog; journal = written_out old.journal }) × (old.disk.faults ≤ new.disk.faults)
    × (honest → SyncedThenChanged (λ mid now done. DeletedKeyspace mid now update done) old.disk new.disk old.journal new.journal true)
Unmakes honest old id (Err (Io kind)) new =
    (update : Update) × IsUpdate old.catalog (without_keyspace id old.memory.keyspaces) old.memory.next update
    × (new.memory ≡ old.memory) × (new.catalog ≡ old.catalog) × Rose old.disk.faults new.disk.faults
    × (honest → SyncsThenChanges (λ mid now done. DeletedKeyspace mid now update done) old.disk new.disk old.journal new.journal (Err (Io kind)))
Unmakes honest old id (Err error) new = (new ≡ old) × IsPreparingRefusal old.catalog (without_keyspace id old.memory.keyspaces) old.memory.next error

-- What a removal of a keyspace's files did to the disk: where no living keyspace has the id, a crash meanwhile leaves the
-- tree as it is, and it lies there as before. What stands anywhere else stands as it did.
pub record FilesGone (id : ℕ) (old new : Meaning) : Type 0 where
  pub within : Within (codes "keyspaces") old new
  pub others : (q : Name) → is_under (keyspace_folder id) q ≡ false → (state_in new q).now ≡ (state_in old q).now
  pub leaves : (records : List Fields) (t : Tree) → IsUnused id t.keyspaces → LiesInTree (state_in old) records t → LeavesOnly old new (λ image. HasTree image t)
  pub lies : (records : List Fields) (t : Tree) → IsUnused id t.keyspaces → LiesInTree (state_in old) records t → LiesInTree (state_in new) records t
  pub served : (records : List Fields) (t : Tree) → LiesInTree (state_in old) records t → IsNoFile (state_in old (keyspace_folder id)).now → new.misuses ≡ old.misuses
  pub kinds : StaysTidy old new

-- The files of a deleted keyspace are removed for good, or left where anything else stands beside them; or the disk failed; or memory
-- ran out, and nothing was changed.
abbrev pub Removes : Type 0 → Held → ℕ → Result Unit Error → Held → Type 0
Removes honest old id (Ok _) new =
    (new ≡ record old { disk = new.disk }) × (old.disk.faults ≤ new.disk.faults) × (honest → FilesGone id old.disk new.disk) × (honest → RemovesOwn id old.disk new.disk)
Removes honest old id (Err (Io kind)) new =
    (new ≡ record old { disk = new.disk }) × Rose old.disk.faults new.disk.faults × (honest → FilesGone id old.disk new.disk)
Removes honest old id (Err error) new =
    (new ≡ record old { disk = new.disk }) × (error ≡ OutOfMemory) × (old.disk.faults ≤ new.disk.faults) × (honest → FilesGone id old.disk new.disk) × (honest → Took old.disk new.disk [])

-- What a change did to the disk and to the journal's writer: a crash leaves a beginning of the batches with this one, and
-- where it was done the writer goes on behind it, which went out or waits, or was synced; what stands in `keyspaces` stayed.
pub record WentOut (old new : Meaning) (before after : Journal) (batch : Written) (mode : Option PersistMode) (done : Bool) : Type 0 where
  pub leaves : (j : Journaling) → IsWriting (state_in old) before j → CanFollow j batch.number → LeavesOnly old new (LeavesRoot (state_in old) j (j.later ++ batch ∷ []))
  pub lies : done ≡ true → (j : Journaling) → IsWriting (state_in old) before j → CanFollow j batch.number → IsWriting (state_in new) after (after_mode mode (with_batch (is_out mode before batch) j batch))
  pub elsewhere : (j : Journaling) → IsWriting (state_in old) before j → (q : Name) → is_of_keyspaces q ≡ true → state_in new q ≡ state_in old q
  pub served : (j : Journaling) → IsWriting (state_in old) before j → new.misuses ≡ old.misuses

-- the change stands in memory, and its batch in the journal; or a fault of the disk, to which the batch
-- went, has poisoned the core; or nothing changed
abbrev pub Writes : Type 0 → Held → Change → Option PersistMode → Result Unit Error → Held → Type 0
Writes honest old change mode (Ok _) new =
    (new ≡ record old { disk = new.disk; memory = with_change change old.memory; journal = after_command (is_none mode) old.journal (change_text change old.memory.next) }) × (old.disk.faults ≤ new.disk.faults)
    × (honest → Took old.disk new.disk (batch_steps mode old.journal (change_text change old.memory.next)))
    × (honest → WentOut old.disk new.disk old.journal new.journal (of_change change old.memory.next) mode true)
    × (is_out mode old.journal (of_change change old.memory.next) ≡ false → new.disk ≡ old.disk)
Writes honest old change mode (Err (Io fault)) new =
    (new.memory ≡ poisoned old.memory) × Rose old.disk.faults new.disk.faults
    × (honest → BatchTook mode old.disk new.disk old.journal (change_text change old.memory.next))
    × (honest → WentOut old.disk new.disk old.journal new.journal (of_change change old.memory.next) mode false)
    × (is_out mode old.journal (of_change change old.memory.next) ≡ true)
Writes honest old change mode (Err error) new = (new ≡ old) × (error ≡ OutOfMemory)

-- What a rotation of the journal of this number did to the disk and to the journal's writer: a crash leaves the journals before it
-- or those after it, and where it was done the writer goes on in the next one; what stands in `keyspaces` stayed. No call was one
-- that no disk can serve, where no folder stands in the next one's place.
pub record WentOver (old new : Meaning) (before after : Journal) (active : ℕ) (done : Bool) : Type 0 where
  pub leaves : (j : Journaling) → IsWriting (state_in old) before j → j.active ≡ active → LeavesOnly old new (LeavesRotation (state_in old) j)
  pub lies : done ≡ true → (j : Journaling) → IsWriting (state_in old) before j → j.active ≡ active → IsWriting (state_in new) after (rotated j)
  pub elsewhere : (j : Journaling) → IsWriting (state_in old) before j → j.active ≡ active → KeepsSyncedKeyspaces old new
  pub served : (j : Journaling) → IsWriting (state_in old) before j → j.active ≡ active → IsNoFolder (state_in old (journal_name (active + 1))).now → new.misuses ≡ old.misuses
  pub kinds : StaysTidy old new

-- the active journal is sealed, and the next one begun; or a fault of the disk has poisoned the core; or nothing changed
abbrev pub Turns : Type 0 → Held → Result Unit Error → Held → Type 0
Turns honest old (Ok _) new =
    RotatesJournal old new
    × (honest → Took old.disk new.disk (rotating old.disk old.journal (next_name old)))
    × (honest → WentOver old.disk new.disk old.journal new.journal old.memory.journals.active true)
Turns honest old (Err (Io fault)) new =
    (new.memory ≡ poisoned old.memory) × Rose old.disk.faults new.disk.faults
    × (honest → RotationTook old.disk new.disk old.journal new.journal (next_name old))
    × (honest → WentOver old.disk new.disk old.journal new.journal old.memory.journals.active false)
Turns honest old (Err error) new = (new ≡ old) × (error ≡ OutOfMemory)

-- ---- flushes

-- the journal was synced, and a long one sealed
pub record SyncedAll (old new : Held) : Type 0 where
  pub memory_is : new.memory ≡ journal_synced_in old
  pub catalog : new.catalog ≡ old.catalog
  pub journal : new.journal ≡ (if is_journal_long old.journal then empty_journal (next_name old) else written_out old.journal)
  pub faults : old.disk.faults ≤ new.disk.faults

-- What a sync of the journal, or a rotation of a long one, did to the disk and to the journal's writer.
abbrev pub WentSynced : (long done : Bool) → Held → Held → Type 0
WentSynced true done old new = WentOver old.disk new.disk old.journal new.journal old.memory.journals.active done
WentSynced false done old new = on_disk.Persisted old.disk new.disk old.journal new.journal SyncAll done

-- the journal was synced; or the disk failed; or memory ran out, and nothing changed
abbrev pub SyncsAll : Type 0 → Held → Result Unit Error → Held → Type 0
SyncsAll honest old (Ok _) new = SyncedAll old new × (honest → SyncTook old new) × (honest → WentSynced (is_journal_long old.journal) true old new)
SyncsAll honest old (Err (Io kind)) new =
    (new.memory ≡ old.memory) × (new.catalog ≡ old.catalog) × Rose old.disk.faults new.disk.faults
    × (honest → SyncFailed old new) × (honest → WentSynced (is_journal_long old.journal) false old new)
SyncsAll honest old (Err error) new = (new ≡ old) × (error ≡ OutOfMemory)

-- A flush of the keyspace is out, of which the core knows what it was begun with, behind a sync; or a fault of the disk has poisoned
-- the core; or nothing changed, for want of memory or of a number.
abbrev pub Begins : Type 0 → Held → ℕ → Result FlushJob Error → Held → Type 0
Begins honest old id (Ok job) new =
    (job_of (flush_task job) ≡ record { number = old.memory.next_job; keyspace_id = id }) × KnowsTask new.memory (flush_task job)
    × (are_jobs_used_up_in old ≡ false) × BeginsAt old id new
    × (honest → SyncTook old new) × (honest → WentSynced (is_journal_long old.journal) true old new)
Begins honest old id (Err (Io kind)) new =
    (are_jobs_used_up_in old ≡ false) × Poisons old.memory old new
    × (honest → SyncFailed old new) × (honest → WentSynced (is_journal_long old.journal) false old new)
Begins honest old id (Err NumbersUsedUp) new = (new ≡ old) × (are_jobs_used_up_in old ≡ true)
Begins honest old id (Err error) new = (new ≡ old) × (error ≡ OutOfMemory) × (are_jobs_used_up_in old ≡ false)

-- What the writing of a flush did to the disk: nothing outside the keyspace's folder; a crash leaves the tree before or the one after;
-- where it was done the one after lies there. The keyspace's tables, but for the new one, stand in sight as they did, and where it was done the
-- file of the new table has its bytes, and its id has its place. No call was one that no disk can serve, where no folder stands in the new table's place.
pub record WroteFlush (m : Remembered) (made : FlushMade) (old new : Meaning) (done : Bool) : Type 0 where
  pub within : Within (keyspace_folder (keyspace_of made)) old new
  pub leaves : ForFinishing old m made (λ id records t h next. LeavesOnly old new (λ image. HasTree image t ⊎ HasTree image next))
  pub lies : done ≡ true → ForFinishing old m made (λ id records t h next. LiesInTree (state_in new) records next)
  pub beside : ForFlush m (keyspace_of made) (λ k out. KeepsTables (keyspace_of made) (last_known m.records k).next_table_id old new)
  pub fits : done ≡ true → ForFlush m (keyspace_of made) (λ k out. (last_known m.records k).next_table_id + length (flush_tables made) < 2 ^ 64)
  pub files : done ≡ true → ForFlush m (keyspace_of made) (λ k out. HaveFiles new (keyspace_of made) (last_known m.records k).next_table_id (flush_tables made))
  pub served : ForFinishing old m made (λ id records t h next. IsNoFolder (state_in old (table_name id h.last.next_table_id)).now → AllServed old new)
  pub kinds : StaysTidy old new

-- the flush of that keyspace, which was out, is finished in memory
abbrev pub PutInMemory : Remembered → FlushMade → Remembered → Type 0
PutInMemory old made new =
    ForFlush old (keyspace_of made) (λ k out. IsFlushFinished old (keyspace_of made) (last_known old.records k) out (flush_tables made) new)

-- the flush is finished, on the disk and in memory; or a fault of the disk has poisoned the core; or nothing changed, for want of memory,
-- of room in the record, or of an id for the table
abbrev pub Puts : Type 0 → Held → FlushMade → Result Unit Error → Held → Type 0
Puts honest old made (Ok _) new =
    PutInMemory old.memory made new.memory × Becomes old new.memory new × (honest → WroteFlush old.memory made old.disk new.disk true)
Puts honest old made (Err (Io kind)) new = Poisons old.memory old new × (honest → WroteFlush old.memory made old.disk new.disk false)
Puts honest old made (Err error) new =
    (new ≡ old) × ForFlush old.memory (keyspace_of made)
    (λ k out. IsFlushPlanRefusal (last_known old.memory.records k) (flush_with (shape_in (keyspace_of made) old.memory.trees) out (flush_tables made)) error)

-- What an eviction did to the disk: a crash leaves all but some of the journals that go, the oldest ones; where it was done the writer
-- goes on behind the others, and where it wasn't it stopped; and what stands in `keyspaces` stayed, in sight wherever the writer goes on.
pub record WentAway (m : Remembered) (old new : Meaning) (done : Bool) : Type 0 where
  pub leaves : ForEvicting old m.journals.sealed (λ writer j. LeavesOnly old new (LeavesEviction (state_in old) j (length (going_in m))))
  pub lies : done ≡ true → ForEvicting old m.journals.sealed (λ writer j. IsWriting (state_in new) writer (evicted (length (going_in m)) j))
  pub elsewhere : ForEvicting old m.journals.sealed (λ writer j. KeepsSyncedKeyspaces old new)
  pub homes : KeepsHomes old new
  pub served : ForEvicting old m.journals.sealed (λ writer j. new.misuses ≡ old.misuses)
  pub kinds : StaysTidy old new
  pub stopped : done ≡ false → EvictionStopped m old new

-- the oldest sealed journals are gone that nobody wants; or a fault of the disk has poisoned the core, and some of them are gone
abbrev pub Evicts : Type 0 → Held → Result Unit Error → Held → Type 0
Evicts honest old (Ok _) new =
    Becomes old (evicted_in_memory old.memory) new
    × (honest → EvictionTook old.memory old.disk new.disk) × (honest → WentAway old.memory old.disk new.disk true)
Evicts honest old (Err (Io kind)) new =
    (left : Remembered) × EvictsInMemory old.memory left × Poisons left old new × (honest → WentAway old.memory old.disk new.disk false)
    × (old.disk.faults ≤ new.disk.faults)
Evicts honest old (Err error) new = ⊥

-- a flush that isn't stale is finished, and journals are removed that nobody wants any more; or one of the two failed
abbrev pub Finishes : Type 0 → Held → FlushMade → Result Unit Error → Held → Type 0
Finishes honest old made (Ok _) new = (mid : Held) × Puts honest old made (Ok tt) mid × Evicts honest mid (Ok tt) new
Finishes honest old made (Err error) new = Puts honest old made (Err error) new ⊎ ((mid : Held) × Puts honest old made (Ok tt) mid × Evicts honest mid (Err error) new)

-- ---- merges

-- What the writing of a merge did to the disk: nothing outside the keyspace's folder; a crash leaves the tree before or the one after;
-- where it was done the one after lies there. The keyspace's tables, but for the new ones, stand in sight as they did, and where it was done
-- the files of the new ones have their bytes, and their ids have their place. No call was one that no disk can serve, where no folder has
-- the name of a table.
pub record WroteMerge (m : Remembered) (made : MergeMade) (old new : Meaning) (done : Bool) : Type 0 where
  pub within : Within (keyspace_folder (merged.keyspace_of made)) old new
  pub leaves : merged.ForMerging old m made (λ id records t h does next. LeavesOnly old new (λ image. HasTree image t ⊎ HasTree image next))
  pub lies : done ≡ true → merged.ForMerging old m made (λ id records t h does next. LiesInTree (state_in new) records next)
  pub beside : merged.ForMerge m (merged.keyspace_of made)
      (λ k out. merging.MergeKeepsTables (merged.keyspace_of made) (last_known m.records k).next_table_id (length (merge_tables made)) old new)
  pub fits : done ≡ true → merged.ForMerge m (merged.keyspace_of made) (λ k out. (last_known m.records k).next_table_id + length (merge_tables made) < 2 ^ 64)
  pub files : done ≡ true → merged.ForMerge m (merged.keyspace_of made)
      (λ k out. HaveFiles new (merged.keyspace_of made) (last_known m.records k).next_table_id (merge_tables made))
  pub served : merged.ForMerging old m made (λ id records t h does next. merging.HasNoTableFolder old id → AllServed old new)
  pub kinds : StaysTidy old new

-- the merge of that keyspace, which was out, is finished in memory
abbrev pub MergedAsMade : Remembered → MergeMade → Remembered → Type 0
MergedAsMade old made new =
    merged.ForMerge old (merged.keyspace_of made)
    (λ k out. merged.IsMergeFinished old (merged.keyspace_of made) (last_known old.records k) out (merged.counted_as out made) new)

-- The merge is finished, on the disk and in memory, and these are the names of the tables that it took; or a fault of the disk has poisoned
-- the core; or nothing changed, for want of memory, of room in the record, or of ids for the tables.
abbrev pub PutsMerge : Type 0 → Held → MergeMade → Result (Vec (String Global) Global) Error → Held → Type 0
PutsMerge honest old made (Ok taken) new =
    MergedAsMade old.memory made new.memory × Becomes old new.memory new
    × merged.ForMerge old.memory (merged.keyspace_of made) (λ k out. merged.AreTaken (merged.keyspace_of made) (last_known old.memory.records k) out taken.items)
    × (honest → WroteMerge old.memory made old.disk new.disk true)
PutsMerge honest old made (Err (Io kind)) new = Poisons old.memory old new × (honest → WroteMerge old.memory made old.disk new.disk false)
PutsMerge honest old made (Err error) new =
    (new ≡ old) × merged.ForMerge old.memory (merged.keyspace_of made) (λ k out. merging.IsMergePlanRefusal (last_known old.memory.records k) (merged.counted_as out made) error)

-- What the removal of the tables that a merge took did to the disk: nothing outside the keyspace's folder, and in sight nothing but those
-- names changed; a crash leaves the tree that lies there, of whose record they are none, and it lies there still; where it was done they
-- are gone.
pub record TookAway (taken : List (String Global)) (old new : Meaning) (done : Bool) : Type 0 where
  pub within : (id : ℕ) (ids : List ℕ) → map string_bytes taken ≡ map (table_name id) ids → Within (keyspace_folder id) old new
  pub leaves : merging.ForTakenOn old taken (λ records t. LeavesOnly old new (λ image. HasTree image t))
  pub lies : merging.ForTakenOn old taken (λ records t. LiesInTree (state_in new) records t)
  pub served : merging.ForTaken taken (λ id last m. merging.HasNoTableFolder old id → AllServed old new)
  pub beside : (q : Name) → All (λ name. q ≢ string_bytes name) taken → (state_in new q).now ≡ (state_in old q).now
  pub gone : done ≡ true → (id : ℕ) (ids : List ℕ) → map string_bytes taken ≡ map (table_name id) ids → AreGone (state_in new) id ids
  pub kinds : StaysTidy old new

-- the tables that a merge took are gone; or a fault of the disk has poisoned the core
abbrev pub TakesAway : Type 0 → Held → List (String Global) → Result Unit Error → Held → Type 0
TakesAway honest old taken (Ok _) new = (new ≡ record old { disk = new.disk }) × (old.disk.faults ≤ new.disk.faults) × (honest → TookAway taken old.disk new.disk true)
TakesAway honest old taken (Err (Io kind)) new =
    (new ≡ record old { disk = new.disk; memory = poisoned old.memory }) × Rose old.disk.faults new.disk.faults × (honest → TookAway taken old.disk new.disk false)
    × (old.disk.faults ≤ new.disk.faults)
TakesAway honest old taken (Err error) new = ⊥

-- a merge that isn't stale is finished and counted, and the tables that it took are gone; or one of the two failed
abbrev pub Merges : Type 0 → Held → MergeMade → Result Unit Error → Held → Type 0
Merges honest old made (Ok _) new =
    (taken : Vec (String Global) Global) × (mid after : Held) × PutsMerge honest old made (Ok taken) mid × TakesAway honest mid taken.items (Ok tt) after
    × (new ≡ record after { memory = with_merge_done after.memory })
Merges honest old made (Err error) new =
    PutsMerge honest old made (Err error) new
    ⊎ ((taken : Vec (String Global) Global) × (mid : Held) × PutsMerge honest old made (Ok taken) mid × TakesAway honest mid taken.items (Err error) new)

-- ---- ingestions

-- What the writing of an ingestion that was planned did to the disk: nothing outside the keyspace's folder; a crash leaves the tree before,
-- the one behind the flush of memory, or the one behind the ingestion; where it was done the last one lies there. The keyspace's tables
-- that were there before stand in sight as they did, and where it was done the files of the new ones have their bytes. No call was one that
-- no disk can serve, where no folder has the name of a table.
pub record WroteIngestion (p : PlannedIngestion) (old new : Meaning) (done : Bool) : Type 0 where
  pub within : ForIngestion p (λ id last tree n items. Within (keyspace_folder id) old new)
  pub leaves : ForIngestionOn old p (λ id records t h mid next. LeavesOnly old new (λ image. HasTree image t ⊎ (HasTree image mid ⊎ HasTree image next)))
  pub lies : done ≡ true → ForIngestionOn old p (λ id records t h mid next. LiesInTree (state_in new) records next)
  pub beside : ForIngestion p (λ id last tree n items. KeepsGiven id last.next_table_id old new)
  pub files : done ≡ true → ForIngestion p (λ id last tree n items. HaveFiles new id last.next_table_id (p.memory.tables.items ++ p.own.tables.items))
  pub served : ForIngestionOn old p (λ id records t h mid next. HasNoTableFolder old id → AllServed old new)
  pub kinds : ForIngestion p (λ id last tree n items. StaysTidy old new)

-- what was planned is on the disk; or a fault of the disk has poisoned the core
abbrev pub WritesIngestion : Type 0 → Held → PlannedIngestion → Result Unit Error → Held → Type 0
WritesIngestion honest old p (Ok _) new =
    (new ≡ record old { disk = new.disk }) × (old.disk.faults ≤ new.disk.faults) × (honest → WroteIngestion p old.disk new.disk true)
WritesIngestion honest old p (Err (Io kind)) new =
    (new ≡ record old { disk = new.disk; memory = poisoned old.memory }) × Rose old.disk.faults new.disk.faults × (honest → WroteIngestion p old.disk new.disk false)
    × (old.disk.faults ≤ new.disk.faults)
WritesIngestion honest old p (Err error) new = ⊥

-- the core with the record that was planned as the last one of the keyspace
abbrev pub recorded : PlannedIngestion → Held → Held
recorded p core = record core { memory = with_record p.id (view p.own.writes.record) core.memory }

-- Journals are removed that nobody wants behind that record, and memory has the tables that were made; or a fault of the disk has
-- poisoned the core, some of these journals are gone, and memory is else as it was.
abbrev pub SettlesIngestion : Type 0 → Held → PlannedIngestion → Result Unit Error → Held → Type 0
SettlesIngestion honest old p (Ok _) new =
    (after : Held) × Evicts honest (recorded p old) (Ok tt) after × (new ≡ record after { memory = with_tables p.id p.readers.items after.memory })
SettlesIngestion honest old p (Err error) new =
    (after : Held) × Evicts honest (recorded p old) (Err error) after × (new ≡ record after { memory = poisoned (with_sealed_in_memory after.memory.journals.sealed old.memory) })

-- An ingestion was made, behind a sync of the journal; or the sync failed, or the writing, or the eviction behind it.
abbrev pub PutsIngestion : Type 0 → Held → PlannedIngestion → Result Unit Error → Held → Type 0
PutsIngestion honest old p (Ok _) new = (synced mid : Held) × SyncsAll honest old (Ok tt) synced × WritesIngestion honest synced p (Ok tt) mid × SettlesIngestion honest mid p (Ok tt) new
PutsIngestion honest old p (Err error) new =
    ((failed : Held) × SyncsAll honest old (Err error) failed × (new ≡ (if is_io error then record failed { memory = poisoned failed.memory } else failed)))
    ⊎ (((synced : Held) × SyncsAll honest old (Ok tt) synced × WritesIngestion honest synced p (Err error) new)
    ⊎ ((synced mid : Held) × SyncsAll honest old (Ok tt) synced × WritesIngestion honest synced p (Ok tt) mid × SettlesIngestion honest mid p (Err error) new))
