-- Appends and syncs put nothing at a name.
use Rattle.std.proofs.Common.{inl, inr, ℕ, List, [], ◌∷◌}
use Rattle.std.specs.List.{AllByRecursion}
use Rattle.fjall_base.specs.Disk.{Meaning, Name, Took}
use Rattle.fjall_journal.specs.Writer.{Journal, PersistTook, appending, persist_steps, syncing}
use Rattle.fjall_journal.specs.declared.persist_mode.PersistMode.{PersistMode}
use Rattle.fjall_journal.specs.declared.persist_mode.PersistMode.TheVariants.{Buffer, SyncData, SyncAll}
use Rattle.fjall_files.specs.Tidy.{IsTidyStep, StaysTidy}
use Rattle.fjall_files.proofs.Tidying.{all_both, stays_by, stays_part}

appending_tidy : (name : Name) (bytes : List ℕ) → AllByRecursion IsTidyStep (appending name bytes)
appending_tidy name [] = tt
appending_tidy name (b ∷ bytes) = (tt, tt)

syncing_tidy : (name : Name) (mode : PersistMode) → AllByRecursion IsTidyStep (syncing name mode)
syncing_tidy name Buffer = tt
syncing_tidy name SyncData = (tt, tt)
syncing_tidy name SyncAll = (tt, tt)

-- the steps of a persist
pub persist_tidy : (writer : Journal) (mode : PersistMode) → AllByRecursion IsTidyStep (persist_steps writer mode)
persist_tidy writer mode = all_both (appending writer.name writer.buffer) (syncing writer.name mode) (appending_tidy writer.name writer.buffer) (syncing_tidy writer.name mode)

-- a persist that was done
pub persist_stays : (old new : Meaning) (writer : Journal) (mode : PersistMode) → Took old new (persist_steps writer mode) → StaysTidy old new
persist_stays old new writer mode took = stays_by old new (persist_steps writer mode) took (persist_tidy writer mode)

-- bytes that were appended
pub appending_stays : (old new : Meaning) (name : Name) (bytes : List ℕ) → Took old new (appending name bytes) → StaysTidy old new
appending_stays old new name bytes took = stays_by old new (appending name bytes) took (appending_tidy name bytes)

-- a persist that was refused
pub failed_stays : (old new : Meaning) (writer now : Journal) (mode : PersistMode) → PersistTook writer now mode old new → StaysTidy old new
failed_stays old new writer now mode (inl begun) = stays_part old new writer.name writer.buffer begun.1
failed_stays old new writer now mode (inr (is, synced, inl front)) = appending_stays old new writer.name writer.buffer front
failed_stays old new writer now mode (inr (is, synced, inr whole)) = persist_stays old new writer mode whole
