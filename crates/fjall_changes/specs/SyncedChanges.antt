-- What a sync of the journal, and a change of the keyspaces behind it, make of a disk that returns what it holds.
use Rattle.std.specs.Prelude.{◌≡◌, ◌⊎◌, Bool, true, false, [], ◌∷◌, ◌++◌, codes, Result, Ok, Err}
use Rattle.fjall_base.specs.Disk.{LeavesOnly, Meaning, Took, state_in}
use Rattle.fjall_base.specs.declared.error.Error.{Error}
use Rattle.fjall_files.specs.Regions.{Within}
use Rattle.fjall_files.specs.Tidy.{StaysTidy}
use Rattle.fjall_journal.specs.declared.persist_mode.PersistMode.{PersistMode}
use Rattle.fjall_journal.specs.declared.persist_mode.PersistMode.TheVariants.{SyncAll}
use Rattle.fjall_journal.specs.Writer.{Journal, PersistTook, persist_steps}
use Rattle.fjall_manifest.specs.declared.update.Update.{Update}
use Rattle.fjall_manifest.specs.Catalog.{fields}
use Rattle.fjall_manifest.specs.Updates.{IsTableGone}
use Rattle.fjall_recovery.specs.Halves.{is_of_keyspaces}
use Rattle.fjall_recovery.specs.Places.{LiesInTree}
use Rattle.fjall_changes.specs.Journaling.{IsWriting, LeavesRoot, after_persist, ForWriting, KeepsHomes, KeepsKeyspaces, KeepsOtherHomes}
use Rattle.fjall_changes.specs.declared.creation.Creation.{Creation}
use Rattle.fjall_changes.specs.Changes.{HasEither, HasRoomForKeyspace, ForCreation, ForCreationOn, ForDeletionOn, ForNewId, ForUpdate}

-- All that waited went out in that mode, in just these steps, and where it was done the writer goes on behind it; where it wasn't it
-- stopped in one of them. What stands in `keyspaces` stayed, and so did the homes there wherever else the journal's file is.
pub record Persisted (old new : Meaning) (before after : Journal) (mode : PersistMode) (done : Bool) : Type 0 where
  pub leaves : ForWriting old before (λ j. LeavesOnly old new (LeavesRoot (state_in old) j j.later))
  pub lies : done ≡ true → ForWriting old before (λ j. IsWriting (state_in new) after (after_persist mode j))
  pub elsewhere : ForWriting old before (λ j. KeepsKeyspaces old new)
  pub homes : is_of_keyspaces before.name ≡ false → KeepsHomes old new
  pub served : ForWriting old before (λ j. new.misuses ≡ old.misuses)
  pub kinds : StaysTidy old new
  pub took : done ≡ true → Took old new (persist_steps before mode)
  pub left : done ≡ false → PersistTook before after mode old new

-- A keyspace was made: a crash meanwhile leaves the tree before or the one with it, and where it was done, that one lies
-- on the disk, and tree 0's table of before stands there no more. All other homes stayed.
pub record CreatedKeyspace (mid new : Meaning) (creation : Creation) (done : Bool) : Type 0 where
  pub within : Within (codes "keyspaces") mid new
  pub leaves : ForCreationOn mid creation (λ records t next. LeavesOnly mid new (HasEither t next))
  pub lies : done ≡ true → ForCreationOn mid creation (λ records t next. LiesInTree (state_in new) (records ++ fields creation.update.catalog ∷ []) next)
  pub others : ForNewId creation (λ id number. KeepsOtherHomes id mid new)
  pub served : ForCreationOn mid creation (λ records t next. HasRoomForKeyspace (state_in mid) t.keyspaces.next → new.misuses ≡ mid.misuses)
  pub gone : done ≡ true → ForCreation creation (λ old. IsTableGone (state_in new) old)
  pub kinds : ForNewId creation (λ id number. StaysTidy mid new)

-- the same of a deletion, which leaves all homes but that of tree 0
pub record DeletedKeyspace (mid new : Meaning) (update : Update) (done : Bool) : Type 0 where
  pub within : Within (codes "keyspaces") mid new
  pub leaves : ForDeletionOn mid update (λ records t next. LeavesOnly mid new (HasEither t next))
  pub lies : done ≡ true → ForDeletionOn mid update (λ records t next. LiesInTree (state_in new) (records ++ fields update.catalog ∷ []) next)
  pub others : ForUpdate update (λ old. KeepsOtherHomes 0 mid new)
  pub served : ForDeletionOn mid update (λ records t next. new.misuses ≡ mid.misuses)
  pub gone : done ≡ true → ForUpdate update (λ old. IsTableGone (state_in new) old)
  pub kinds : StaysTidy mid new

-- a sync of the journal, and then such a change
pub record SyncedThenChanged (Change : Meaning → Meaning → Bool → Type 0) (old new : Meaning) (before after : Journal) (done : Bool) : Type 0 where
  pub mid : Meaning
  pub synced : Persisted old mid before after SyncAll true
  pub changed : Change mid new done

-- where the change was refused, the sync failed or what comes behind it
abbrev pub SyncsThenChanges : (Meaning → Meaning → Bool → Type 0) → Meaning → Meaning → Journal → Journal → Result Unit Error → Type 0
SyncsThenChanges Change old new before after (Ok _) = SyncedThenChanged Change old new before after true
SyncsThenChanges Change old new before after (Err error) = Persisted old new before after SyncAll false ⊎ SyncedThenChanged Change old new before after false
