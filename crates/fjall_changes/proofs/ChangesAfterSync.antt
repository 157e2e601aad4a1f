-- A sync of the journal and a change of the keyspaces behind it.
use Rattle.std.proofs.Common.{◌≡◌, inl, inr, Bool, true, false, [], ◌∷◌, ◌++◌, codes, Result, Ok, Err, OnOk, subst, sym}
use Rattle.std.proofs.lemmas.Bool.{true≢false}
use Rattle.fjall_base.specs.Disk.{LeavesOnly, Meaning, state_in}
use Rattle.fjall_base.specs.declared.error.Error.{Error}
use Rattle.fjall_files.specs.Regions.{Within}
use Rattle.fjall_journal.specs.declared.persist_mode.PersistMode.TheVariants.{SyncAll}
use Rattle.fjall_journal.specs.Writer.{Journal}
use Rattle.fjall_files.specs.Tidy.{StaysTidy}
use Rattle.fjall_manifest.specs.declared.update.Update.{Update}
use Rattle.fjall_manifest.specs.Catalog.{fields}
use Rattle.fjall_manifest.specs.Updates.{IsTableGone}
use Rattle.fjall_recovery.specs.Places.{LiesInTree}
use Rattle.fjall_changes.specs.declared.creation.Creation.{Creation}
use Rattle.fjall_changes.specs.Changes.{HasEither, HasRoomForKeyspace, ForCreation, ForCreationOn, ForDeletionOn, ForNewId, ForUpdate}
use Rattle.fjall_changes.specs.Journaling.{KeepsOtherHomes}
use Rattle.fjall_changes.specs.SyncedChanges.{Persisted, CreatedKeyspace, SyncsThenChanges, DeletedKeyspace}

-- what came of the change, behind a sync that was done
pub changed_after : (Change : Meaning → Meaning → Bool → Type 0) (old mid new : Meaning) (before after : Journal) (r : Result Unit Error) → Persisted old mid before after SyncAll true → OnOk r (Change mid new true) → Change mid new false
    → SyncsThenChanges Change old new before after r
changed_after Change old mid new before after (Ok _) synced done any = record { mid = mid; synced = synced; changed = done }
changed_after Change old mid new before after (Err error) synced done any = inr (record { mid = mid; synced = synced; changed = any })

-- a sync that failed, before any change
pub sync_failed : (Change : Meaning → Meaning → Bool → Type 0) (old new : Meaning) (before after : Journal) (r : Result Unit Error) (error : Error) → r ≡ Err error → Persisted old new before after SyncAll false → SyncsThenChanges Change old new before after r
sync_failed Change old new before after r error is failed = subst (λ (x : Result Unit Error). SyncsThenChanges Change old new before after x) (sym is) (inl failed)

pub not_done : {A : Type 0} → false ≡ true → A
not_done e = absurd (true≢false (sym e))

module _ (mid new : Meaning) (creation : Creation) (within : Within (codes "keyspaces") mid new)
    (leaves : ForCreationOn mid creation (λ records t next. LeavesOnly mid new (HasEither t next)))
    (others : ForNewId creation (λ id number. KeepsOtherHomes id mid new))
    (served : ForCreationOn mid creation (λ records t next. HasRoomForKeyspace (state_in mid) t.keyspaces.next → new.misuses ≡ mid.misuses))
    (kinds : ForNewId creation (λ id number. StaysTidy mid new)) where
  pub created_any : CreatedKeyspace mid new creation false
  created_any = record { within = within; leaves = leaves; lies = λ e. not_done e; others = others; served = served; gone = λ e. not_done e; kinds = kinds }

  pub created : (r : Result Unit Error)
      → ForCreationOn mid creation (λ records t next. OnOk r (LiesInTree (state_in new) (records ++ fields creation.update.catalog ∷ []) next))
      → ForCreation creation (λ old. OnOk r (IsTableGone (state_in new) old))
      → OnOk r (CreatedKeyspace mid new creation true)
  created (Ok _) lies gone = record { within = within; leaves = leaves; lies = λ e. lies; others = others; served = served; gone = λ e. gone; kinds = kinds }
  created (Err error) lies gone = tt

module _ (mid new : Meaning) (update : Update) (within : Within (codes "keyspaces") mid new)
    (leaves : ForDeletionOn mid update (λ records t next. LeavesOnly mid new (HasEither t next)))
    (others : ForUpdate update (λ old. KeepsOtherHomes 0 mid new))
    (served : ForDeletionOn mid update (λ records t next. new.misuses ≡ mid.misuses))
    (kinds : StaysTidy mid new) where
  pub deleted_any : DeletedKeyspace mid new update false
  deleted_any = record { within = within; leaves = leaves; lies = λ e. not_done e; others = others; served = served; gone = λ e. not_done e; kinds = kinds }

  pub deleted : (r : Result Unit Error)
      → ForDeletionOn mid update (λ records t next. OnOk r (LiesInTree (state_in new) (records ++ fields update.catalog ∷ []) next))
      → ForUpdate update (λ old. OnOk r (IsTableGone (state_in new) old))
      → OnOk r (DeletedKeyspace mid new update true)
  deleted (Ok _) lies gone = record { within = within; leaves = leaves; lies = λ e. lies; others = others; served = served; gone = λ e. gone; kinds = kinds }
  deleted (Err error) lies gone = tt
