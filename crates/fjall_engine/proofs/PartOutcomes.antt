-- What came of the parts of a call.
use Rattle.std.proofs.Common.{◌≡◌, ℕ, ◌≤◌, Bool, true, false, if◌then◌else◌, is_none, [], Option, Result, Ok, Err, OnOk, refl, sym, ◌∙◌, ap, subst}
use Rattle.std.proofs.lemmas.Bool.{true≢false}
use Rattle.fjall_base.specs.Disk.{HasCause, Took}
use Rattle.fjall_base.specs.Errors.{IsFault, IsFaultOrMemory}
use Rattle.fjall_base.specs.declared.error.Error.{Error}
use Rattle.fjall_base.specs.declared.error.Error.TheVariants.{Io, OutOfMemory}
use Rattle.fjall_journal.specs.declared.persist_mode.PersistMode.{PersistMode}
use Rattle.fjall_journal.specs.Changes.{Change, change_text, of_change}
use Rattle.fjall_journal.specs.Writer.{BatchTook, after_command, batch_steps, written_out}
use Rattle.fjall_meta.specs.Keyspaces.{Keyspaces, without_keyspace}
use Rattle.fjall_manifest.specs.declared.update.Update.{Update}
use Rattle.fjall_manifest.specs.Updates.{IsUpdate}
use Rattle.fjall_changes.specs.declared.creation.Creation.{Creation}
use Rattle.fjall_changes.specs.Changes.{IsCreation}
use Rattle.fjall_changes.specs.Journaling.{is_out}
use Rattle.fjall_changes.specs.Removals.{RemovesOwn}
use Rattle.fjall_machine.specs.Remembered.{poisoned, with_change}
use Rattle.fjall_engine.specs.Holding.{Held}
use Rattle.fjall_engine.specs.Crashes.{is_io}
use Rattle.fjall_changes.specs.SyncedChanges.{CreatedKeyspace, SyncsThenChanges, DeletedKeyspace}
use Rattle.fjall_engine.specs.CallParts.{FilesGone, Makes, Removes, Unmakes, WentOut, Writes}

-- ---- a change

module _ (honest : Type 0) (old : Held) (change : Change) (mode : Option PersistMode) (n : ℕ) (numbered : n ≡ old.memory.next) where
  abbrev pub Went : Held → Bool → Type 0
  Went new done = honest → WentOut old.disk new.disk old.journal new.journal (of_change change n) mode done

  abbrev Done : Held → ℕ → Type 0
  Done new m =
      (new ≡ record old { disk = new.disk; memory = with_change change old.memory; journal = after_command (is_none mode) old.journal (change_text change m) }) × (old.disk.faults ≤ new.disk.faults)
      × (honest → Took old.disk new.disk (batch_steps mode old.journal (change_text change m)))
      × (honest → WentOut old.disk new.disk old.journal new.journal (of_change change m) mode true)
      × (is_out mode old.journal (of_change change m) ≡ false → new.disk ≡ old.disk)

  pub write_done : (new : Held) → new ≡ record old { disk = new.disk; memory = with_change change old.memory; journal = after_command (is_none mode) old.journal (change_text change n) } → old.disk.faults ≤ new.disk.faults
      → (honest → Took old.disk new.disk (batch_steps mode old.journal (change_text change n))) → Went new true → (is_out mode old.journal (of_change change n) ≡ false → new.disk ≡ old.disk)
      → Writes honest old change mode (Ok tt) new
  write_done new is faults took went waits = subst (Done new) numbered (is, faults, took, went, waits)

  abbrev Failed : Held → ℕ → Type 0
  Failed mid m =
      (honest → BatchTook mode old.disk mid.disk old.journal (change_text change m))
      × (honest → WentOut old.disk mid.disk old.journal mid.journal (of_change change m) mode false)
      × (is_out mode old.journal (of_change change m) ≡ true)

  went_there : (b : Bool) (error : Error) → is_io error ≡ true → (b ≡ false → error ≡ OutOfMemory) → b ≡ true
  went_there true error io faultless = refl
  went_there false error io faultless = let bad : is_io error ≡ false = ap is_io (faultless refl) in absurd (true≢false (sym io ∙ bad))

  pub write_failed : (mid new : Held) (error : Error) → mid ≡ record old { disk = mid.disk; journal = mid.journal } → new ≡ (if is_io error then record mid { memory = poisoned mid.memory } else mid) → IsFaultOrMemory old.disk.faults mid.disk.faults error
      → (error ≡ OutOfMemory → mid.journal ≡ old.journal) → (error ≡ OutOfMemory → mid.disk ≡ old.disk)
      → (honest → BatchTook mode old.disk mid.disk old.journal (change_text change n)) → Went mid false → (is_out mode old.journal (of_change change n) ≡ false → error ≡ OutOfMemory)
      → Writes honest old change mode (Err error) new
  write_failed mid new (Io fault) same is cause journal disk took went faultless =
      let all = subst (Failed mid) numbered (took, went, went_there (is_out mode old.journal (of_change change n)) (Io fault) refl faultless) in
      subst (λ (h : Held). Writes honest old change mode (Err (Io fault)) h) (sym is) (ap (λ (h : Held). poisoned h.memory) same, cause, all.0, all.1, all.2)
  write_failed mid new OutOfMemory same is cause journal disk took went faultless = (is ∙ same ∙ (λ i. record old { disk = disk refl i; journal = journal refl i }), refl)
  write_failed mid new error same is cause journal disk took went faultless = absurd cause

-- ---- changes of the keyspaces

module _ (honest : Type 0) (old new : Held) (id number : ℕ) (s : Keyspaces) (held : s ≡ old.memory.keyspaces) (creation : Creation) (prepared : IsCreation old.catalog s id number creation) where
  is_prepared : IsCreation old.catalog old.memory.keyspaces id number creation
  is_prepared = subst (λ k. IsCreation old.catalog k id number creation) held prepared

  pub make_done : new ≡ record old { disk = new.disk; catalog = creation.update.catalog; journal = written_out old.journal } → old.disk.faults ≤ new.disk.faults
      → (honest → SyncsThenChanges (λ mid now done. CreatedKeyspace mid now creation done) old.disk new.disk old.journal new.journal (Ok tt)) → Makes honest old id number (Ok tt) new
  make_done is faults turned = (creation, is_prepared, is, faults, turned)

  pub make_failed : (error : Error) → new.memory ≡ old.memory → new.catalog ≡ old.catalog → IsFault old.disk.faults new.disk.faults error
      → (honest → SyncsThenChanges (λ mid now done. CreatedKeyspace mid now creation done) old.disk new.disk old.journal new.journal (Err error)) → Makes honest old id number (Err error) new
  make_failed (Io kind) memory catalog cause turned = (creation, is_prepared, memory, catalog, cause, turned)
  make_failed error memory catalog cause turned = absurd cause

module _ (honest : Type 0) (old new : Held) (id number : ℕ) (s : Keyspaces) (held : s ≡ old.memory.keyspaces) (numbered : number ≡ old.memory.next) (update : Update) (prepared : IsUpdate old.catalog (without_keyspace id s) number update) where
  is_update : IsUpdate old.catalog (without_keyspace id old.memory.keyspaces) old.memory.next update
  is_update = subst (λ n. IsUpdate old.catalog (without_keyspace id old.memory.keyspaces) n update) numbered (subst (λ k. IsUpdate old.catalog (without_keyspace id k) number update) held prepared)

  pub unmake_done : new ≡ record old { disk = new.disk; catalog = update.catalog; journal = written_out old.journal } → old.disk.faults ≤ new.disk.faults
      → (honest → SyncsThenChanges (λ mid now done. DeletedKeyspace mid now update done) old.disk new.disk old.journal new.journal (Ok tt)) → Unmakes honest old id (Ok tt) new
  unmake_done is faults turned = (update, is_update, is, faults, turned)

  pub unmake_failed : (error : Error) → new.memory ≡ old.memory → new.catalog ≡ old.catalog → IsFault old.disk.faults new.disk.faults error
      → (honest → SyncsThenChanges (λ mid now done. DeletedKeyspace mid now update done) old.disk new.disk old.journal new.journal (Err error)) → Unmakes honest old id (Err error) new
  unmake_failed (Io kind) memory catalog cause turned = (update, is_update, memory, catalog, cause, turned)
  unmake_failed error memory catalog cause turned = absurd cause

-- ---- a removal

pub remove_failed : (honest : Type 0) (old new : Held) (id : ℕ) (error : Error) → new ≡ record old { disk = new.disk } → old.disk.faults ≤ new.disk.faults → IsFaultOrMemory old.disk.faults new.disk.faults error
    → (honest → FilesGone id old.disk new.disk) → (honest → error ≡ OutOfMemory → Took old.disk new.disk []) → Removes honest old id (Err error) new
remove_failed honest old new id (Io kind) same later cause gone took = (same, cause, gone)
remove_failed honest old new id OutOfMemory same later cause gone took = (same, refl, later, gone, λ h. took h refl)
remove_failed honest old new id error same later cause gone took = absurd cause

-- what came of a removal
pub removal_comes : (honest : Type 0) (old new : Held) (id : ℕ) (result : Result Unit Error) → new ≡ record old { disk = new.disk } → HasCause old.disk new.disk result → (honest → FilesGone id old.disk new.disk)
    → (honest → OnOk result (RemovesOwn id old.disk new.disk)) → (honest → result ≡ Err OutOfMemory → Took old.disk new.disk []) → Removes honest old id result new
removal_comes honest old new id (Ok done) same has gone removed took = (same, has.later, gone, removed)
removal_comes honest old new id (Err error) same has gone removed took = remove_failed honest old new id error same has.later has.cause gone (λ h is. took h (ap Err is))
