-- `Io` only where the device failed.
use Rattle.std.proofs.Common.{◌≡◌, ℕ, List, ◌<◌, ◌^◌, true, false, refl, sym, subst}
use Rattle.std.proofs.lemmas.Bool.{true≢false}
use Rattle.fjall_base.specs.Disk.{DeviceFailed, IsNoFile, IsNoFolder, Meaning, Name, Place, state_in}
use Rattle.fjall_files.specs.Names.{current_name, keyspace_folder}
use Rattle.fjall_files.specs.Tidy.{IsTidy}
use Rattle.fjall_files.proofs.Fitting.{current_kind, folder_kind}
use Rattle.fjall_recovery.specs.Halves.{is_of_keyspaces}
use Rattle.fjall_recovery.proofs.Named.{current_within, folder_within}
use Rattle.fjall_changes.specs.Changes.{HasRoomForKeyspace}
use Rattle.fjall_base.specs.Errors.{IsFault, Rose}
use Rattle.fjall_base.specs.declared.error.Error.{Error}
use Rattle.fjall_base.specs.declared.error.Error.TheVariants.{Io}
use Rattle.fjall_recovery.specs.Refusals.{HasRisen}
use Rattle.fjall_recovery.specs.Places.{Journaling}
use Rattle.fjall_changes.specs.Journaling.{IsWriting}
use Rattle.fjall_history.specs.declared.reply.Reply.TheVariants.{Refused}
use Rattle.fjall_table.specs.Blocks.{Entry}
use Rattle.fjall_engine.specs.Holding.{Held}
use Rattle.fjall_engine.specs.Durables.{Durable}
use Rattle.fjall_engine.specs.Crashes.{BlamesDevice, is_io}
use Rattle.fjall_engine.specs.Standing.{StandsOn}

-- a refusal that is no fault, and changes nothing
pub refusal_blames : (error : Error) (disk : Meaning) → is_io error ≡ false → BlamesDevice (Refused error) disk disk
refusal_blames (Io kind) disk other = absurd (true≢false other)
refusal_blames error disk other = refl

-- a refusal for which faults rose, if it is `Io`
pub risen_blames : (error : Error) (old new : Meaning) → HasRisen old.faults new.faults error → new.misuses ≡ old.misuses → BlamesDevice (Refused error) old new
risen_blames (Io kind) old new risen served = record { rose = risen; served = served }
risen_blames error old new risen served = served

-- what holds of the active journal's disk holds where the core stands
pub served_on : (entries : ℕ → List (List Entry)) (old : Held) (new : Meaning) (d : Durable) → old.memory.poisoned ≡ false → ((j : Journaling) → IsWriting (state_in old.disk) old.journal j → new.misuses ≡ old.disk.misuses) → StandsOn old entries d → new.misuses ≡ old.disk.misuses
served_on entries old new d well served on =
    let lies = on.lies well in
    served lies.journals (subst (λ (m : Meaning). IsWriting (state_in m) old.journal lies.journals) on.same lies.writing)

pub failed_on : (entries : ℕ → List (List Entry)) (old : Held) (new : Meaning) (d : Durable) → old.memory.poisoned ≡ false → Rose old.disk.faults new.faults → ((j : Journaling) → IsWriting (state_in old.disk) old.journal j → new.misuses ≡ old.disk.misuses) → StandsOn old entries d
    → DeviceFailed old.disk new
failed_on entries old new d well rose served on = record { rose = rose; served = served_on entries old new d well served on }

-- a refusal of what holds of the active journal's disk is a fault of the device
pub fault_blames : (entries : ℕ → List (List Entry)) (old : Held) (new : Meaning) (d : Durable) (error : Error) → old.memory.poisoned ≡ false → IsFault old.disk.faults new.faults error → ((j : Journaling) → IsWriting (state_in old.disk) old.journal j → new.misuses ≡ old.disk.misuses) → StandsOn old entries d
    → BlamesDevice (Refused error) old.disk new
fault_blames entries old new d (Io kind) well cause served on = failed_on entries old new d well cause served on
fault_blames entries old new d error well cause served on = absurd cause

-- where the disk is tidy there is room for a keyspace, also once the journal was synced
pub room_on : (old mid : Meaning) (id : ℕ) → id < 2 ^ 64 → IsTidy (state_in old) → ((q : Name) → is_of_keyspaces q ≡ true → state_in mid q ≡ state_in old q) → HasRoomForKeyspace (state_in mid) id
room_on old mid id small tidy same = record {
  folder = subst (λ (p : Place). IsNoFile p.now) (sym (same (keyspace_folder id) (folder_within id))) (folder_kind (state_in old) id small tidy);
  current = subst (λ (p : Place). IsNoFolder p.now) (sym (same (current_name id) (current_within id))) (current_kind (state_in old) id small tidy);
}
