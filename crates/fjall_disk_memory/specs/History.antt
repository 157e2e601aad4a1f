-- How the logic stores the steps of a history.
use Rattle.std.specs.Prelude.{◌≡◌, ◌⊎◌, ℕ, Bool, true, false, List, refl}
use Rattle.std.specs.Coded.{Coded, code_by, coded_ℕ, coded_bool, coded_list, coded×, coded⊎}
use mathlib.Core.Logic.{inl, inr}
use Rattle.fjall_base.specs.Disk.{Name, DiskEntry, Missing, File, Folder, DiskStep, Put, Append, Sync, Loosen, Cut, SyncFolder}

abbrev coded_bytes : Coded (List ℕ)
coded_bytes = coded_list coded_ℕ

-- an entry as a file's two lists of bytes, or as whether a folder stands there
abbrev EntryParts : Type 0
EntryParts = (List ℕ × List ℕ) ⊎ Bool

abbrev of_entry : DiskEntry → EntryParts
of_entry (File synced unsynced) = inl (synced, unsynced)
of_entry Folder = inr true
of_entry Missing = inr false

abbrev to_entry : EntryParts → DiskEntry
to_entry (inl file) = File file.0 file.1
to_entry (inr true) = Folder
to_entry (inr false) = Missing

pub same_entry : (entry : DiskEntry) → to_entry (of_entry entry) ≡ entry
same_entry (File synced unsynced) = refl
same_entry Folder = refl
same_entry Missing = refl

abbrev coded_entry : Coded DiskEntry
coded_entry = code_by EntryParts (coded⊎ (coded× coded_bytes coded_bytes) coded_bool) of_entry to_entry same_entry

-- what a step has beside its name: an entry, bytes, where it loosens or cuts, or whether it syncs a folder
abbrev Rest : Type 0
Rest = DiskEntry ⊎ (List ℕ ⊎ ((ℕ ⊎ ℕ) ⊎ Bool))

abbrev of_step : DiskStep → Name × Rest
of_step (Put name entry) = (name, inl entry)
of_step (Append name bytes) = (name, inr (inl bytes))
of_step (Loosen name len) = (name, inr (inr (inl (inl len))))
of_step (Cut name len) = (name, inr (inr (inl (inr len))))
of_step (SyncFolder folder) = (folder, inr (inr (inr true)))
of_step (Sync name) = (name, inr (inr (inr false)))

abbrev step_at : Name → Rest → DiskStep
step_at name (inl entry) = Put name entry
step_at name (inr (inl bytes)) = Append name bytes
step_at name (inr (inr (inl (inl len)))) = Loosen name len
step_at name (inr (inr (inl (inr len)))) = Cut name len
step_at name (inr (inr (inr true))) = SyncFolder name
step_at name (inr (inr (inr false))) = Sync name

abbrev to_step : Name × Rest → DiskStep
to_step parts = step_at parts.0 parts.1

pub same_step : (step : DiskStep) → to_step (of_step step) ≡ step
same_step (Put name entry) = refl
same_step (Append name bytes) = refl
same_step (Loosen name len) = refl
same_step (Cut name len) = refl
same_step (SyncFolder folder) = refl
same_step (Sync name) = refl

abbrev coded_rest : Coded Rest
coded_rest = coded⊎ coded_entry (coded⊎ coded_bytes (coded⊎ (coded⊎ coded_ℕ coded_ℕ) coded_bool))

abbrev pub coded_steps : Coded (List DiskStep)
coded_steps = coded_list (code_by (Name × Rest) (coded× coded_bytes coded_rest) of_step to_step same_step)
