-- What a list is looked through for.
use Rattle.std.specs.Prelude.{◌≡◌, ℕ, List, Any}
use Rattle.fjall_base.specs.declared.disk.DirEntry.{DirEntry}
use Rattle.fjall_base.specs.declared.error.Error.{Error}
use Rattle.fjall_base.specs.declared.error.Error.TheVariants.{JournalRecovery, Unrecoverable}
use Rattle.fjall_base.specs.declared.error.JournalRecoveryError.TheVariants.{InvalidFileName}
use Rattle.fjall_files.specs.declared.lists.Sought.{Sought}
use Rattle.fjall_files.specs.declared.lists.Sought.TheVariants.{Journals, Keyspaces, TablesIn}
use Rattle.fjall_files.specs.Lists.{IsJournal, IsMisnamedFile, IsKeyspace, IsStrayFolder, IsTableIn}

-- the entry is one of these, of that id
abbrev pub Is : Sought → DirEntry → ℕ → Type 0
Is Journals entry id = IsJournal entry id
Is Keyspaces entry id = IsKeyspace entry id
Is (TablesIn folder) entry id = IsTableIn folder.now entry id

-- the entry has the whole list refused, for this error
abbrev pub RefusesList : Sought → DirEntry → Error → Type 0
RefusesList Journals entry error = IsMisnamedFile entry × (error ≡ JournalRecovery InvalidFileName)
RefusesList Keyspaces entry error = IsStrayFolder entry × (error ≡ Unrecoverable)
RefusesList (TablesIn folder) entry error = ⊥

-- some entry of the list has it refused
abbrev pub AnyRefuses : Sought → List DirEntry → Error → Type 0
AnyRefuses sought listed error = Any (λ entry. RefusesList sought entry error) listed
