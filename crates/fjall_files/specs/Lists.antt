-- What the list of a folder tells of journals, keyspaces and tables.
use Rattle.std.specs.Prelude.{◌↔◌, ℕ, List, Any, IsTrue, IsFalse, string_bytes}
use Rattle.std.specs.List.{Contains}
use Rattle.std.specs.List.Sorted.{IsStrictlyIncreasing}
use Rattle.fjall_base.specs.Disk.{Name}
use Rattle.fjall_base.specs.declared.disk.DirEntry.{DirEntry}
use Rattle.fjall_files.specs.Names.{IsJournalName, IsMisnamed, IsNameOf, keyspace_folder, name_in}

-- the file of the journal of that id
abbrev pub IsJournal : DirEntry → ℕ → Type 0
IsJournal entry id = IsFalse entry.is_folder × IsJournalName (string_bytes entry.name) id

-- a file that is named nearly like a journal
abbrev pub IsMisnamedFile : DirEntry → Type 0
IsMisnamedFile entry = IsFalse entry.is_folder × IsMisnamed (string_bytes entry.name)

-- the folder of the keyspace of that id
abbrev pub IsKeyspace : DirEntry → ℕ → Type 0
IsKeyspace entry id = IsTrue entry.is_folder × IsNameOf keyspace_folder (string_bytes entry.name) id

-- a folder that is no keyspace's
abbrev pub IsStrayFolder : DirEntry → Type 0
IsStrayFolder entry = IsTrue entry.is_folder × ((id : ℕ) → IsNameOf keyspace_folder (string_bytes entry.name) id → ⊥)

-- the file of the table of that id, in that folder
abbrev pub IsTableIn : Name → DirEntry → ℕ → Type 0
IsTableIn folder entry id = IsFalse entry.is_folder × IsNameOf (name_in folder) (string_bytes entry.name) id

-- the ids of all entries that are as said: ascending, each once, and no others
pub record AreIds (Is : DirEntry → ℕ → Type 0) (listed : List DirEntry) (ids : List ℕ) : Type 0 where
  pub ascending : IsStrictlyIncreasing ids
  pub each : (id : ℕ) → Contains ids id ↔ Any (λ entry. Is entry id) listed
