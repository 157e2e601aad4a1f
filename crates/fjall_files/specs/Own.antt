-- The engine's own files in a keyspace's folder.
use Rattle.std.specs.Prelude.{◌≡◌, ◌≢◌, ◌⊎◌, ℕ, ◌++◌, IsFalse, List, All, Contains, codes, decimal, map, string_bytes}
use Rattle.fjall_base.specs.Disk.{Name, Missing, IsNoFolder, DiskState, folder_of}
use Rattle.fjall_base.specs.declared.disk.DirEntry.{DirEntry}
use Rattle.fjall_files.specs.Names.{IsNameOf, current_name, keyspace_folder, name_in, table_name}
use Rattle.fjall_files.specs.declared.own.OwnFiles.{OwnFiles}

-- what the engine calls a file in a keyspace's folder: that of its records, or a table
abbrev pub IsOwnFileName : List ℕ → Type 0
IsOwnFileName file = (file ≡ codes "current") ⊎ ((n : ℕ) × IsNameOf (λ table. decimal table ++ codes ".table") file n)

-- such a name in this folder, from the root on
abbrev pub IsOwnIn : Name → Name → Type 0
IsOwnIn folder name = (name ≡ folder ++ codes "/current") ⊎ ((n : ℕ) × IsNameOf (name_in folder) name n)

-- a file that stands in this folder under such a name
abbrev pub IsOwnFile : Name → DirEntry → Type 0
IsOwnFile folder entry = IsFalse entry.is_folder × IsOwnIn folder (string_bytes entry.name)

-- a name that the engine gives in the folder of this id: that of its records, or of a table
abbrev pub IsOwn : ℕ → Name → Type 0
IsOwn id name = (name ≡ current_name id) ⊎ ((n : ℕ) × IsNameOf (table_name id) name n)

-- all that stands in the folder of this id are files with the engine's own names
abbrev pub HoldsOnlyOwn : DiskState → ℕ → Type 0
HoldsOnlyOwn state id = (name : Name) → folder_of name ≡ keyspace_folder id → (state name).now ≢ Missing → IsOwn id name × IsNoFolder (state name).now

-- The folder of this id, and the names of all that stands in it: each of them right in it, and one that the engine gives.
pub record AreOwnFiles (state : DiskState) (id : ℕ) (own : OwnFiles) : Type 0 where
  pub folder_is : string_bytes own.folder ≡ keyspace_folder id
  pub inside : All (λ file. folder_of (string_bytes file) ≡ keyspace_folder id) own.files.items
  pub named : All (λ file. IsOwn id (string_bytes file)) own.files.items
  pub whole : (name : Name) → folder_of name ≡ keyspace_folder id → (state name).now ≢ Missing → Contains (map string_bytes own.files.items) name
