-- Which names the root and the folder of keyspaces may have.
use Rattle.std.specs.Prelude.{◌≡◌, ◌↔◌, ℕ, ◌<◌, ◌^◌, List, [], codes, Contains}
use Rattle.std.specs.List.Sorted.{IsStrictlyIncreasing}
use Rattle.fjall_base.specs.Disk.{Name, Folder, Image, IsFile, folder_of}
use Rattle.fjall_files.specs.Names.{IsMisnamed, IsNameOf, keyspace_folder}

-- no file of the root is named nearly like a journal
abbrev pub JournalsAreNamed : Image → Type 0
JournalsAreNamed image = (name : Name) → folder_of name ≡ [] → IsFile (image name) → IsMisnamed name → ⊥

-- each folder in `keyspaces` is named by an id
abbrev pub KeyspacesAreNamed : Image → Type 0
KeyspacesAreNamed image = (name : Name) → folder_of name ≡ codes "keyspaces" → image name ≡ Folder → ((id : ℕ) → IsNameOf keyspace_folder name id → ⊥) → ⊥

-- the ids of all folders of keyspaces, ascending
pub record AreFolderIds (image : Image) (ids : List ℕ) : Type 0 where
  pub ascending : IsStrictlyIncreasing ids
  pub each : (id : ℕ) → Contains ids id ↔ (id < 2 ^ 64) × (image (keyspace_folder id) ≡ Folder)
