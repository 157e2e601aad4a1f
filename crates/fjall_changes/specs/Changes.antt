-- A keyspace that is made or deleted on the disk: the tree before it and after it.
use Rattle.std.specs.Prelude.{◌≡◌, ◌⊎◌, ℕ, List, [], string_bytes, ◌<◌, ◌≤◌, ◌^◌}
use Rattle.fjall_base.specs.Disk.{Image, IsNoFile, IsNoFolder, DiskState, CanMakeFolder, Meaning, Name, folder_of, state_in}
use Rattle.fjall_manifest.specs.Records.{record_text, Fields}
use Rattle.fjall_files.specs.Names.{keyspace_folder, current_name}
use Rattle.fjall_meta.specs.Keyspaces.{AreKeyspaces, Keyspaces, with_keyspace, without_keyspace}
use Rattle.fjall_manifest.specs.declared.catalog.Catalog.{Catalog}
use Rattle.fjall_manifest.specs.Catalog.{fields, first_of}
use Rattle.fjall_manifest.specs.Updates.{IsUpdate}
use Rattle.fjall_recovery.specs.Folders.{AreMade, past_record}
use Rattle.fjall_recovery.specs.Halves.{HasTree, Tree}
use Rattle.fjall_recovery.specs.Places.{HaveSafeHomes, LiesInTree}
use Rattle.fjall_recovery.specs.Homes.{HaveVersions}
use Rattle.fjall_manifest.specs.Homes.{Home}
use Rattle.std.specs.FinMap.{insert, remove}
use Rattle.fjall_changes.specs.declared.creation.Creation.{Creation}
use Rattle.fjall_manifest.specs.declared.update.Update.{Update}
use Rattle.fjall_changes.specs.Removals.{IsUnused}

-- the home of a keyspace that the change of this number made: its first record says so
abbrev pub first_home : ℕ → Home
first_home number = record { last = fields (first_of number); texts = [] }

-- the tree after the change of this number made a keyspace of this name
abbrev pub with_home : List ℕ → List (List ℕ) → ℕ → Catalog → Tree → Tree
with_home name options number next t = record {
  last = next;
  keyspaces = with_keyspace name options number t.keyspaces;
  homes = insert t.homes t.keyspaces.next (first_home number);
  versions = insert t.versions t.keyspaces.next [];
}

-- the tree after the keyspace of this id was deleted
abbrev pub without_home : ℕ → Catalog → Tree → Tree
without_home id next t = record {
  last = next;
  keyspaces = without_keyspace id t.keyspaces;
  homes = remove t.homes id;
  versions = remove t.versions id;
}

-- What is prepared of a creation: the names of the new keyspace's folder and of its file, its first record, and the
-- change of the catalog.
pub record IsCreation (old : Catalog) (s : Keyspaces) (id number : ℕ) (c : Creation) : Type 0 where
  pub folder : string_bytes c.folder ≡ keyspace_folder id
  pub current : string_bytes c.current ≡ current_name id
  pub record_text : c.record_text.items ≡ record_text (fields (first_of number))
  pub update : IsUpdate old s number c.update

-- the keyspaces of an image are those of one tree or of the other
abbrev pub HasEither : Tree → Tree → Image → Type 0
HasEither t next image = HasTree image t ⊎ HasTree image next

-- The keyspaces that are to live next have safe homes already, and were made under numbers that the next record knows.
pub record AreHoused (state : DiskState) (next : Tree) : Type 0 where
  pub are : AreKeyspaces next.keyspaces
  pub made : AreMade next.last next.keyspaces
  pub homes : HaveSafeHomes state next.keyspaces.living next.homes
  pub versions : HaveVersions next.homes next.versions

-- Where the keyspace of this id is to stand there is room: no file in the place of its folder, no folder in that of its file.
pub record HasRoomForKeyspace (state : DiskState) (id : ℕ) : Type 0 where
  pub folder : IsNoFile (state (keyspace_folder id)).now
  pub current : IsNoFolder (state (current_name id)).now

-- ---- of whatever a change was prepared

-- for whichever catalog this update was prepared to follow
abbrev pub ForUpdate : Update → (Catalog → Type 0) → Type 0
ForUpdate update Holds = (old : Catalog) (s : Keyspaces) (number : ℕ) → IsUpdate old s number update → Holds old

-- for whichever tree lies on the disk, and whichever one with safe homes this update leads to from it
abbrev pub ForUpdateOn : Meaning → Update → (List Fields → Tree → Tree → Type 0) → Type 0
ForUpdateOn disk update Holds = (records : List Fields) (t next : Tree) (number : ℕ) → LiesInTree (state_in disk) records t → AreHoused (state_in disk) next
    → next.last ≡ update.catalog → IsUpdate t.last next.keyspaces number update → Holds records t next

-- for whichever tree lies on the disk, and the one without a keyspace that this update deletes
abbrev pub ForDeletionOn : Meaning → Update → (List Fields → Tree → Tree → Type 0) → Type 0
ForDeletionOn disk update Holds = (records : List Fields) (t : Tree) (id number : ℕ) → let next = without_home id update.catalog t in
    LiesInTree (state_in disk) records t → IsUpdate t.last (without_keyspace id t.keyspaces) number update → past_record (fields t.last) ≤ number → Holds records t next

-- for whichever catalog this creation was prepared to follow
abbrev pub ForCreation : Creation → (Catalog → Type 0) → Type 0
ForCreation creation Holds = (old : Catalog) (s : Keyspaces) (id number : ℕ) → IsCreation old s id number creation → Holds old

-- for the id and the number under which this creation was prepared, where the id is one of 64 bits
abbrev pub ForNewId : Creation → (ℕ → ℕ → Type 0) → Type 0
ForNewId creation Holds = (old : Catalog) (s : Keyspaces) (id number : ℕ) → id < 2 ^ 64 → IsCreation old s id number creation → Holds id number

-- for whichever tree lies on the disk, and the one with the keyspace that this creation makes
abbrev pub ForCreationOn : Meaning → Creation → (List Fields → Tree → Tree → Type 0) → Type 0
ForCreationOn disk creation Holds = (records : List Fields) (t : Tree) (name : List ℕ) (options : List (List ℕ)) (number : ℕ) → let next = with_home name options number creation.update.catalog t in
    LiesInTree (state_in disk) records t → IsCreation t.last next.keyspaces t.keyspaces.next number creation → AreKeyspaces next.keyspaces → past_record (fields t.last) ≤ number
    → t.keyspaces.next < 2 ^ 64 → Holds records t next

-- for whichever tree lies on the disk in which no keyspace has the id of this creation
abbrev pub ForHomeOn : Meaning → Creation → (List Fields → Tree → Type 0) → Type 0
ForHomeOn disk creation Holds = (records : List Fields) (t : Tree) (old : Catalog) (s : Keyspaces) (id number : ℕ) → LiesInTree (state_in disk) records t → IsUnused id t.keyspaces
    → IsCreation old s id number creation → Holds records t

-- where some tree lies on the disk and there is room for the home, each call could be served
abbrev pub ServesHome : Meaning → Meaning → Creation → Type 0
ServesHome old new creation = (records : List Fields) (t : Tree) (before : Catalog) (s : Keyspaces) (id number : ℕ) → id < 2 ^ 64 → LiesInTree (state_in old) records t → IsCreation before s id number creation
    → HasRoomForKeyspace (state_in old) id → new.misuses ≡ old.misuses

-- where a folder can stand at its name and no folder stands in the file's place, each call could be served
abbrev pub ServesFirstFile : Meaning → Meaning → Name → Name → Type 0
ServesFirstFile old new folder current = folder_of current ≡ folder → CanMakeFolder (state_in old) folder → IsNoFolder (state_in old current).now → new.misuses ≡ old.misuses
