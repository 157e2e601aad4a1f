-- The two halves of a sound folder: the root with its journals, and the keyspaces.
use Rattle.std.specs.Prelude.{◌≡◌, ℕ, Bool, not, List, codes, Ok}
use Rattle.std.specs.FinMap.{insert}
use Rattle.fjall_base.specs.Disk.{Name, Folder, Image}
use Rattle.fjall_files.specs.Regions.{is_under}
use Rattle.fjall_manifest.specs.Records.{Fields}
use Rattle.fjall_files.specs.declared.marker.Marker.TheVariants.{Whole}
use Rattle.fjall_files.specs.Marker.{marker_tells}
use Rattle.fjall_files.specs.Names.{keyspace_folder}
use Rattle.fjall_meta.specs.Keyspaces.{Keyspaces}
use Rattle.fjall_manifest.specs.declared.catalog.Catalog.{Catalog}
use Rattle.fjall_manifest.specs.Catalog.{Says}
use Rattle.fjall_recovery.specs.Folders.{AreMade, marker_bytes}
use Rattle.fjall_manifest.specs.Homes.{Home}
use Rattle.fjall_table.specs.Blocks.{Entry}
use Rattle.fjall_recovery.specs.Homes.{HaveHomes, HaveVersions, Homes, Versions}
use Rattle.fjall_recovery.specs.Journals.{WholeJournal, HoldsJournals}
use Rattle.fjall_recovery.specs.Naming.{JournalsAreNamed, KeyspacesAreNamed}

-- the folder of all keyspaces and what is in it, at any depth
abbrev pub is_of_keyspaces : Name → Bool
is_of_keyspaces name = is_under (codes "keyspaces") name

-- all else
abbrev pub is_of_root : Name → Bool
is_of_root name = not (is_of_keyspaces name)

-- all but the folder of the keyspace of this id, and what is in it
abbrev pub outside : ℕ → Name → Bool
outside id name = not (is_under (keyspace_folder id) name)

-- the root of an image that is a sound folder, with these journals
pub record HasRoot (image : Image) (journals : List WholeJournal) : Type 0 where
  pub marker : marker_tells (marker_bytes image) ≡ Ok Whole
  pub named : JournalsAreNamed image
  pub holds : HoldsJournals image journals

-- what tree 0's last record says, the keyspaces that live, the home of each of them, and the versions in its tables
pub record Tree : Type 0 where
  pub last : Catalog
  pub keyspaces : Keyspaces
  pub homes : Homes
  pub versions : Versions

-- the tree where the keyspace of this id has that home, with these versions in its tables
abbrev pub with_home_at : ℕ → Home → List Entry → Tree → Tree
with_home_at id h versions t = record {
  last = t.last;
  keyspaces = t.keyspaces;
  homes = insert t.homes id h;
  versions = insert t.versions id versions;
}

-- the keyspaces of an image that is a sound folder
pub record HasTree (image : Image) (t : Tree) : Type 0 where
  pub named : KeyspacesAreNamed image
  pub folder : image (keyspace_folder 0) ≡ Folder
  pub records : List Fields
  pub catalog : Says image records t.last t.keyspaces
  pub made : AreMade t.last t.keyspaces
  pub homes : HaveHomes image t.keyspaces.living t.homes
  pub versions : HaveVersions t.homes t.versions
