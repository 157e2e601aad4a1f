-- What a disk holds in the midst of work: a crash leaves a store with some of the commands that still wait.
use Rattle.std.specs.Prelude.{◌≡◌, ℕ, ◌<◌, ◌^◌, List, [], ◌∷◌, ◌++◌}
use Rattle.fjall_base.specs.Store.{Store, Command, fold, kept}
use Rattle.fjall_base.specs.Disk.{Name, DiskState, Image, IsFile, IsImage, LeavesOnly, Meaning, SomeSurvives, standing, state_in}
use Rattle.fjall_files.specs.Names.{journal_name}
use Rattle.fjall_recovery.specs.Folders.{Contents, ImageStandsFor, IsOpenable, IsUnfinished}

-- ---- a store with some of the commands

-- the second list begins with the first
abbrev pub IsBeginning : List Command → List Command → Type 0
IsBeginning front commands = (rest : List Command) × (front ++ rest ≡ commands)

-- The image stands for the base and a beginning of all these commands, which has at least those.
pub record StandsAmid (base : Store) (least all : List Command) (image : Image) : Type 0 where
  pub front : List Command
  pub holds : IsBeginning least front
  pub within : IsBeginning front all
  pub stands : ImageStandsFor image (kept (fold base front))

-- ---- a folder whose making was cut short

-- Each of these entries is what a crash may leave at its name, where the folder that the name is in is there or comes back.
abbrev pub AreLeft : DiskState → Image → Type 0
AreLeft state image = (name : Name) → SomeSurvives ((state name).now ∷ (state name).older) (image name)

-- A folder whose making was cut short is all that a crash may leave, and all that may come back where a folder is made
-- that is not there.
abbrev pub ComesBackUnfinished : DiskState → Type 0
ComesBackUnfinished state = (image : Image) → AreLeft state image → IsUnfinished image

-- ---- the disk

-- What stands on the disk stands for the base and a beginning of the commands that are pending, and so does whatever a crash
-- leaves of it, perhaps with another beginning. Where what stands is finished and has no journal, a crash brings none back.
-- Where what stands is unfinished, so is whatever may come back.
pub record HoldsAmid (state : DiskState) (base : Store) (pending : List Command) : Type 0 where
  pub now : StandsAmid base [] pending (standing state)
  pub crash : (image : Image) → IsImage state image → StandsAmid base [] pending image
  pub journals : (c : Contents) → IsOpenable (standing state) c → c.journals ≡ [] → (image : Image) → IsImage state image → (id : ℕ) → id < 2 ^ 64 → IsFile (image (journal_name id)) → ⊥
  pub back : IsUnfinished (standing state) → ComesBackUnfinished state

-- ---- what calls keep of it

-- this is so where the disk holds some base with some pending commands
abbrev pub WhereAmid : Meaning → Type 0 → Type 0
WhereAmid disk P = (base : Store) (pending : List Command) → HoldsAmid (state_in disk) base pending → P

-- where the disk holds a base with pending commands, a crash at any moment leaves the base with a beginning of them
abbrev pub LeavesAmid : Meaning → Meaning → Type 0
LeavesAmid old new = (base : Store) (pending : List Command) → HoldsAmid (state_in old) base pending → LeavesOnly old new (StandsAmid base [] pending)

-- where the disk holds a base with pending commands, it holds them still
abbrev pub KeepsAmid : Meaning → Meaning → Type 0
KeepsAmid old new = (base : Store) (pending : List Command) → HoldsAmid (state_in old) base pending → HoldsAmid (state_in new) base pending
