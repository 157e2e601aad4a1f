-- What the removal of sealed journals does to a disk.
use Rattle.std.specs.Prelude.{◌≡◌, ◌⊎◌, ℕ, Bool, IsTrue, List, [], ◌∷◌, ◌++◌}
use Rattle.std.specs.List.{list_all}
use Rattle.fjall_base.specs.Disk.{Name, DiskState, DiskStep, SyncFolder, Meaning, Took, IsNoFolder, after, removing, state_in}
use Rattle.fjall_files.specs.Names.{journal_name}
use Rattle.fjall_files.specs.Journals.{Sealed, may_go, names_of}

-- a file of the root is removed, where it is there, and the root is synced
abbrev pub evicting_one : DiskState → Name → List DiskStep
evicting_one state name = removing name (state name).now ++ SyncFolder [] ∷ []

-- the same for each of these, in their order
abbrev pub evicting : DiskState → List Name → List DiskStep
evicting state [] = []
evicting state (name ∷ names) = evicting_one state name ++ evicting (after state (evicting_one state name)) names

-- no folder stands at any of these names
abbrev pub HasNoFolders : DiskState → List Name → Type 0
HasNoFolders state [] = Unit {0}
HasNoFolders state (name ∷ names) = IsNoFolder (state name).now × HasNoFolders state names

-- An eviction stopped behind these journals: they are gone from the list, and the next one stands there still. All of them might go.
pub record StoppedBehind (flushed : ℕ → ℕ → Bool) (old new gone : List Sealed) : Type 0 where
  pub next : Sealed
  pub later : List Sealed
  pub all : old ≡ gone ++ next ∷ later
  pub left : new ≡ next ∷ later
  pub each : IsTrue (list_all (may_go flushed) (gone ++ next ∷ []))

-- what the disk took of it: the eviction of all that are gone, and perhaps the removal of the next one
abbrev pub TookEvictions : Meaning → Meaning → List Sealed → Sealed → Type 0
TookEvictions old new gone next =
    let steps = evicting (state_in old) (names_of gone) in
    Took old new steps ⊎ Took old new (steps ++ removing (journal_name next.id) (after (state_in old) steps (journal_name next.id)).now)
