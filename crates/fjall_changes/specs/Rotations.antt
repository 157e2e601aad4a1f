-- The active journal is sealed and an empty one begins: the journals after it, and what a crash leaves of it.
use Rattle.std.specs.Prelude.{◌≡◌, ◌⊎◌, ℕ, ◌+◌, [], ◌∷◌, ◌++◌, codes, map, List}
use Rattle.fjall_base.specs.Disk.{DiskState, Image, Meaning, Survives, state_in}
use Rattle.fjall_files.specs.Regions.{IsImageIn}
use Rattle.fjall_journal.specs.Writer.{Journal}
use Rattle.fjall_files.specs.Journals.{Sealed}
use Rattle.fjall_recovery.specs.Halves.{HasRoot, is_of_keyspaces}
use Rattle.fjall_recovery.specs.Places.{Journaling, journals_with}
use Rattle.fjall_changes.specs.Journaling.{HasSome, IsWriting, KeepsKeyspaces}

-- the active journal is sealed with all of its batches, and an empty one of the next number is active
abbrev pub rotated : Journaling → Journaling
rotated j = record {
  sealed = j.sealed ++ record { id = j.active; batches = j.whole ++ j.later } ∷ [];
  active = j.active + 1;
  whole = [];
  later = [];
  cut = 0;
}

-- the list tells of the sealed journals: these are their ids, in order
abbrev pub ListsSealed : List Sealed → Journaling → Type 0
ListsSealed journals j = map (λ s. s.id) journals ≡ map (λ s. s.id) j.sealed

-- The image's root is sound: it holds the synced batches and a beginning of the later ones, or all of these and an empty
-- journal behind them. In `keyspaces` the image has what a crash of that state may leave there.
pub record LeavesRotation (state : DiskState) (j : Journaling) (image : Image) : Type 0 where
  pub root : HasSome j j.later image ⊎ HasRoot image (journals_with (rotated j) [])
  pub elsewhere : IsImageIn Survives is_of_keyspaces state image

-- for whichever journals the writer goes on behind on this disk, of which the active one has this number
abbrev pub ForRotating : Meaning → Journal → ℕ → (Journaling → Type 0) → Type 0
ForRotating disk writer id Holds = (j : Journaling) → IsWriting (state_in disk) writer j → j.active ≡ id → Holds j

-- what stands in `keyspaces` stayed, where the name of that folder itself was synced
abbrev pub KeepsSyncedKeyspaces : Meaning → Meaning → Type 0
KeepsSyncedKeyspaces old new = (state_in old (codes "keyspaces")).older ≡ [] → KeepsKeyspaces old new
