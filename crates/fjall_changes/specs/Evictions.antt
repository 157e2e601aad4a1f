-- Sealed journals are removed, the oldest first: the journals after it, and what a crash leaves of it.
use Rattle.std.specs.Prelude.{◌⊎◌, ℕ, ◌+◌, ◌<◌, ◌≤◌, List, [], drop}
use Rattle.fjall_base.specs.Disk.{DiskState, Image, Meaning, Survives, settle, state_in}
use Rattle.fjall_files.specs.Regions.{IsImageIn}
use Rattle.fjall_journal.specs.Writer.{Journal}
use Rattle.fjall_files.specs.Journals.{Sealed}
use Rattle.fjall_recovery.specs.Halves.{is_of_keyspaces}
use Rattle.fjall_recovery.specs.Places.{Journaling}
use Rattle.fjall_changes.specs.Journaling.{HasSome, IsWriting}
use Rattle.fjall_changes.specs.Rotations.{ListsSealed}

-- the journals without the oldest so many
abbrev pub evicted : ℕ → Journaling → Journaling
evicted n j = record j { sealed = drop n j.sealed }

-- The image's root is sound: at most so many of the oldest journals are gone, and it holds the synced batches of the others and
-- a beginning of the later ones. In `keyspaces` the image has what a crash of that state may leave there.
pub record LeavesEviction (state : DiskState) (j : Journaling) (most : ℕ) (image : Image) : Type 0 where
  pub gone : ℕ
  pub few : gone ≤ most
  pub some : HasSome (evicted gone j) j.later image
  pub elsewhere : IsImageIn Survives is_of_keyspaces state image

-- An eviction of so many journals stopped before its end: fewer are gone, also from the list, and the writer goes on behind the
-- others; or the next one's file is removed too, and once the root is synced the writer goes on behind those without it.
pub record StoppedEvicting (state : DiskState) (writer : Journal) (j : Journaling) (journals : List Sealed) (most : ℕ) : Type 0 where
  pub gone : ℕ
  pub few : gone < most
  pub tells : ListsSealed journals (evicted gone j)
  pub lies : IsWriting state writer (evicted gone j) ⊎ IsWriting (settle state []) writer (evicted (gone + 1) j)

-- for whichever journals a writer goes on behind on this disk, where the list tells of the sealed ones
abbrev pub ForEvicting : Meaning → List Sealed → (Journal → Journaling → Type 0) → Type 0
ForEvicting disk journals Holds = (writer : Journal) (j : Journaling) → IsWriting (state_in disk) writer j → ListsSealed journals j → Holds writer j
