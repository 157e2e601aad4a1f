-- What was begun: a database without keyspaces, whose journals hold nothing, and which of them is active.
use Rattle.std.specs.Prelude.{◌≡◌, ◌⊎◌, ℕ, ◌<◌, ◌≤◌, ◌^◌, List, [], ◌∷◌}
use Rattle.std.specs.FinMap.{empty}
use Rattle.fjall_base.specs.Disk.{Image, DiskState, IsFile}
use Rattle.fjall_files.specs.Names.{journal_name}
use Rattle.fjall_meta.specs.Keyspaces.{no_keyspaces}
use Rattle.fjall_manifest.specs.Catalog.{fields, first_catalog}
use Rattle.fjall_recovery.specs.Journals.{batches_in}
use Rattle.fjall_recovery.specs.Places.{Journaling, LiesInRoot, RestsInTree, journals_with}
use Rattle.fjall_repair.specs.Plans.{empty_journals}

-- A database without keyspaces rests on the disk: its journals hold nothing, and these are the ids of the sealed ones and that
-- of the active one.
pub record IsBegunOn (state : DiskState) (sealed : List ℕ) (active : ℕ) : Type 0 where
  pub j : Journaling
  pub root : LiesInRoot state j
  pub journals : journals_with j [] ≡ journals_with (empty_journals sealed active) []
  pub active_is : j.active ≡ active
  pub later : j.later ≡ []
  pub batches : batches_in (journals_with j []) ≡ []
  pub tree : RestsInTree state (fields first_catalog ∷ []) (record { last = first_catalog; keyspaces = no_keyspaces; homes = empty; versions = empty })

-- The active journal of a folder whose making goes on: the greatest of those that are there, or 0 where none is.
pub record IsActive (image : Image) (id : ℕ) : Type 0 where
  pub greatest : (other : ℕ) → other < 2 ^ 64 → IsFile (image (journal_name other)) → other ≤ id
  pub there : IsFile (image (journal_name id)) ⊎ (id ≡ 0)
