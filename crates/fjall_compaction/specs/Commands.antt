-- When an ingestion is one command: all that journals have of its keyspace is persisted, and its number is above all others.
use Rattle.std.specs.Prelude.{◌≡◌, ◌≢◌, ℕ, ◌<◌, ◌≤◌, ◌^◌, true, List, [], All, map, Option, None}
use Rattle.fjall_meta.specs.Contents.{is_beyond}
use Rattle.fjall_compaction.specs.Covering.{ShowsBatches}
use Rattle.fjall_compaction.specs.Flushes.{HasAt}
use Rattle.fjall_manifest.specs.Homes.{Home}
use Rattle.fjall_journal.specs.Batches.{Shown, shown}
use Rattle.fjall_recovery.specs.Folders.{number_of_contents}
use Rattle.fjall_recovery.specs.Halves.{Tree}
use Rattle.fjall_recovery.specs.Homes.{HaveVersions, stored_of}
use Rattle.fjall_recovery.specs.Journals.{batches_in}
use Rattle.fjall_recovery.specs.Places.{Journaling, contents_with, journals_with}
use Rattle.fjall_table.specs.Blocks.{Entry}
use Rattle.fjall_meta.specs.Replays.{counts, first_fault}

-- the batch has no item and no clear of the keyspace of this id
abbrev pub HasNothingOf : ℕ → Shown → Type 0
HasNothingOf id b = All (λ item. item.keyspace_id ≢ id) b.items × All (λ other. other ≢ id) b.clears

-- all that these batches have of the keyspace of this id is numbered at most its persisted number
abbrev pub ArePersisted : Option ℕ → ℕ → List Shown → Type 0
ArePersisted persisted id batches = All (λ b. is_beyond persisted b.number ≡ true → HasNothingOf id b) batches

-- An ingestion into the keyspace of this id may come now: the keyspace has that home, with these versions in its tables; it lives, and
-- was made under a lesser number; and no number in the folder reaches the ingestion's.
pub record MayCome (j : Journaling) (t : Tree) (id number : ℕ) (h : Home) (versions : List Entry) : Type 0 where
  pub at : HasAt t id h versions
  pub have : HaveVersions t.homes t.versions
  pub lives : counts t.keyspaces number id ≡ true
  pub small : number < 2 ^ 63
  pub above : number_of_contents (contents_with j t j.later) ≤ number
  pub sound : first_fault 0 (map shown (batches_in (journals_with j j.later))) ≡ None

-- It may count where all that the journals have of the keyspace is persisted, whatever is pending of others.
pub record MayIngest (j : Journaling) (t : Tree) (id number : ℕ) (h : Home) (versions : List Entry) : Type 0 where
  pub come : MayCome j t id number h versions
  pub persisted : ArePersisted h.last.persisted id (map shown (batches_in (journals_with j j.later)))

-- And it may count where nothing is pending and memory has nothing of the keyspace to show: to each view what is stored of it shows
-- what the batches make.
pub record MayIngestSynced (j : Journaling) (t : Tree) (id number : ℕ) (h : Home) (versions : List Entry) : Type 0 where
  pub come : MayCome j t id number h versions
  pub synced : j.later ≡ []
  pub memory : ShowsBatches t.keyspaces (stored_of h versions) id (map shown (batches_in (journals_with j j.later))) [] []
