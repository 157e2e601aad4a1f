-- What a flush covers: what it takes out of memory, and which batches of the journals that is.
use Rattle.std.specs.Prelude.{◌≡◌, ℕ, ◌+◌, ◌<◌, ◌≤◌, ◌^◌, List, ◌++◌, All, map, true}
use Rattle.fjall_base.specs.Pairs.{Bytes}
use Rattle.fjall_meta.specs.Contents.{Stored, clears_held, is_beyond, versions_held}
use Rattle.fjall_journal.specs.Batches.{Shown, shown}
use Rattle.fjall_jobs.specs.Tasks.{Task}
use Rattle.fjall_meta.specs.Keyspaces.{Keyspaces}
use Rattle.fjall_memtable.specs.Parts.{AreApart, HeldPart, IsHeld, clears_in}
use Rattle.fjall_recovery.specs.Halves.{Tree}
use Rattle.fjall_recovery.specs.Homes.{HaveVersions, stored_of}
use Rattle.fjall_recovery.specs.Journals.{batches_in}
use Rattle.fjall_recovery.specs.Places.{Journaling, journals_with}
use Rattle.fjall_manifest.specs.Homes.{Home}
use Rattle.fjall_memtable.specs.Sorted.{flat}
use Rattle.fjall_table.specs.Blocks.{Entry}
use Rattle.fjall_memtable.specs.Jobs.{OnceEach, Same, flushed}
use Rattle.fjall_memtable.specs.Views.{value_at}
use Rattle.fjall_compaction.specs.Flushes.{Flush, HasAt}

-- What memory holds of a keyspace: to each view, what is stored of it shows with these clears and versions just what it shows with
-- what these batches make beyond it.
abbrev pub ShowsBatches : Keyspaces → Stored → ℕ → List Shown → List ℕ → List Entry → Type 0
ShowsBatches s h id batches clears versions = (key : Bytes) (instant : ℕ)
    → value_at key instant (h.clears ++ clears) (h.versions ++ versions) ≡ value_at key instant (clears_held s h id batches) (versions_held s h id batches)

-- A flush takes these clears and versions out of memory, all that are numbered at most its number, and leaves the others there. What
-- it makes of the versions, in whatever order, are those that its watermark doesn't hide.
pub record FlushCovers (number watermark : ℕ) (clears rest_clears : List ℕ) (versions rest made : List Entry) : Type 0 where
  pub low : All (λ v. v.number ≤ number) versions
  pub low_clears : All (λ n. n ≤ number) clears
  pub high : All (λ v. number < v.number) rest
  pub high_clears : All (λ n. number < n) rest_clears
  pub once : OnceEach versions
  pub made_is : Same made (flushed watermark clears versions)

-- A flush was begun with the first of these parts of a keyspace's memory, and the others stay: the ones end where its number does, or
-- before, and the others begin behind it.
pub record TakesParts (number : ℕ) (task : Task) (taken left : List HeldPart) : Type 0 where
  pub runs : task.runs ≡ map (λ h. h.versions) taken
  pub clears : task.clears ≡ clears_in taken
  pub held : All IsHeld (taken ++ left)
  pub apart : AreApart (taken ++ left)
  pub until : All (λ h. h.until ≤ number + 1) taken
  pub from : All (λ h. number < h.from) left

-- All up to the number was synced: the batches behind the synced ones are numbered above it.
abbrev pub IsSyncedTo : ℕ → Journaling → Type 0
IsSyncedTo number j = All (λ b. number < b.number) j.later

-- The record of a flush of the keyspace of this id may count now. The keyspace has that home, with these versions in its tables;
-- the flush's number is beyond the persisted one, and all up to it was synced; memory shows what all batches make; and the flush
-- takes out of it what is numbered up to its number.
pub record MayCount (j : Journaling) (t : Tree) (id : ℕ) (f : Flush) (lists : List (List Entry)) (h : Home) (versions : List Entry) : Type 0 where
  pub at : HasAt t id h versions
  pub have : HaveVersions t.homes t.versions
  pub beyond : is_beyond h.last.persisted f.number ≡ true
  pub synced : IsSyncedTo f.number j
  pub watermark : ℕ
  pub small : f.number < 2 ^ 63
  pub covered : List Entry
  pub rest : List Entry
  pub rest_clears : List ℕ
  pub memory : ShowsBatches t.keyspaces (stored_of h versions) id (map shown (batches_in (journals_with j j.later))) (f.clears ++ rest_clears) (covered ++ rest)
  pub covers : FlushCovers f.number watermark f.clears rest_clears covered rest (flat lists)
