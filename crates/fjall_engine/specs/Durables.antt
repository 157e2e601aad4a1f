-- What a crash leaves of the engine's commands.
use Rattle.std.specs.Prelude.{All, ◌≡◌, ◌⊎◌, ℕ, ◌<◌, ◌≤◌, ◌^◌, Bool, true, false, List, [], ◌∷◌, ◌++◌, length, map, Ok, Some}
use Rattle.fjall_base.specs.Store.{Store, Command, fold, kept}
use Rattle.fjall_base.specs.Disk.{Image, IsFile, IsImage, Meaning, LeavesOnly, DiskState, state_in}
use Rattle.fjall_journal.specs.Batches.{Written, shown}
use Rattle.fjall_tree.specs.Jobs.{flush_end}
use Rattle.fjall_tree.specs.Trees.{Flushing}
use Rattle.fjall_manifest.specs.Records.{Fields}
use Rattle.fjall_files.specs.declared.marker.Marker.TheVariants.{Whole}
use Rattle.fjall_files.specs.Marker.{marker_tells}
use Rattle.fjall_files.specs.Names.{journal_name}
use Rattle.fjall_meta.specs.Contents.{journal_beyond}
use Rattle.fjall_files.specs.Journals.{Journals}
use Rattle.fjall_files.specs.Telling.{AreMarksOf}
use Rattle.fjall_replay.specs.Known.{IsKnown}
use Rattle.fjall_recovery.specs.Homes.{stored_in}
use Rattle.fjall_recovery.specs.Journals.{batches_in}
use Rattle.fjall_replay.specs.Beside.{AreReplayedWith}
use Rattle.fjall_table.specs.Blocks.{Entry}
use Rattle.fjall_trees.specs.Forests.{Planted}
use Rattle.fjall_recovery.specs.Folders.{marker_bytes, number_of_contents, store_of_contents}
pub use Rattle.fjall_recovery.specs.Amid.{IsBeginning, StandsAmid}
use Rattle.fjall_recovery.specs.Halves.{Tree}
use Rattle.fjall_recovery.specs.Places.{Journaling, LiesInTree, contents_with, journals_with}
use Rattle.fjall_changes.specs.Journaling.{IsWriting}
use Rattle.fjall_changes.specs.Watermarks.{AreMarked}
use Rattle.fjall_engine.specs.Holding.{Held}

-- What a reopening would know: the store that the synced bytes make, and the commands behind it.
pub record Durable : Type 0 where
  pub meaning : Meaning
  pub base : Store
  pub pending : List Command

-- a crash now leaves the base with a beginning of what is pending
abbrev pub CrashLeavesPending : Durable → Type 0
CrashLeavesPending d = (image : Image) → IsImage (state_in d.meaning) image → StandsAmid d.base [] d.pending image

-- an image of a folder whose making was finished, and some journal's file stands in it
pub record IsFinishedImage (image : Image) : Type 0 where
  pub marker : marker_tells (marker_bytes image) ≡ Ok Whole
  pub id : ℕ
  pub fits : id < 2 ^ 64
  pub journal : IsFile (image (journal_name id))

-- a crash now leaves such a folder
abbrev pub StaysFinished : DiskState → Type 0
StaysFinished state = (image : Image) → IsImage state image → IsFinishedImage image

-- From old to new, while these commands were tried: each crash since old leaves the base with a beginning of what was
-- pending and what was tried, and some beginning of those is in the new base.
pub record Passes (old : Durable) (tried : List Command) (new : Durable) : Type 0 where
  pub leaves : LeavesOnly old.meaning new.meaning (StandsAmid old.base [] (old.pending ++ tried))
  pub safe : List Command
  pub base : kept new.base ≡ kept (fold old.base safe)
  pub rest : safe ++ new.pending ≡ old.pending ++ tried
  pub rests : CrashLeavesPending new

-- What is known of journals tells of these: the sealed ones by their numbers and with their watermarks, the number of the active
-- one, and the watermarks of all batches that were handed to that.
pub record AreKnown (j : Journaling) (known : Journals) : Type 0 where
  pub sealed : AreMarked known.sealed j.sealed
  pub active : j.active ≡ known.active
  pub marks : AreMarksOf (map shown (j.whole ++ j.later)) known.watermarks

-- How base and pending lie on the disk of a core: the synced batches and tree 0 make the base, the batches behind them
-- are pending, and the core's writer, what it knows of journals, its catalog and keyspaces go on from there.
pub record Lies (core : Held) (d : Durable) : Type 0 where
  pub journals : Journaling
  pub records : List Fields
  pub tree : Tree
  pub writing : IsWriting (state_in d.meaning) core.journal journals
  pub in_tree : LiesInTree (state_in d.meaning) records tree
  pub told : AreKnown journals core.memory.journals
  pub last : tree.last ≡ core.catalog
  pub keyspaces : tree.keyspaces ≡ core.memory.keyspaces
  pub made : kept d.base ≡ store_of_contents (contents_with journals tree [])
  pub waits : d.pending ≡ journal_beyond tree.keyspaces (stored_in tree.homes tree.versions) (map shown journals.later)
  pub next : number_of_contents (contents_with journals tree journals.later) ≤ core.memory.next

-- Where a flush is out of a tree, the parts of memory that it takes are there, and all that it covers was synced before it began: the
-- batches that aren't synced yet are numbered from where the parts begin that it leaves.
abbrev pub CoversSynced : List Written → Planted → Type 0
CoversSynced later k =
    (out : Flushing) → k.shape.flush ≡ Some out → (out.count ≤ length k.shape.memory.sealed) × All (λ b. flush_end k.shape ≤ b.number) later

-- What the core knows of its keyspaces' homes, where its tables have these entries: its trees show what files hold and what all
-- batches make beyond that; the home of each keyspace is known; and flushes that are out cover what was synced.
pub record Knows (core : Held) (entries : ℕ → List (List Entry)) (j : Journaling) (t : Tree) : Type 0 where
  pub shown : AreReplayedWith entries t.keyspaces (stored_in t.homes t.versions) (map shown (batches_in (journals_with j j.later))) core.memory.trees
  pub homes : All (IsKnown core.memory.records core.memory.trees entries t.homes t.versions) t.keyspaces.living
  pub covered : All (CoversSynced j.later) core.memory.trees

-- base and pending make the present, but that after a fault the last one may be pending that isn't there
abbrev pub MakesPresent : Bool → Durable → Store → Type 0
MakesPresent false d store = kept (fold d.base d.pending) ≡ kept store
MakesPresent true d store =
    (kept (fold d.base d.pending) ≡ kept store)
    ⊎ ((front : List Command) × (last : Command) × (d.pending ≡ front ++ last ∷ []) × (kept (fold d.base front) ≡ kept store))
