-- What holds of a whole ingestion.
use Rattle.std.proofs.Common.{◌≡◌, ◌⊎◌, inl, inr, ℕ, ◌+◌, List, [], ◌∷◌, ◌++◌, map, Some, true, refl, sym, ◌∙◌, subst, codes}
use Rattle.std.specs.FinMap.{get, insert}
use Rattle.std.proofs.lemmas.List.{append-nil}
use Rattle.fjall_base.specs.Disk.{Image, LeavesOnly, Meaning, state_in}
use Rattle.fjall_base.specs.Store.{Store, apply, kept}
use Rattle.fjall_table_reader.specs.Readers.{Reader}
use Rattle.fjall_meta.specs.Contents.{is_beyond}
use Rattle.fjall_files.specs.Names.{keyspace_folder}
use Rattle.fjall_files.specs.Regions.{Within}
use Rattle.fjall_compaction.specs.FlushFinishing.{AreTreesKnown}
use Rattle.fjall_compaction.specs.Flushes.{Follows, flushed_infos}
use Rattle.fjall_compaction.proofs.Composed.{seen}
use Rattle.fjall_compaction.proofs.SameNumber.{apart}
use Rattle.fjall_manifest.specs.Homes.{Home}
use Rattle.fjall_manifest.proofs.Outside.{within_keyspaces}
use Rattle.fjall_jobs.specs.declared.made_table.MadeTable.{MadeTable}
use Rattle.fjall_jobs.specs.Tasks.{IsFlushed}
use Rattle.fjall_journal.specs.Batches.{Written}
use Rattle.fjall_replay.specs.Known.{LastFields, last_known}
use Rattle.fjall_tree.specs.Ingestions.{has_memory, ingested, memory_task}
use Rattle.fjall_tree.specs.Trees.{Shape, clears_of}
use Rattle.fjall_meta.specs.declared.living.LivingKeyspace.{LivingKeyspace}
use Rattle.fjall_memtable.specs.Parts.{clears_in, parts_of}
use Rattle.fjall_recovery.specs.Amid.{StandsAmid}
use Rattle.fjall_recovery.specs.Folders.{number_of_contents, store_of_contents}
use Rattle.fjall_recovery.specs.Halves.{HasRoot, HasTree, Tree, is_of_root}
use Rattle.fjall_recovery.specs.Places.{Journaling, LiesInRoot, contents_with, journals_with}
use Rattle.fjall_recovery.proofs.Holding.{made}
use Rattle.fjall_recovery.proofs.Roots.{crashes_leave_the_root}
use Rattle.fjall_memtable.specs.Sorted.{flat}
use Rattle.fjall_table.specs.Blocks.{Entry}
use Rattle.fjall_manifest.specs.Records.{Fields}
use Rattle.fjall_trees.specs.Forests.{Forest, altered_at}
use Rattle.fjall_trees.specs.Tables.{entries_with, shape_in}
use Rattle.fjall_reading.specs.Ingestions.{KeyOp}
use Rattle.fjall_compaction.specs.Ingests.{ingestion, tree_with}
use Rattle.fjall_compaction.specs.IngestionPlans.{AreIngestionTables}
use Rattle.fjall_compaction.specs.Whole.{CanIngest, home_flushed, last_flushed, last_ingested, memory_flush, tree_behind, tree_between, versions_flushed}
use Rattle.fjall_compaction.proofs.Crashes.{base_kept, none_behind, synced_stands}
use Rattle.fjall_compaction.proofs.Numbers.{own_number}
use Rattle.fjall_compaction.proofs.WholeAfter.{are_known}
use Rattle.fjall_compaction.proofs.WholeBetween as Between
use Rattle.fjall_compaction.proofs.WholeBetween.{IsBetween}

-- ---- the flush of memory

-- the record that is kept is the home's
pub whole_last : (j : Journaling) (t : Tree) (trees : Forest) (entries : ℕ → List (List Entry)) (records : LastFields) (k : LivingKeyspace) (n : ℕ) → CanIngest j t trees entries records k n
    → (h : Home) → get t.homes k.id ≡ Some h → last_known records k ≡ h.last
whole_last j t trees entries records k n can h home = Between.last_is j t trees entries records k n can h home

-- the flush follows it
pub whole_follows : (j : Journaling) (t : Tree) (trees : Forest) (entries : ℕ → List (List Entry)) (records : LastFields) (k : LivingKeyspace) (n : ℕ) → CanIngest j t trees entries records k n
    → (watermark : ℕ) (flushes : List MadeTable) (flushed : IsFlushed (memory_task k.id watermark (shape_in k.id trees).memory) flushes (clears_in (parts_of (shape_in k.id trees).memory))) → (h : Home)
    → get t.homes k.id ≡ Some h → has_memory (shape_in k.id trees).memory ≡ true → Follows (memory_flush (shape_in k.id trees) flushes) flushed.lists h.last
whole_follows j t trees entries records k n can watermark flushes flushed h home some = Between.follows_last j t trees entries records k n can h home some watermark flushes flushed

-- and the ingestion's number is beyond what is persisted then
pub whole_beyond : (j : Journaling) (t : Tree) (trees : Forest) (entries : ℕ → List (List Entry)) (records : LastFields) (k : LivingKeyspace) (n : ℕ) → CanIngest j t trees entries records k n
    → (flushes : List MadeTable) (h : Home) → get t.homes k.id ≡ Some h → is_beyond (last_flushed (shape_in k.id trees) flushes h.last).persisted n ≡ true
whole_beyond j t trees entries records k n can flushes h home = Between.persisted_below j t trees entries records k n can h home flushes

-- ---- what a crash leaves

-- the base without the command is there, or all of the command
module _ (j : Journaling) (t : Tree) (id n : ℕ) (last : Fields) (clears : List ℕ) (stored : List Entry) (m : Tree) (h : Home) (versions : List Entry)
    (between : IsBetween j t id n last clears stored m h versions) (items : List KeyOp) (tables : List MadeTable) (base : Store) (is : kept base ≡ store_of_contents (contents_with j t [])) where
  abbrev next : Tree
  next = tree_with id n items tables h versions m

  abbrev Trees : Image → Type 0
  Trees image = HasTree image t ⊎ (HasTree image m ⊎ HasTree image next)

  -- the flush of memory keeps the store
  still : kept base ≡ store_of_contents (contents_with j m [])
  still = is ∙ sym between.store

  image_stands : (image : Image) → HasRoot image (journals_with j []) → Trees image → StandsAmid base [] (ingestion id items ∷ []) image
  image_stands image root (inl old) = record {
    front = [];
    holds = ([], refl);
    within = (ingestion id items ∷ [], refl);
    stands = inl (contents_with j t [], made image (contents_with j t []) root old, is);
  }
  image_stands image root (inr later) = synced_stands j m id n items tables h versions base between.may still image root later

  run_stands : (old new : Meaning) → LiesInRoot (state_in old) j → Within (keyspace_folder id) old new → LeavesOnly old new Trees → LeavesOnly old new (StandsAmid base [] (ingestion id items ∷ []))
  run_stands old new lies run leaves =
      seen is_of_root (codes "keyspaces") (λ e. cc) apart old new Trees (StandsAmid base [] (ingestion id items ∷ [])) (within_keyspaces id old new run) leaves
      (λ image trees here.
      let root = crashes_leave_the_root (state_in old) image j lies here in
      image_stands image (subst (λ (l : List Written). HasRoot image (journals_with j l)) (none_behind j root.0 root.1 root.2 between.may.synced) root.3) trees)

-- ---- the ingestion

module _ (j : Journaling) (t : Tree) (trees : Forest) (entries : ℕ → List (List Entry)) (records : LastFields) (k : LivingKeyspace) (n : ℕ) (can : CanIngest j t trees entries records k n)
    (watermark : ℕ) (items : List KeyOp) (flushes tables : List MadeTable)
    (flushed : IsFlushed (memory_task k.id watermark (shape_in k.id trees).memory) flushes (clears_in (parts_of (shape_in k.id trees).memory))) (are : AreIngestionTables n items tables) (h : Home)
    (home : get t.homes k.id ≡ Some h) where
  abbrev tree : Shape
  tree = shape_in k.id trees

  abbrev versions : List Entry
  versions = flat (entries k.id)

  abbrev mid : Tree
  mid = tree_between k.id tree flushes flushed.lists h versions t

  abbrev behind : Tree
  behind = tree_behind k.id n items tree flushes tables flushed.lists h versions t

  abbrev mid_home : Home
  mid_home = home_flushed (has_memory tree.memory) (memory_flush tree flushes) h

  abbrev mid_versions : List Entry
  mid_versions = versions_flushed (has_memory tree.memory) flushed.lists versions

  is_between : IsBetween j t k.id n (last_flushed tree flushes h.last) (clears_of tree) (versions ++ flat flushed.lists) mid mid_home mid_versions
  is_between = Between.between j t trees entries records k n can h home watermark flushes flushed

  run : (base : Store) → kept base ≡ store_of_contents (contents_with j t []) → (old new : Meaning) → LiesInRoot (state_in old) j → Within (keyspace_folder k.id) old new
      → LeavesOnly old new (λ image. HasTree image t ⊎ (HasTree image mid ⊎ HasTree image behind)) → LeavesOnly old new (StandsAmid base [] (ingestion k.id items ∷ []))
  run base is old new lies within leaves =
      run_stands j t k.id n (last_flushed tree flushes h.last) (clears_of tree) (versions ++ flat flushed.lists) mid mid_home mid_versions is_between items tables base is old new lies within leaves

  keeps : (base : Store) → kept base ≡ store_of_contents (contents_with j t []) → kept (apply base (ingestion k.id items)) ≡ store_of_contents (contents_with j behind [])
  keeps base is = base_kept j mid k.id n items tables mid_home mid_versions base (inr is_between.may) (is ∙ sym is_between.store)

  number : number_of_contents (contents_with j behind j.later) ≡ n + 1
  number = own_number j mid k.id n items tables mid_home mid_versions is_between.may.come j.later [] (append-nil j.later)

  known : (readers : List Reader) → map (λ (r : Reader). r.info) readers ≡ flushed_infos h.last.next_table_id (flushes ++ tables)
      → AreTreesKnown j behind (altered_at k.id (ingested n readers) trees) (entries_with k.id (entries k.id ++ (flushed.lists ++ are.0)) entries)
      (insert records k.id (last_ingested n tree flushes tables h.last))
  known readers infos =
      are_known j t trees entries records can.are k.id n tree (Between.has j t trees entries records k n can) (last_flushed tree flushes h.last) flushed.lists mid mid_home mid_versions is_between items
      tables are readers (Between.right_between j t trees entries records k n can h home watermark flushes flushed)
      (Between.infos_between j t trees entries records k n can h home watermark flushes tables flushed readers infos)

-- a crash leaves the base without or with the one command
pub whole_run : (j : Journaling) (t : Tree) (trees : Forest) (entries : ℕ → List (List Entry)) (records : LastFields) (k : LivingKeyspace) (n : ℕ) → CanIngest j t trees entries records k n
    → (watermark : ℕ) (items : List KeyOp) (flushes made : List MadeTable)
    (flushed : IsFlushed (memory_task k.id watermark (shape_in k.id trees).memory) flushes (clears_in (parts_of (shape_in k.id trees).memory))) → AreIngestionTables n items made → (h : Home)
    → get t.homes k.id ≡ Some h → (base : Store) → kept base ≡ store_of_contents (contents_with j t []) → (old new : Meaning) → LiesInRoot (state_in old) j → Within (keyspace_folder k.id) old new
    → let tree = shape_in k.id trees in
    let versions = flat (entries k.id) in
    let mid = tree_between k.id tree flushes flushed.lists h versions t in
    let next = tree_behind k.id n items tree flushes made flushed.lists h versions t in
    LeavesOnly old new (λ image. HasTree image t ⊎ (HasTree image mid ⊎ HasTree image next)) → LeavesOnly old new (StandsAmid base [] (ingestion k.id items ∷ []))
whole_run j t trees entries records k n can watermark items flushes made flushed are h home base is old new lies within leaves =
    run j t trees entries records k n can watermark items flushes made flushed are h home base is old new lies within leaves

-- behind it the base with the command keeps the store
pub whole_base : (j : Journaling) (t : Tree) (trees : Forest) (entries : ℕ → List (List Entry)) (records : LastFields) (k : LivingKeyspace) (n : ℕ) → CanIngest j t trees entries records k n
    → (watermark : ℕ) (items : List KeyOp) (flushes made : List MadeTable)
    (flushed : IsFlushed (memory_task k.id watermark (shape_in k.id trees).memory) flushes (clears_in (parts_of (shape_in k.id trees).memory))) → AreIngestionTables n items made → (h : Home)
    → get t.homes k.id ≡ Some h → (base : Store) → kept base ≡ store_of_contents (contents_with j t [])
    → kept (apply base (ingestion k.id items)) ≡ store_of_contents (contents_with j (tree_behind k.id n items (shape_in k.id trees) flushes made flushed.lists h (flat (entries k.id)) t) [])
whole_base j t trees entries records k n can watermark items flushes made flushed are h home base is = keeps j t trees entries records k n can watermark items flushes made flushed are h home base is

-- the greatest number is the ingestion's
pub whole_number : (j : Journaling) (t : Tree) (trees : Forest) (entries : ℕ → List (List Entry)) (records : LastFields) (k : LivingKeyspace) (n : ℕ) → CanIngest j t trees entries records k n
    → (watermark : ℕ) (items : List KeyOp) (flushes made : List MadeTable)
    (flushed : IsFlushed (memory_task k.id watermark (shape_in k.id trees).memory) flushes (clears_in (parts_of (shape_in k.id trees).memory))) → AreIngestionTables n items made → (h : Home)
    → get t.homes k.id ≡ Some h
    → number_of_contents (contents_with j (tree_behind k.id n items (shape_in k.id trees) flushes made flushed.lists h (flat (entries k.id)) t) j.later) ≡ n + 1
whole_number j t trees entries records k n can watermark items flushes made flushed are h home = number j t trees entries records k n can watermark items flushes made flushed are h home

-- and all keyspaces are known again
pub whole_known : (j : Journaling) (t : Tree) (trees : Forest) (entries : ℕ → List (List Entry)) (records : LastFields) (k : LivingKeyspace) (n : ℕ) → CanIngest j t trees entries records k n
    → (watermark : ℕ) (items : List KeyOp) (flushes made : List MadeTable)
    (flushed : IsFlushed (memory_task k.id watermark (shape_in k.id trees).memory) flushes (clears_in (parts_of (shape_in k.id trees).memory))) → (are : AreIngestionTables n items made) → (h : Home)
    → get t.homes k.id ≡ Some h → (readers : List Reader) → map (λ (r : Reader). r.info) readers ≡ flushed_infos h.last.next_table_id (flushes ++ made)
    → let tree = shape_in k.id trees in
    AreTreesKnown j (tree_behind k.id n items tree flushes made flushed.lists h (flat (entries k.id)) t) (altered_at k.id (ingested n readers) trees)
    (entries_with k.id (entries k.id ++ (flushed.lists ++ are.0)) entries) (insert records k.id (last_ingested n tree flushes made h.last))
whole_known j t trees entries records k n can watermark items flushes made flushed are h home readers infos =
    known j t trees entries records k n can watermark items flushes made flushed are h home readers infos
