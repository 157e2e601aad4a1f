-- The tree between the flush of memory and an ingestion: memory has nothing left to show.
use Rattle.std.proofs.Common.{◌≡◌, ℕ, ◌+◌, ◌-◌, ◌<◌, ◌≤◌, ◌^◌, ◌==◌, Bool, true, false, if◌then◌else◌, List, [], ◌++◌, All, map, Option, Some, unwrap_or, refl, sym, ◌∙◌, ap, subst, arith, append_assoc, length}
use Rattle.std.specs.FinMap.{get}
use Rattle.std.specs.Option.{option_map}
use Rattle.std.specs.Prelude.{nat_lt}
use Rattle.std.proofs.lemmas.Bool.{cond-false, lt-ltb}
use Rattle.std.proofs.lemmas.List.{append-nil, map-append}
use Rattle.std.proofs.lemmas.List.Elements.{All-nil, All-weaker}
use Rattle.fjall_base.proofs.Codecs.{some_is}
use Rattle.fjall_table_reader.specs.Readers.{Reader}
use Rattle.fjall_meta.specs.Contents.{clears_held, is_beyond, versions_held}
use Rattle.fjall_compaction.specs.Covering.{IsSyncedTo, MayCount, ShowsBatches, TakesParts}
use Rattle.fjall_compaction.specs.Flushes.{Flush, Follows, HasAt, home_after, flushed_infos, raised, record_after_flush, texts_of, tree_after}
use Rattle.fjall_compaction.proofs.FlushAfterHomes.{both_right, new_right, versions_at}
use Rattle.fjall_compaction.proofs.FlushAfterRecords.{raised_is}
use Rattle.fjall_compaction.proofs.FlushFinishing.{begin_behind, past_is_beyond}
use Rattle.fjall_compaction.proofs.FlushReading.{infos_both}
use Rattle.fjall_compaction.proofs.FlushSameStore.{same_store}
use Rattle.fjall_compaction.proofs.Taken.{counts, follows_from}
use Rattle.fjall_manifest.specs.Homes.{Home}
use Rattle.fjall_manifest.specs.Reading.{AreRight}
use Rattle.fjall_jobs.specs.declared.made_table.MadeTable.{MadeTable}
use Rattle.fjall_jobs.specs.Tasks.{IsFlushed, Task}
use Rattle.fjall_jobs.proofs.Flushing.{flat_runs}
use Rattle.fjall_journal.specs.Batches.{Shown, Written, shown}
use Rattle.fjall_replay.specs.Known.{GoesOnFrom, IsKnown, LastFields, last_known}
use Rattle.fjall_tree.specs.Ingestions.{has_memory, memory_task}
use Rattle.fjall_tree.specs.Puts.{bare_tree}
use Rattle.fjall_tree.specs.Trees.{Shape, clears_of, floor_of}
use Rattle.fjall_meta.specs.declared.living.LivingKeyspace.{LivingKeyspace}
use Rattle.fjall_memtable.specs.Parts.{Ascends, HeldPart, Memory, clears_in, parts_of, versions_in}
use Rattle.fjall_recovery.specs.Folders.{store_of_contents}
use Rattle.fjall_recovery.specs.Halves.{Tree}
use Rattle.fjall_recovery.specs.Homes.{ClearsAreWithin, stored_at, stored_in, stored_of}
use Rattle.fjall_recovery.specs.Journals.{batches_in}
use Rattle.fjall_recovery.specs.Places.{Journaling, contents_with, journals_with}
use Rattle.fjall_replay.specs.Beside.{ShowsWith}
use Rattle.fjall_memtable.specs.Sorted.{flat}
use Rattle.fjall_table.specs.declared.table_info.TableInfo.{TableInfo}
use Rattle.fjall_table.specs.Blocks.{Entry}
use Rattle.fjall_manifest.specs.Records.{Fields}
use Rattle.fjall_trees.specs.Forests.{Forest, IsTree, tree_at}
use Rattle.fjall_trees.specs.Tables.{shape_in}
use Rattle.fjall_trees.proofs.Places.{tree_has}
use Rattle.fjall_meta.specs.Replays as Replays
use Rattle.fjall_meta.proofs.Found.{found_has}
use Rattle.fjall_meta.proofs.Slots.{get_put}
use Rattle.fjall_memtable.specs.Views.{value_at}
use Rattle.fjall_compaction.specs.Commands.{MayCome, MayIngestSynced}
use Rattle.fjall_compaction.specs.Whole.{CanIngest, home_flushed, last_flushed, memory_flush, tree_flushed, versions_flushed}
use Rattle.fjall_compaction.proofs.Following.{may_follow}
use Rattle.fjall_compaction.proofs.Numbers.{is_later}
use Rattle.fjall_compaction.proofs.WholeMemory.{begins_before, none_listed, none_made, nothing_held, nothing_made, takes_all}

-- Between the two the tree has this home of the keyspace, with these versions in its tables, and an ingestion may come. All else is as it
-- was: the store, and what other keyspaces have. The home's record is that one, it has these clears, and the versions are those.
pub record IsBetween (j : Journaling) (t : Tree) (id n : ℕ) (last : Fields) (clears : List ℕ) (stored : List Entry) (m : Tree) (h : Home) (versions : List Entry) : Type 0 where
  pub may : MayIngestSynced j m id n h versions
  pub keyspaces : m.keyspaces ≡ t.keyspaces
  pub homes : (other : ℕ) → (other == id) ≡ false → get m.homes other ≡ get t.homes other
  pub others : (other : ℕ) → (other == id) ≡ false → get m.versions other ≡ get t.versions other
  pub last_is : last ≡ h.last
  pub clears_are : clears ≡ h.last.clears
  pub stored_are : stored ≡ versions
  pub store : store_of_contents (contents_with j m []) ≡ store_of_contents (contents_with j t [])

module _ (j : Journaling) (t : Tree) (trees : Forest) (entries : ℕ → List (List Entry)) (records : LastFields) (k : LivingKeyspace) (n : ℕ) (can : CanIngest j t trees entries records k n) where
  abbrev shape : Shape
  shape = shape_in k.id trees

  abbrev memory : Memory
  memory = shape.memory

  abbrev parts : List HeldPart
  parts = parts_of memory

  abbrev stored : List Entry
  stored = flat (entries k.id)

  abbrev batches : List Shown
  batches = map shown (batches_in (journals_with j j.later))

  here : IsKnown records trees entries t.homes t.versions k
  here = found_has (λ i. i.id == k.id) (IsKnown records trees entries t.homes t.versions) t.keyspaces.living k can.living can.are.known

  shape_is : shape ≡ here.shape
  shape_is = ap (λ (o : Option Shape). unwrap_or o (bare_tree 0)) here.tree

  pub has : tree_at k.id trees ≡ Some shape
  has = here.tree ∙ ap (λ (s : Shape). Some s) (sym shape_is)

  tree : IsTree shape
  tree = tree_has IsTree trees k.id shape can.forest.each has

  below : memory.active.until ≤ n
  below = tree_has (λ s. s.memory.active.until ≤ n) trees k.id shape can.below has

  lives : Replays.counts t.keyspaces n k.id ≡ true
  lives = ap (λ (o : Option LivingKeyspace). unwrap_or (option_map (λ (i : LivingKeyspace). nat_lt i.number n) o) false) can.living ∙ lt-ltb k.number n can.made

  goes : GoesOnFrom here.h.last shape
  goes = subst (GoesOnFrom here.h.last) (sym shape_is) here.goes_on

  -- what the tree shows with its tables
  abbrev Shown_at : ℕ → Shape → Type 0
  Shown_at id s = ShowsWith (entries id) (clears_held t.keyspaces (stored_in t.homes t.versions id) id batches) (versions_held t.keyspaces (stored_in t.homes t.versions id) id batches) s

  replayed_here : Shown_at k.id shape
  replayed_here =
      let found = found_has (λ i. i.id == k.id) (λ i. (s : Shape) × (tree_at i.id trees ≡ Some s) × Shown_at i.id s) t.keyspaces.living k can.living can.are.replayed in
      subst (Shown_at k.id) (some_is found.0 shape (sym found.1 ∙ has)) found.2

  module _ (h : Home) (home : get t.homes k.id ≡ Some h) where
    same : here.h ≡ h
    same = some_is here.h h (sym here.home ∙ home)

    pub last_is : last_known records k ≡ h.last
    last_is = here.last ∙ ap (λ (o : Home). o.last) same

    goes_on : GoesOnFrom h.last shape
    goes_on = subst (λ (o : Home). GoesOnFrom o.last shape) same goes

    right : AreRight h.last.tables h.texts (entries k.id)
    right = subst (λ (o : Home). AreRight o.last.tables o.texts (entries k.id)) same here.right

    at : HasAt t k.id h stored
    at = record { home = home; stored = here.stored }

    stored_is : stored_in t.homes t.versions k.id ≡ stored_of h stored
    stored_is i = stored_at (home i) (here.stored i)

    shows : ShowsBatches t.keyspaces (stored_of h stored) k.id batches (clears_in parts) (versions_in parts)
    shows key instant =
        sym (λ i. value_at key instant (goes_on.clears i ++ clears_in parts) (stored ++ versions_in parts))
        ∙ replayed_here.shows key instant
        ∙ (λ i. value_at key instant (clears_held t.keyspaces (stored_is i) k.id batches) (versions_held t.keyspaces (stored_is i) k.id batches))

    within : ClearsAreWithin h.last
    within = (versions_at t k.id h stored at can.have).within.1

    come : MayCome j t k.id n h stored
    come = record { at = at; have = can.have; lives = lives; small = can.small; above = can.above; sound = can.sound }

    -- ---- where memory holds something

    module _ (some : has_memory memory ≡ true) where
      floor_below : floor_of memory < memory.active.until
      floor_below = begins_before memory.sealed memory.active tree.held tree.apart goes_on.some some

      abbrev number : ℕ
      number = memory.active.until - 1

      low : number < n
      low = let lt = floor_below in let le = below in omega (arith, lt, le)

      small : number < 2 ^ 63
      small = let lt = low in let most = can.small in omega (arith, lt, most)

      pub beyond : is_beyond h.last.persisted number ≡ true
      beyond = past_is_beyond h.last.persisted number (let ends = goes_on.beyond in let lt = floor_below in omega (arith, ends, lt))

      module _ (watermark : ℕ) (tables : List MadeTable) (made : IsFlushed (memory_task k.id watermark memory) tables (clears_in parts)) where
        abbrev task : Task
        task = memory_task k.id watermark memory

        abbrev f : Flush
        f = memory_flush shape tables

        taken : TakesParts number task parts []
        taken = takes_all k.id watermark memory tree.held tree.apart (let lt = floor_below in omega (arith, lt))

        synced : IsSyncedTo number j
        synced = subst (All (λ (b : Written). number < b.number)) (sym can.synced) (All-nil (λ (b : Written). number < b.number))

        counted : (may : MayCount j t k.id f made.lists h stored) × (may.rest_clears ≡ []) × (may.rest ≡ [])
        counted =
            counts number task parts [] taken tables (clears_in parts) made j t k.id h stored at can.have beyond small synced
            (subst (λ (ps : List HeldPart). ShowsBatches t.keyspaces (stored_of h stored) k.id batches (clears_in ps) (versions_in ps)) (sym (append-nil parts)) shows)

        pub follows_last : Follows f made.lists h.last
        follows_last =
            follows_from number task parts [] taken tables (clears_in parts) made h.last small (subst Ascends goes_on.clears tree.clears.ascend) within
            (All-weaker (λ (p : HeldPart). floor_of memory ≤ p.from) (λ p. is_beyond h.last.persisted p.from ≡ true)
            (λ p le. past_is_beyond h.last.persisted p.from (let ends = goes_on.beyond in omega (arith, ends, le))) parts
            (begin_behind memory.sealed memory.active tree.held tree.apart))

        flushed : IsBetween j t k.id n (record_after_flush f h.last) (clears_of shape) (stored ++ flat made.lists) (tree_after k.id f made.lists h stored t) (home_after f h) (stored ++ flat made.lists)
        flushed = record {
          may = may_follow j t k.id f made.lists h stored counted.0 n follows_last counted.1 counted.2 can.synced can.sound lives can.small low can.above;
          keyspaces = refl;
          homes = λ other differ. get_put t.homes k.id (home_after f h) other ∙ cond-false (other == k.id) (Some (home_after f h)) (get t.homes other) differ;
          others = λ other differ. get_put t.versions k.id (stored ++ flat made.lists) other
              ∙ cond-false (other == k.id) (Some (stored ++ flat made.lists)) (get t.versions other) differ;
          last_is = refl;
          clears_are = ap (λ (l : List ℕ). l ++ clears_in parts) goes_on.clears;
          stored_are = refl;
          store = same_store j t k.id f made.lists h stored counted.0 [] [] (sym can.synced);
        }

    -- ---- where it holds nothing

    module _ (none : has_memory memory ≡ false) where
      nothing : (clears_in parts ≡ []) × (versions_in parts ≡ [])
      nothing = nothing_held memory.sealed memory.active none

      same_clears : clears_of shape ≡ h.last.clears
      same_clears = (λ i. goes_on.clears i ++ nothing.0 i) ∙ append-nil h.last.clears

      -- a flush of it makes no version, and so no table
      no_versions : (watermark : ℕ) (tables : List MadeTable) (made : IsFlushed (memory_task k.id watermark memory) tables (clears_in parts)) → flat made.lists ≡ []
      no_versions watermark tables made =
          nothing_made watermark (clears_in parts) (flat (memory_task k.id watermark memory).runs) (flat made.lists) made.kept (flat_runs parts ∙ nothing.1)

      no_lists : (watermark : ℕ) (tables : List MadeTable) (made : IsFlushed (memory_task k.id watermark memory) tables (clears_in parts)) → made.lists ≡ []
      no_lists watermark tables made = none_listed made.lists made.parted (no_versions watermark tables made)

      no_tables : (watermark : ℕ) (tables : List MadeTable) (made : IsFlushed (memory_task k.id watermark memory) tables (clears_in parts)) → tables ≡ []
      no_tables watermark tables made = none_made tables made.lists made.made (no_lists watermark tables made)

      as_is : (watermark : ℕ) (tables : List MadeTable) (made : IsFlushed (memory_task k.id watermark memory) tables (clears_in parts))
          → IsBetween j t k.id n h.last (clears_of shape) (stored ++ flat made.lists) t h stored
      as_is watermark tables made = record {
        may = record {
          come = come;
          synced = can.synced;
          memory = λ key instant. sym (λ i. value_at key instant (h.last.clears ++ nothing.0 i) (stored ++ nothing.1 i)) ∙ shows key instant;
        };
        keyspaces = refl;
        homes = λ other differ. refl;
        others = λ other differ. refl;
        last_is = refl;
        clears_are = same_clears;
        stored_are = ap (λ (l : List Entry). stored ++ l) (no_versions watermark tables made) ∙ append-nil stored;
        store = refl;
      }

    -- ---- whatever it holds

    between_where : (watermark : ℕ) (tables : List MadeTable) (made : IsFlushed (memory_task k.id watermark memory) tables (clears_in parts)) (b : Bool) → has_memory memory ≡ b
        → let f = memory_flush shape tables in
        IsBetween j t k.id n (if b then record_after_flush f h.last else h.last) (clears_of shape) (stored ++ flat made.lists) (tree_flushed b k.id f made.lists h stored t) (home_flushed b f h) (versions_flushed
        b made.lists stored)
    between_where watermark tables made true some = flushed some watermark tables made
    between_where watermark tables made false none = as_is none watermark tables made

    pub between : (watermark : ℕ) (tables : List MadeTable) (made : IsFlushed (memory_task k.id watermark memory) tables (clears_in parts))
        → let some = has_memory memory in
        let f = memory_flush shape tables in
        IsBetween j t k.id n (last_flushed shape tables h.last) (clears_of shape) (stored ++ flat made.lists) (tree_flushed some k.id f made.lists h stored t) (home_flushed some f h) (versions_flushed
        some made.lists stored)
    between watermark tables made = between_where watermark tables made (has_memory memory) refl

    -- ---- its tables

    -- these are what they hold once memory is flushed
    right_where : (watermark : ℕ) (tables : List MadeTable) (made : IsFlushed (memory_task k.id watermark memory) tables (clears_in parts)) (b : Bool) → has_memory memory ≡ b
        → let after = home_flushed b (memory_flush shape tables) h in
        AreRight after.last.tables after.texts (entries k.id ++ made.lists)
    right_where watermark tables made true some =
        both_right h.last.tables (flushed_infos h.last.next_table_id tables) h.texts (texts_of tables) (entries k.id) made.lists right (new_right h.last.next_table_id tables made.lists made.made)
    right_where watermark tables made false none =
        let same = ap (λ (l : List (List Entry)). entries k.id ++ l) (no_lists none watermark tables made) ∙ append-nil (entries k.id) in
        subst (λ (l : List (List Entry)). AreRight h.last.tables h.texts l) (sym same) right

    pub right_between : (watermark : ℕ) (tables : List MadeTable) (made : IsFlushed (memory_task k.id watermark memory) tables (clears_in parts))
        → let after = home_flushed (has_memory memory) (memory_flush shape tables) h in
        AreRight after.last.tables after.texts (entries k.id ++ made.lists)
    right_between watermark tables made = right_where watermark tables made (has_memory memory) refl

    -- where the readers of all tables that are made know of them what the record says, the tree has the record's tables with them
    infos_where : (watermark : ℕ) (tables own : List MadeTable) (made : IsFlushed (memory_task k.id watermark memory) tables (clears_in parts)) (readers : List Reader)
        → map (λ (r : Reader). r.info) readers ≡ flushed_infos h.last.next_table_id (tables ++ own) → (b : Bool) → has_memory memory ≡ b
        → let last = (home_flushed b (memory_flush shape tables) h).last in
        map (λ (r : Reader). r.info) (shape.tables ++ readers) ≡ last.tables ++ flushed_infos last.next_table_id own
    infos_where watermark tables own made readers infos true some =
        let next = h.last.next_table_id in
        map-append (λ (r : Reader). r.info) shape.tables readers
        ∙ (λ i. goes_on.tables i ++ infos i)
        ∙ ap (λ (l : List TableInfo). h.last.tables ++ l) (infos_both next tables own)
        ∙ sym (append_assoc h.last.tables (flushed_infos next tables) (flushed_infos (next + length tables) own))
    infos_where watermark tables own made readers infos false none =
        map-append (λ (r : Reader). r.info) shape.tables readers
        ∙ (λ i. goes_on.tables i ++ infos i)
        ∙ ap (λ (l : List MadeTable). h.last.tables ++ flushed_infos h.last.next_table_id (l ++ own)) (no_tables none watermark tables made)

    pub infos_between : (watermark : ℕ) (tables own : List MadeTable) (made : IsFlushed (memory_task k.id watermark memory) tables (clears_in parts)) (readers : List Reader)
        → map (λ (r : Reader). r.info) readers ≡ flushed_infos h.last.next_table_id (tables ++ own)
        → let last = (home_flushed (has_memory memory) (memory_flush shape tables) h).last in
        map (λ (r : Reader). r.info) (shape.tables ++ readers) ≡ last.tables ++ flushed_infos last.next_table_id own
    infos_between watermark tables own made readers infos = infos_where watermark tables own made readers infos (has_memory memory) refl

    -- what is persisted once memory is flushed is below the ingestion's number
    persisted_where : (tables : List MadeTable) (b : Bool) → has_memory memory ≡ b → is_beyond (if b then record_after_flush (memory_flush shape tables) h.last else h.last).persisted n ≡ true
    persisted_where tables true some =
        lt-ltb (raised h.last.persisted (memory.active.until - 1)) n (let e = raised_is h.last.persisted (memory.active.until - 1) (beyond some) in let lt = low some in omega (arith, e, lt))
    persisted_where tables false none = is_later j t k.id n h stored come

    pub persisted_below : (tables : List MadeTable) → is_beyond (last_flushed shape tables h.last).persisted n ≡ true
    persisted_below tables = persisted_where tables (has_memory memory) refl
