-- Where the writing of an ingestion leads a core and its disk, where nothing waited in its journal.
use Rattle.std.proofs.Common.{◌≡◌, ◌⊎◌, ◌<◌, ◌≤◌, ◌^◌, ◌+◌, ◌==◌, ℕ, Bool, true, false, List, [], ◌∷◌, ◌++◌, All, map, Option, None, Some, Err, refl, sym, ◌∙◌, ap, subst, arith}
use Rattle.std.proofs.lemmas.List.Elements.{All-nil}
use Rattle.std.specs.FinMap.{insert}
use Rattle.fjall_base.specs.Store.{Store, apply, kept}
use Rattle.fjall_base.specs.Disk.{LeavesOnly, Meaning, OnlyFaults, state_in}
use Rattle.fjall_base.specs.declared.error.Error.{Error}
use Rattle.fjall_base.specs.declared.error.Error.TheVariants.{Io}
use Rattle.fjall_table_reader.specs.Readers.{Reader}
use Rattle.fjall_meta.specs.Contents.{is_beyond, journal_beyond}
use Rattle.fjall_files.specs.Names.{Table, keyspace_folder, table_name}
use Rattle.fjall_files.specs.Regions.{Within}
use Rattle.fjall_files.specs.Tidy.{IsTidy}
use Rattle.fjall_compaction.specs.Flushes.{Flush, Follows, HasAt, flushed_infos}
use Rattle.fjall_manifest.specs.Homes.{Home}
use Rattle.fjall_manifest.proofs.Outside.{within_keyspaces}
use Rattle.fjall_compaction.specs.declared.ingestion.whole.PlannedIngestion.{PlannedIngestion}
use Rattle.fjall_compaction.specs.Ingests.{ingestion}
use Rattle.fjall_compaction.specs.Whole.{CanIngest, last_flushed, last_ingested, memory_flush, tree_behind, tree_between, tree_flushed}
use Rattle.fjall_compaction.proofs.WholeLaws.{whole_base, whole_beyond, whole_follows, whole_known, whole_last, whole_number, whole_run}
use Rattle.fjall_jobs.specs.declared.made_table.MadeTable.{MadeTable}
use Rattle.fjall_journal.specs.Batches.{Written, shown}
use Rattle.fjall_replay.specs.Known.{IsKnown, last_known}
use Rattle.fjall_tree.specs.Ingestions.{has_memory, ingested, stale}
use Rattle.fjall_tree.specs.Jobs.{flush_end}
use Rattle.fjall_tree.specs.Trees.{Flushing, Shape}
use Rattle.fjall_meta.specs.declared.living.LivingKeyspace.{LivingKeyspace}
use Rattle.fjall_meta.specs.Keyspaces.{Keyspaces, keyspace_at}
use Rattle.fjall_recovery.specs.Folders.{number_of_contents}
use Rattle.fjall_recovery.specs.Halves.{HasTree, Tree}
use Rattle.fjall_recovery.specs.Homes.{stored_in}
use Rattle.fjall_recovery.specs.Places.{Journaling, contents_with}
use Rattle.fjall_memtable.specs.Sorted.{flat}
use Rattle.fjall_machine.specs.Ingesting.{IsPlanned, with_ingestion}
use Rattle.fjall_machine.specs.Remembered.{IsLawful, Remembered, poisoned}
use Rattle.fjall_machine.proofs.Flushing.{id_given}
use Rattle.fjall_table.specs.Blocks.{Entry}
use Rattle.fjall_manifest.specs.Records.{Fields, view}
use Rattle.fjall_trees.specs.Forests.{Forest, altered_at}
use Rattle.fjall_trees.specs.Tables.{entries_with, shape_in}
use Rattle.fjall_meta.proofs.Found.{found_has}
use Rattle.fjall_reading.specs.Ingestions.{KeyOp}
use Rattle.fjall_engine.specs.Holding.{Held}
use Rattle.fjall_engine.specs.CallParts.{WritesIngestion, WroteIngestion}
use Rattle.fjall_engine.specs.Durables.{CoversSynced, Durable, Knows, Lies, Passes, StandsAmid, StaysFinished}
use Rattle.fjall_engine.specs.Standing.{StandsOn, store_with_tables}
use Rattle.fjall_engine.proofs.CrashImages.{lies_rest}
use Rattle.fjall_engine.proofs.IngestionSyncs.{StandsSynced, pends}
use Rattle.fjall_engine.proofs.JournalWrites.{Leads, held_on, stands_well}
use Rattle.fjall_engine.proofs.KnownFlushes.{AreCovered, covered_altered}
use Rattle.fjall_engine.proofs.KnownHomes.{AreAllKnown}
use Rattle.fjall_engine.proofs.RootUnchanged.{within_finished, within_root, writing_along}

-- An ingestion of these items into a keyspace that lives was planned in a core that no fault has poisoned, and a number is left.
pub record MayWrite (core : Held) (k : LivingKeyspace) (items : List KeyOp) (p : PlannedIngestion) : Type 0 where
  pub well : core.memory.poisoned ≡ false
  pub living : keyspace_at k.id core.memory.keyspaces.living ≡ Some k
  pub numbered : core.memory.next < 2 ^ 63
  pub planned : IsPlanned core.memory k.id items (last_known core.memory.records k) p

-- a flush that was out takes no part any more
covered_stale : (i n : ℕ) (readers : List Reader) (shape : Shape) → CoversSynced [] (record { id = i; shape = ingested n readers shape })
covered_stale i n readers shape = by shape.flush
  where
    by : (flush : Option Flushing) → (out : Flushing) → stale flush ≡ Some out → (out.count ≤ 0) × All (λ (b : Written). flush_end (ingested n readers shape) ≤ b.number) []
    by None out is = absurd cc
    by (Some was) out is =
        let none : 0 ≡ out.count = cc in
        (omega (arith, none), All-nil (λ (b : Written). flush_end (ingested n readers shape) ≤ b.number))

covered_ingested : (id n : ℕ) (readers : List Reader) (trees : Forest) → AreCovered [] trees → AreCovered [] (altered_at id (ingested n readers) trees)
covered_ingested id n readers = covered_altered [] id (ingested n readers) (λ i shape covers. covered_stale i n readers shape)

-- a flush of memory keeps the catalog and the keyspaces
trees_kept : (some : Bool) (id : ℕ) (f : Flush) (lists : List (List Entry)) (h : Home) (versions : List Entry) (t : Tree)
    → ((tree_flushed some id f lists h versions t).last ≡ t.last) × ((tree_flushed some id f lists h versions t).keyspaces ≡ t.keyspaces)
trees_kept true id f lists h versions t = (refl, refl)
trees_kept false id f lists h versions t = (refl, refl)

module _ (core : Held) (k : LivingKeyspace) (items : List KeyOp) (p : PlannedIngestion) (may : MayWrite core k items p) where
  abbrev m : Remembered
  m = core.memory

  abbrev n : ℕ
  n = core.memory.next

  abbrev shape : Shape
  shape = shape_in k.id m.trees

  abbrev last : Fields
  last = last_known m.records k

  abbrev flushes : List MadeTable
  flushes = p.memory.tables.items

  abbrev made : List MadeTable
  made = p.own.tables.items

  abbrev readers : List Reader
  readers = p.readers.items

  -- what was made, and what tables have with it
  abbrev pub lists_made : List (List Entry)
  lists_made = may.planned.makes.flushed.lists ++ may.planned.makes.are.0

  abbrev pub entries_more : (ℕ → List (List Entry)) → ℕ → List (List Entry)
  entries_more entries = entries_with k.id (entries k.id ++ lists_made) entries

  -- the core on a disk that has the ingestion, which memory has taken, and no journal is gone yet
  abbrev pub taken_on : Meaning → Held
  taken_on disk = record core { disk = disk; memory = with_ingestion k.id readers (view p.own.writes.record) m }

  -- the record that was planned is the one behind the ingestion
  pub record_planned : view p.own.writes.record ≡ last_ingested n shape flushes made last
  record_planned = may.planned.own.planned.record_is

  module _ (lawful : IsLawful core.memory) (entries : ℕ → List (List Entry)) (base : Store) (stands : StandsSynced core entries base) where
    abbrev lies : Lies core (held_on core base [])
    lies = stands.lies

    abbrev j : Journaling
    j = stands.lies.journals

    abbrev t : Tree
    t = stands.lies.tree

    living_there : keyspace_at k.id t.keyspaces.living ≡ Some k
    living_there = ap (λ (s : Keyspaces). keyspace_at k.id s.living) lies.keyspaces ∙ may.living

    can : CanIngest j t m.trees entries m.records k n
    can = record {
      forest = lawful.forest;
      have = lies.in_tree.rests.versions;
      living = living_there;
      are = record { replayed = stands.knows.shown; known = stands.knows.homes };
      synced = stands.none;
      sound = lies.writing.root.sound;
      below = lawful.below;
      made = found_has (λ (i : LivingKeyspace). i.id == k.id) (λ (i : LivingKeyspace). i.number < n) m.keyspaces.living k may.living lawful.made;
      above = lies.next;
      small = may.numbered;
    }

    -- its home
    known : IsKnown m.records m.trees entries t.homes t.versions k
    known = found_has (λ i. i.id == k.id) (IsKnown m.records m.trees entries t.homes t.versions) t.keyspaces.living k living_there stands.knows.homes

    abbrev h : Home
    h = known.h

    at : HasAt t k.id h (flat (entries k.id))
    at = record { home = known.home; stored = known.stored }

    same_last : last ≡ h.last
    same_last = whole_last j t m.trees entries m.records k n can h known.home

    follows : has_memory shape.memory ≡ true → Follows (memory_flush shape flushes) may.planned.makes.flushed.lists last
    follows some =
        subst (λ (l : Fields). Follows (memory_flush shape flushes) may.planned.makes.flushed.lists l) (sym same_last)
        (whole_follows j t m.trees entries m.records k n can m.tickets.watermark flushes may.planned.makes.flushed h known.home some)

    beyond : is_beyond (last_flushed shape flushes last).persisted n ≡ true
    beyond = ap (λ (l : Fields). is_beyond (last_flushed shape flushes l).persisted n) same_last ∙ whole_beyond j t m.trees entries m.records k n can flushes h known.home

    abbrev mid_tree : Tree
    mid_tree = tree_between k.id shape flushes may.planned.makes.flushed.lists h (flat (entries k.id)) t

    abbrev next : Tree
    next = tree_behind k.id n items shape flushes made may.planned.makes.flushed.lists h (flat (entries k.id)) t

    -- ---- meanwhile

    module _ (new : Meaning) (done : Bool) (wrote : WroteIngestion p core.disk new done) where
      within : Within (keyspace_folder k.id) core.disk new
      within = wrote.within shape k.id m.tickets.watermark n items last may.planned

      leaves : LeavesOnly core.disk new (λ image. HasTree image t ⊎ (HasTree image mid_tree ⊎ HasTree image next))
      leaves =
          wrote.leaves shape k.id m.tickets.watermark n items last may.planned lies.records t h (flat (entries k.id)) may.planned.makes.flushed.lists lies.in_tree at (sym same_last) follows may.numbered
          beyond

      -- a crash leaves the base without or with the one command
      pub write_leaves : LeavesOnly core.disk new (StandsAmid base [] (ingestion k.id items ∷ []))
      write_leaves =
          whole_run j t m.trees entries m.records k n can m.tickets.watermark items flushes made may.planned.makes.flushed may.planned.makes.are h known.home base lies.made core.disk new
          lies.writing.root within leaves

      pub write_finished : StaysFinished (state_in new)
      write_finished = within_finished core.disk new j lies.writing.root (within_keyspaces k.id core.disk new within)

      -- no call was one that no disk can serve, where nothing stands in the way
      pub write_served : IsTidy (state_in core.disk) → new.misuses ≡ core.disk.misuses
      write_served tidy =
          let given = id_given m k.id k lawful may.living in
          let small = lawful.keyspaces.fits in
          wrote.served shape k.id m.tickets.watermark n items last may.planned lies.records t h (flat (entries k.id)) may.planned.makes.flushed.lists lies.in_tree at (sym same_last) follows may.numbered
          beyond (λ number fits. (tidy (table_name k.id number)).0.kind (Table k.id number) (omega (arith, given, small), fits) refl)

    -- ---- once it was done

    module _ (disk : Meaning) (wrote : WroteIngestion p core.disk disk true) where
      number_below : number_of_contents (contents_with j next j.later) ≤ n + 1
      number_below =
          let is = whole_number j t m.trees entries m.records k n can m.tickets.watermark items flushes made may.planned.makes.flushed may.planned.makes.are h known.home in
          omega (arith, is)

      write_lies : Lies (taken_on disk) (held_on (taken_on disk) (apply base (ingestion k.id items)) [])
      write_lies = record {
        journals = j;
        records = lies.records;
        tree = next;
        writing = writing_along (state_in core.disk) (state_in disk) core.journal j (within_root core.disk disk (within_keyspaces k.id core.disk disk (within disk true wrote))) lies.writing;
        in_tree = wrote.lies refl shape k.id m.tickets.watermark n items last may.planned lies.records t h (flat (entries k.id)) may.planned.makes.flushed.lists lies.in_tree at (sym same_last) follows
            may.numbered beyond;
        told = record { sealed = lies.told.sealed; active = lies.told.active; marks = lies.told.marks };
        last = (trees_kept (has_memory shape.memory) k.id (memory_flush shape flushes) may.planned.makes.flushed.lists h (flat (entries k.id)) t).0 ∙ lies.last;
        keyspaces = (trees_kept (has_memory shape.memory) k.id (memory_flush shape flushes) may.planned.makes.flushed.lists h (flat (entries k.id)) t).1 ∙ lies.keyspaces;
        made = whole_base j t m.trees entries m.records k n can m.tickets.watermark items flushes made may.planned.makes.flushed may.planned.makes.are h known.home base lies.made;
        waits = ap (λ (later : List Written). journal_beyond next.keyspaces (stored_in next.homes next.versions) (map shown later)) (sym stands.none);
        next = number_below;
      }

      write_knows : Knows (taken_on disk) (entries_more entries) write_lies.journals write_lies.tree
      unfolding write_lies
      write_knows =
          let infos = may.planned.makes.infos ∙ ap (λ (l : Fields). flushed_infos l.next_table_id (flushes ++ made)) same_last in
          let after = whole_known j t m.trees entries m.records k n can m.tickets.watermark items flushes made may.planned.makes.flushed may.planned.makes.are h known.home readers infos in
          let trees = altered_at k.id (ingested n readers) m.trees in
          let same : last_ingested n shape flushes made h.last ≡ view p.own.writes.record = ap (last_ingested n shape flushes made) (sym same_last) ∙ sym record_planned in
          record {
            shown = after.replayed;
            homes = subst (λ (l : Fields). AreAllKnown (insert m.records k.id l) trees (entries_more entries) next.homes next.versions next.keyspaces.living) same after.known;
            covered = subst (λ (later : List Written). AreCovered later trees) (sym stands.none)
                (covered_ingested k.id n readers m.trees (subst (λ (later : List Written). AreCovered later m.trees) stands.none stands.knows.covered));
          }

      -- the base has the command, and nothing is pending
      pub write_leads : kept (apply base (ingestion k.id items)) ≡ kept (store_with_tables (entries_more entries) (taken_on disk))
          → (e : Durable) × StandsOn (taken_on disk) (entries_more entries) e × Passes (held_on core base []) (ingestion k.id items ∷ []) e × (e.pending ≡ [])
      write_leads present = (
        held_on (taken_on disk) (apply base (ingestion k.id items)) [],
        stands_well (entries_more entries) (taken_on disk) (apply base (ingestion k.id items)) [] may.well write_lies write_knows present,
        record {
          leaves = write_leaves disk true wrote;
          safe = ingestion k.id items ∷ [];
          base = refl;
          rest = refl;
          rests = lies_rest (taken_on disk) (held_on (taken_on disk) (apply base (ingestion k.id items)) []) write_lies;
        },
        refl,
      )

    -- ---- where it failed, or what follows it

    -- A fault left the core with memory as it was: the command is pending.
    pub unwritten_leads : (new : Held) → new.memory.poisoned ≡ true → StaysFinished (state_in new.disk) → LeavesOnly core.disk new.disk (StandsAmid base [] (ingestion k.id items ∷ []))
        → kept (store_with_tables entries core) ≡ kept (store_with_tables entries new) → Leads entries new (held_on core base []) (ingestion k.id items ∷ [])
    unwritten_leads new ill finished left same = pends entries new (held_on core base []) (ingestion k.id items) ill finished left (stands.present ∙ same)

-- ---- what came of the writing

-- a fault stopped it
pub write_failed : (honest : Type 0) (old : Held) (disk : Meaning) (p : PlannedIngestion) (error : Error) → OnlyFaults {T = Unit {0}} old.disk disk (Err error) → (honest → WroteIngestion p old.disk disk false)
    → WritesIngestion honest old p (Err error) (record old { disk = disk; memory = poisoned old.memory })
write_failed honest old disk p (Io kind) cause wrote = (refl, cause.cause, wrote, cause.later)
write_failed honest old disk p error cause wrote = absurd cause.cause
