-- What an ingestion makes of what is held stands for what it makes of states.
use Rattle.std.proofs.Common.{◌≡◌, ◌≢◌, ℕ, ◌<◌, ◌^◌, ◌==◌, Bool, true, false, cond, List, [], ◌∷◌, ◌++◌, filter, map, All, Option, None, Some, unwrap_or, zero, suc, refl, sym, ap, subst, ◌∙◌, arith}
use Rattle.std.proofs.lemmas.Bool.Decides.{nat_tests}
use Rattle.std.proofs.lemmas.List.Elements.{All-cons, All-nil, All-weaker}
use Rattle.std.specs.FinMap.{get, insert}
use Rattle.std.specs.Option.{is_some}
use Rattle.fjall_base.specs.Store.{kept}
use Rattle.fjall_table_reader.specs.Readers.{Reader}
use Rattle.fjall_manifest.specs.Catalog.{fields, first_of}
use Rattle.fjall_compaction.specs.Flushes.{flushed_infos}
use Rattle.fjall_history.specs.Histories.{grown, number, plain}
use Rattle.fjall_compaction.specs.Ingests.{batch_items, ingestion, version_of, versions_made}
use Rattle.fjall_compaction.proofs.Right.{once_made}
use Rattle.fjall_jobs.specs.declared.made_table.MadeTable.{MadeTable}
use Rattle.fjall_jobs.specs.Sequences.{AreMadeTables}
use Rattle.fjall_journal.specs.Changes.{Items}
use Rattle.fjall_journal.specs.Ops.{BatchItem, items_refusal}
use Rattle.fjall_replay.specs.Known.{last_known}
use Rattle.fjall_tree.specs.Ingestions.{ingested, stale}
use Rattle.fjall_tree.specs.Trees.{Flushing, IsSameShape, Shape}
use Rattle.fjall_trees.specs.Maps.{store_of}
use Rattle.fjall_trees.proofs.Changed.{altered_some}
use Rattle.fjall_trees.proofs.IngestedMaps.{ingested_before, ingested_forest, ingested_older, ingested_store, ingested_with}
use Rattle.fjall_meta.specs.declared.living.LivingKeyspace.{LivingKeyspace}
use Rattle.fjall_meta.specs.Keyspaces.{keyspace_at}
use Rattle.fjall_memtable.specs.Parts.{Memory, clears_in, parts_of}
use Rattle.fjall_memtable.specs.Sorted.{flat}
use Rattle.fjall_table.specs.Blocks.{Entry}
use Rattle.fjall_manifest.specs.Records.{Fields}
use Rattle.fjall_trees.specs.Forests.{Forest, altered_at, tree_at}
use Rattle.fjall_trees.specs.Tables.{AreSameTrees, shape_in}
use Rattle.fjall_trees.specs.Writes.{MayPush, version_of_item, versions_of_items}
use Rattle.fjall_trees.proofs.Changing.{altered_keeps, one_keeps, tree_under}
use Rattle.fjall_meta.proofs.Slots.{get_put}
use Rattle.fjall_memtable.specs.Jobs.{OnceEach, Same}
use Rattle.fjall_memtable.specs.Jobs as jobs
use Rattle.fjall_reading.specs.Ingestions.{KeyOp}
use Rattle.fjall_machine.specs.Machine.{Parts, State, accepted, is_living}
use Rattle.fjall_machine.specs.Shapes.{ByMode}
use Rattle.fjall_machine.specs.Ingesting.{Ingests, MakesIngestion, last_ingested, parts_ingested, with_ingestion}
use Rattle.fjall_machine.specs.Remembered.{IsFlushBegun, IsLawful, IsMergeBegun, MemoryStandsFor, Remembered, with_change}
use Rattle.fjall_machine.proofs.Facts.{living_names}
use Rattle.fjall_machine.proofs.Flushing.{above_begun, id_given, ids_stay, known_record, still_planted, tables_behind}
use Rattle.fjall_machine.proofs.Lawful.{may_push, other_kept, others, read_above, still_kept, tree_there}
use Rattle.fjall_machine.proofs.Older.{both_empty, both_none, none_listed, none_made}
use Rattle.fjall_machine.proofs.SameTrees.{altered_merges, same_altered_by, same_in}
use Rattle.fjall_machine.proofs.Standing.{a_change_stands}

-- ---- its items as a batch

-- all are of its keyspace
items_of : (id : ℕ) (items : List KeyOp) → All (λ item. item.0 ≡ id) (batch_items id items)
items_of id [] = All-nil (λ (item : BatchItem). item.0 ≡ id)
items_of id (item ∷ items) = All-cons (λ (i : BatchItem). i.0 ≡ id) (id, item.0, item.1) (batch_items id items) refl (items_of id items)

-- and their versions are the ingestion's
versions_are : (id n : ℕ) (items : List KeyOp) → versions_made n items ≡ versions_of_items id n (batch_items id items)
versions_are id n [] = refl
versions_are id n (item ∷ items) =
    let yes : (id == id) ≡ true = grind (arith, nat_tests) in
    ap (λ (l : List Entry). version_of n item ∷ l) (versions_are id n items)
    ∙ ap (λ (b : Bool). map (version_of_item n) (cond b ((id, item.0, item.1) ∷ filter (λ i. i.0 == id) (batch_items id items)) (filter (λ i. i.0 == id) (batch_items id items)))) (sym yes)

some_items : (id : ℕ) (items : List KeyOp) → items ≢ [] → Items (batch_items id items) ≢ Items []
some_items id [] some same = some refl
some_items id (item ∷ items) some same = absurd cc

items_living : (P : ℕ → Type 0) (id : ℕ) (items : List KeyOp) → P id → All (λ item. P item.0) (batch_items id items)
items_living P id [] lives = All-nil (λ (item : BatchItem). P item.0)
items_living P id (item ∷ items) lives = All-cons (λ (i : BatchItem). P i.0) (id, item.0, item.1) (batch_items id items) lives (items_living P id items lives)

-- ---- what stays

stale_begun : (job watermark : ℕ) (flush : Option Flushing) → IsFlushBegun job watermark flush → IsFlushBegun job watermark (stale flush)
stale_begun job watermark None is = is
stale_begun job watermark (Some out) is = is

no_entries : ℕ → List (List Entry)
no_entries id = []

pub begun_still : (job watermark id n : ℕ) (readers : List Reader) (trees : Forest) → All (λ k. IsFlushBegun job watermark k.shape.flush) trees → All (λ k. IsFlushBegun job watermark k.shape.flush) (altered_at id (ingested n readers) trees)
begun_still job watermark id n readers trees all =
    one_keeps (λ shape entries. IsFlushBegun job watermark shape.flush) trees no_entries all (ingested n readers) (λ shape entries here. stale_begun job watermark shape.flush here) id

-- whatever is kept of the tables
ingested_same : (n : ℕ) (readers : List Reader) (a b : Shape) → IsSameShape a b → IsSameShape (ingested n readers a) (ingested n readers b)
ingested_same n readers a b same = record {
  tables = tables_behind a.tables b.tables readers same.tables;
  clears = λ i. same.clears i ++ clears_in (parts_of (same.memory i));
  memory = refl;
  flush = ap stale same.flush;
  merge = same.merge;
}

-- a keyspace that lives has a tree
pub living_tree : (m : Remembered) (id : ℕ) (k : LivingKeyspace) → IsLawful m → keyspace_at id m.keyspaces.living ≡ Some k → tree_at id m.trees ≡ Some (shape_in id m.trees)
living_tree m id k is at = by (tree_at id m.trees) (tree_there m.keyspaces m.trees is.planted id (ap (λ (o : Option LivingKeyspace). is_some o) at))
  where
    by : (o : Option Shape) → is_some o ≡ true → o ≡ Some (unwrap_or o (shape_in id []))
    by None there = absurd cc
    by (Some shape) there = refl

both_made : (xs ys : List MadeTable) (ls ms : List (List Entry)) → AreMadeTables xs ls → AreMadeTables ys ms → xs ++ ys ≡ [] → ls ++ ms ≡ []
both_made xs ys ls ms one two none = let both = both_none xs ys none in both_empty ls ms (none_listed xs ls one both.0) (none_listed ys ms two both.1)

-- ---- the law

module _ (m : Remembered) (table : ℕ) (s : State) (stands : MemoryStandsFor m table s) (id : ℕ) (k : LivingKeyspace) (at : keyspace_at id m.keyspaces.living ≡ Some k) (item : KeyOp) (rest : List KeyOp)
    (small : m.next < 2 ^ 63) (fits : items_refusal (batch_items id (item ∷ rest)) ≡ None) (flushes made : List MadeTable) (readers : List Reader)
    (makes : MakesIngestion (shape_in id m.trees) id m.tickets.watermark m.next (item ∷ rest) (last_known m.records k) flushes made readers) where
  abbrev items : List KeyOp
  items = item ∷ rest

  abbrev batch : List BatchItem
  batch = batch_items id items

  abbrev lists : List (List Entry)
  lists = makes.flushed.lists ++ makes.are.0

  -- the record after it, and what memory holds
  abbrev last : Fields
  last = last_ingested m.next (shape_in id m.trees) flushes made (last_known m.records k)

  abbrev after : Remembered
  after = with_ingestion id readers last m

  -- the parts of the state after it
  abbrev parts : Parts
  parts = parts_ingested id (number s.history) flushes made lists readers s.parts

  abbrev then_state : State
  then_state = record s { history = grown s.history (plain (ingestion id items)); parts = parts }

  lawful : IsLawful m
  lawful = stands.lawful

  may : MayPush m.next batch m.trees
  may = may_push batch m lawful small fits

  has : tree_at id m.trees ≡ Some (shape_in id m.trees)
  has = living_tree m id k lawful at

  of : All (λ item. item.0 ≡ id) batch
  of = items_of id items

  are : flat makes.are.0 ≡ versions_of_items id m.next batch
  are = makes.are.3 ∙ versions_are id m.next items

  -- as a batch of the same items it would be a change
  lives : All (λ item. is_living (store_of m.keyspaces m.trees) item.0 ≡ true) batch
  lives = items_living (λ q. is_living (store_of m.keyspaces m.trees) q ≡ true) id items (living_names m.keyspaces m.trees id ∙ ap (λ (o : Option LivingKeyspace). is_some o) at)

  as_change : MemoryStandsFor (with_change (Items batch) m) table (accepted s (Items batch) (ByMode None))
  as_change = a_change_stands m table s stands (Items batch) (ByMode None) (some_items id items (λ same. let bad : ⊥ = cc in bad)) lives fits small

  once : OnceEach (flat makes.are.0)
  once = once_made made makes.are.0 makes.are.1 makes.are.2

  alike_there : IsSameShape (shape_in id s.parts.trees) (shape_in id m.trees)
  alike_there = same_in id s.parts.trees m.trees stands.trees

  -- what was made for it was made for the state too
  kept_there : Same (flat makes.flushed.lists) (jobs.flushed s.tickets.watermark (clears_in (parts_of (shape_in id s.parts.trees).memory)) (flat (map (λ h. h.versions) (parts_of (shape_in id s.parts.trees).memory))))
  kept_there =
      subst (λ (x : ℕ × Memory). Same (flat makes.flushed.lists) (jobs.flushed x.0 (clears_in (parts_of x.1)) (flat (map (λ h. h.versions) (parts_of x.1)))))
      (λ i. ((sym stands.tickets i).watermark, alike_there.memory i)) makes.flushed.kept

  abbrev makes_there : MakesIngestion (shape_in id s.parts.trees) id s.tickets.watermark (number s.history) items (s.parts.records id) flushes made readers
  makes_there = record {
    flushed = record { lists = makes.flushed.lists; made = makes.flushed.made; parted = makes.flushed.parted; ordered = makes.flushed.ordered; kept = kept_there; clears_are = refl };
    are = (makes.are.0, makes.are.1, makes.are.2, makes.are.3 ∙ ap (λ (n : ℕ). versions_made n items) (sym stands.number));
    infos = makes.infos ∙ ap (λ (r : Fields). flushed_infos r.next_table_id (flushes ++ made)) (sym (known_record m table s stands id k at));
  }

  same_last : last_ingested (number s.history) (shape_in id s.parts.trees) flushes made (s.parts.records id) ≡ last
  same_last = λ i. last_ingested (stands.number i) (record (shape_in id s.parts.trees) { memory = sym alike_there.memory i }) flushes made (known_record m table s stands id k at i)

  records_then : All (λ j. parts.records j.id ≡ last_known (insert m.records id last) j) m.keyspaces.living
  records_then =
      All-weaker (λ (j : LivingKeyspace). s.parts.records j.id ≡ last_known m.records j) (λ j. parts.records j.id ≡ last_known (insert m.records id last) j)
      (λ j known. by j (j.id == id) known ∙ ap (λ (o : Option Fields). unwrap_or o (fields (first_of j.number))) (sym (get_put m.records id last j.id))) m.keyspaces.living stands.records
    where
      by : (j : LivingKeyspace) (b : Bool) → s.parts.records j.id ≡ last_known m.records j
          → cond b (last_ingested (number s.history) (shape_in id s.parts.trees) flushes made (s.parts.records id)) (s.parts.records j.id)
          ≡ unwrap_or (cond b (Some last) (get m.records j.id)) (fields (first_of j.number))
      by j true known = same_last
      by j false known = known

  low : m.tickets.watermark < 2 ^ 63
  low = by m.tickets.watermark lawful.spared
    where
      by : (w : ℕ) → (0 < w → w < m.next) → w < 2 ^ 63
      by zero spared = omega arith
      by (suc w) spared = let lt = spared (omega arith) in omega (arith, lt, small)

  -- where no reader comes no table was made
  none_then : All (λ j. j.shape.tables ≡ [] → parts.entries j.id ≡ []) after.trees
  none_then =
      let shape = shape_in id m.trees in
      let old = tree_under (λ j. j.shape.tables ≡ [] → s.parts.entries j.id ≡ []) m.trees id shape stands.beside.none has in
      altered_keeps (λ t es. t.tables ≡ [] → es ≡ []) m.trees s.parts.entries stands.beside.none lawful.forest id shape has (ingested m.next readers) (s.parts.entries id ++ lists)
      (λ bare.
      let both = both_none shape.tables readers bare in
      both_empty (s.parts.entries id) lists (old both.0)
      (both_made flushes made makes.flushed.lists makes.are.0 makes.flushed.made makes.are.1 (none_made (last_known m.records k).next_table_id (flushes ++ made) readers makes.infos both.1)))

  after_is_lawful : IsLawful after
  after_is_lawful =
      let changed = as_change.lawful in
      let given = id_given m id k lawful at in
      record {
        keyspaces = lawful.keyspaces;
        made = changed.made;
        forest = ingested_forest m.next readers id m.trees small lawful.forest lawful.below;
        planted = still_planted m after.trees (λ other. altered_some id (ingested m.next readers) other m.trees) lawful.planted;
        given = ids_stay m.keyspaces.next id (ingested m.next readers) m.trees lawful.given;
        below = ingested_before m.next readers id m.trees lawful.below;
        small = changed.small;
        reached = changed.reached;
        spared = changed.spared;
        above = lawful.above;
        recorded = All-weaker (λ (j : LivingKeyspace). is_some (get m.records j.id) ≡ true) (λ j. is_some (get (insert m.records id last) j.id) ≡ true) (λ j h. still_kept m.records id last j.id h) m.keyspaces.living lawful.recorded;
        kept = λ other le. other_kept m.records id last other (λ same. absurd (omega (arith, given, le, same))) ∙ lawful.kept other le;
        begun = begun_still m.next_job m.tickets.watermark id m.next readers m.trees lawful.begun;
        merging = altered_merges (IsMergeBegun m.next_job m.tickets.watermark) m.trees lawful.merging id (ingested m.next readers) (λ shape. refl);
        jobs = lawful.jobs;
      }

  ingested_stands : MemoryStandsFor after table then_state
  ingested_stands =
      let given = id_given m id k lawful at in
      record {
        present = as_change.present
            ∙ ap kept (sym (ingested_store s.parts.entries m.next batch m.trees may id (shape_in id m.trees) has of id m.tickets.watermark flushes
            (clears_in (parts_of (shape_in id m.trees).memory)) makes.flushed makes.are.0 are readers low m.keyspaces));
        views = λ instant read other held.
            as_change.views instant read other held
            ∙ sym (ingested_with s.parts.entries m.next batch m.trees may id (shape_in id m.trees) has of id m.tickets.watermark flushes (clears_in (parts_of (shape_in id m.trees).memory)) makes.flushed makes.are.0 are readers other instant
            (above_begun m.tickets.watermark m.tickets.watermark instant (omega arith) (read_above (with_change (Items batch) m) as_change.lawful instant read)));
        number = as_change.number;
        poisoned = stands.poisoned;
        handles = stands.handles;
        lasting = stands.lasting;
        tickets = stands.tickets;
        next_job = stands.next_job;
        merges_done = stands.merges_done;
        records = records_then;
        next_table = stands.next_table;
        trees = subst (λ (n : ℕ). AreSameTrees (altered_at id (ingested n readers) s.parts.trees) after.trees) (sym stands.number)
            (same_altered_by id (ingested m.next readers) (ingested_same m.next readers) s.parts.trees m.trees stands.trees);
        beside = record {
          older = ingested_older s.parts.entries m.next batch m.trees may id (shape_in id m.trees) has of id m.tickets.watermark flushes
              (clears_in (parts_of (shape_in id m.trees).memory)) makes.flushed makes.are.0 are readers stands.beside.older once;
          none = none_then;
          unused = λ other le. ap (λ (b : Bool). cond b (s.parts.entries id ++ lists) (s.parts.entries other)) (others other id (λ same. absurd (omega (arith, given, le, same)))) ∙ stands.beside.unused other le;
        };
        journals = stands.journals;
        lawful = after_is_lawful;
      }

  -- the state with the parts that are said, of the same tables and with the same readers
  pub ingested_there : Ingests s id items then_state × MemoryStandsFor after table then_state
  ingested_there = (record { flushes = flushes; made = made; readers = readers; makes = makes_there; is = refl }, ingested_stands)

  pub some_ingested : (new : State) × Ingests s id items new × MemoryStandsFor after table new
  some_ingested = (then_state, ingested_there.0, ingested_there.1)

pub an_ingestion_stands : (m : Remembered) (table : ℕ) (s : State) → MemoryStandsFor m table s → (id : ℕ) (k : LivingKeyspace) → keyspace_at id m.keyspaces.living ≡ Some k → (items : List KeyOp) → items ≢ [] → m.next < 2 ^ 63
    → items_refusal (batch_items id items) ≡ None → (flushes made : List MadeTable) (readers : List Reader)
    → MakesIngestion (shape_in id m.trees) id m.tickets.watermark m.next items (last_known m.records k) flushes made readers
    → (new : State) × Ingests s id items new × MemoryStandsFor (with_ingestion id readers (last_ingested m.next (shape_in id m.trees) flushes made (last_known m.records k)) m) table new
an_ingestion_stands m table s stands id k at [] some small fits flushes made readers makes = absurd (some refl)
an_ingestion_stands m table s stands id k at (item ∷ rest) some small fits flushes made readers makes = some_ingested m table s stands id k at item rest small fits flushes made readers makes
