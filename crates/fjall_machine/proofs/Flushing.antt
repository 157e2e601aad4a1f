-- What flushes make of what is held stands for what they make of states, and so does an eviction.
use Rattle.std.proofs.Common.{◌≡◌, inl, inr, ℕ, zero, suc, ◌+◌, ◌-◌, ◌<◌, ◌≤◌, ◌^◌, ◌==◌, ◌||◌, ◌&&◌, ◌++◌, not, nat_lt, Bool, true, false, cond, List, [], ◌∷◌, length, map, take, All, Option, None, Some, IsTrue, is_none, unwrap_or, refl, sym, ap, subst, ◌∙◌, arith}
use Rattle.std.proofs.lemmas.Bool.{true≢false}
use Rattle.std.proofs.lemmas.List.Elements.{All-head, All-tail, All-weaker}
use Rattle.std.specs.FinMap.{get, insert}
use Rattle.std.specs.List.{list_all}
use Rattle.std.proofs.lemmas.List.Folds.{list_all-append}
use Rattle.std.specs.Option.{is_some}
use Rattle.fjall_base.specs.Store.{kept}
use Rattle.fjall_table_reader.specs.Readers.{AreSameTables, Reader}
use Rattle.fjall_manifest.specs.Catalog.{fields, first_of}
use Rattle.fjall_meta.specs.Contents.{is_beyond}
use Rattle.fjall_compaction.specs.Flushes.{flushed_infos, record_after_flush}
use Rattle.fjall_jobs.specs.declared.made_table.MadeTable.{MadeTable}
use Rattle.fjall_jobs.specs.Tasks.{IsFlushed, Task}
use Rattle.fjall_replay.specs.Known.{last_known}
use Rattle.fjall_tree.specs.Jobs.{IsFlushing, flush_begun, flush_dropped, flush_finished}
use Rattle.fjall_tree.specs.Puts.{bare_tree}
use Rattle.fjall_tree.specs.Trees.{Flushing, IsSameShape, Shape}
use Rattle.fjall_files.specs.Evictions.{StoppedBehind}
use Rattle.fjall_files.specs.Journals.{Journals, Sealed, may_go, staying}
use Rattle.fjall_meta.specs.declared.living.LivingKeyspace.{LivingKeyspace}
use Rattle.fjall_meta.specs.Keyspaces.{keyspace_at}
use Rattle.fjall_memtable.specs.Parts.{Memory, clears_in}
use Rattle.fjall_memtable.specs.Sorted.{flat}
use Rattle.fjall_table.specs.Blocks.{Entry}
use Rattle.fjall_manifest.specs.Records.{Fields}
use Rattle.fjall_trees.specs.Forests.{Forest, IsForest, Planted, altered_at, tree_at}
use Rattle.fjall_trees.specs.Tables.{AreSameTrees, shape_in}
use Rattle.fjall_trees.proofs.Changing.{tree_under}
use Rattle.fjall_trees.proofs.Outstanding.{flushing_tree}
use Rattle.fjall_trees.proofs.Same.{only_tree}
use Rattle.fjall_meta.proofs.Found.{found_has, found_passes}
use Rattle.fjall_meta.proofs.Slots.{get_put, same_id}
use Rattle.fjall_memtable.specs.Jobs.{IsAbove, Same}
use Rattle.fjall_memtable.specs.Jobs as jobs
use Rattle.fjall_trees.specs.MapTables.{LeavesMemory}
use Rattle.fjall_trees.proofs.Alike.{changed_alike_before, changed_alike_forest, changed_alike_has, changed_alike_older, changed_alike_pairs, changed_alike_store, flush_leaves}
use Rattle.fjall_trees.proofs.Changed.{changed_has}
use Rattle.fjall_trees.proofs.Finished.{flushed_before, flushed_forest, flushed_has, flushed_store, flushed_with}
use Rattle.fjall_machine.specs.Machine as machine
use Rattle.fjall_machine.specs.Machine.{EvictsSome, Flushed, FlushesIn, FlushesOne, Parts, State, flush_with, parts_flushed, is_flushed, is_living, present, records_with, task_of}
use Rattle.fjall_machine.specs.Remembered.{IsFlushBegun, IsLawful, IsMergeBegun, MemoryStandsFor, Remembered, flush_gone_in_memory, flush_out_in_memory, flushed_by, flushed_of, with_flush, with_sealed_in_memory}
use Rattle.fjall_machine.proofs.Facts.{living_names}
use Rattle.fjall_machine.proofs.Lawful.{alike, all_begun_later, all_merges_begun_later, other_kept, others, read_above, still_kept}
use Rattle.fjall_machine.proofs.Older.{finished_none, finished_older}
use Rattle.fjall_machine.proofs.SameTrees.{altered_merges, altered_tables, given_flushes, same_altered, same_altered_by, same_in}
use Rattle.fjall_machine.proofs.Standing.{living_agree}

-- ---- what flushes leave lawful

-- the ids of trees stay
pub ids_stay : (bound id : ℕ) (change : Shape → Shape) (trees : Forest) → All (λ k. k.id < bound) trees → All (λ k. k.id < bound) (altered_at id change trees)
ids_stay bound id change trees given = changed_has (λ k. k.id < bound) (λ k shape. cond (k == id) (change shape) shape) trees given

-- a keyspace that lives has a tree where one stays
pub still_planted : (m : Remembered) (trees : Forest) → ((id : ℕ) → is_some (tree_at id trees) ≡ is_some (tree_at id m.trees)) → All (λ k. is_some (tree_at k.id m.trees) ≡ true) m.keyspaces.living
    → All (λ k. is_some (tree_at k.id trees) ≡ true) m.keyspaces.living
still_planted m trees same planted = All-weaker (λ (k : LivingKeyspace). is_some (tree_at k.id m.trees) ≡ true) (λ k. is_some (tree_at k.id trees) ≡ true) (λ k h. same k.id ∙ h) m.keyspaces.living planted

-- a flush that is begun now, or one from before, was begun
begun_now : (m : Remembered) (id : ℕ) → IsLawful m → All (λ k. IsFlushBegun (m.next_job + 1) m.tickets.watermark k.shape.flush) (altered_at id (flush_begun m.next_job m.tickets.watermark) m.trees)
begun_now m id is =
    let w = m.tickets.watermark in
    given_flushes (IsFlushBegun (m.next_job + 1) w) m.trees (all_begun_later m.next_job (m.next_job + 1) w w m.trees (omega arith) (omega arith) is.begun) id (flush_begun m.next_job w)
    (λ shape. (omega arith, omega arith))

pub out_is_lawful : (id : ℕ) (m : Remembered) → IsLawful m → m.next_job < 2 ^ 64 - 1 → IsLawful (flush_out_in_memory id m)
out_is_lawful id m is small =
    let change = flush_begun m.next_job m.tickets.watermark in
    let leaves = flush_leaves m.next_job m.tickets.watermark in
    record {
      keyspaces = is.keyspaces;
      made = is.made;
      forest = changed_alike_forest change leaves id m.trees is.forest;
      planted = still_planted m (altered_at id change m.trees) (changed_alike_has change leaves id m.trees) is.planted;
      given = ids_stay m.keyspaces.next id change m.trees is.given;
      below = changed_alike_before change leaves id m.trees m.next is.below;
      small = is.small;
      reached = is.reached;
      spared = is.spared;
      above = is.above;
      recorded = is.recorded;
      kept = is.kept;
      begun = begun_now m id is;
      merging = altered_merges (IsMergeBegun (m.next_job + 1) m.tickets.watermark) m.trees
          (all_merges_begun_later m.next_job (m.next_job + 1) m.tickets.watermark m.tickets.watermark m.trees (omega arith) (omega arith) is.merging) id change (λ shape. refl);
      jobs = omega (arith, small);
    }

dropped_leaves : LeavesMemory flush_dropped
dropped_leaves shape = (refl, refl)

pub gone_is_lawful : (id : ℕ) (m : Remembered) → IsLawful m → IsLawful (flush_gone_in_memory id m)
gone_is_lawful id m is = record {
  keyspaces = is.keyspaces;
  made = is.made;
  forest = changed_alike_forest flush_dropped dropped_leaves id m.trees is.forest;
  planted = still_planted m (altered_at id flush_dropped m.trees) (changed_alike_has flush_dropped dropped_leaves id m.trees) is.planted;
  given = ids_stay m.keyspaces.next id flush_dropped m.trees is.given;
  below = changed_alike_before flush_dropped dropped_leaves id m.trees m.next is.below;
  small = is.small;
  reached = is.reached;
  spared = is.spared;
  above = is.above;
  recorded = is.recorded;
  kept = is.kept;
  begun = given_flushes (IsFlushBegun m.next_job m.tickets.watermark) m.trees is.begun id flush_dropped (λ shape. tt);
  merging = altered_merges (IsMergeBegun m.next_job m.tickets.watermark) m.trees is.merging id flush_dropped (λ shape. refl);
  jobs = is.jobs;
}

-- the id of a keyspace that lives was given out
pub id_given : (m : Remembered) (id : ℕ) (k : LivingKeyspace) → IsLawful m → keyspace_at id m.keyspaces.living ≡ Some k → id < m.keyspaces.next
id_given m id k is at =
    subst (λ (i : ℕ). i < m.keyspaces.next) (same_id k.id id (found_passes (λ j. j.id == id) m.keyspaces.living k at)) (found_has (λ j. j.id == id) (λ j. j.id < m.keyspaces.next) m.keyspaces.living k at is.keyspaces.given)

pub finished_is_lawful : (id : ℕ) (out : Flushing) (readers : List Reader) (last : Fields) (m : Remembered) → IsLawful m → id < m.keyspaces.next → IsLawful (with_flush id out readers last m)
finished_is_lawful id out readers last m is given =
    let change = flush_finished readers out in
    record {
      keyspaces = is.keyspaces;
      made = is.made;
      forest = flushed_forest readers out id m.trees is.forest;
      planted = still_planted m (altered_at id change m.trees) (λ other. flushed_has readers out id other m.trees) is.planted;
      given = ids_stay m.keyspaces.next id change m.trees is.given;
      below = flushed_before readers out m.next id m.trees is.below;
      small = is.small;
      reached = is.reached;
      spared = is.spared;
      above = is.above;
      recorded = All-weaker (λ (k : LivingKeyspace). is_some (get m.records k.id) ≡ true) (λ k. is_some (get (insert m.records id last) k.id) ≡ true) (λ k h. still_kept m.records id last k.id h) m.keyspaces.living is.recorded;
      kept = λ other le. other_kept m.records id last other (λ same. absurd (omega (arith, given, le, same))) ∙ is.kept other le;
      begun = given_flushes (IsFlushBegun m.next_job m.tickets.watermark) m.trees is.begun id change (λ shape. tt);
      merging = altered_merges (IsMergeBegun m.next_job m.tickets.watermark) m.trees is.merging id change (λ shape. refl);
      jobs = is.jobs;
    }

-- ---- a flush that is begun, or forgotten

pub a_begun_flush_stands : (m : Remembered) (table : ℕ) (s : State) → MemoryStandsFor m table s → (id : ℕ) → m.next_job < 2 ^ 64 - 1 → MemoryStandsFor (flush_out_in_memory id m) table (machine.flush_out s id)
a_begun_flush_stands m table s stands id small =
    let change = flush_begun m.next_job m.tickets.watermark in
    let leaves = flush_leaves m.next_job m.tickets.watermark in
    record {
      present = stands.present ∙ ap kept (sym (changed_alike_store change leaves id m.trees s.parts.entries m.keyspaces));
      views = λ instant at other held. stands.views instant at other held ∙ sym (changed_alike_pairs change leaves id m.trees s.parts.entries other instant);
      number = stands.number;
      poisoned = stands.poisoned;
      handles = stands.handles;
      lasting = stands.lasting;
      tickets = stands.tickets;
      next_job = ap (λ n. n + 1) stands.next_job;
      merges_done = stands.merges_done;
      records = stands.records;
      next_table = stands.next_table;
      trees = subst (λ (at : ℕ × ℕ). AreSameTrees (altered_at id (flush_begun at.0 at.1) s.parts.trees) (altered_at id change m.trees)) (sym (λ i. (stands.next_job i, (stands.tickets i).watermark)))
          (same_altered id change (λ tables shape. refl) s.parts.trees m.trees stands.trees);
      beside = record {
        older = changed_alike_older change leaves id m.trees s.parts.entries stands.beside.older;
        none = altered_tables (λ q tables. tables ≡ [] → s.parts.entries q ≡ []) m.trees stands.beside.none id change (λ shape. refl);
        unused = stands.beside.unused;
      };
      journals = stands.journals;
      lawful = out_is_lawful id m stands.lawful small;
    }

pub a_dropped_flush_stands : (m : Remembered) (table : ℕ) (s : State) → MemoryStandsFor m table s → (id : ℕ) → MemoryStandsFor (flush_gone_in_memory id m) table (machine.flush_gone s id)
a_dropped_flush_stands m table s stands id = record {
  present = stands.present ∙ ap kept (sym (changed_alike_store flush_dropped dropped_leaves id m.trees s.parts.entries m.keyspaces));
  views = λ instant at other held. stands.views instant at other held ∙ sym (changed_alike_pairs flush_dropped dropped_leaves id m.trees s.parts.entries other instant);
  number = stands.number;
  poisoned = stands.poisoned;
  handles = stands.handles;
  lasting = stands.lasting;
  tickets = stands.tickets;
  next_job = stands.next_job;
  merges_done = stands.merges_done;
  records = stands.records;
  next_table = stands.next_table;
  trees = same_altered id flush_dropped (λ tables shape. refl) s.parts.trees m.trees stands.trees;
  beside = record {
    older = changed_alike_older flush_dropped dropped_leaves id m.trees s.parts.entries stands.beside.older;
    none = altered_tables (λ q tables. tables ≡ [] → s.parts.entries q ≡ []) m.trees stands.beside.none id flush_dropped (λ shape. refl);
    unused = stands.beside.unused;
  };
  journals = stands.journals;
  lawful = gone_is_lawful id m stands.lawful;
}

-- a flush that was begun and is forgotten leaves the trees as they were
both_true : (a b : Bool) → (a && b) ≡ true → (a ≡ true) × (b ≡ true)
both_true true b e = (refl, e)
both_true false b e = absurd (true≢false (sym e))

taken_back : (id job watermark : ℕ) (trees : Forest) → All (λ k. k.id ≡ id → k.shape.flush ≡ None) trees → altered_at id flush_dropped (altered_at id (flush_begun job watermark) trees) ≡ trees
taken_back id job watermark [] none = refl
taken_back id job watermark (k ∷ trees) none = λ i.
    by (k.id == id) refl i ∷ taken_back id job watermark trees (All-tail (λ (j : Planted). j.id ≡ id → j.shape.flush ≡ None) k trees none) i
  where
    by : (b : Bool) → (k.id == id) ≡ b
        → (let both : Planted = record { id = k.id; shape = cond b (flush_dropped (cond b (flush_begun job watermark k.shape) k.shape)) (cond b (flush_begun job watermark k.shape) k.shape) } in both) ≡ k
    by true e = λ i. record { id = k.id; shape = record k.shape { flush = sym (All-head (λ (j : Planted). j.id ≡ id → j.shape.flush ≡ None) k trees none (same_id k.id id e)) i } }
    by false e = refl

none_is : (o : Option Flushing) → is_none o ≡ true → o ≡ None
none_is None e = refl
none_is (Some out) e = absurd (true≢false (sym e))

-- a tree with a sealed memtable is there
sealed_there : (o : Option Shape) → nat_lt 0 (length (unwrap_or o (bare_tree 0)).memory.sealed) ≡ true → o ≡ Some (unwrap_or o (bare_tree 0))
sealed_there (Some shape) e = refl
sealed_there None e = let bad : ⊥ = cc in absurd bad

pub begun_gone : (id job watermark : ℕ) (trees : Forest) → IsForest trees → machine.begins_flush trees id ≡ true → altered_at id flush_dropped (altered_at id (flush_begun job watermark) trees) ≡ trees
begun_gone id job watermark trees forest begins =
    let both = both_true (nat_lt 0 (length (shape_in id trees).memory.sealed)) (is_none (shape_in id trees).flush) begins in
    let only = only_tree id trees (shape_in id trees) forest.ascend (sealed_there (tree_at id trees) both.0) in
    let none = none_is (shape_in id trees).flush both.1 in
    taken_back id job watermark trees
    (All-weaker (λ (k : Planted). k.id ≡ id → k.shape ≡ shape_in id trees) (λ k. k.id ≡ id → k.shape.flush ≡ None) (λ k here same. ap (λ (s : Shape). s.flush) (here same) ∙ none) trees only)

pub job_back : (job before : ℕ) → job ≡ before + 1 → job - 1 ≡ before
job_back job before same = omega (arith, same)

-- ---- a flush that is finished

-- the same tables, with the same ones behind
pub tables_behind : (a b more : List Reader) → AreSameTables a b → AreSameTables (a ++ more) (b ++ more)
tables_behind [] [] [] same = tt
tables_behind [] [] (t ∷ more) same = (record { name = refl; info = refl; handles = refl }, tables_behind [] [] more tt)
tables_behind [] (u ∷ b) more same = absurd same
tables_behind (t ∷ a) [] more same = absurd same
tables_behind (t ∷ a) (u ∷ b) more same = (same.0, tables_behind a b more same.1)

finished_same : (readers : List Reader) (out : Flushing) (a b : Shape) → IsSameShape a b → IsSameShape (flush_finished readers out a) (flush_finished readers out b)
finished_same readers out a b same = record {
  tables = tables_behind a.tables b.tables readers same.tables;
  clears = λ i. same.clears i ++ clears_in (take out.count (same.memory i).sealed);
  memory = λ i. record (same.memory i) { sealed = (flush_finished readers out (record a { memory = same.memory i })).memory.sealed };
  flush = refl;
  merge = same.merge;
}

-- the numbers that are read lie above a flush's watermark
pub above_begun : (w risen instant : ℕ) → w ≤ risen → (0 < risen → risen < instant) → IsAbove w instant
above_begun zero risen instant le above = inl refl
above_begun (suc w) risen instant le above = let lt = above (omega (arith, le)) in inr (omega (arith, le, lt))

module _ (m : Remembered) (table : ℕ) (s : State) (stands : MemoryStandsFor m table s) (id : ℕ) (k : LivingKeyspace) (at : keyspace_at id m.keyspaces.living ≡ Some k) where
  -- the state's record is the one that is known
  pub known_record : s.parts.records id ≡ last_known m.records k
  known_record =
      ap s.parts.records (sym (same_id k.id id (found_passes (λ j. j.id == id) m.keyspaces.living k at))) ∙ found_has (λ j. j.id == id) (λ j. s.parts.records j.id ≡ last_known m.records j) m.keyspaces.living k at stands.records

-- the same trees have the same flush out
pub same_with : (a b : Shape) → IsSameShape a b → (out : Flushing) (tables : List MadeTable) → flush_with a out tables ≡ flush_with b out tables
same_with a b same out tables = λ i. flush_with (record a { memory = sym same.memory i; flush = sym same.flush i }) out tables

module _ (m : Remembered) (table : ℕ) (s : State) (stands : MemoryStandsFor m table s) (id : ℕ) (task : Task) (is : IsFlushing (shape_in id m.trees) task) (tables : List MadeTable) (clears : List ℕ)
    (made : IsFlushed task tables clears) (k : LivingKeyspace) (at : keyspace_at id m.keyspaces.living ≡ Some k) (readers : List Reader)
    (infos : map (λ t. t.info) readers ≡ flushed_infos (last_known m.records k).next_table_id tables) where
  -- the parts of the state once it is finished
  abbrev parts : Parts
  parts = parts_flushed id is.out tables made.lists readers s.parts

  abbrev last : Fields
  last = record_after_flush (flush_with (shape_in id m.trees) is.out tables) (last_known m.records k)

  alike_there : IsSameShape (shape_in id s.parts.trees) (shape_in id m.trees)
  alike_there = same_in id s.parts.trees m.trees stands.trees

  -- what the flush made of its task, it made of what the state's tree was begun with
  made_there : IsFlushed (task_of id (shape_in id s.parts.trees) is.out) tables (clears_in (take is.out.count (shape_in id s.parts.trees).memory.sealed))
  made_there =
      let kept_of = λ (x : ℕ × List ℕ × List (List Entry)). Same (flat made.lists) (jobs.flushed x.0 x.1 (flat x.2)) in
      let here = subst kept_of (λ i. (is.watermark i, is.clears i, is.runs i)) made.kept in
      record {
        lists = made.lists;
        made = made.made;
        parted = made.parted;
        ordered = made.ordered;
        kept =
            subst (λ (memory : Memory). kept_of (is.out.watermark, clears_in (take is.out.count memory.sealed), map (λ h. h.versions) (take is.out.count memory.sealed))) alike_there.memory here;
        clears_are = refl;
      }

  pub flushed_there : Flushed s.parts id parts
  unfolding made_there
  flushed_there =
      subst (λ o. FlushesIn o s.parts id parts) (sym (sym alike_there.flush ∙ is.is))
      (record { tables = tables; made = made_there; readers = readers; infos = infos ∙ ap (λ (r : Fields). flushed_infos r.next_table_id tables) (sym (known_record m table s stands id k at)); is = refl })

  -- its watermark was reached
  reached : task.watermark ≤ m.tickets.watermark
  reached =
      let begun = tree_under (λ (j : Planted). IsFlushBegun m.next_job m.tickets.watermark j.shape.flush) m.trees id (shape_in id m.trees) stands.lawful.begun (flushing_tree id m.trees task is) in
      let out = subst (IsFlushBegun m.next_job m.tickets.watermark) is.is begun in
      let low = out.1 in
      let same = is.watermark in
      omega (arith, low, same)

  low : task.watermark < 2 ^ 63
  low = by m.tickets.watermark reached stands.lawful.spared
    where
      by : (w : ℕ) → task.watermark ≤ w → (0 < w → w < m.next) → task.watermark < 2 ^ 63
      by zero le spared = omega (arith, le)
      by (suc w) le spared = let lt = spared (omega arith) in let small = stands.lawful.small in omega (arith, le, lt, small)

  -- the record after it is the same of the state
  same_last : record_after_flush (flush_with (shape_in id s.parts.trees) is.out tables) (s.parts.records id) ≡ last
  same_last = λ i. record_after_flush (same_with (shape_in id s.parts.trees) (shape_in id m.trees) alike_there is.out tables i) (known_record m table s stands id k at i)

  records_then : All (λ j. parts.records j.id ≡ last_known (insert m.records id last) j) m.keyspaces.living
  records_then =
      All-weaker (λ (j : LivingKeyspace). s.parts.records j.id ≡ last_known m.records j) (λ j. parts.records j.id ≡ last_known (insert m.records id last) j)
      (λ j known. by j (j.id == id) known ∙ ap (λ (o : Option Fields). unwrap_or o (fields (first_of j.number))) (sym (get_put m.records id last j.id))) m.keyspaces.living stands.records
    where
      by : (j : LivingKeyspace) (b : Bool) → s.parts.records j.id ≡ last_known m.records j
          → cond b (record_after_flush (flush_with (shape_in id s.parts.trees) is.out tables) (s.parts.records id)) (s.parts.records j.id)
          ≡ unwrap_or (cond b (Some last) (get m.records j.id)) (fields (first_of j.number))
      by j true known = same_last
      by j false known = known

  pub finished_stands : MemoryStandsFor (with_flush id is.out readers last m) table (record s { parts = parts })
  finished_stands =
      let lawful = stands.lawful in
      let given = id_given m id k lawful at in
      record {
        present = stands.present ∙ ap kept (sym (flushed_store s.parts.entries m.trees lawful.forest id task is tables clears made readers low m.keyspaces));
        views = λ instant read other held.
            stands.views instant read other held
            ∙ sym (flushed_with s.parts.entries m.trees lawful.forest id task is tables clears made readers other instant (above_begun task.watermark m.tickets.watermark instant reached (read_above m lawful instant read)));
        number = stands.number;
        poisoned = stands.poisoned;
        handles = stands.handles;
        lasting = stands.lasting;
        tickets = stands.tickets;
        next_job = stands.next_job;
        merges_done = stands.merges_done;
        records = records_then;
        next_table = stands.next_table;
        trees = same_altered_by id (flush_finished readers is.out) (finished_same readers is.out) s.parts.trees m.trees stands.trees;
        beside = record {
          older = finished_older s.parts.entries m.trees lawful.forest stands.beside.older id task is tables clears made readers;
          none = finished_none s.parts.entries m.trees lawful.forest stands.beside.none id task is tables clears made readers (last_known m.records k).next_table_id infos;
          unused = λ other le. ap (λ (b : Bool). cond b (s.parts.entries id ++ made.lists) (s.parts.entries other)) (others other id (λ same. absurd (omega (arith, given, le, same)))) ∙ stands.beside.unused other le;
        };
        journals = stands.journals;
        lawful = finished_is_lawful id is.out readers last m lawful given;
      }

pub a_finished_flush_stands : (m : Remembered) (table : ℕ) (s : State) → MemoryStandsFor m table s → (id : ℕ) (task : Task) (is : IsFlushing (shape_in id m.trees) task) (tables : List MadeTable) (clears : List ℕ)
    (made : IsFlushed task tables clears) (k : LivingKeyspace) → keyspace_at id m.keyspaces.living ≡ Some k → (readers : List Reader)
    → map (λ t. t.info) readers ≡ flushed_infos (last_known m.records k).next_table_id tables
    → let parts = parts_flushed id is.out tables made.lists readers s.parts in
    Flushed s.parts id parts × MemoryStandsFor (with_flush id is.out readers (record_after_flush (flush_with (shape_in id m.trees) is.out tables) (last_known m.records k)) m) table (record s { parts = parts })
a_finished_flush_stands m table s stands id task is tables clears made k at readers infos =
    (flushed_there m table s stands id task is tables clears made k at readers infos, finished_stands m table s stands id task is tables clears made k at readers infos)

-- ---- an eviction

-- what memory tells of what was flushed is so in the state
pub flushed_agree : (m : Remembered) (table : ℕ) (s : State) → MemoryStandsFor m table s → (id lsn : ℕ) → is_flushed s id lsn ≡ flushed_by m.keyspaces m.records id lsn
flushed_agree m table s stands id lsn = by (keyspace_at id m.keyspaces.living) refl
  where
    lives : (found : Option LivingKeyspace) → keyspace_at id m.keyspaces.living ≡ found → is_living (present s) id ≡ is_some found
    lives found at = living_agree m table s stands id ∙ living_names m.keyspaces m.trees id ∙ ap (λ (o : Option LivingKeyspace). is_some o) at

    by : (found : Option LivingKeyspace) → keyspace_at id m.keyspaces.living ≡ found → is_flushed s id lsn ≡ flushed_of m.records (keyspace_at id m.keyspaces.living) lsn
    by None at =
        ap (λ (b : Bool). not b || not (is_beyond (s.parts.records id).persisted lsn)) (lives None at) ∙ ap (λ (o : Option LivingKeyspace). flushed_of m.records o lsn) (sym at)
    by (Some k) at =
        ap (λ (b : Bool). not b || not (is_beyond (s.parts.records id).persisted lsn)) (lives (Some k) at)
        ∙ ap (λ (r : Fields). not (is_beyond r.persisted lsn)) (known_record m table s stands id k at) ∙ ap (λ (o : Option LivingKeyspace). flushed_of m.records o lsn) (sym at)

pub with_sealed_stands : (m : Remembered) (table : ℕ) (s : State) → MemoryStandsFor m table s → (left : List Sealed) → MemoryStandsFor (with_sealed_in_memory left m) table (machine.with_sealed left s)
with_sealed_stands m table s stands left = record {
  present = stands.present;
  views = stands.views;
  number = stands.number;
  poisoned = stands.poisoned;
  handles = stands.handles;
  lasting = stands.lasting;
  tickets = stands.tickets;
  next_job = stands.next_job;
  merges_done = stands.merges_done;
  records = stands.records;
  next_table = stands.next_table;
  trees = stands.trees;
  beside = record { older = stands.beside.older; none = stands.beside.none; unused = stands.beside.unused };
  journals = λ i. record (stands.journals i) { sealed = left };
  lawful = alike m (with_sealed_in_memory left m) stands.lawful refl refl refl refl refl refl;
}

pub same_staying : (m : Remembered) (table : ℕ) (s : State) → MemoryStandsFor m table s → staying (is_flushed s) s.parts.journals.sealed ≡ staying (flushed_by m.keyspaces m.records) m.journals.sealed
same_staying m table s stands = λ i. staying (λ id lsn. flushed_agree m table s stands id lsn i) (stands.journals i).sealed

pub an_eviction_stands : (m : Remembered) (table : ℕ) (s : State) → MemoryStandsFor m table s → MemoryStandsFor (with_sealed_in_memory (staying (flushed_by m.keyspaces m.records) m.journals.sealed) m) table (machine.evicted s)
an_eviction_stands m table s stands =
    let left = staying (flushed_by m.keyspaces m.records) m.journals.sealed in
    subst (λ (l : List Sealed). MemoryStandsFor (with_sealed_in_memory left m) table (machine.with_sealed l s)) (sym (same_staying m table s stands)) (with_sealed_stands m table s stands left)

first_all : (p : Sealed → Bool) (xs ys : List Sealed) → IsTrue (list_all p (xs ++ ys)) → IsTrue (list_all p xs)
first_all p xs ys all = by (list_all p xs) (list_all p ys) (subst IsTrue (list_all-append p xs ys) all)
  where
    by : (a b : Bool) → IsTrue (a && b) → IsTrue a
    by true b both = refl
    by false b both = both

-- an eviction that stopped before its end
pub some_evicted : (m : Remembered) (table : ℕ) (s : State) → MemoryStandsFor m table s → (gone left : List Sealed) → StoppedBehind (flushed_by m.keyspaces m.records) m.journals.sealed left gone
    → EvictsSome s (machine.with_sealed left s)
some_evicted m table s stands gone left stopped = (
  gone,
  left,
  ap (λ (j : Journals). j.sealed) stands.journals ∙ stopped.all ∙ ap (λ (l : List Sealed). gone ++ l) (sym stopped.left),
  first_all (may_go (is_flushed s)) gone (stopped.next ∷ [])
      (subst (λ (f : ℕ → ℕ → Bool). IsTrue (list_all (may_go f) (gone ++ stopped.next ∷ []))) (sym (λ i id lsn. flushed_agree m table s stands id lsn i)) stopped.each),
  refl,
)
