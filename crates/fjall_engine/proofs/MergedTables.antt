-- A core's disk has the tables of its trees still, and those of a merge that was finished in the place of those that it took.
use Rattle.std.proofs.Common.{◌≡◌, ◌≢◌, inl, inr, ℕ, zero, suc, ◌+◌, ◌<◌, ◌≤◌, ◌^◌, ◌==◌, Bool, true, false, cond, List, [], ◌∷◌, ◌++◌, All, Some, String, drop, get_or, length, map, take, refl, sym, ◌∙◌, ap, subst, arith}
use Rattle.std.specs.Option.{option_map}
use Rattle.std.specs.declared.alloc.Global.{Global}
use Rattle.std.proofs.lemmas.Bool.{eq-eqb, true≢false}
use Rattle.std.proofs.lemmas.List.{take-map}
use Rattle.std.proofs.lemmas.List.Elements.{All-append, All-cons, All-drop, All-head, All-map, All-nil, All-tail, All-take, All-weaker}
use Rattle.fjall_base.specs.Disk.{Meaning}
use Rattle.fjall_table_reader.specs.Readers.{AreRead, Reader, SomeTableIsWrong}
use Rattle.fjall_changes.proofs.KeptHomes.{within_others}
use Rattle.fjall_files.specs.Names.{keyspace_folder, table_name}
use Rattle.fjall_files.specs.Regions.{Within}
use Rattle.fjall_compaction.specs.Flushes as flushes
use Rattle.fjall_compaction.specs.FlushPlans.{HaveFiles}
use Rattle.fjall_jobs.specs.declared.made_table.MadeTable.{MadeTable}
use Rattle.fjall_jobs.specs.declared.merge_made.MergeMade.{MergeMade}
use Rattle.fjall_jobs.specs.Made.{merge_tables, merged_task}
use Rattle.fjall_replay.specs.Known.{AreListed, IsGiven}
use Rattle.fjall_replay.proofs.ListedTables.{AreNext, given_apart, listed_in_place}
use Rattle.fjall_tree.specs.Jobs.{merge_finished}
use Rattle.fjall_tree.specs.Trees.{Shape}
use Rattle.fjall_tree.proofs.Flushed.{front_of}
use Rattle.fjall_tree.proofs.Several.{read_both, read_dropped}
use Rattle.fjall_compaction.specs.Merges.{merged_infos}
use Rattle.fjall_compaction.proofs.MergeAfterRecords.{infos_count, new_from}
use Rattle.fjall_compaction.proofs.Taking.{named_ids, other_names}
use Rattle.fjall_machine.specs.Machine.{State, is_among}
use Rattle.fjall_machine.specs.Merging.{AreTaken, keyspace_of}
use Rattle.fjall_machine.specs.Remembered.{IsLawful, Remembered}
use Rattle.fjall_machine.proofs.Flushing.{known_record}
use Rattle.fjall_table.specs.Blocks.{Entry}
use Rattle.fjall_table_reader.specs.Files.{entry_at}
use Rattle.fjall_table.specs.declared.table_info.TableInfo.{TableInfo}
use Rattle.fjall_manifest.specs.Records.{Fields}
use Rattle.fjall_trees.specs.Forests.{Planted, altered_at, tree_at}
use Rattle.fjall_trees.specs.Tables.{shape_in}
use Rattle.fjall_trees.proofs.Changing.{tree_under}
use Rattle.fjall_trees.proofs.Others.{altered_here}
use Rattle.fjall_trees.proofs.Outstanding.{merging_tree}
use Rattle.fjall_trees.proofs.Same.{only_tree}
use Rattle.fjall_meta.proofs.Slots.{same_id}
use Rattle.fjall_engine.specs.Holding.{Held}
use Rattle.fjall_engine.specs.CallParts.{TookAway, WroteMerge}
use Rattle.fjall_engine.specs.Standing.{Becomes, LieAtHome, Poisons, ReadsOn, StandsFor, AreRecorded}
use Rattle.fjall_engine.proofs.FlushedTables.{none_wrong, wrong_parts}
use Rattle.fjall_engine.proofs.MergesOnDisk.{HasMade, IsPut, entries_after, last, lists, lives_there, living_there, out}
use Rattle.fjall_engine.proofs.TablesAtHome as at_home
use Rattle.fjall_engine.proofs.TablesAtHome.{files_read, files_wrong, kept_files, outside_ill, outside_same, under_home}

-- ---- readers of what was made

-- the names of a merge's tables are those that a flush's have
same_names : (id next : ℕ) (tables : List MadeTable) → map (λ t. table_name id t.id) (merged_infos next tables) ≡ map (λ t. table_name id t.id) (flushes.flushed_infos next tables)
same_names id next [] = refl
same_names id next (t ∷ tables) = λ i. table_name id next ∷ same_names id (next + 1) tables i

-- each is named by its own id
named_so : (id : ℕ) (readers : List Reader) → map (λ t. t.name) readers ≡ map (λ t. table_name id t.id) (map (λ t. t.info) readers) → All (λ t. t.name ≡ table_name id t.info.id) readers
named_so id [] names = All-nil (λ (t : Reader). t.name ≡ table_name id t.info.id)
named_so id (r ∷ readers) names =
    let called : r.name ≡ table_name id r.info.id = cc in
    let others : map (λ (t : Reader). t.name) readers ≡ map (λ (t : TableInfo). table_name id t.id) (map (λ (t : Reader). t.info) readers) = cc in
    All-cons (λ (t : Reader). t.name ≡ table_name id t.info.id) r readers called (named_so id readers others)

-- they have the next ids
next_ids : (next : ℕ) (tables : List MadeTable) (readers : List Reader) → map (λ t. t.info) readers ≡ merged_infos next tables → AreNext next readers
next_ids next tables [] infos = tt
next_ids next [] (r ∷ readers) infos = let bad : ⊥ = cc in absurd bad
next_ids next (t ∷ tables) (r ∷ readers) infos =
    let ids : r.info.id ∷ map (λ (x : TableInfo). x.id) (map (λ (x : Reader). x.info) readers) ≡ next ∷ map (λ (x : TableInfo). x.id) (merged_infos (next + 1) tables) =
    ap (λ (l : List TableInfo). map (λ (x : TableInfo). x.id) l) infos in
    let first : r.info.id ≡ next = cc in
    let others : map (λ (x : Reader). x.info) readers ≡ merged_infos (next + 1) tables = cc in
    (first, next_ids (next + 1) tables readers others)

infos_long : (readers : List Reader) → length (map (λ t. t.info) readers) ≡ length readers
infos_long [] = refl
infos_long (r ∷ readers) = ap suc (infos_long readers)

-- what is so of each id is so of each reader's
of_infos : (P : ℕ → Type 0) (readers : List Reader) → All (λ t. P t.id) (map (λ t. t.info) readers) → All (λ t. P t.info.id) readers
of_infos P [] all = All-nil (λ (t : Reader). P t.info.id)
of_infos P (r ∷ readers) all =
    let infos = map (λ (t : Reader). t.info) readers in
    All-cons (λ (t : Reader). P t.info.id) r readers (All-head (λ (i : TableInfo). P i.id) r.info infos all) (of_infos P readers (All-tail (λ (i : TableInfo). P i.id) r.info infos all))

-- where a table behind the first ones is wrong, one of all is
wrong_behind : (disk : Meaning) (n : ℕ) (tables : List Reader) → SomeTableIsWrong disk (drop n tables) → SomeTableIsWrong disk tables
wrong_behind disk zero tables wrong = wrong
wrong_behind disk (suc n) [] wrong = wrong
wrong_behind disk (suc n) (t ∷ tables) wrong = let (at, r, has, bad) = wrong_behind disk n tables wrong in (suc at, r, has, bad)

-- ---- a change within a keyspace's folder, which keeps the files of its tables

module _ (core : Held) (s : State) (stands : StandsFor core s) (reads : ReadsOn core s) (id : ℕ) (small : id < 2 ^ 64) (new : Meaning) (run : Within (keyspace_folder id) core.disk new)
    (own : All (λ k. k.id ≡ id → at_home.HaveFiles core.disk new k.shape.tables) core.memory.trees) where
  -- each other keyspace keeps its folder
  files_stay : All (λ k. at_home.HaveFiles core.disk new k.shape.tables) core.memory.trees
  files_stay = λ i d lt.
      let k = get_or core.memory.trees i d in
      by k (k.id == id) refl (reads.tables i d lt) (stands.remembered.lawful.given i d lt) (own i d lt)
    where
      by : (k : Planted) (b : Bool) → (k.id == id) ≡ b → LieAtHome core.disk k.id (s.parts.records k.id).next_table_id (s.parts.entries k.id) (is_among s.damaged k.id) k.shape.tables
          → k.id < core.memory.keyspaces.next → (k.id ≡ id → at_home.HaveFiles core.disk new k.shape.tables) → at_home.HaveFiles core.disk new k.shape.tables
      by k true e lie given files = files (same_id k.id id e)
      by k false e lie given files =
          let fits = stands.remembered.lawful.keyspaces.fits in
          kept_files core.disk new k.id k.shape.tables (within_others id core.disk new small run k.id lie.positive (omega (arith, given, fits)) (λ same. true≢false (sym (eq-eqb k.id id same) ∙ e)))
          (under_home k.id (s.parts.records k.id).next_table_id k.shape.tables lie.named)

  -- so all of them lie there as they did
  lie_still : at_home.LieThere new s core.memory.trees
  lie_still = λ i d lt.
      let k = get_or core.memory.trees i d in
      let files = files_stay i d lt in
      let lie = reads.tables i d lt in
      record {
        positive = lie.positive;
        read = files_read core.disk new k.shape.tables (s.parts.entries k.id) files lie.read;
        named = lie.named;
        damage = λ wrong. lie.damage (files_wrong core.disk new k.shape.tables files wrong);
      }

-- ---- while a merge is written

module _ (old new : Held) (made : MergeMade) (s : State) (stands : StandsFor old s) (reads : ReadsOn old s) (has : HasMade old made s.parts.entries) (done : Bool) (wrote : WroteMerge old.memory made old.disk new.disk done) where
  abbrev id : ℕ
  id = keyspace_of made

  abbrev lawful : IsLawful old.memory
  lawful = stands.remembered.lawful

  abbrev shape : Shape
  shape = shape_in id old.memory.trees

  abbrev record_there : Fields
  record_there = last old made s.parts.entries has

  pub has_tree : tree_at id old.memory.trees ≡ Some shape
  has_tree = merging_tree id old.memory.trees (s.parts.entries id) (merged_task made) has.begun

  pub small : id < 2 ^ 64
  small =
      let given : id < old.memory.keyspaces.next = tree_under (λ (k : Planted). k.id < old.memory.keyspaces.next) old.memory.trees id shape lawful.given has_tree in
      let fits = lawful.keyspaces.fits in
      omega (arith, given, fits)

  -- the ids of the keyspace's tables, as the state says, are those of its last record
  pub next_there : (s.parts.records id).next_table_id ≡ record_there.next_table_id
  next_there = ap (λ (r : Fields). r.next_table_id) (known_record old.memory old.catalog.next_table_id s stands.remembered id (living_there old made s.parts.entries has) (lives_there old made s.parts.entries has))

  -- the new tables' ids were given out to none of them
  own_kept : (k : Planted) → k.id ≡ id → All (IsGiven k.id (s.parts.records k.id).next_table_id) k.shape.tables → at_home.HaveFiles old.disk new.disk k.shape.tables
  own_kept k same named =
      All-weaker (IsGiven k.id (s.parts.records k.id).next_table_id) (λ (t : Reader). entry_at new.disk t.name ≡ entry_at old.disk t.name)
      (λ t given.
      let at : t.name ≡ table_name id t.info.id = given.2 ∙ ap (λ (n : ℕ). table_name n t.info.id) same in
      let next : (s.parts.records k.id).next_table_id ≡ record_there.next_table_id = ap (λ (n : ℕ). (s.parts.records n).next_table_id) same ∙ next_there in
      let below = given.0 in
      ap (entry_at new.disk) at
      ∙ wrote.beside (living_there old made s.parts.entries has) (out old made s.parts.entries has) (lives_there old made s.parts.entries has) has.begun.is t.info.id given.1 (inl (omega (arith, next, below)))
      ∙ sym (ap (entry_at old.disk) at))
      k.shape.tables named

  pub put_lie : at_home.LieThere new.disk s old.memory.trees
  put_lie = lie_still old s stands reads id small new.disk wrote.within (λ i d lt same. own_kept (get_or old.memory.trees i d) same (reads.tables i d lt).named.given)

  -- a fault left memory as it was
  pub unput_reads : Poisons old.memory old new → ReadsOn new s
  unput_reads fault = record {
    tables = subst (λ (x : Remembered). at_home.LieThere new.disk s x.trees) (sym fault.memory_is) put_lie;
    writer = outside_ill old new (ap (λ (x : Remembered). x.poisoned) fault.memory_is) reads.writer;
    recorded = reads.recorded;
  }

-- ---- once it was written

module _ (old mid : Held) (made : MergeMade) (s : State) (stands : StandsFor old s) (reads : ReadsOn old s) (has : HasMade old made s.parts.entries) (wrote : WroteMerge old.memory made old.disk mid.disk true)
    (fin : IsPut old made s.parts.entries has mid) (becomes : Becomes old mid.memory mid) where
  abbrev own : ℕ
  own = keyspace_of made

  abbrev tables : List MadeTable
  tables = merge_tables made

  abbrev count : ℕ
  count = (out old made s.parts.entries has).tables

  abbrev from : ℕ
  from = (last old made s.parts.entries has).next_table_id

  abbrev new_lists : List (List Entry)
  new_lists = lists old made s.parts.entries has

  files : HaveFiles mid.disk own from tables
  files = wrote.files refl (living_there old made s.parts.entries has) (out old made s.parts.entries has) (lives_there old made s.parts.entries has) has.begun.is

  read_new : AreRead mid.disk fin.readers new_lists
  read_new = fin.are.read mid.disk new_lists has.merged.made files

  fits : from + length tables < 2 ^ 64
  fits = wrote.fits refl (living_there old made s.parts.entries has) (out old made s.parts.entries has) (lives_there old made s.parts.entries has) has.begun.is

  as_many : length fin.readers ≡ length tables
  as_many = sym (infos_long fin.readers) ∙ ap (λ (l : List TableInfo). length l) fin.are.infos ∙ infos_count from tables

  named_new : All (λ t. t.name ≡ table_name own t.info.id) fin.readers
  named_new = named_so own fin.readers (fin.are.names ∙ ap (map (λ (t : TableInfo). table_name own t.id)) (sym fin.are.infos))

  -- they are listed in the place of those that the merge took
  listed_then : (old_tables : List Reader) → AreListed own (s.parts.records own).next_table_id old_tables → AreListed own (from + length tables) (fin.readers ++ drop count old_tables)
  listed_then old_tables listed =
      let many = as_many in
      let within = fits in
      subst (λ (n : ℕ). AreListed own (from + n) (fin.readers ++ drop count old_tables)) as_many
      (listed_in_place own from old_tables (subst (λ (n : ℕ). AreListed own n old_tables) (next_there old mid made s stands reads has true wrote) listed) fin.readers (next_ids from tables fin.readers fin.are.infos) named_new
      (omega (arith, many, within)) count)

  none_new_wrong : SomeTableIsWrong mid.disk fin.readers → ⊥
  none_new_wrong = none_wrong mid.disk own from tables new_lists fin.readers (fin.are.names ∙ same_names own from tables) has.merged.made files read_new

  lie_with : (k : Planted) (next : ℕ) → k.id ≡ own → next ≡ from + length tables
      → LieAtHome mid.disk k.id (s.parts.records k.id).next_table_id (s.parts.entries k.id) (is_among s.damaged k.id) k.shape.tables
      → LieAtHome mid.disk k.id next (new_lists ++ drop count (s.parts.entries own)) (is_among s.damaged k.id) (fin.readers ++ drop count k.shape.tables)
  lie_with k next same is lie =
      let listed = subst (λ (n : ℕ). AreListed n (s.parts.records n).next_table_id k.shape.tables) same lie.named in
      record {
        positive = lie.positive;
        read = subst (λ (n : ℕ). AreRead mid.disk (fin.readers ++ drop count k.shape.tables) (new_lists ++ drop count (s.parts.entries n))) same
            (read_both mid.disk fin.readers (drop count k.shape.tables) new_lists (drop count (s.parts.entries k.id)) read_new (read_dropped mid.disk count k.shape.tables (s.parts.entries k.id) lie.read));
        named = subst (λ (x : ℕ × ℕ). AreListed x.0 x.1 (fin.readers ++ drop count k.shape.tables)) (λ i. (sym same i, sym is i)) (listed_then k.shape.tables listed);
        damage = λ wrong. elim (wrong_parts mid.disk fin.readers (drop count k.shape.tables) wrong) [
          | inl added ↦ absurd (none_new_wrong added)
          | inr left ↦ lie.damage (wrong_behind mid.disk count k.shape.tables left)
        ];
      }

  -- the records say so, and those of other keyspaces as before
  module _ (t : State) (entries : t.parts.entries ≡ entries_after old made s.parts.entries has) (damaged : t.damaged ≡ s.damaged) (grown : (t.parts.records own).next_table_id ≡ (s.parts.records own).next_table_id + length tables)
      (others : (id : ℕ) → (id == own) ≡ false → t.parts.records id ≡ s.parts.records id) where
    lies : (k : Planted) (b : Bool) → (k.id == own) ≡ b → LieAtHome mid.disk k.id (s.parts.records k.id).next_table_id (s.parts.entries k.id) (is_among s.damaged k.id) k.shape.tables
        → LieAtHome mid.disk k.id (t.parts.records k.id).next_table_id (cond b (new_lists ++ drop count (s.parts.entries own)) (s.parts.entries k.id)) (is_among s.damaged k.id)
        (cond b (merge_finished fin.readers (out old made s.parts.entries has) k.shape) k.shape).tables
    lies k true e lie =
        let same = same_id k.id own e in
        let next : (t.parts.records k.id).next_table_id ≡ (t.parts.records own).next_table_id = ap (λ (n : ℕ). (t.parts.records n).next_table_id) same in
        let known = next_there old mid made s stands reads has true wrote in
        lie_with k (t.parts.records k.id).next_table_id same (omega (arith, next, grown, known)) lie
    lies k false e lie =
        subst (λ (n : ℕ). LieAtHome mid.disk k.id n (s.parts.entries k.id) (is_among s.damaged k.id) k.shape.tables) (sym (ap (λ (r : Fields). r.next_table_id) (others k.id e))) lie

    all_there : at_home.LieThere mid.disk t (altered_at own (merge_finished fin.readers (out old made s.parts.entries has)) old.memory.trees)
    all_there =
        All-map (λ (k : Planted). LieAtHome mid.disk k.id (t.parts.records k.id).next_table_id (t.parts.entries k.id) (is_among t.damaged k.id) k.shape.tables)
        (λ (k : Planted). record { id = k.id; shape = cond (k.id == own) (merge_finished fin.readers (out old made s.parts.entries has) k.shape) k.shape }) old.memory.trees (λ i d lt.
        let k = get_or old.memory.trees i d in
        let then = cond (k.id == own) (merge_finished fin.readers (out old made s.parts.entries has) k.shape) k.shape in
        subst (λ (l : List ℕ). LieAtHome mid.disk k.id (t.parts.records k.id).next_table_id (t.parts.entries k.id) (is_among l k.id) then.tables) (sym damaged)
        (subst (λ (e : ℕ → List (List Entry)). LieAtHome mid.disk k.id (t.parts.records k.id).next_table_id (e k.id) (is_among s.damaged k.id) then.tables) (sym entries)
        (lies k (k.id == own) refl (put_lie old mid made s stands reads has true wrote i d lt))))

    pub put_reads : AreRecorded t.parts → ReadsOn mid t
    put_reads told = record {
      tables = subst (λ (x : Remembered). at_home.LieThere mid.disk t x.trees) (sym fin.is) all_there;
      writer = outside_same old mid (ap (λ (x : Remembered). x.poisoned) fin.is) (ap (λ j. j.name) becomes.journal) reads.writer;
      recorded = told;
    }

  -- ---- as the tables that it took are removed, which are those that the record lists first

  module _ (told : map (λ t. t.info) (shape_in own old.memory.trees).tables ≡ (last old made s.parts.entries has).tables) (taken : List (String Global)) (are : AreTaken own (last old made s.parts.entries has) (out old made s.parts.entries has) taken)
      (new : Meaning) (done : Bool) (away : TookAway taken mid.disk new done) where
    abbrev had : List Reader
    had = (shape_in own old.memory.trees).tables

    abbrev took : List TableInfo
    took = take count (last old made s.parts.entries has).tables

    took_is : map (λ t. t.info) (take count had) ≡ took
    took_is = sym (take-map (λ (t : Reader). t.info) count had) ∙ ap (take count) told

    listed : AreListed own (s.parts.records own).next_table_id had
    listed =
        (tree_under (λ (k : Planted). LieAtHome old.disk k.id (s.parts.records k.id).next_table_id (s.parts.entries k.id) (is_among s.damaged k.id) k.shape.tables) old.memory.trees own
        (shape_in own old.memory.trees) reads.tables (has_tree old mid made s stands reads has true wrote)).named

    -- each of those that it took has an id below those of the new ones
    taken_given : All (IsGiven own (s.parts.records own).next_table_id) (take count had)
    taken_given = All-take (IsGiven own (s.parts.records own).next_table_id) count had listed.given

    -- what none of those has for its id stands as it did
    other_stays : (t : Reader) → t.name ≡ table_name own t.info.id → t.info.id < 2 ^ 64 → All (λ u. (u.info.id < 2 ^ 64) × (u.info.id ≢ t.info.id)) (take count had) → entry_at new t.name ≡ entry_at mid.disk t.name
    other_stays t named within others =
        let infos = subst (All (λ (u : TableInfo). (u.id < 2 ^ 64) × (u.id ≢ t.info.id))) took_is (All-map (λ (u : TableInfo). (u.id < 2 ^ 64) × (u.id ≢ t.info.id)) (λ (u : Reader). u.info) (take count had) others) in
        ap (entry_at new) named
        ∙ away.beside (table_name own t.info.id) (other_names own t.info.id (small old mid made s stands reads has true wrote) took taken within infos (are ∙ sym (named_ids own took)))
        ∙ sym (ap (entry_at mid.disk) named)

    -- so do the tables that the merge made
    made_stay : at_home.HaveFiles mid.disk new fin.readers
    made_stay = λ i d lt.
        let t = get_or fin.readers i d in
        let above : from ≤ t.info.id = of_infos (λ n. from ≤ n) fin.readers (subst (All (λ (u : TableInfo). from ≤ u.id)) (sym fin.are.infos) (new_from from tables)) i d lt in
        let given = front_of (IsGiven own (from + length tables)) fin.readers (drop count had) (listed_then had listed).given i d lt in
        let known = next_there old mid made s stands reads has true wrote in
        other_stays t (named_new i d lt) given.1
        (All-weaker (IsGiven own (s.parts.records own).next_table_id) (λ (u : Reader). (u.info.id < 2 ^ 64) × (u.info.id ≢ t.info.id))
        (λ u lower. (lower.1, λ same. let less = lower.0 in omega (arith, less, same, above, known))) (take count had) taken_given)

    -- and those that came since
    left_stay : at_home.HaveFiles mid.disk new (drop count had)
    left_stay = λ i d lt.
        let t = get_or (drop count had) i d in
        let given = All-drop (IsGiven own (s.parts.records own).next_table_id) count had listed.given i d lt in
        let apart = given_apart own (s.parts.records own).next_table_id had listed count i d lt in
        other_stays t given.2 given.1 (λ j e within. ((taken_given j e within).1, apart j e within))

    abbrev then : Shape
    then = merge_finished fin.readers (out old made s.parts.entries has) (shape_in own old.memory.trees)

    tree_then : tree_at own mid.memory.trees ≡ Some then
    tree_then =
        let change = merge_finished fin.readers (out old made s.parts.entries has) in
        ap (λ (x : Remembered). tree_at own x.trees) fin.is ∙ altered_here own change old.memory.trees ∙ ap (option_map change) (has_tree old mid made s stands reads has true wrote)

    -- whatever state the core stands for now, the tables of all its trees lie there still
    pub away_lie : (t : State) → StandsFor mid t → ReadsOn mid t → at_home.LieThere new t mid.memory.trees
    away_lie t stands_mid reads_mid =
        lie_still mid t stands_mid reads_mid own (small old mid made s stands reads has true wrote) new (away.within own (map (λ (u : TableInfo). u.id) took) are)
        (All-weaker (λ (k : Planted). k.id ≡ own → k.shape ≡ then) (λ (k : Planted). k.id ≡ own → at_home.HaveFiles mid.disk new k.shape.tables)
        (λ k is same. subst (λ (x : Shape). at_home.HaveFiles mid.disk new x.tables) (sym (is same))
        (All-append (λ (u : Reader). entry_at new u.name ≡ entry_at mid.disk u.name) fin.readers (drop count had) made_stay left_stay))
        mid.memory.trees (only_tree own mid.memory.trees then stands_mid.remembered.lawful.forest.ascend tree_then))
