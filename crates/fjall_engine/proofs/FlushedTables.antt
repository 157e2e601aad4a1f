-- A core's disk has the tables of its trees still, and that of a flush that was finished.
use Rattle.std.proofs.Common.{◌≡◌, ◌⊎◌, inl, inr, ℕ, zero, suc, ◌+◌, ◌<◌, ◌≤◌, ◌^◌, ◌==◌, Bool, true, false, cond, List, [], ◌∷◌, ◌++◌, All, Some, get_or, length, map, slice_get, refl, sym, ◌∙◌, ap, subst, arith}
use Rattle.std.proofs.lemmas.Bool.{eq-eqb, true≢false}
use Rattle.std.proofs.lemmas.List.Elements.{All-cons, All-map, All-nil, All-weaker}
use Rattle.fjall_base.specs.Disk.{Meaning}
use Rattle.fjall_base.proofs.Codecs.{some_is}
use Rattle.fjall_table_reader.specs.Readers.{AreRead, HoldsAWrongBlock, Reader, Reads, SomeTableIsWrong}
use Rattle.fjall_changes.proofs.KeptHomes.{within_others}
use Rattle.fjall_files.specs.Names.{table_name}
use Rattle.fjall_compaction.specs.Flushes.{flushed_infos}
use Rattle.fjall_jobs.specs.declared.flush_made.FlushMade.{FlushMade}
use Rattle.fjall_jobs.specs.declared.made_table.MadeTable.{MadeTable}
use Rattle.fjall_jobs.specs.Made.{flush_tables, flushed_task}
use Rattle.fjall_jobs.specs.Sequences.{AreMadeTables, IsMadeTable}
use Rattle.fjall_replay.specs.Known.{AreListed, IsGiven, last_known}
use Rattle.fjall_replay.proofs.ListedTables.{AreNext, listed_behind, listed_later}
use Rattle.fjall_tree.specs.Jobs.{flush_finished}
use Rattle.fjall_tree.proofs.Several.{read_both}
use Rattle.fjall_compaction.specs.FlushPlans.{HaveFiles}
use Rattle.fjall_meta.specs.declared.living.LivingKeyspace.{LivingKeyspace}
use Rattle.fjall_machine.specs.Finishing.{IsFlushFinished, keyspace_of}
use Rattle.fjall_machine.proofs.Flushing.{known_record}
use Rattle.fjall_manifest.specs.Records.{Fields}
use Rattle.fjall_machine.specs.Machine.{State, is_among}
use Rattle.fjall_machine.specs.Remembered.{IsLawful, Remembered}
use Rattle.fjall_table.specs.declared.table_info.TableInfo.{TableInfo}
use Rattle.fjall_table.specs.Blocks.{Entry}
use Rattle.fjall_table_reader.specs.Files.{bytes_in, entry_at}
use Rattle.fjall_table.specs.Tables.{Handle, IsTable, handles_of}
use Rattle.fjall_table.proofs.TableBlocks.{damaged_at}
use Rattle.fjall_trees.specs.Forests.{Planted, altered_at, tree_at}
use Rattle.fjall_trees.specs.Tables.{shape_in}
use Rattle.fjall_trees.proofs.Changing.{tree_under}
use Rattle.fjall_trees.proofs.Outstanding.{flushing_tree}
use Rattle.fjall_meta.proofs.Slots.{same_id}
use Rattle.fjall_engine.specs.Holding.{Held}
use Rattle.fjall_engine.specs.CallParts.{WroteFlush}
use Rattle.fjall_engine.specs.Standing.{Becomes, LieAtHome, Poisons, ReadsOn, StandsFor, AreRecorded}
use Rattle.fjall_engine.proofs.FlushesOnDisk.{MayPut, entries_after, flushed_there, lists_there, lives_there, living_there}
use Rattle.fjall_engine.proofs.TablesAtHome as at_home
use Rattle.fjall_engine.proofs.TablesAtHome.{files_read, files_wrong, kept_files, outside_ill, outside_same, under_home}

-- ---- readers of what was made

-- the table's file is all right
one_right : (disk : Meaning) (name : _) (t : MadeTable) (es : List Entry) (r : Reader) → r.name ≡ name → IsMadeTable t es → bytes_in (entry_at disk name) ≡ t.bytes.items → Reads disk r es
    → HoldsAWrongBlock (entry_at disk r.name) r.handles → ⊥
one_right disk name t es r called made bytes reads (at, h, has, none) =
    let is : bytes_in (entry_at disk r.name) ≡ t.bytes.items = ap (λ n. bytes_in (entry_at disk n)) called ∙ bytes in
    damaged_at (bytes_in (entry_at disk r.name)) (handles_of 0 reads.blocks) r.info.entry_count at h reads.reads.table.index
    (subst (λ (hs : List Handle). slice_get hs at ≡ Some h) reads.reads.index has) none es (subst (λ (b : List ℕ). IsTable b es) (sym is) made.table)

-- none has a wrong block
pub none_wrong : (disk : Meaning) (id next : ℕ) (tables : List MadeTable) (lists : List (List Entry)) (readers : List Reader) → map (λ t. t.name) readers ≡ map (λ t. table_name id t.id) (flushed_infos next tables)
    → AreMadeTables tables lists → HaveFiles disk id next tables → AreRead disk readers lists → SomeTableIsWrong disk readers → ⊥
none_wrong disk id next [] lists [] names made files read (at, r, has, wrong) = cc
none_wrong disk id next [] lists (s ∷ readers) names made files read wrong = cc
none_wrong disk id next (t ∷ tables) lists [] names made files read (at, r, has, wrong) = cc
none_wrong disk id next (t ∷ tables) [] (s ∷ readers) names made files read wrong = made
none_wrong disk id next (t ∷ tables) (es ∷ lists) (s ∷ readers) names made files read (zero, r, has, wrong) =
    let called : s.name ≡ table_name id next = cc in
    one_right disk (table_name id next) t es s called made.0 files.1 read.0 (subst (λ (u : Reader). HoldsAWrongBlock (entry_at disk u.name) u.handles) (sym (some_is s r has)) wrong)
none_wrong disk id next (t ∷ tables) (es ∷ lists) (s ∷ readers) names made files read (suc at, r, has, wrong) =
    let others : map (λ t. t.name) readers ≡ map (λ t. table_name id t.id) (flushed_infos (next + 1) tables) = cc in
    none_wrong disk id (next + 1) tables lists readers others made.1 files.2 read.1 (at, r, has, wrong)

-- what is said of the readers of made tables, in files of the next ids
record AreNew (id next : ℕ) (tables : List MadeTable) (readers : List Reader) : Type 0 where
  ids : AreNext next readers
  named : All (λ t. t.name ≡ table_name id t.info.id) readers
  count : length readers ≡ length tables

are_new : (id next : ℕ) (tables : List MadeTable) (readers : List Reader) → map (λ t. t.name) readers ≡ map (λ t. table_name id t.id) (flushed_infos next tables)
    → map (λ t. t.info) readers ≡ flushed_infos next tables → AreNew id next tables readers
are_new id next [] [] names infos = record { ids = tt; named = All-nil (λ (t : Reader). t.name ≡ table_name id t.info.id); count = refl }
are_new id next [] (r ∷ readers) names infos = let bad : ⊥ = cc in absurd bad
are_new id next (t ∷ tables) [] names infos = let bad : ⊥ = cc in absurd bad
are_new id next (t ∷ tables) (r ∷ readers) names infos =
    let called : r.name ≡ table_name id next = cc in
    let other_names : map (λ t. t.name) readers ≡ map (λ t. table_name id t.id) (flushed_infos (next + 1) tables) = cc in
    let other_infos : map (λ t. t.info) readers ≡ flushed_infos (next + 1) tables = cc in
    let ids : r.info.id ∷ map (λ (x : TableInfo). x.id) (map (λ (x : Reader). x.info) readers) ≡ next ∷ map (λ (x : TableInfo). x.id) (flushed_infos (next + 1) tables) =
    ap (λ (l : List TableInfo). map (λ (x : TableInfo). x.id) l) infos in
    let numbered : r.info.id ≡ next = cc in
    let others = are_new id (next + 1) tables readers other_names other_infos in
    let count = others.count in
    record {
      ids = (numbered, others.ids);
      named = All-cons (λ (x : Reader). x.name ≡ table_name id x.info.id) r readers (called ∙ ap (table_name id) (sym numbered)) others.named;
      count = omega (arith, count);
    }

-- they stand behind tables that were listed, under ids that were given out
pub new_listed : (id next later : ℕ) (old : List Reader) (tables : List MadeTable) (readers : List Reader) → AreListed id next old
    → map (λ t. t.name) readers ≡ map (λ t. table_name id t.id) (flushed_infos next tables) → map (λ t. t.info) readers ≡ flushed_infos next tables → next + length tables < 2 ^ 64
    → next + length tables ≤ later → AreListed id later (old ++ readers)
new_listed id next later old tables readers listed names infos fits within =
    let new = are_new id next tables readers names infos in
    let count = new.count in
    listed_later id (next + length readers) (old ++ readers) (listed_behind id next old listed readers new.ids new.named (omega (arith, fits, count))) later
    (omega (arith, within, count))

-- of two lists of tables that have a wrong one, one has
pub wrong_parts : (disk : Meaning) (a b : List Reader) → SomeTableIsWrong disk (a ++ b) → SomeTableIsWrong disk a ⊎ SomeTableIsWrong disk b
wrong_parts disk [] b wrong = inr wrong
wrong_parts disk (r ∷ a) b (zero, u, has, wrong) = inl (zero, u, has, wrong)
wrong_parts disk (r ∷ a) b (suc at, u, has, wrong) = by (wrong_parts disk a b (at, u, has, wrong))
  where
    by : SomeTableIsWrong disk a ⊎ SomeTableIsWrong disk b → SomeTableIsWrong disk (r ∷ a) ⊎ SomeTableIsWrong disk b
    by (inl (n, v, there, bad)) = inl (suc n, v, there, bad)
    by (inr rest) = inr rest

-- ---- the tables that were there

module _ (old new : Held) (made : FlushMade) (may : MayPut old made) (done : Bool) (s : State) (stands : StandsFor old s) (reads : ReadsOn old s) (wrote : WroteFlush old.memory made old.disk new.disk done) where
  abbrev id : ℕ
  id = keyspace_of made

  abbrev lawful : IsLawful old.memory
  lawful = stands.remembered.lawful

  abbrev living : LivingKeyspace
  living = living_there old made may

  -- the ids of the keyspace's tables, as the state says, are those of its last record
  pub next_there : (s.parts.records id).next_table_id ≡ (last_known old.memory.records living).next_table_id
  next_there = ap (λ (r : Fields). r.next_table_id) (known_record old.memory old.catalog.next_table_id s stands.remembered id living (lives_there old made may))

  -- the new table's id was given out to none of them
  own_kept : (k : Planted) → k.id ≡ id → All (IsGiven k.id (s.parts.records k.id).next_table_id) k.shape.tables → at_home.HaveFiles old.disk new.disk k.shape.tables
  own_kept k same named =
      All-weaker (IsGiven k.id (s.parts.records k.id).next_table_id) (λ (t : Reader). entry_at new.disk t.name ≡ entry_at old.disk t.name)
      (λ t given.
      let at : t.name ≡ table_name id t.info.id = given.2 ∙ ap (λ (n : ℕ). table_name n t.info.id) same in
      let next : (s.parts.records k.id).next_table_id ≡ (last_known old.memory.records living).next_table_id = ap (λ (n : ℕ). (s.parts.records n).next_table_id) same ∙ next_there in
      let below = given.0 in
      ap (entry_at new.disk) at ∙ wrote.beside living may.out.out (lives_there old made may) may.out.is t.info.id given.1 (λ e. omega (arith, e, next, below)) ∙ sym (ap (entry_at old.disk) at))
      k.shape.tables named

  -- the flush's keyspace keeps the files of its tables, and each other keyspace its folder
  pub tables_kept : All (λ k. at_home.HaveFiles old.disk new.disk k.shape.tables) old.memory.trees
  tables_kept = λ i d lt.
      let k = get_or old.memory.trees i d in
      by k (k.id == id) refl (reads.tables i d lt) (lawful.given i d lt)
    where
      has : tree_at id old.memory.trees ≡ Some (shape_in id old.memory.trees)
      has = flushing_tree id old.memory.trees (flushed_task made) may.out

      by : (k : Planted) (b : Bool) → (k.id == id) ≡ b → LieAtHome old.disk k.id (s.parts.records k.id).next_table_id (s.parts.entries k.id) (is_among s.damaged k.id) k.shape.tables
          → k.id < old.memory.keyspaces.next → at_home.HaveFiles old.disk new.disk k.shape.tables
      by k true e lie given = own_kept k (same_id k.id id e) lie.named.given
      by k false e lie given =
          let own : id < old.memory.keyspaces.next = tree_under (λ (j : Planted). j.id < old.memory.keyspaces.next) old.memory.trees id (shape_in id old.memory.trees) lawful.given has in
          let fits = lawful.keyspaces.fits in
          kept_files old.disk new.disk k.id k.shape.tables
          (within_others id old.disk new.disk (omega (arith, own, fits)) wrote.within k.id lie.positive (omega (arith, given, fits)) (λ same. true≢false (sym (eq-eqb k.id id same) ∙ e)))
          (under_home k.id (s.parts.records k.id).next_table_id k.shape.tables lie.named)

  -- so all of them lie there as they did
  still_lie : (k : Planted) → at_home.HaveFiles old.disk new.disk k.shape.tables
      → LieAtHome old.disk k.id (s.parts.records k.id).next_table_id (s.parts.entries k.id) (is_among s.damaged k.id) k.shape.tables
      → LieAtHome new.disk k.id (s.parts.records k.id).next_table_id (s.parts.entries k.id) (is_among s.damaged k.id) k.shape.tables
  still_lie k files lie = record {
    positive = lie.positive;
    read = files_read old.disk new.disk k.shape.tables (s.parts.entries k.id) files lie.read;
    named = lie.named;
    damage = λ wrong. lie.damage (files_wrong old.disk new.disk k.shape.tables files wrong);
  }

  -- a fault left memory as it was
  pub unput_reads : Poisons old.memory old new → ReadsOn new s
  unput_reads fault = record {
    tables = subst (λ (x : Remembered). at_home.LieThere new.disk s x.trees) (sym fault.memory_is)
        (λ i d lt. still_lie (get_or old.memory.trees i d) (tables_kept i d lt) (reads.tables i d lt));
    writer = outside_ill old new (ap (λ (x : Remembered). x.poisoned) fault.memory_is) reads.writer;
    recorded = reads.recorded;
  }

-- ---- with the new one

module _ (old new : Held) (made : FlushMade) (may : MayPut old made) (s : State) (stands : StandsFor old s) (reads : ReadsOn old s) (wrote : WroteFlush old.memory made old.disk new.disk true)
    (fin : IsFlushFinished old.memory (keyspace_of made) (last_known old.memory.records (living_there old made may)) may.out.out (flush_tables made) new.memory) (becomes : Becomes old new.memory new) where
  abbrev own : ℕ
  own = keyspace_of made

  abbrev lists : List (List Entry)
  lists = lists_there old made may

  abbrev more : ℕ → List (List Entry)
  more = entries_after old made may s.parts.entries

  files : HaveFiles new.disk own (last_known old.memory.records (living_there old made may)).next_table_id (flush_tables made)
  files = wrote.files refl (living_there old made may) may.out.out (lives_there old made may) may.out.is

  read_new : AreRead new.disk fin.readers lists
  read_new = fin.are.read new.disk lists (flushed_there old made may).made files

  abbrev from : ℕ
  from = (last_known old.memory.records (living_there old made may)).next_table_id

  fits : from + length (flush_tables made) < 2 ^ 64
  fits = wrote.fits refl (living_there old made may) may.out.out (lives_there old made may) may.out.is

  lie_with : (k : Planted) (next : ℕ) → k.id ≡ own → (s.parts.records own).next_table_id + length (flush_tables made) ≤ next
      → LieAtHome new.disk k.id (s.parts.records k.id).next_table_id (s.parts.entries k.id) (is_among s.damaged k.id) k.shape.tables
      → LieAtHome new.disk k.id next (s.parts.entries own ++ lists) (is_among s.damaged k.id) (k.shape.tables ++ fin.readers)
  lie_with k next same more_given lie =
      let old_next : (s.parts.records k.id).next_table_id ≡ (s.parts.records own).next_table_id = ap (λ (n : ℕ). (s.parts.records n).next_table_id) same in
      let known = next_there old new made may true s stands reads wrote in
      record {
        positive = lie.positive;
        read = subst (λ (n : ℕ). AreRead new.disk (k.shape.tables ++ fin.readers) (s.parts.entries n ++ lists)) same (read_both new.disk k.shape.tables fin.readers (s.parts.entries k.id) lists lie.read read_new);
        named = subst (λ (n : ℕ). AreListed n next (k.shape.tables ++ fin.readers)) (sym same)
            (new_listed own from next k.shape.tables (flush_tables made) fin.readers
            (subst (λ (x : ℕ × ℕ). AreListed x.0 x.1 k.shape.tables) (λ i. (same i, (old_next ∙ known) i)) lie.named) fin.are.names fin.are.infos fits
            (omega (arith, known, more_given)));
        damage = λ wrong. elim (wrong_parts new.disk k.shape.tables fin.readers wrong) [
          | inl before ↦ lie.damage before
          | inr added ↦ absurd (none_wrong new.disk own from (flush_tables made) lists fin.readers fin.are.names (flushed_there old made may).made files read_new added)
        ];
      }

  -- the records say so, and those of other keyspaces as before
  module _ (t : State) (entries : t.parts.entries ≡ more) (damaged : t.damaged ≡ s.damaged) (grown : (t.parts.records own).next_table_id ≡ (s.parts.records own).next_table_id + length (flush_tables made))
      (others : (id : ℕ) → (id == own) ≡ false → t.parts.records id ≡ s.parts.records id) where
    lies : (k : Planted) (b : Bool) → (k.id == own) ≡ b → LieAtHome new.disk k.id (s.parts.records k.id).next_table_id (s.parts.entries k.id) (is_among s.damaged k.id) k.shape.tables
        → LieAtHome new.disk k.id (t.parts.records k.id).next_table_id (cond b (s.parts.entries own ++ lists) (s.parts.entries k.id)) (is_among s.damaged k.id)
        (cond b (flush_finished fin.readers may.out.out k.shape) k.shape).tables
    lies k true e lie =
        let same = same_id k.id own e in
        let next : (t.parts.records k.id).next_table_id ≡ (t.parts.records own).next_table_id = ap (λ (n : ℕ). (t.parts.records n).next_table_id) same in
        lie_with k (t.parts.records k.id).next_table_id same (omega (arith, next, grown)) lie
    lies k false e lie =
        subst (λ (n : ℕ). LieAtHome new.disk k.id n (s.parts.entries k.id) (is_among s.damaged k.id) k.shape.tables) (sym (ap (λ (r : Fields). r.next_table_id) (others k.id e))) lie

    all_there : at_home.LieThere new.disk t (altered_at own (flush_finished fin.readers may.out.out) old.memory.trees)
    all_there =
        All-map (λ (k : Planted). LieAtHome new.disk k.id (t.parts.records k.id).next_table_id (t.parts.entries k.id) (is_among t.damaged k.id) k.shape.tables)
        (λ (k : Planted). record { id = k.id; shape = cond (k.id == own) (flush_finished fin.readers may.out.out k.shape) k.shape }) old.memory.trees (λ i d lt.
        let k = get_or old.memory.trees i d in
        let shape = cond (k.id == own) (flush_finished fin.readers may.out.out k.shape) k.shape in
        subst (λ (l : List ℕ). LieAtHome new.disk k.id (t.parts.records k.id).next_table_id (t.parts.entries k.id) (is_among l k.id) shape.tables) (sym damaged)
        (subst (λ (e : ℕ → List (List Entry)). LieAtHome new.disk k.id (t.parts.records k.id).next_table_id (e k.id) (is_among s.damaged k.id) shape.tables) (sym entries)
        (lies k (k.id == own) refl (still_lie old new made may true s stands reads wrote k (tables_kept old new made may true s stands reads wrote i d lt) (reads.tables i d lt)))))

    pub put_reads : AreRecorded t.parts → ReadsOn new t
    put_reads told = record {
      tables = subst (λ (x : Remembered). at_home.LieThere new.disk t x.trees) (sym fin.is) all_there;
      writer = outside_same old new (ap (λ (x : Remembered). x.poisoned) fin.is) (ap (λ j. j.name) becomes.journal) reads.writer;
      recorded = told;
    }
