-- A core over a folder that was opened.
use Rattle.std.proofs.Common.{arith, ◌<◌, ◌≤◌, ◌==◌, ◌≡◌, ℕ, zero, suc, None, true, false, cond, List, [], ◌∷◌, ◌++◌, All, AllPairs, get_or, map, take, unwrap_or, Option, Some, eq-eqb, refl, sym, ◌∙◌, ap, subst}
use Rattle.std.specs.FinMap.{get}
use Rattle.std.specs.Option.{is_some}
use Rattle.std.proofs.lemmas.Bool.{true≢false}
use Rattle.std.proofs.lemmas.Bool.Decides.{nat_tests}
use Rattle.std.proofs.lemmas.List.{append-nil}
use Rattle.std.specs.List.{AllByRecursion, AllZip}
use Rattle.std.proofs.Math.Seq.{take-nil}
use Rattle.fjall_base.specs.Store.{Store, kept}
use Rattle.fjall_base.specs.Disk as disks
use Rattle.fjall_base.specs.Disk.{File, LeavesOnly, Meaning, state_in}
use Rattle.fjall_manifest.specs.Catalog.{fields, first_of}
use Rattle.fjall_journal.specs.Batches.{Written, shown}
use Rattle.fjall_replay.specs.Known.{AreAtHome, last_known}
use Rattle.fjall_manifest.specs.Records.{Fields}
use Rattle.fjall_journal.specs.Writer.{Journal}
use Rattle.fjall_files.specs.Journals.{Sealed}
use Rattle.fjall_files.specs.Places.{told}
use Rattle.fjall_files.specs.Telling.{AreMarksOf}
use Rattle.fjall_table.specs.Blocks.{Entry}
use Rattle.fjall_table_reader.specs.Readers.{AreRead, Reader, SomeTableIsWrong}
use Rattle.fjall_tree.specs.Puts.{bare_tree}
use Rattle.fjall_tree.specs.Trees.{Shape}
use Rattle.fjall_trees.specs.Forests.{Forest, tree_at}
use Rattle.fjall_trees.specs.Tables.{AreReadOn, shape_in}
use Rattle.fjall_trees.specs.Views.{forest_of}
use Rattle.fjall_trees.specs.MapTables.{store_with}
use Rattle.fjall_recovery.specs.Folders.{Contents, ImageStandsFor, number_of_contents, store_of_contents}
use Rattle.fjall_recovery.specs.Held.{Holds, number_held, store_of_folder}
use Rattle.fjall_files.specs.Names.{journal_name}
use Rattle.fjall_files.specs.Regions.{IsSafe}
use Rattle.fjall_recovery.specs.Journals as read
use Rattle.fjall_recovery.specs.Halves.{is_of_keyspaces}
use Rattle.fjall_recovery.specs.Told.{TellsOf}
use Rattle.fjall_recovery.specs.Homes.{no_fields, stored_in}
use Rattle.fjall_recovery.specs.Places.{contents_with, journals_with, texts_of}
use Rattle.fjall_replay.specs.Beside.{AreReplayedWith}
use Rattle.fjall_changes.specs.Watermarks.{AreMarked}
use Rattle.fjall_changes.proofs.KeepingKeyspaces.{journal_apart}
use Rattle.fjall_changes.proofs.RootAfterWrites.{active_fits, begins}
use Rattle.fjall_opening.specs.declared.opened.Opened.{Opened}
use Rattle.fjall_opening.specs.Opened.{ComesBack, IsOpenedFrom, WritesJournal, store_entries}
use Rattle.fjall_opening.specs.Opened as repair
use Rattle.fjall_machine.specs.Remembered.{AreBeside, IsFlushBegun, IsMergeBegun, Remembered, journals_of, remembered}
use Rattle.fjall_history.proofs.Values.{all_none}
use Rattle.fjall_machine.specs.Remembered as memory
use Rattle.fjall_machine.specs.Machine.{is_among, opened_state}
use Rattle.fjall_machine.proofs.Lawful.{remembered_is_lawful}
use Rattle.fjall_machine.proofs.Standing.{an_opening_stands}
use Rattle.fjall_engine.specs.Holding.{Held}
use Rattle.fjall_engine.specs.Durables.{Durable, Knows, Lies}
use Rattle.fjall_engine.specs.Openings.{AreAllDamaged, AreWhole, IsAtEnd, KeepsStore, StandsWhenOpened, OpensAs, OpensFolder, state_when_opened, parts_of}
use Rattle.fjall_engine.specs.Standing.{ReadsOn, store_with_tables}
use Rattle.fjall_changes.proofs.CrashedJournals.{commanded, store_is_kept}
use Rattle.fjall_engine.proofs.CrashImages.{lies_rest, root_finished}

-- what a core holds over a folder that was opened
abbrev pub held_of : Meaning → Opened → Remembered → Held
held_of disk o memory = record { disk = disk; journal = o.journal; catalog = o.catalog; memory = memory }

abbrev pub memory_of : Opened → Remembered
memory_of o = remembered o.keyspaces (forest_of o.trees) o.number (journals_of o.sealed o.active o.watermarks) o.records

abbrev pub core_of : Meaning → Opened → Held
core_of disk o = held_of disk o (memory_of o)

-- what was opened is lawful
lawful_of : (o : Opened) → repair.IsLawfulOpening o → memory.IsLawful (memory_of o)
lawful_of o lawful = remembered_is_lawful o.keyspaces (forest_of o.trees) o.number (journals_of o.sealed o.active o.watermarks) o.records (record {
  keyspaces = lawful.keyspaces;
  made = lawful.made;
  forest = lawful.forest;
  planted = lawful.planted;
  given = lawful.given;
  below = lawful.below;
  small = lawful.small;
  reached = all_none (λ i. i ≤ o.number);
  spared = λ some. let bad : ⊥ = omega (arith, some) in absurd bad;
  above = all_none (λ i. 0 < 0 → 0 < i);
  recorded = lawful.recorded;
  kept = lawful.kept;
  begun = λ i d lt. subst (IsFlushBegun 0 0) (sym (lawful.still i d lt).0) tt;
  merging = λ i d lt. subst (IsMergeBegun 0 0) (sym (lawful.still i d lt).1) tt;
  jobs = omega arith;
})

-- what is said of each keyspace's last record
same_record : (found : Option Fields) (a b : Fields) → is_some found ≡ true → unwrap_or found a ≡ unwrap_or found b
same_record (Some last) a b some = refl
same_record None a b some = absurd (true≢false (sym some))

records_of : (disk : Meaning) (o : Opened) (entries : ℕ → List (List Entry)) → repair.IsLawfulOpening o → All (λ k. (parts_of (core_of disk o) entries).records k.id ≡ last_known o.records k) o.keyspaces.living
records_of disk o entries lawful i d lt =
    let k = get_or o.keyspaces.living i d in
    same_record (get o.records k.id) no_fields (fields (first_of k.number)) (lawful.recorded i d lt)

-- a tree without tables reads no entries
none_read : (disk : Meaning) (tables : List Reader) (entries : List (List Entry)) → AreRead disk tables entries → tables ≡ [] → entries ≡ []
none_read disk [] [] are none = refl
none_read disk [] (es ∷ entries) are none = absurd are
none_read disk (t ∷ tables) entries are none = absurd cc

-- what its trees read is older than what is in memory
beside_of : (disk : Meaning) (o : Opened) (entries : ℕ → List (List Entry)) → AreReadOn disk (forest_of o.trees) entries → ((id : ℕ) → o.keyspaces.next ≤ id → entries id ≡ []) → AreBeside (memory_of o) entries
beside_of disk o entries on unused = record {
  older = λ i d lt. record { below = (on i d lt).below; once = (on i d lt).once };
  none = λ i d lt bare. let k = get_or (forest_of o.trees) i d in none_read disk k.shape.tables (entries k.id) (on i d lt).tables bare;
  unused = unused;
}

-- it stands for the store that its trees show with their tables, where these have such entries
pub opens : (disk : Meaning) (o : Opened) (entries : ℕ → List (List Entry)) (store : Store) (damaged : List ℕ) (next : ℕ) → repair.IsLawfulOpening o → AreBeside (memory_of o) entries
    → store_with entries o.keyspaces (forest_of o.trees) ≡ store → o.number ≡ next → StandsWhenOpened (core_of disk o) store entries damaged next
opens disk o entries store damaged next lawful beside made number =
    let m = memory_of o in
    let table = o.catalog.next_table_id in
    let parts = parts_of (core_of disk o) entries in
    record {
      remembered = subst (λ (s : Store). memory.MemoryStandsFor m table (opened_state s damaged next parts)) made
          (subst (λ (n : ℕ). memory.MemoryStandsFor m table (opened_state (store_with entries o.keyspaces (forest_of o.trees)) damaged n parts)) number
          (an_opening_stands m (lawful_of o lawful) refl refl refl refl refl refl table parts refl refl refl (records_of disk o entries lawful) beside damaged));
      journal = refl;
      buffer = refl;
    }

pub opens_beside : (disk : Meaning) (o : Opened) → repair.IsLawfulOpening o → (entries : ℕ → List (List Entry)) → AreBeside (memory_of o) entries → (damaged : List ℕ)
    → StandsWhenOpened (core_of disk o) (store_with_tables entries (core_of disk o)) entries damaged o.number
opens_beside disk o lawful entries beside damaged = opens disk o entries (store_with_tables entries (core_of disk o)) damaged o.number lawful beside refl refl

-- ---- what it reads

-- each tree of these is the one of its id
placed : (trees : Forest) → AllPairs (λ j k. j.id < k.id) trees → All (λ k. shape_in k.id trees ≡ k.shape) trees
placed [] ascend i d lt = let bad : ⊥ = omega (arith, lt) in absurd bad
placed (k ∷ trees) ascend zero d lt = ap (λ b. unwrap_or (cond b (Some k.shape) (tree_at k.id trees)) (bare_tree 0)) (eq-eqb k.id k.id refl)
placed (k ∷ trees) ascend (suc i) d lt =
    let x = get_or trees i d in
    let less : k.id < x.id = ascend 0 (suc i) d (omega arith) lt in
    let other : (k.id == x.id) ≡ false = grind (arith, nat_tests, less) in
    ap (λ b. unwrap_or (cond b (Some k.shape) (tree_at x.id trees)) (bare_tree 0)) other
    ∙ placed trees (λ i j d lt within. ascend (suc i) (suc j) d (omega (arith, lt)) (omega (arith, within))) i d (omega (arith, lt))

-- those keyspaces are damaged that have a wrong block
abbrev IsTold : Meaning → List ℕ → Forest → Type 0
IsTold disk damaged trees = All (λ k. SomeTableIsWrong disk k.shape.tables → is_among damaged k.id ≡ true) trees

told_all : (disk : Meaning) (o : Opened) (damaged : List ℕ) → repair.IsLawfulOpening o → AreAllDamaged (core_of disk o) damaged → IsTold disk damaged (forest_of o.trees)
told_all disk o damaged lawful all = λ i d lt wrong.
    let k = get_or (forest_of o.trees) i d in
    all k.id (subst (λ (shape : Shape). SomeTableIsWrong disk shape.tables) (sym (placed (forest_of o.trees) lawful.forest.ascend i d lt)) wrong)

-- its disk has the tables of its trees
reads_of : (disk : Meaning) (o : Opened) (entries : ℕ → List (List Entry)) (store : Store) (damaged : List ℕ) (next : ℕ) → repair.IsLawfulOpening o → AreReadOn disk (forest_of o.trees) entries → AreAtHome o.records (forest_of o.trees)
    → IsTold disk damaged (forest_of o.trees) → is_of_keyspaces o.journal.name ≡ false → ReadsOn (core_of disk o) (state_when_opened (core_of disk o) store entries damaged next)
reads_of disk o entries store damaged next lawful on named wrong outside = record {
  tables = λ i d lt. record { positive = lawful.positive i d lt; read = (on i d lt).tables; named = (named i d lt).0; damage = wrong i d lt };
  writer = λ well. outside;
  recorded = λ i d lt. (named i d lt).1;
}

pub opens_on : (old new : Meaning) (o : Opened) → repair.IsLawfulOpening o → WritesJournal o → IsOpenedFrom old new o → OpensFolder old (core_of new o)
opens_on old new o lawful writes from = record {
  folder = from.folder;
  is = from.is;
  left = from.left;
  opens = λ entries have damaged all.
      let reads = from.reads entries have in
      let next = number_held from.folder in
      let store = store_entries entries from.folder in (
        opens new o entries store damaged next lawful (beside_of new o entries reads.on reads.unused) reads.store from.number,
        reads_of new o entries store damaged next lawful reads.on from.named (told_all new o damaged lawful all)
            (ap is_of_keyspaces writes.2 ∙ journal_apart writes.0 writes.1),
      );
}

-- the sealed journals are known, and their files are whole
marked_as : (journals : List read.WholeJournal) (sealed : List Sealed) → AllZip TellsOf journals sealed → AreMarked sealed journals
marked_as [] [] tell = tt
marked_as [] (s ∷ sealed) tell = tell
marked_as (j ∷ journals) [] tell = tell
marked_as (j ∷ journals) (s ∷ sealed) tell = (tell.0.id_is, tell.0.marks, marked_as journals sealed tell.1)

whole_as : (state : disks.DiskState) (journals : List read.WholeJournal) (sealed : List Sealed) → AllZip TellsOf journals sealed
    → AllByRecursion (λ journal. IsSafe state (journal_name journal.id) (texts_of journal.batches)) journals → AreWhole state sealed
whole_as state [] [] tell safe = tt
whole_as state [] (s ∷ sealed) tell safe = absurd tell
whole_as state (j ∷ journals) [] tell safe = tt
whole_as state (j ∷ journals) (s ∷ sealed) tell safe =
    ((texts_of j.batches, subst (λ (n : ℕ). IsSafe state (journal_name n) (texts_of j.batches)) (sym tell.0.id_is) safe.0, tell.0.len_is), whole_as state journals sealed tell.1 safe.1)

-- with that store as its base, and nothing pending
module _ (disk : Meaning) (folder : Option Contents) (o : Opened) (is : repair.OpensFolder disk folder o) where
  abbrev here : Durable
  here = record { meaning = disk; base = store_of_folder folder; pending = [] }

  held : store_of_contents (contents_with is.j is.t []) ≡ store_of_folder folder
  held = is.store

  kept_held : kept (store_of_folder folder) ≡ store_of_contents (contents_with is.j is.t [])
  kept_held = ap kept (sym held) ∙ store_is_kept (contents_with is.j is.t [])

  lies : Lies (core_of disk o) here
  lies = record {
    journals = is.j;
    records = is.records;
    tree = is.t;
    writing = begins (state_in disk) o.journal is.j is.root is.later (ap (λ (w : Journal). w.name) is.journal) (ap (λ (w : Journal). w.buffer) is.journal);
    in_tree = is.tree;
    told = record {
      sealed = marked_as is.j.sealed o.sealed is.sealed;
      active = sym is.active;
      marks = subst (λ (l : List Written). AreMarksOf (map shown l) (told o.watermarks)) (sym (append-nil is.j.whole) ∙ ap (λ (l : List Written). is.j.whole ++ l) (sym is.later)) is.marks;
    };
    last = is.last;
    keyspaces = is.keyspaces;
    made = kept_held;
    waits = sym (ap (commanded is.t) is.later);
    next = subst (λ (n : ℕ). n ≤ o.number) (is.number ∙ ap (λ (b : List Written). number_of_contents (contents_with is.j is.t b)) (sym is.later)) (omega arith);
  }

  -- what is known of the keyspaces' homes; no flush is out
  knows : repair.IsLawfulOpening o → Knows (core_of disk o) is.entries lies.journals lies.tree
  unfolding lies
  knows lawful = record {
    shown = subst (λ (b : List Written). AreReplayedWith is.entries is.t.keyspaces (stored_in is.t.homes is.t.versions) (map shown (read.batches_in (journals_with is.j b))) (forest_of o.trees)) (sym is.later) is.shown;
    homes = is.known;
    covered = λ i d lt out at. let no : None ≡ Some out = sym (lawful.still i d lt).0 ∙ at in absurd cc;
  }

  -- the active journal's file holds the batches, all of them synced
  all_there : state_in disk (journal_name is.j.active) ≡ record { now = File (texts_of is.j.whole) []; older = [] }
  all_there =
      let none : take is.j.cut (texts_of is.j.later) ≡ [] = ap (λ (b : List Written). take is.j.cut (texts_of b)) is.later ∙ take-nil is.j.cut in
      is.root.active ∙ ap (λ (rest : List ℕ). record { now = File (texts_of is.j.whole) rest; older = [] }) none

  at_end : IsAtEnd (state_in disk) o.journal
  at_end = record {
    text = texts_of is.j.whole;
    file = ap (λ (w : Journal). state_in disk w.name) is.journal ∙ all_there;
    len = ap (λ (w : Journal). w.len) is.journal;
    buffer = ap (λ (w : Journal). w.buffer) is.journal;
  }

  -- its journal stands outside of keyspaces' folders
  writes_outside : is_of_keyspaces o.journal.name ≡ false
  writes_outside = ap (λ (w : Journal). is_of_keyspaces w.name) is.journal ∙ journal_apart is.j.active (active_fits (state_in disk) is.j is.root)

  pub opens_as : (store : Store) → repair.IsLawfulOpening o → store ≡ store_of_folder folder → OpensAs (core_of disk o) store
  opens_as store lawful same = subst (λ (s : Store). OpensAs (core_of disk o) s) (sym same) (record {
    next = number_held folder;
    entries = is.entries;
    state = opens disk o is.entries (store_of_folder folder) [] (number_held folder) lawful (beside_of disk o is.entries is.on is.unused) (is.made ∙ is.store) is.same;
    reads = reads_of disk o is.entries (store_of_folder folder) [] (number_held folder) lawful is.on is.named (λ i d lt wrong. absurd (is.right i d lt wrong)) writes_outside;
    journal = at_end;
    sealed = whole_as (state_in disk) is.j.sealed o.sealed is.sealed is.root.sealed;
    base = record { same = refl; rests = lies_rest (core_of disk o) here lies; finished = root_finished (state_in disk) is.j is.root; lies = λ well. lies; knows = λ well. knows lawful; present = ap kept (sym held ∙ sym is.made) };
  })

-- whatever store the disk held is left
pub keeps : (old new : Meaning) → ((folder : Option Contents) → Holds (state_in old) folder → ComesBack (state_in old) folder → LeavesOnly old new (λ image. ImageStandsFor image (store_of_folder folder))) → KeepsStore old new
keeps old new each store (folder, holds, back, same) = subst (λ (s : Store). LeavesOnly old new (λ image. ImageStandsFor image s)) (sym same) (each folder holds back)
