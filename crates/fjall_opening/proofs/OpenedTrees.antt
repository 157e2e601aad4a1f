-- The trees of what was opened: their tables stay on the disk, which an opening leaves them on as they were.
use Rattle.std.proofs.Common.{◌≡◌, ℕ, ◌<◌, ◌≤◌, Bool, false, cond, List, [], ◌∷◌, get_or, map, All, Option, None, Some, refl, sym, ◌∙◌, ap, subst, arith}
use Rattle.std.proofs.lemmas.List.Elements.{All-cons, All-head, All-nil, All-tail}
use Rattle.std.proofs.lemmas.Option.{get_or_from_slice_get, slice_get_within}
use Rattle.std.specs.FinMap.{get}
use Rattle.fjall_base.specs.Disk as disk
use Rattle.fjall_base.specs.Disk.{DiskState, Image, Meaning, Name, state_in}
use Rattle.fjall_files.specs.Calls.{seen}
use Rattle.fjall_files.specs.Names.{table_name}
use Rattle.fjall_journal.specs.Batches.{shown}
use Rattle.fjall_table.specs.declared.table_info.TableInfo.{TableInfo}
use Rattle.fjall_table.specs.Blocks.{Entry}
use Rattle.fjall_table_reader.specs.Files.{entry_at}
use Rattle.fjall_table_reader.specs.Readers.{HoldsAWrongBlock, Reader, SomeTableIsWrong}
use Rattle.fjall_manifest.specs.Homes.{Home}
use Rattle.fjall_meta.specs.declared.living.LivingKeyspace.{LivingKeyspace}
use Rattle.fjall_meta.specs.Keyspaces.{Keyspaces, keyspace_at, no_keyspaces}
use Rattle.fjall_manifest.specs.Catalog.{first_catalog}
use Rattle.fjall_tree.specs.Trees.{ReadsAll, Shape}
use Rattle.fjall_meta.specs.Contents.{AreWithin, IsWithin, Stored, is_beyond, store_held as store_beyond}
use Rattle.fjall_trees.specs.Forests.{Forest, Planted}
use Rattle.fjall_trees.specs.Tables.{AreReadOn}
use Rattle.fjall_trees.specs.Views.{forest_of}
use Rattle.fjall_trees.proofs.Reading.{all_files_read}
use Rattle.fjall_trees.specs.MapTables.{store_with}
use Rattle.fjall_replay.specs.Beside.{AreReplayedWith}
use Rattle.fjall_replay.specs.Parted.{all_unwritten}
use Rattle.fjall_replay.specs.Replayed.{AreTold}
use Rattle.fjall_replay.proofs.Behind.{replayed_store_beside}
use Rattle.fjall_recovery.specs.declared.folder.RecoveredFolder.{RecoveredFolder}
use Rattle.fjall_recovery.specs.Folders.{Contents, IsFinished, IsOpenable, ShowsContents, store_of_contents}
use Rattle.fjall_recovery.specs.Homes.{HasHomeAt, HaveVersions, Homes, stored_in}
use Rattle.fjall_recovery.specs.Journals.{batches_in}
use Rattle.fjall_recovery.proofs.Shown.{all_within}
use Rattle.fjall_replay.specs.Opening.{AreReadersIn, HaveEntries, IsOpenedOn, stored_entries, stored_with}
use Rattle.fjall_replay.specs.Known.{AreAtHome, IsAtHome, IsKnown}
use Rattle.fjall_replay.proofs.KnownHomes.{known_still}
use Rattle.fjall_replay.proofs.Opening.{other_id}
use Rattle.fjall_opening.specs.declared.opened.Opened.{Opened}
use Rattle.fjall_opening.specs.Opened.{KeepsNamed, ReadsFrom, TakesOver, nothing}
use Rattle.fjall_opening.specs.Readings.{TakesRead, persisted_of}
use Rattle.fjall_opening.specs.Replaying.{ShowBeyond}
use Rattle.fjall_opening.proofs.Replayed.{rest_tables, told_sound, told_with}

-- ---- the tables of trees that were opened

-- what is so of the names of a home's tables is so of their readers
readers_named : (image : Image) (id : ℕ) (tables : List TableInfo) (readers : List Reader) (P : Name → Type 0) → AreReadersIn image id tables readers → All (λ t. P (table_name id t.id)) tables
    → All (λ r. P r.name) readers
readers_named image id [] [] P are all = All-nil (λ (r : Reader). P r.name)
readers_named image id [] (r ∷ readers) P are all = absurd are
readers_named image id (t ∷ tables) [] P are all = absurd are
readers_named image id (t ∷ tables) (r ∷ readers) P are all =
    All-cons (λ (s : Reader). P s.name) r readers
    (subst (λ (s : Reader). P s.name) (sym are.0.is) (All-head (λ (u : TableInfo). P (table_name id u.id)) t tables all))
    (readers_named image id tables readers P are.1 (All-tail (λ (u : TableInfo). P (table_name id u.id)) t tables all))

tables_named : (disk : Meaning) (c : Contents) (k : Planted) (P : Name → Type 0) (one : IsOpenedOn disk c k) → All (λ t. P (table_name k.id t.id)) one.h.last.tables → All (λ r. P r.name) k.shape.tables
tables_named disk c k P one all =
    subst (λ (shape : Shape). All (λ (r : Reader). P r.name) shape.tables) (sym one.tree.is) (readers_named (seen disk) k.id one.h.last.tables one.tree.readers P one.tree.tables all)

-- the tables' files stand as they did
abbrev FilesStay : Meaning → Meaning → Forest → Type 0
FilesStay old new trees = All (λ k. All (λ t. entry_at new t.name ≡ entry_at old t.name) k.shape.tables) trees

files_stay : (old new : Meaning) (c : Contents) (loaded : Forest) → KeepsNamed old new c.homes → All (IsOpenedOn old c) loaded → FilesStay old new loaded
files_stay old new c loaded kept each = λ i d lt.
    let k = get_or loaded i d in
    let one = each i d lt in
    tables_named old c k (λ (q : Name). entry_at new q ≡ entry_at old q) one (kept k.id one.h one.home)

-- so no block of them is wrong then that wasn't before
still_right : (old new : Meaning) (tables : List Reader) → All (λ t. entry_at new t.name ≡ entry_at old t.name) tables → (SomeTableIsWrong old tables → ⊥) → SomeTableIsWrong new tables → ⊥
still_right old new tables same right (at, t, has, wrong) =
    let is : entry_at new t.name ≡ entry_at old t.name =
    subst (λ (u : Reader). entry_at new u.name ≡ entry_at old u.name) (get_or_from_slice_get tables at t t has) (same at t (slice_get_within tables at t has)) in
    right (at, t, has, subst (λ (e : disk.DiskEntry). HoldsAWrongBlock e t.handles) is wrong)

-- a change that names no table of these leaves them, and so does one from a disk that holds the same
pub kept_on : (old mid new : Meaning) (homes : Homes) → state_in mid ≡ state_in old → KeepsNamed mid new homes → KeepsNamed old new homes
kept_on old mid new homes same kept =
    subst (λ (s : DiskState). (id : ℕ) (h : Home) → get homes id ≡ Some h → All (λ t. entry_at new (table_name id t.id) ≡ (s (table_name id t.id)).now) h.last.tables) same kept

-- ---- ids without a home

none_living : (next id : ℕ) (living : List LivingKeyspace) → All (λ k. k.id < next) living → next ≤ id → keyspace_at id living ≡ None
none_living next id [] given le = refl
none_living next id (k ∷ living) given le =
    let less : k.id < next = All-head (λ (j : LivingKeyspace). j.id < next) k living given in
    ap (λ (b : Bool). cond b (Some k) (keyspace_at id living)) (other_id k.id id (omega (arith, less, le)))
    ∙ none_living next id living (All-tail (λ (j : LivingKeyspace). j.id < next) k living given) le

none_housed : (image : Image) (id : ℕ) (k : Option LivingKeyspace) (h : Option Home) → k ≡ None → HasHomeAt image id k h → h ≡ None
none_housed image id (Some k) h none has = absurd cc
none_housed image id None None none has = refl
none_housed image id None (Some h) none has = absurd has

-- an id that isn't given out has no home
no_home : (image : Image) (c : Contents) → IsOpenable image c → (id : ℕ) → c.keyspaces.next ≤ id → get c.homes id ≡ None
no_home image c is id le = none_housed image id (keyspace_at id c.keyspaces.living) (get c.homes id) (none_living c.keyspaces.next id c.keyspaces.living is.catalog.are.given le) (is.homes id)

-- ---- what is stored with some entries

within_entries : (o : Option Home) (lists : List (List Entry)) → ((h : Home) → o ≡ Some h → IsWithin (stored_entries (Some h) lists)) → IsWithin (stored_entries o lists)
within_entries None lists each = (All-nil (λ (v : Entry). is_beyond None v.number ≡ false), All-nil (λ n. is_beyond None n ≡ false))
within_entries (Some h) lists each = each h refl

all_within_entries : (disk : Meaning) (c : Contents) (entries : ℕ → List (List Entry)) → HaveEntries disk c entries → AreWithin c.keyspaces (stored_with c.homes entries)
all_within_entries disk c entries have i d lt =
    let id = (get_or c.keyspaces.living i d).id in
    within_entries (get c.homes id) (entries id) (λ h is. (have id h is).1)

-- ---- what was opened

-- what was read is what the folder holds
pub takes_contents : (found : RecoveredFolder) (contents : Contents) (o : Opened) (active : Name) (loaded : Forest) → ShowsContents found contents
    → TakesOver o active found.journals.end found.catalog.catalog found.catalog.keyspaces loaded → TakesOver o active found.journals.end contents.last contents.keyspaces loaded
takes_contents found contents o active loaded shows takes = record {
  journal = takes.journal;
  last_is = takes.last_is ∙ shows.last;
  keyspaces = takes.keyspaces ∙ shows.keyspaces;
  reads = takes.reads;
  rest = takes.rest;
  parted = takes.parted;
}

-- The trees are over tables on the disk that have these entries and no wrong block, and show the contents' store with them; each
-- home is known.
pub record ShowStore (disk : Meaning) (o : Opened) (c : Contents) : Type 0 where
  pub entries : ℕ → List (List Entry)
  pub on : AreReadOn disk (forest_of o.trees) entries
  pub named : AreAtHome o.records (forest_of o.trees)
  pub right : All (λ k. SomeTableIsWrong disk k.shape.tables → ⊥) (forest_of o.trees)
  pub unused : (id : ℕ) → o.keyspaces.next ≤ id → entries id ≡ []
  pub made : store_with entries o.keyspaces (forest_of o.trees) ≡ store_of_contents c
  pub shows : AreReplayedWith entries c.keyspaces (stored_in c.homes c.versions) (map shown (batches_in c.journals)) (forest_of o.trees)
  pub known : All (IsKnown o.records (forest_of o.trees) entries c.homes c.versions) c.keyspaces.living

module _ (old new : Meaning) (found : RecoveredFolder) (c : Contents) (active : Name) (o : Opened) (read : IsFinished (seen old) found) (shows : ShowsContents found c) (openable : IsOpenable (seen old) c)
    (takes : TakesRead old o active found) (kept : KeepsNamed old new c.homes) where
  own : ShowBeyond c.keyspaces (persisted_of found) takes.loaded (map shown (batches_in c.journals)) (forest_of o.trees)
  own = takes.trees c openable shows

  each : All (IsOpenedOn old c) takes.loaded
  each = takes.opened c openable shows

  stay : FilesStay old new takes.loaded
  stay = files_stay old new c takes.loaded kept each

  named : AreAtHome o.records (forest_of o.trees)
  named = rest_tables (IsAtHome o.records) takes.loaded (forest_of o.trees) takes.takes.rest takes.named

  unused : (entries : ℕ → List (List Entry)) → ((id : ℕ) → get c.homes id ≡ None → entries id ≡ []) → (id : ℕ) → o.keyspaces.next ≤ id → entries id ≡ []
  unused entries none id le = none id (no_home (seen old) c openable id (subst (λ (s : Keyspaces). s.next ≤ id) (takes.takes.keyspaces ∙ shows.keyspaces) le))

  store_is : (entries : ℕ → List (List Entry)) (stored : ℕ → Stored) → AreTold c.keyspaces stored (persisted_of found) → AreWithin c.keyspaces stored
      → AreReplayedWith entries c.keyspaces stored [] takes.loaded → store_with entries o.keyspaces (forest_of o.trees) ≡ store_beyond c.keyspaces stored (map shown (batches_in c.journals))
  store_is entries stored told within shown_with =
      ap (λ (s : Keyspaces). store_with entries s (forest_of o.trees)) (takes.takes.keyspaces ∙ shows.keyspaces)
      ∙ replayed_store_beside entries c.keyspaces stored (map shown (batches_in c.journals)) (forest_of o.trees) (own entries stored told within shown_with)

  read_on : (entries : ℕ → List (List Entry)) → AreReadOn old takes.loaded entries → AreReadOn new (forest_of o.trees) entries
  read_on entries on = takes.takes.reads new entries (all_files_read old new takes.loaded entries on stay)

  -- they read whatever entries their tables have, and show the store with them
  pub reads_from : ReadsFrom old new c o
  reads_from = record {
    named = named;
    left = takes.left c openable shows;
    reads = λ entries have.
        let with = takes.reads c openable shows entries have.0 in
        record {
          on = read_on entries with.on;
          store = store_is entries (stored_with c.homes entries) (told_with (seen old) found c entries read shows) (all_within_entries old c entries have.0) with.shown;
          unused = unused entries have.1;
        };
  }

  -- of a sound folder they show the store
  pub makes_sound : HaveVersions c.homes c.versions → ShowStore new o c
  makes_sound have =
      let knows = takes.sound c openable shows c.versions have in
      let sound = knows.stored in
      let told = told_sound (seen old) found c c.versions read shows have in
      let within = all_within c.homes c.versions have c.keyspaces in
      record {
        entries = sound.entries;
        on = read_on sound.entries sound.on;
        named = named;
        right = rest_tables (λ id tables. SomeTableIsWrong new tables → ⊥) takes.loaded (forest_of o.trees) takes.takes.rest
            (λ i d lt. still_right old new (get_or takes.loaded i d).shape.tables (stay i d lt) (sound.right i d lt));
        unused = unused sound.entries sound.are.none;
        made = store_is sound.entries (stored_in c.homes c.versions) told within sound.shown;
        shows = own sound.entries (stored_in c.homes c.versions) told within sound.shown;
        known = λ i d lt. known_still o.records takes.loaded (forest_of o.trees) sound.entries c.homes c.versions (get_or c.keyspaces.living i d) takes.takes.rest
            (λ j e less. (takes.takes.parted j e less).some) (knows.known i d lt);
      }

-- ---- a database without keyspaces

-- where nothing was loaded there is no tree
pub no_trees : (trees : Forest) → all_unwritten trees ≡ [] → trees ≡ []
no_trees [] same = refl
no_trees (k ∷ trees) same = absurd cc

-- it shows the store that holds nothing
pub makes_nothing : (disk : Meaning) (active : Name) (o : Opened) → TakesOver o active 0 first_catalog no_keyspaces [] → ShowStore disk o nothing
makes_nothing disk active o takes =
    let none : [] ≡ forest_of o.trees = sym (no_trees (forest_of o.trees) takes.rest) in
    record {
      entries = λ id. [];
      on = subst (λ (trees : Forest). AreReadOn disk trees (λ id. [])) none (All-nil (λ (k : Planted). ReadsAll disk k.shape []));
      named = subst (AreAtHome o.records) none (All-nil (λ (k : Planted). IsAtHome o.records k.id k.shape.tables));
      right = subst (All (λ k. SomeTableIsWrong disk k.shape.tables → ⊥)) none (All-nil (λ (k : Planted). SomeTableIsWrong disk k.shape.tables → ⊥));
      unused = λ id le. refl;
      made = ap (λ (s : Keyspaces). store_with (λ id. []) s (forest_of o.trees)) takes.keyspaces;
      shows = λ i d lt. absurd (omega (arith, lt));
      known = All-nil (IsKnown o.records (forest_of o.trees) (λ id. []) nothing.homes nothing.versions);
    }
