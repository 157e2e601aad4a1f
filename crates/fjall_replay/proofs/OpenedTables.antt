-- What the trees of homes that were read show, on the disk that they were read from.
use Rattle.std.proofs.Common.{◌≡◌, ℕ, zero, suc, ◌<◌, ◌==◌, Bool, true, false, cond, List, [], ◌∷◌, ◌++◌, get_or, length, map, slice_get, All, AllPairs, Option, None, Some, is_some, unwrap_or, refl, sym, ◌∙◌, ap, subst, arith}
use Rattle.std.specs.FinMap.{get}
use Rattle.std.specs.Prelude.{IfSome}
use Rattle.std.proofs.lemmas.Bool.{eq-eqb}
use Rattle.std.proofs.lemmas.List.Elements.{All-cons, All-head, All-map, All-nil, All-tail, All-weaker}
use Rattle.fjall_base.specs.Disk.{Image, Meaning}
use Rattle.fjall_base.proofs.Codecs.{some_is}
use Rattle.fjall_manifest.specs.Catalog.{fields, first_of}
use Rattle.fjall_memtable.specs.Parts.{HeldPart, holds_nothing}
use Rattle.fjall_table_reader.specs.Readers.{AreRead, HoldsAWrongBlock, Reader, SomeTableIsWrong, unread}
use Rattle.fjall_meta.specs.Contents.{IsWithin, Stored, clears_held, is_beyond, versions_held}
use Rattle.fjall_files.specs.Calls.{seen}
use Rattle.fjall_manifest.specs.declared.reading.LoadedHome.{LoadedHome}
use Rattle.fjall_manifest.specs.Homes.{HoldTables, Home}
use Rattle.fjall_files.specs.Names.{table_name}
use Rattle.fjall_manifest.specs.Reading.{AreRight}
use Rattle.fjall_tree.specs.Trees.{Shape, floor_of}
use Rattle.fjall_meta.specs.declared.living.LivingKeyspace.{LivingKeyspace}
use Rattle.fjall_meta.specs.Keyspaces.{Keyspaces, keyspace_at}
use Rattle.fjall_recovery.specs.Folders.{Contents, IsOpenable}
use Rattle.fjall_recovery.specs.Homes.{AreHomesRead, HasHomeAt, HasOpenableHome, HasVersionsAt, HaveHomes, HaveVersions, Homes, IsHomeRead, Versions, stored_at, stored_of}
use Rattle.fjall_replay.specs.Beside.{AreReplayedWith, ShowsWith}
use Rattle.fjall_replay.specs.Replayed.{past}
use Rattle.fjall_memtable.specs.Sorted.{flat}
use Rattle.fjall_table.specs.declared.table_info.TableInfo.{TableInfo}
use Rattle.fjall_table.specs.Blocks.{Entry}
use Rattle.fjall_table_reader.specs.Files.{HoldsNoBlock, IsTableOf, bytes_in}
use Rattle.fjall_table.specs.Tables.{Handle}
use Rattle.fjall_table_reader.proofs.FileScans.{wrong_block}
use Rattle.fjall_manifest.specs.Records.{Fields, view}
use Rattle.fjall_trees.specs.Forests.{Forest, tree_at}
use Rattle.fjall_meta.proofs.Ids.{each_lives}
use Rattle.fjall_memtable.specs.Jobs.{AreBelow, OnceEach}
use Rattle.fjall_memtable.specs.Views.{value_at}
use Rattle.fjall_replay.specs.Known.{GoesOnFrom, IsKnown, LastFields}
use Rattle.fjall_replay.specs.Opening.{AreReadersIn, AreTablesOf, HaveEntries, IsOpenedOn, KnowsStored, ShowsEntries, ShowsStored, opened, record_read, stored_entries, stored_with, tree_of}
use Rattle.fjall_replay.proofs.Turns.{home_at, same_bytes}
use Rattle.fjall_replay.proofs.Opening.{AreRecordsOf, below_past, its_readers, other_id, read_first, read_tree, readers_infos, readers_read, right_but}

-- ---- each home that was read

-- what is so of each home of a keyspace that lives, as it was read
each_read : (image : Image) (all : List LivingKeyspace) (P : LoadedHome → Type 0) → ((k : LivingKeyspace) (home : LoadedHome) → is_some (keyspace_at k.id all) ≡ true → IsHomeRead image k.id home → P home)
    → (living : List LivingKeyspace) (homes : List LoadedHome) → All (λ k. is_some (keyspace_at k.id all) ≡ true) living → AreHomesRead image living homes → All P homes
each_read image all P so [] [] live read = All-nil P
each_read image all P so [] (home ∷ homes) live read = absurd read
each_read image all P so (k ∷ living) [] live read = absurd read
each_read image all P so (k ∷ living) (home ∷ homes) live read =
    All-cons P home homes (so k home (All-head (λ (j : LivingKeyspace). is_some (keyspace_at j.id all) ≡ true) k living live) read.0)
    (each_read image all P so living homes (All-tail (λ (j : LivingKeyspace). is_some (keyspace_at j.id all) ≡ true) k living live) read.1)

-- a keyspace's tree stands under its id, where ids ascend
at_first : (id : ℕ) (home : LoadedHome) (trees : Forest) (b : Bool) → (home.id == id) ≡ b → tree_at id (opened home ∷ trees) ≡ cond b (Some (opened home).shape) (tree_at id trees)
at_first id home trees true e = ap (λ (c : Bool). cond c (Some (opened home).shape) (tree_at id trees)) e
at_first id home trees false e = ap (λ (c : Bool). cond c (Some (opened home).shape) (tree_at id trees)) e

-- and so does its record
record IsFound (image : Image) (homes : List LoadedHome) (k : LivingKeyspace) : Type 0 where
  home : LoadedHome
  read : IsHomeRead image k.id home
  at : tree_at k.id (map opened homes) ≡ Some (opened home).shape
  told : record_read homes k.id ≡ Some (view home.record)

trees_found : (image : Image) (living : List LivingKeyspace) (homes : List LoadedHome) → AllPairs (λ j k. j.id < k.id) living → AreHomesRead image living homes
    → All (IsFound image homes) living
trees_found image [] [] up read = All-nil (IsFound image [])
trees_found image [] (home ∷ homes) up read = absurd read
trees_found image (k ∷ living) [] up read = absurd read
trees_found image (k ∷ living) (home ∷ homes) up read =
    let own = eq-eqb home.id k.id read.0.loaded.named in
    All-cons (IsFound image (home ∷ homes)) k living
    (record {
      home = home;
      read = read.0;
      at = at_first k.id home (map opened homes) true own;
      told = read_first home homes k.id true own;
    })
    (λ i d lt.
    let j = get_or living i d in
    let one = trees_found image living homes (λ a b e less within. up (suc a) (suc b) e (omega (arith, less)) (omega (arith, within))) read.1 i d lt in
    let above : k.id < j.id = up 0 (suc i) d (omega arith) (omega (arith, lt)) in
    let less : home.id < j.id = subst (λ (n : ℕ). n < j.id) (sym read.0.loaded.named) above in
    record {
      home = one.home;
      read = one.read;
      at = at_first j.id home (map opened homes) false (other_id home.id j.id less) ∙ one.at;
      told = read_first home homes j.id false (other_id home.id j.id less) ∙ one.told;
    })

-- ---- the entries of a sound folder's tables

-- those of one keyspace
abbrev lists_at : (h : Option Home) (versions : Option (List Entry)) → HasVersionsAt h versions → List (List Entry)
lists_at (Some h) (Some versions) have = have.lists
lists_at (Some h) None have = []
lists_at None versions have = []

lists_stored : (h : Option Home) (versions : Option (List Entry)) (have : HasVersionsAt h versions) → stored_entries h (lists_at h versions have) ≡ stored_at h versions
lists_stored (Some h) (Some versions) have = ap (stored_of h) (sym have.all)
lists_stored (Some h) None have = absurd have
lists_stored None (Some versions) have = absurd have
lists_stored None None have = refl

lists_none : (h : Option Home) (versions : Option (List Entry)) (have : HasVersionsAt h versions) → h ≡ None → lists_at h versions have ≡ []
lists_none (Some h) versions have none = absurd cc
lists_none None versions have none = refl

-- these are its versions
lists_versions : (o : Option Home) (versions : Option (List Entry)) (have : HasVersionsAt o versions) (h : Home) → o ≡ Some h → versions ≡ Some (flat (lists_at o versions have))
lists_versions (Some g) (Some versions) have h is = ap Some have.all
lists_versions (Some g) None have h is = absurd have
lists_versions None versions have h is = absurd cc

-- what is so of a home and its lists
record AreLists (h : Home) (lists : List (List Entry)) : Type 0 where
  right : AreRight h.last.tables h.texts lists
  within : IsWithin (stored_of h (flat lists))
  once : OnceEach (flat lists)

lists_are : (o : Option Home) (versions : Option (List Entry)) (have : HasVersionsAt o versions) (h : Home) → o ≡ Some h → AreLists h (lists_at o versions have)
lists_are (Some g) (Some versions) have h is = subst (λ (x : Home). AreLists x have.lists) (some_is g h is) (record {
  right = have.right;
  within = subst (λ (vs : List Entry). IsWithin (stored_of g vs)) have.all have.within;
  once = subst OnceEach have.all have.once;
})
lists_are (Some g) None have h is = absurd have
lists_are None versions have h is = absurd cc

in_range : {X : Type 0} (xs : List X) (at : ℕ) (x : X) → slice_get xs at ≡ Some x → at < length xs
in_range [] at x has = absurd cc
in_range (y ∷ xs) zero x has = omega arith
in_range (y ∷ xs) (suc at) x has = let lt = in_range xs at x has in omega (arith, lt)

-- a table that is right has no wrong block
none_wrong : (image : Image) (id : ℕ) (tables : List TableInfo) (texts : List (List ℕ)) (lists : List (List Entry)) (readers : List Reader) → HoldTables image id tables texts → AreRight tables texts lists
    → AreReadersIn image id tables readers → (at : ℕ) (r : Reader) → slice_get readers at ≡ Some r → HoldsAWrongBlock (image r.name) r.handles → ⊥
none_wrong image id [] texts lists [] hold right of at r has wrong = cc
none_wrong image id [] texts lists (s ∷ readers) hold right of at r has wrong = of
none_wrong image id (t ∷ tables) texts lists [] hold right of at r has wrong = of
none_wrong image id (t ∷ tables) [] lists (s ∷ readers) hold right of at r has wrong = hold
none_wrong image id (t ∷ tables) (b ∷ texts) [] (s ∷ readers) hold right of at r has wrong = right
none_wrong image id (t ∷ tables) (b ∷ texts) (es ∷ lists) (s ∷ readers) hold right of zero r has wrong =
    let name = table_name id t.id in
    let bytes = bytes_in (image name) in
    let is : IsTableOf t bytes es = subst (λ (x : List ℕ). IsTableOf t x es) (sym (same_bytes (image name) ∙ hold.0.1)) right.0 in
    let same : unread name t of.0.handles ≡ r = sym of.0.is ∙ some_is s r has in
    let here : HoldsAWrongBlock (image name) of.0.handles = subst (λ (x : Reader). HoldsAWrongBlock (image x.name) x.handles) (sym same) wrong in
    let within : here.0 < length of.0.handles = in_range of.0.handles here.0 here.1 here.2 in
    wrong_block t bytes of.0.handles of.0.holds.is here.0 within (subst (λ (o : Option Handle). IfSome o (HoldsNoBlock (image name))) (sym here.2) here.3) es is
none_wrong image id (t ∷ tables) (b ∷ texts) (es ∷ lists) (s ∷ readers) hold right of (suc at) r has wrong = none_wrong image id tables texts lists readers hold.1 right.1 of.1 at r has wrong

-- the same of whatever entries
entries_low : (h : Home) (entries : List (List Entry)) → IsWithin (stored_of h (flat entries)) → AreBelow (past h.last.persisted) (flat entries)
entries_low h entries within =
    All-weaker (λ (v : Entry). is_beyond h.last.persisted v.number ≡ false) (λ (v : Entry). v.number < past h.last.persisted) (λ v e. below_past h.last.persisted v.number e) (flat entries) within.0

entries_show : (s : Keyspaces) (id : ℕ) (o : Option Home) (entries : List (List Entry)) (h : Home) → o ≡ Some h → AreBelow (past h.last.persisted) (flat entries) → (readers : List Reader)
    → ShowsWith entries (clears_held s (stored_entries o entries) id []) (versions_held s (stored_entries o entries) id []) (tree_of readers h.last)
entries_show s id None entries h is low readers = absurd cc
entries_show s id (Some g) entries h is low readers = record {
  below = low;
  shows = λ key instant i. value_at key instant (ap (λ (x : Home). x.last.clears) (sym (some_is g h is)) i ++ []) (flat entries ++ []);
}

-- ---- what is known of a home that was read

-- its tree goes on from the record that it tells
goes_on : (home : LoadedHome) (h : Home) → map (λ (r : Reader). r.info) (opened home).shape.tables ≡ h.last.tables → view home.record ≡ h.last → GoesOnFrom h.last (opened home).shape
goes_on home h tables is = record {
  tables = tables;
  clears = ap (λ (f : Fields). f.clears) is;
  beyond = let same = ap (λ (f : Fields). past f.persisted) is in omega (arith, same);
  some = All-nil (λ (held : HeldPart). holds_nothing held ≡ false);
}

-- ---- all trees

-- a home that the contents have stands in the image
housed_as : (image : Image) (living : List LivingKeyspace) (homes : Homes) → HaveHomes image living homes → (id : ℕ) (h : Home) → get homes id ≡ Some h → (k : LivingKeyspace) × HasOpenableHome image id h
housed_as image living homes have id h at = by (keyspace_at id living) (get homes id) at (have id)
  where
    by : (k : Option LivingKeyspace) (o : Option Home) → o ≡ Some h → HasHomeAt image id k o → (k : LivingKeyspace) × HasOpenableHome image id h
    by (Some k) (Some g) is has = (k, subst (HasOpenableHome image id) (some_is g h is) has)
    by (Some k) None is has = absurd has
    by None (Some g) is has = absurd has
    by None None is has = absurd cc

module _ (disk : Meaning) (c : Contents) (openable : IsOpenable (seen disk) c) (homes : List LoadedHome) (read : AreHomesRead (seen disk) c.keyspaces.living homes) where
  pub all_opened : All (IsOpenedOn disk c) (map opened homes)
  all_opened =
      All-map (IsOpenedOn disk c) opened homes
      (each_read (seen disk) c.keyspaces.living (λ home. IsOpenedOn disk c (opened home)) one c.keyspaces.living homes (each_lives c.keyspaces.living) read)
    where
      one : (k : LivingKeyspace) (home : LoadedHome) → is_some (keyspace_at k.id c.keyspaces.living) ≡ true → IsHomeRead (seen disk) k.id home → IsOpenedOn disk c (opened home)
      one k home lives r =
          let tree = read_tree (seen disk) k.id home r in
          let own : home.id ≡ k.id = r.loaded.named in
          let is : IsOpenedOn disk c (record { id = k.id; shape = (opened home).shape }) = record {
            h = r.loaded.h;
            home = home_at (seen disk) c.keyspaces.living c.homes openable.homes k lives home r;
            tree = tree;
            reads = λ lists have. readers_read disk k.id r.loaded.h.last.tables (opened home).shape.tables lists (its_readers (seen disk) k.id home r) have;
          } in
          subst (λ (n : ℕ). IsOpenedOn disk c (record { id = n; shape = (opened home).shape })) (sym own) is

  module _ (entries : ℕ → List (List Entry)) (have : HaveEntries disk c entries) where
    entries_read : All (λ k. AreRead disk k.shape.tables (entries k.id)) (map opened homes)
    entries_read = λ i d lt. let one = all_opened i d lt in one.reads (entries (get_or (map opened homes) i d).id) (have (get_or (map opened homes) i d).id one.h one.home).0

    entries_below : All (λ k. AreBelow (floor_of k.shape.memory) (flat (entries k.id))) (map opened homes)
    entries_below = λ i d lt.
        let k = get_or (map opened homes) i d in
        let one = all_opened i d lt in
        let low = entries_low one.h (entries k.id) (have k.id one.h one.home).1 in
        subst (λ (shape : Shape). AreBelow (floor_of shape.memory) (flat (entries k.id))) (sym one.tree.is) low

    entries_shown : AllPairs (λ j k. j.id < k.id) c.keyspaces.living → AreReplayedWith entries c.keyspaces (stored_with c.homes entries) [] (map opened homes)
    entries_shown up = λ i d lt.
        let k : LivingKeyspace = get_or c.keyspaces.living i d in
        let one = trees_found (seen disk) c.keyspaces.living homes up read i d lt in
        let h = one.read.loaded.h in
        let at = home_at (seen disk) c.keyspaces.living c.homes openable.homes k (each_lives c.keyspaces.living i d lt) one.home one.read in
        let tree = read_tree (seen disk) k.id one.home one.read in
        let shows = entries_show c.keyspaces k.id (get c.homes k.id) (entries k.id) h at (entries_low h (entries k.id) (have k.id h at).1) tree.readers in (
          (opened one.home).shape,
          one.at,
          subst (λ (shape : Shape). ShowsWith (entries k.id) (clears_held c.keyspaces (stored_with c.homes entries k.id) k.id [])
              (versions_held c.keyspaces (stored_with c.homes entries k.id) k.id []) shape) (sym tree.is) shows,
        )

    pub shows_entries : AllPairs (λ j k. j.id < k.id) c.keyspaces.living → ShowsEntries disk c entries (map opened homes)
    shows_entries up = record {
      on = λ i d lt. let one = all_opened i d lt in record { tables = entries_read i d lt; below = entries_below i d lt; once = (have (get_or (map opened homes) i d).id one.h one.home).2 };
      shown = entries_shown up;
    }

  module _ (versions : Versions) (have : HaveVersions c.homes versions) where
    abbrev entries_in : ℕ → List (List Entry)
    entries_in id = lists_at (get c.homes id) (get versions id) (have id)

    entries_are : AreTablesOf disk c versions entries_in
    entries_are = record {
      have = λ id h at.
          let lists = lists_are (get c.homes id) (get versions id) (have id) h at in
          let home = housed_as (seen disk) c.keyspaces.living c.homes openable.homes id h at in
          (right_but (seen disk) id h.last.tables h.texts (entries_in id) home.1.home.files.tables lists.right, lists.within, lists.once);
      stored = λ id. lists_stored (get c.homes id) (get versions id) (have id);
      none = λ id none. lists_none (get c.homes id) (get versions id) (have id) none;
    }

    none_is_wrong : All (λ k. SomeTableIsWrong disk k.shape.tables → ⊥) (map opened homes)
    none_is_wrong i d lt (at, r, has, wrong) =
        let k = get_or (map opened homes) i d in
        let one = all_opened i d lt in
        let lists = lists_are (get c.homes k.id) (get versions k.id) (have k.id) one.h one.home in
        let home = housed_as (seen disk) c.keyspaces.living c.homes openable.homes k.id one.h one.home in
        let there : slice_get one.tree.readers at ≡ Some r = ap (λ (s : Shape). slice_get s.tables at) (sym one.tree.is) ∙ has in
        none_wrong (seen disk) k.id one.h.last.tables one.h.texts (entries_in k.id) one.tree.readers home.1.home.files.tables lists.right one.tree.tables at r there wrong

    pub shows_stored : AllPairs (λ j k. j.id < k.id) c.keyspaces.living → ShowsStored disk c versions (map opened homes)
    shows_stored up =
        let shown = shows_entries entries_in entries_are.have up in
        record {
          entries = entries_in;
          are = entries_are;
          on = shown.on;
          right = none_is_wrong;
          shown = subst (λ (stored : ℕ → Stored). AreReplayedWith entries_in c.keyspaces stored [] (map opened homes)) (λ i id. entries_are.stored id i) shown.shown;
        }

    -- each home is known where these are the homes' records
    pub homes_known : (records : LastFields) → AreRecordsOf homes records → AllPairs (λ j k. j.id < k.id) c.keyspaces.living
        → All (IsKnown records (map opened homes) entries_in c.homes versions) c.keyspaces.living
    homes_known records are up = λ i d lt.
        let k : LivingKeyspace = get_or c.keyspaces.living i d in
        let one = trees_found (seen disk) c.keyspaces.living homes up read i d lt in
        let h = one.read.loaded.h in
        let is : view one.home.record ≡ h.last = one.read.loaded.record_is in
        let at = home_at (seen disk) c.keyspaces.living c.homes openable.homes k (each_lives c.keyspaces.living i d lt) one.home one.read in
        let tables = readers_infos (seen disk) k.id h.last.tables (opened one.home).shape.tables (its_readers (seen disk) k.id one.home one.read) in
        record {
          h = h;
          home = at;
          right = (lists_are (get c.homes k.id) (get versions k.id) (have k.id) h at).right;
          stored = lists_versions (get c.homes k.id) (get versions k.id) (have k.id) h at;
          last = ap (λ (o : Option Fields). unwrap_or o (fields (first_of k.number))) (are k.id ∙ one.told) ∙ is;
          shape = (opened one.home).shape;
          tree = one.at;
          goes_on = goes_on one.home h tables is;
        }

    pub knows_stored : (records : LastFields) → AreRecordsOf homes records → AllPairs (λ j k. j.id < k.id) c.keyspaces.living → KnowsStored disk c versions records (map opened homes)
    unfolding shows_stored
    knows_stored records are up = record { stored = shows_stored up; known = homes_known records are up }
