-- Homes that were read, as trees over their tables.
use Rattle.std.proofs.Common.{◌≡◌, ℕ, zero, suc, ◌+◌, ◌<◌, ◌≤◌, ◌^◌, ◌==◌, max, Bool, true, false, cond, List, [], ◌∷◌, ◌++◌, length, take, get_or, map, All, AllPairs, Option, None, Some, find, is_some, add-one, refl, sym, ◌∙◌, ap, subst, arith}
use Rattle.std.specs.Cmp.{nat_cmp_total}
use Rattle.std.specs.FinMap.{get, get-insert, insert}
use Rattle.std.specs.Ordering.{eq_by_cmp, nat_cmp}
use Rattle.std.specs.Prelude.{IfSome}
use Rattle.std.specs.List.Sorted.{IsStrictlyIncreasing}
use Rattle.std.specs.Option.{option_map}
use Rattle.std.proofs.lemmas.Bool.{eq-eqb, eqb-true}
use Rattle.std.proofs.lemmas.Bool.Decides.{nat_tests}
use Rattle.std.proofs.lemmas.List.{get_or_default, map-append}
use Rattle.std.proofs.Math.Seq.{take-suc}
use Rattle.std.proofs.lemmas.List.Elements.{All-cons, All-head, All-map, All-nil, All-tail, All-weaker}
use Rattle.fjall_base.specs.Disk.{Image, Meaning}
use Rattle.fjall_table_reader.specs.Readers.{AreRead, Reader, Reads, unread}
use Rattle.fjall_table_reader.proofs.Readers.{but_none, none_got}
use Rattle.fjall_meta.specs.Contents.{is_beyond}
use Rattle.fjall_files.specs.Calls.{seen}
use Rattle.fjall_files.specs.Names.{table_name}
use Rattle.fjall_manifest.specs.declared.reading.LoadedHome.{LoadedHome}
use Rattle.fjall_manifest.specs.Homes.{HoldTables}
use Rattle.fjall_manifest.specs.Reading.{AreIndexed, AreOpened, AreRight}
use Rattle.fjall_manifest.proofs.Resting.{last_has}
use Rattle.fjall_meta.specs.declared.living.LivingKeyspace.{LivingKeyspace}
use Rattle.fjall_memtable.specs.Parts.{Ascends}
use Rattle.fjall_recovery.specs.Homes.{AreHomesRead, IsHomeRead}
use Rattle.fjall_replay.specs.Beside.{AreEndedBy}
use Rattle.fjall_replay.specs.Replayed.{past}
use Rattle.fjall_table_reader.specs.declared.table_file.TableFile.{TableFile}
use Rattle.fjall_table.specs.declared.table_info.TableInfo.{TableInfo}
use Rattle.fjall_table.specs.Blocks.{Entry}
use Rattle.fjall_table_reader.specs.Files.{HoldsTable, IsIndexed, IsTableOf, bytes_in}
use Rattle.fjall_table.specs.Tables.{Handle, handles_of}
use Rattle.fjall_table.proofs.TableBlocks.{one_index}
use Rattle.fjall_manifest.specs.Records.{Fields, IsRecord, view}
use Rattle.fjall_trees.specs.Forests.{AreBefore, Forest, Planted}
use Rattle.fjall_meta.specs.Replays.{persisted_at}
use Rattle.fjall_meta.specs.declared.recovery.Persisted.{Persisted}
use Rattle.fjall_replay.specs.Known.{LastFields}
use Rattle.fjall_replay.specs.Opening.{AreReadersIn, HaveEntriesBut, IsOpenedTree, IsReaderOf, MayOpen, MayOpenAll, opened, reader_of, record_read, told_by, tree_of}
use Rattle.fjall_meta.proofs.ContentSearches.{told_first}
use Rattle.fjall_replay.proofs.Turns.{same_bytes}

-- ---- readers of a home's tables

same_text : (image : Image) (id : ℕ) (t : TableInfo) (bytes : List ℕ) (hs : List Handle) → HoldTables image id (t ∷ []) (bytes ∷ []) → IsIndexed t bytes hs
    → HoldsTable (image (table_name id t.id)) t hs
same_text image id t bytes hs hold is = record {
  file = hold.0.0;
  is = subst (λ (b : List ℕ). IsIndexed t b hs) (sym (same_bytes (image (table_name id t.id)) ∙ hold.0.1)) is;
}

pub readers_are : (image : Image) (id : ℕ) (tables : List TableInfo) (texts : List (List ℕ)) (indexes : List (List Handle)) (files : List TableFile)
    → AreOpened id tables indexes files → HoldTables image id tables texts → AreIndexed tables texts indexes → AreReadersIn image id tables (map reader_of files)
readers_are image id [] texts [] [] opened hold indexed = tt
readers_are image id [] texts [] (f ∷ files) opened hold indexed = absurd opened
readers_are image id [] texts (hs ∷ indexes) files opened hold indexed = absurd opened
readers_are image id (t ∷ tables) texts [] files opened hold indexed = absurd opened
readers_are image id (t ∷ tables) texts (hs ∷ indexes) [] opened hold indexed = absurd opened
readers_are image id (t ∷ tables) [] (hs ∷ indexes) (f ∷ files) opened hold indexed = absurd hold
readers_are image id (t ∷ tables) (b ∷ texts) (hs ∷ indexes) (f ∷ files) opened hold indexed =
    let one = opened.0 in (
      record { handles = hs; is = λ i. unread (one.name i) (one.info i) (one.index i); holds = same_text image id t b hs (hold.0, tt) indexed.0 },
      readers_are image id tables texts indexes files opened.1 hold.1 indexed.1,
    )

-- readers know of the tables what their record says
pub readers_infos : (image : Image) (id : ℕ) (tables : List TableInfo) (readers : List Reader) → AreReadersIn image id tables readers → map (λ (r : Reader). r.info) readers ≡ tables
readers_infos image id [] [] of = refl
readers_infos image id [] (r ∷ readers) of = absurd of
readers_infos image id (t ∷ tables) [] of = absurd of
readers_infos image id (t ∷ tables) (r ∷ readers) of = λ i. (of.0.is i).info ∷ readers_infos image id tables readers of.1 i

-- one reads the table that its file is but for wrong blocks
one_reads : (disk : Meaning) (id : ℕ) (t : TableInfo) (reader : Reader) (entries : List Entry) → IsReaderOf (seen disk) id t reader
    → HaveEntriesBut (seen disk) id (t ∷ []) (entries ∷ []) → Reads disk reader entries
one_reads disk id t reader entries of have =
    let name = table_name id t.id in
    let but = have.0 in
    subst (λ (r : Reader). Reads disk r entries) (sym of.is) (record {
      blocks = but.0;
      all = but.1;
      reads = record {
        table = but.2;
        index = (one_index (bytes_in (seen disk name)) of.handles (handles_of 0 but.0) t.entry_count t.entry_count of.holds.is.index but.2.index).0;
        kept = (λ at vs e. absurd (none_got of.handles at vs e), λ at vs e. absurd (none_got of.handles at vs e));
      };
    })

pub readers_read : (disk : Meaning) (id : ℕ) (tables : List TableInfo) (readers : List Reader) (lists : List (List Entry)) → AreReadersIn (seen disk) id tables readers
    → HaveEntriesBut (seen disk) id tables lists
    → AreRead disk readers lists
readers_read disk id [] [] [] of have = tt
readers_read disk id [] [] (es ∷ lists) of have = absurd have
readers_read disk id [] (r ∷ readers) lists of have = absurd of
readers_read disk id (t ∷ tables) [] lists of have = absurd of
readers_read disk id (t ∷ tables) (r ∷ readers) [] of have = absurd have
readers_read disk id (t ∷ tables) (r ∷ readers) (es ∷ lists) of have =
    (one_reads disk id t r es of.0 (have.0, tt), readers_read disk id tables readers lists of.1 have.1)

-- tables whose blocks are right are such tables
pub right_but : (image : Image) (id : ℕ) (tables : List TableInfo) (texts : List (List ℕ)) (lists : List (List Entry)) → HoldTables image id tables texts → AreRight tables texts lists
    → HaveEntriesBut image id tables lists
right_but image id [] [] [] hold right = tt
right_but image id [] [] (es ∷ lists) hold right = absurd right
right_but image id [] (b ∷ texts) lists hold right = absurd right
right_but image id (t ∷ tables) [] lists hold right = absurd right
right_but image id (t ∷ tables) (b ∷ texts) [] hold right = absurd right
right_but image id (t ∷ tables) (b ∷ texts) (es ∷ lists) hold right =
    let entry = image (table_name id t.id) in
    let is = subst (λ (bytes : List ℕ). IsTableOf t bytes es) (sym (same_bytes entry ∙ hold.0.1)) right.0 in
    (but_none entry t es hold.0.0 is, right_but image id tables texts lists hold.1 right.1)

-- ---- a home that was read

module _ (image : Image) (id : ℕ) (home : LoadedHome) (read : IsHomeRead image id home) where
  pub last_is_record : IsRecord read.loaded.h.last
  last_is_record = last_has IsRecord read.loaded.records read.loaded.h.last read.loaded.openable.files.whole.each read.loaded.openable.files.last_is

  -- it tells of a tree
  pub read_may : MayOpen id home
  read_may = record {
    named = read.loaded.named;
    small = subst (λ (p : Option ℕ). IfSome p (λ n. n < 2 ^ 63)) (sym (ap (λ (f : Fields). f.persisted) read.loaded.record_is)) last_is_record.consistent.persisted;
    within = read.clears;
    ascending = subst IsStrictlyIncreasing (sym (ap (λ (f : Fields). f.clears) read.loaded.record_is)) last_is_record.consistent.ascending;
  }

  pub its_readers : AreReadersIn image id read.loaded.h.last.tables (map reader_of home.tables.items)
  its_readers =
      readers_are image id read.loaded.h.last.tables read.loaded.h.texts read.loaded.indexes home.tables.items read.loaded.tables read.loaded.openable.files.tables read.loaded.openable.indexed

  pub read_tree : IsOpenedTree image id read.loaded.h (opened home).shape
  read_tree = record {
    readers = map reader_of home.tables.items;
    tables = its_readers;
    is = ap (tree_of (map reader_of home.tables.items)) read.loaded.record_is;
  }

-- all of them
pub read_all : (image : Image) (living : List LivingKeyspace) (homes : List LoadedHome) → AreHomesRead image living homes → MayOpenAll (map (λ k. k.id) living) homes
read_all image [] [] read = tt
read_all image [] (home ∷ homes) read = absurd read
read_all image (k ∷ living) [] read = absurd read
read_all image (k ∷ living) (home ∷ homes) read = (read_may image k.id home read.0, read_all image living homes read.1)

-- ---- where memory begins

-- what isn't beyond the persisted number is below
pub below_past : (persisted : Option ℕ) (n : ℕ) → is_beyond persisted n ≡ false → n < past persisted
below_past None n within = let no : true ≡ false = within in cc
below_past (Some p) n within = let most : n ≤ p = grind (arith, nat_tests) in omega (arith, most)

pub past_bound : (persisted : Option ℕ) (bound : ℕ) → IfSome persisted (λ n. n < bound) → past persisted ≤ bound
past_bound None bound low = omega arith
past_bound (Some n) bound low = omega (arith, low)

pub opened_before : (bound : ℕ) (homes : List LoadedHome) → All (λ home. IfSome home.record.persisted (λ n. n < bound)) homes → AreBefore bound (map opened homes)
opened_before bound homes low =
    All-map (λ (k : Planted). k.shape.memory.active.until ≤ bound) opened homes
    (λ i d lt. past_bound (get_or homes i d).record.persisted bound (low i d lt))

-- ---- ids

pub opened_ids : (ids : List ℕ) (homes : List LoadedHome) → MayOpenAll ids homes → map (λ (k : Planted). k.id) (map opened homes) ≡ ids
opened_ids [] [] may = refl
opened_ids [] (home ∷ homes) may = absurd may
opened_ids (id ∷ ids) [] may = absurd may
opened_ids (id ∷ ids) (home ∷ homes) may = λ i. may.0.named i ∷ opened_ids ids homes may.1 i

pub other_id : (n m : ℕ) → n < m → (n == m) ≡ false
other_id n m less = grind (arith, nat_tests)

-- what is so of each id is so of each home's
named_all : (P : ℕ → Type 0) (ids : List ℕ) (homes : List LoadedHome) → MayOpenAll ids homes → All P ids → All (λ home. P home.id) homes
named_all P [] [] may all = All-nil (λ (home : LoadedHome). P home.id)
named_all P [] (home ∷ homes) may all = absurd may
named_all P (id ∷ ids) [] may all = absurd may
named_all P (id ∷ ids) (home ∷ homes) may all =
    All-cons (λ (h : LoadedHome). P h.id) home homes (subst P (sym may.0.named) (All-head P id ids all)) (named_all P ids homes may.1 (All-tail P id ids all))

-- of homes of lesser ids what is told is of lesser ids
pub told_below : (id : ℕ) (living : List LivingKeyspace) (homes : List LoadedHome) → All (λ k. k.id < id) living → MayOpenAll (map (λ k. k.id) living) homes → All (λ p. p.id < id) (map told_by homes)
told_below id living homes low may =
    All-map (λ (p : Persisted). p.id < id) told_by homes
    (named_all (λ i. i < id) (map (λ (k : LivingKeyspace). k.id) living) homes may (All-map (λ i. i < id) (λ (k : LivingKeyspace). k.id) living low))

-- of homes whose ids ascend each one's persisted number is told under its id
told_at : (ids : List ℕ) (homes : List LoadedHome) → Ascends ids → MayOpenAll ids homes → All (λ home. persisted_at home.id (map told_by homes) ≡ home.record.persisted) homes
told_at [] [] up may = All-nil (λ (home : LoadedHome). persisted_at home.id [] ≡ home.record.persisted)
told_at [] (home ∷ homes) up may = absurd may
told_at (id ∷ ids) [] up may = absurd may
told_at (id ∷ ids) (home ∷ homes) up may =
    All-cons (λ (h : LoadedHome). persisted_at h.id (map told_by (home ∷ homes)) ≡ h.record.persisted) home homes (told_first home.id (told_by home) (map told_by homes) true (eq-eqb home.id home.id refl))
    (λ i d lt.
    let h = get_or homes i d in
    let above : id < h.id = named_all (λ n. id < n) ids homes may.1 up.0 i d lt in
    let less : home.id < h.id = subst (λ (n : ℕ). n < h.id) (sym may.0.named) above in
    told_first h.id (told_by home) (map told_by homes) false (other_id home.id h.id less) ∙ told_at ids homes up.1 may.1 i d lt)

pub opened_ended : (ids : List ℕ) (homes : List LoadedHome) → Ascends ids → MayOpenAll ids homes → AreEndedBy (map told_by homes) 0 (map opened homes)
opened_ended ids homes up may =
    All-map (λ (k : Planted). k.shape.memory.active.until ≤ max (past (persisted_at k.id (map told_by homes))) 0) opened homes
    (λ i d lt.
    let home = get_or homes i d in
    subst (λ (p : Option ℕ). past home.record.persisted ≤ max (past p) 0) (sym (told_at ids homes up may i d lt)) (omega arith))

-- ---- the records that are kept

-- the record under an id is that of the first home of it
pub read_first : (home : LoadedHome) (homes : List LoadedHome) (id : ℕ) (b : Bool) → (home.id == id) ≡ b → record_read (home ∷ homes) id ≡ cond b (Some (view home.record)) (record_read homes id)
read_first home homes id true e = ap (λ (c : Bool). option_map (λ (h : LoadedHome). view h.record) (cond c (Some home) (find (λ (h : LoadedHome). h.id == id) homes))) e
read_first home homes id false e = ap (λ (c : Bool). option_map (λ (h : LoadedHome). view h.record) (cond c (Some home) (find (λ (h : LoadedHome). h.id == id) homes))) e

-- homes of lesser ids have none under it
none_read : (homes : List LoadedHome) (id : ℕ) → All (λ h. h.id < id) homes → record_read homes id ≡ None
none_read [] id low = refl
none_read (home ∷ homes) id low =
    read_first home homes id false (other_id home.id id (All-head (λ (h : LoadedHome). h.id < id) home homes low))
    ∙ none_read homes id (All-tail (λ (h : LoadedHome). h.id < id) home homes low)

-- the record of a home behind others of lesser ids
read_behind : (homes : List LoadedHome) (home : LoadedHome) (id : ℕ) → (home.id == id) ≡ true → All (λ h. h.id < id) homes → record_read (homes ++ home ∷ []) id ≡ Some (view home.record)
read_behind [] home id own low = read_first home [] id true own
read_behind (h ∷ homes) home id own low =
    read_first h (homes ++ home ∷ []) id false (other_id h.id id (All-head (λ (g : LoadedHome). g.id < id) h homes low))
    ∙ read_behind homes home id own (All-tail (λ (g : LoadedHome). g.id < id) h homes low)

-- and that of another id stays
read_before : (homes : List LoadedHome) (home : LoadedHome) (id : ℕ) → (home.id == id) ≡ false → record_read (homes ++ home ∷ []) id ≡ record_read homes id
read_before [] home id other = read_first home [] id false other
read_before (h ∷ homes) home id other = elim (h.id == id) as (λ b. (h.id == id) ≡ b → record_read ((h ∷ homes) ++ home ∷ []) id ≡ record_read (h ∷ homes) id) [
  | true ↦ λ e. read_first h (homes ++ home ∷ []) id true e ∙ sym (read_first h homes id true e)
  | false ↦ λ e. read_first h (homes ++ home ∷ []) id false e ∙ read_before homes home id other ∙ sym (read_first h homes id false e)
] refl

-- these are the records of homes
abbrev pub AreRecordsOf : List LoadedHome → LastFields → Type 0
AreRecordsOf homes records = (id : ℕ) → get records id ≡ record_read homes id

tied : (q id : ℕ) → eq_by_cmp nat_cmp q id ≡ true → (id == q) ≡ true
tied q id e = grind (arith, nat_tests)

apart : (q id : ℕ) → eq_by_cmp nat_cmp q id ≡ false → (id == q) ≡ false
apart q id e = grind (arith, nat_tests)

pub records_push : (homes : List LoadedHome) (home : LoadedHome) (records : LastFields) → All (λ h. h.id < home.id) homes → AreRecordsOf homes records
    → AreRecordsOf (homes ++ home ∷ []) (insert records home.id (view home.record))
records_push homes home records low are q =
    get-insert nat_cmp_total records home.id (view home.record) q
    ∙ elim (eq_by_cmp nat_cmp q home.id) as (λ b. eq_by_cmp nat_cmp q home.id ≡ b → cond b (Some (view home.record)) (get records q) ≡ record_read (homes ++ home ∷ []) q) [
      | true ↦ λ e.
          let own = tied q home.id e in
          sym (read_behind homes home q own (subst (λ (n : ℕ). All (λ (h : LoadedHome). h.id < n) homes) (eqb-true home.id q own) low))
      | false ↦ λ e. are q ∙ sym (read_before homes home q (apart q home.id e))
    ] refl

-- each keyspace has one
has_read : (homes : List LoadedHome) (home : LoadedHome) (id : ℕ) → is_some (record_read homes id) ≡ true → is_some (record_read (home ∷ homes) id) ≡ true
has_read homes home id has = elim (home.id == id) as (λ b. (home.id == id) ≡ b → is_some (record_read (home ∷ homes) id) ≡ true) [
  | true ↦ λ e. ap is_some (read_first home homes id true e)
  | false ↦ λ e. ap is_some (read_first home homes id false e) ∙ has
] refl

all_read : (living : List LivingKeyspace) (homes : List LoadedHome) → MayOpenAll (map (λ k. k.id) living) homes → All (λ k. is_some (record_read homes k.id) ≡ true) living
all_read [] homes may = All-nil (λ (k : LivingKeyspace). is_some (record_read homes k.id) ≡ true)
all_read (k ∷ living) [] may = absurd may
all_read (k ∷ living) (home ∷ homes) may =
    All-cons (λ (j : LivingKeyspace). is_some (record_read (home ∷ homes) j.id) ≡ true) k living
    (ap is_some (read_first home homes k.id true (eq-eqb home.id k.id may.0.named)))
    (All-weaker (λ (j : LivingKeyspace). is_some (record_read homes j.id) ≡ true) (λ (j : LivingKeyspace). is_some (record_read (home ∷ homes) j.id) ≡ true)
    (λ j has. has_read homes home j.id has) living (all_read living homes may.1))

pub all_recorded : (living : List LivingKeyspace) (homes : List LoadedHome) (records : LastFields) → MayOpenAll (map (λ k. k.id) living) homes → AreRecordsOf homes records
    → All (λ k. is_some (get records k.id) ≡ true) living
all_recorded living homes records may are i d lt = ap is_some (are (get_or living i d).id) ∙ all_read living homes may i d lt

-- and an id that isn't given out has none
pub none_recorded : (next : ℕ) (ids : List ℕ) (homes : List LoadedHome) (records : LastFields) → All (λ id. id < next) ids → MayOpenAll ids homes → AreRecordsOf homes records → (id : ℕ) → next ≤ id
    → get records id ≡ None
none_recorded next ids homes records given may are id le =
    are id
    ∙ none_read homes id (λ i d lt. let low : (get_or homes i d).id < next = named_all (λ n. n < next) ids homes may given i d lt in omega (arith, low, le))

-- ---- one after another

-- the ids of keyspaces ascend
pub ids_ascend : (living : List LivingKeyspace) → AllPairs (λ j k. j.id < k.id) living → Ascends (map (λ k. k.id) living)
ids_ascend [] up = tt
ids_ascend (k ∷ living) up = (
  All-map (λ (n : ℕ). k.id < n) (λ (j : LivingKeyspace). j.id) living (λ i d lt. up 0 (suc i) d (omega arith) (omega (arith, lt))),
  ids_ascend living (λ i j d lt within. up (suc i) (suc j) d (omega (arith, lt)) (omega (arith, within))),
)

-- ---- one home after another

pub as_many_homes : (ids : List ℕ) (homes : List LoadedHome) → MayOpenAll ids homes → length ids ≡ length homes
as_many_homes [] [] may = refl
as_many_homes [] (home ∷ homes) may = absurd may
as_many_homes (id ∷ ids) [] may = absurd may
as_many_homes (id ∷ ids) (home ∷ homes) may = ap suc (as_many_homes ids homes may.1)

may_push : (ids : List ℕ) (homes : List LoadedHome) (id : ℕ) (home : LoadedHome) → MayOpenAll ids homes → MayOpen id home → MayOpenAll (ids ++ id ∷ []) (homes ++ home ∷ [])
may_push [] [] id home may one = (one, tt)
may_push [] (h ∷ homes) id home may one = absurd may
may_push (i ∷ ids) [] id home may one = absurd may
may_push (i ∷ ids) (h ∷ homes) id home may one = (may.0, may_push ids homes id home may.1 one)

-- each of them is its keyspace's
pub may_at : (living : List LivingKeyspace) (homes : List LoadedHome) → MayOpenAll (map (λ k. k.id) living) homes → (n : ℕ) (k : LivingKeyspace) (home : LoadedHome) → n < length living
    → MayOpen (get_or living n k).id (get_or homes n home)
may_at [] homes may n k home lt = absurd (omega (arith, lt))
may_at (j ∷ living) [] may n k home lt = absurd may
may_at (j ∷ living) (h ∷ homes) may zero k home lt = may.0
may_at (j ∷ living) (h ∷ homes) may (suc n) k home lt = may_at living homes may.1 n k home (omega (arith, lt))

-- the keyspace at its turn
pub turn_at : (living now : List LivingKeyspace) (place n : ℕ) (d : LivingKeyspace) → now ≡ living → place ≡ n → n < length living → get_or now place d ≡ get_or living n (get_or now place d)
turn_at living now place n d is same lt = (λ i. get_or (is i) (same i) d) ∙ get_or_default living n d (get_or now place d) lt

module _ (living : List LivingKeyspace) (homes : List LoadedHome) (n m : ℕ) (k : LivingKeyspace) (home : LoadedHome) (next : n + 1 ≡ m) (front : take (n + 1) living ≡ take n living ++ k ∷ [])
    (lt : n < length homes) (at : home ≡ get_or homes n home) where
  homes_more : take m homes ≡ take n homes ++ home ∷ []
  homes_more =
      ap (λ (i : ℕ). take i homes) (sym next ∙ add-one n) ∙ take-suc homes n home lt ∙ ap (λ (h : LoadedHome). take n homes ++ h ∷ []) (sym at)

  pub may_more : MayOpenAll (map (λ j. j.id) (take n living)) (take n homes) → MayOpen k.id home → MayOpenAll (map (λ j. j.id) (take m living)) (take m homes)
  may_more may one =
      subst (λ (hs : List LoadedHome). MayOpenAll (map (λ j. j.id) (take m living)) hs) (sym homes_more)
      (subst (λ (ids : List ℕ). MayOpenAll ids (take n homes ++ home ∷ []))
      (sym (ap (λ (i : ℕ). map (λ (j : LivingKeyspace). j.id) (take i living)) (sym next) ∙ ap (map (λ (j : LivingKeyspace). j.id)) front ∙ map-append (λ (j : LivingKeyspace). j.id)
      (take n living) (k ∷ [])))
      (may_push (map (λ j. j.id) (take n living)) (take n homes) k.id home may one))

  -- so do the records, where ids ascend
  pub records_more : (old new : LastFields) → All (λ j. j.id < k.id) (take n living) → MayOpenAll (map (λ j. j.id) (take n living)) (take n homes) → MayOpen k.id home
      → AreRecordsOf (take n homes) old → new ≡ insert old k.id (view home.record) → AreRecordsOf (take m homes) new
  records_more old new low may one are is =
      let own : home.id ≡ k.id = one.named in
      let below = named_all (λ i. i < k.id) (map (λ (j : LivingKeyspace). j.id) (take n living)) (take n homes) may (All-map (λ i. i < k.id) (λ (j : LivingKeyspace). j.id) (take n living) low) in
      subst (λ (hs : List LoadedHome). AreRecordsOf hs new) (sym homes_more)
      (subst (AreRecordsOf (take n homes ++ home ∷ [])) (sym (is ∙ ap (λ (i : ℕ). insert old i (view home.record)) (sym own)))
      (records_push (take n homes) home old (subst (λ (i : ℕ). All (λ (h : LoadedHome). h.id < i) (take n homes)) (sym own) below) are))

  pub told_more : (old new : List Persisted) → old ≡ map told_by (take n homes) → new ≡ old ++ told_by home ∷ [] → new ≡ map told_by (take m homes)
  told_more old new so_far one =
      one ∙ ap (λ (l : List Persisted). l ++ told_by home ∷ []) so_far ∙ sym (ap (map told_by) homes_more ∙ map-append told_by (take n homes) (home ∷ []))

  pub opened_more : (old new : Forest) → old ≡ map opened (take n homes) → new ≡ old ++ opened home ∷ [] → new ≡ map opened (take m homes)
  opened_more old new so_far one =
      one ∙ ap (λ (f : Forest). f ++ opened home ∷ []) so_far ∙ sym (ap (map opened) homes_more ∙ map-append opened (take n homes) (home ∷ []))
