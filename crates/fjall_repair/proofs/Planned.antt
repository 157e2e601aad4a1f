-- What a plan has is spared.
use Rattle.std.proofs.Common.{◌≡◌, ◌≢◌, ◌⊎◌, inl, inr, ⊎_elim, ℕ, ◌<◌, ◌^◌, ◌==◌, Bool, true, false, if◌then◌else◌, List, [], ◌∷◌, map, get_or, codes, All, Any, Option, None, Some, Result, Ok, Err, OnOk, lit<, refl, sym, ◌∙◌, ap, subst, arith}
use Rattle.std.specs.Prelude.{string_bytes}
use Rattle.std.specs.List.{AllByRecursion, Contains, flat_map}
use Rattle.std.specs.FinMap.{get}
use Rattle.std.specs.Option.{option_map}
use Rattle.std.proofs.lemmas.List.Elements.{All-append, All-contains, All-from_recursion, All-map, Contains-append_left, Contains-append_right, Contains-push, recursion_from_All}
use Rattle.std.proofs.lemmas.Bool.Decides.{nat_tests}
use Rattle.std.proofs.lemmas.List.Concat.{flat_map-cons}
use Rattle.fjall_base.specs.declared.error.Error.{Error}
use Rattle.fjall_base.specs.Disk.{Name, DiskEntry, Missing, File, Folder, DiskState, Meaning, folder_of, standing, state_in}
use Rattle.fjall_base.proofs.Names.{bool_cases}
use Rattle.fjall_files.specs.Regions.{is_under, Within}
use Rattle.fjall_files.proofs.Under.{in_folder}
use Rattle.fjall_table.specs.declared.table_info.TableInfo.{TableInfo}
use Rattle.fjall_manifest.specs.Records.{Fields}
use Rattle.fjall_files.specs.Names.{keyspace_folder, current_name, table_name}
use Rattle.fjall_manifest.specs.Homes.{Home, IsFree}
use Rattle.fjall_manifest.proofs.Resting.{At, IsGiven, all_given, each_more, last_record as home_record}
use Rattle.fjall_meta.specs.declared.living.LivingKeyspace.{LivingKeyspace}
use Rattle.fjall_meta.specs.Keyspaces.{AreKeyspaces, Keyspaces, keyspace_at}
use Rattle.fjall_meta.proofs.Ids.{living_has}
use Rattle.fjall_manifest.specs.declared.catalog.Catalog.{Catalog}
use Rattle.fjall_manifest.specs.Catalog.{fields, listed}
use Rattle.fjall_manifest.proofs.CatalogResting.{last_record}
use Rattle.fjall_recovery.specs.Halves.{Tree}
use Rattle.fjall_recovery.specs.Homes.{last_in}
use Rattle.fjall_recovery.specs.Places.{HasSafeHomeAt, LiesInTree, RestsInTree}
use Rattle.fjall_recovery.proofs.Named.{under_within}
use Rattle.fjall_repair.specs.declared.plan.SweepPlan.{SweepPlan}
use Rattle.fjall_files.specs.declared.own.OwnFiles.{OwnFiles}
use Rattle.fjall_recovery.specs.Naming.{AreFolderIds}
use Rattle.fjall_files.specs.Own.{AreOwnFiles, HoldsOnlyOwn}
use Rattle.fjall_repair.specs.Sweeps.{NamesAreGone, BringsNoTable, FindsAll, FindsTables, IsSwept, IsSweepPlan, IsUnnamedHome, IsUnnamedTable, KeyspaceLives, TablesNamed, NamesTable, RemovesNames, home_names, names_in, planned}
use Rattle.fjall_repair.proofs.Apart as Apart
use Rattle.fjall_files.proofs.OwnEntries.{contains_map}
use Rattle.fjall_repair.proofs.Removals as Removals
use Rattle.fjall_repair.proofs.Spared.{IsSpare, spared}

-- ---- of living keyspaces

-- an id of a keyspace that lives is a u64
pub lives_small : (s : Keyspaces) → AreKeyspaces s → (id : ℕ) → KeyspaceLives s.living id → id < 2 ^ 64
lives_small s are id has =
    let below = All-contains (λ (i : ℕ). i < s.next) (map (λ k. k.id) s.living) id (All-map (λ (i : ℕ). i < s.next) (λ k. k.id) s.living are.given) has in
    let fits = are.fits in
    omega (arith, below, fits)

-- and isn't tree 0's
lives_some : (s : Keyspaces) → AreKeyspaces s → (id : ℕ) → KeyspaceLives s.living id → id ≢ 0
lives_some s are id lives none =
    let some : All (λ n. 0 < n) (map (λ (k : LivingKeyspace). k.id) s.living) = All-map (λ (n : ℕ). 0 < n) (λ (k : LivingKeyspace). k.id) s.living are.ids in
    let more : 0 < id = All-contains (λ (n : ℕ). 0 < n) (map (λ (k : LivingKeyspace). k.id) s.living) id some lives in
    omega (arith, more, none)

zero_test : (id : ℕ) → id ≢ 0 → (id == 0) ≡ false
zero_test id some = elim (bool_cases (id == 0)) [
  | inl is ↦ let none : id ≡ 0 = grind (arith, nat_tests) in absurd (some none)
  | inr not ↦ not
]

-- a keyspace that is found by its id lives
pub found_lives : (living : List LivingKeyspace) (id : ℕ) (k : LivingKeyspace) → keyspace_at id living ≡ Some k → KeyspaceLives living id
found_lives living id k e = living_has (KeyspaceLives living) living id k e (λ i d lt. contains_map (λ (j : LivingKeyspace). j.id) living i d lt)

-- what holds of each id of these tables
each_given : (P : ℕ → Type 0) (next : ℕ) (tables : List TableInfo) → AllByRecursion (IsGiven next) tables → ((n : ℕ) → n < 2 ^ 64 → Contains (map (λ i. i.id) tables) n → P n) → AllByRecursion (λ i. P i.id) tables
each_given P next tables given to =
    recursion_from_All (λ (i : TableInfo). P i.id) tables (λ k d lt. to (get_or tables k d).id (All-from_recursion (IsGiven next) tables given k d lt).0 (contains_map (λ (i : TableInfo). i.id) tables k d lt))

-- what a home's last record names
pub names_home : (t : Tree) → AreKeyspaces t.keyspaces → (id : ℕ) (h : Home) → get t.homes id ≡ Some h → KeyspaceLives t.keyspaces.living id → names_in t id ≡ map (λ i. i.id) h.last.tables
names_home t are id h is lives =
    let some : id ≢ 0 = lives_some t.keyspaces are id lives in
    ap (λ (b : Bool). map (λ (i : TableInfo). i.id) (if b then listed t.last.table else (last_in (get t.homes id)).tables)) (zero_test id some)
    ∙ ap (λ (o : Option Home). map (λ (i : TableInfo). i.id) (last_in o).tables) is

module _ (state : DiskState) (records : List Fields) (t : Tree) (rests : RestsInTree state records t) where
  -- the ids of the tables that tree 0's last record names have their place, and were given out
  named_given : AllByRecursion (IsGiven t.last.next_table_id) (listed t.last.table)
  named_given = all_given (fields t.last) (last_record state records t.last t.keyspaces rests.catalog)

  -- so have those of a home, which is that of a keyspace that lives
  home_given : (id : ℕ) (h : Home) → get t.homes id ≡ Some h → KeyspaceLives t.keyspaces.living id × AllByRecursion (IsGiven h.last.next_table_id) h.last.tables
  home_given id h is = of (keyspace_at id t.keyspaces.living) refl (get t.homes id) is (rests.homes id)
    where
      of : (k : Option LivingKeyspace) → keyspace_at id t.keyspaces.living ≡ k → (there : Option Home) → there ≡ Some h → HasSafeHomeAt state id k there
          → KeyspaceLives t.keyspaces.living id × AllByRecursion (IsGiven h.last.next_table_id) h.last.tables
      of (Some k) e (Some i) is safe =
          let same : i ≡ h = cc in
          (found_lives t.keyspaces.living id k e, subst (λ (j : Home). AllByRecursion (IsGiven j.last.next_table_id) j.last.tables) same (all_given i.last (home_record state id safe.records i safe.rests)))
      of None e (Some i) is safe = absurd safe
      of (Some k) e None is safe = absurd safe
      of None e None is safe = let no : None ≡ Some h = is in cc

  -- what holds of each keyspace that lives, and of each table that its record names, holds of each home
  at_homes : (P : Name → Type 0) → P (codes "keyspaces") → ((id : ℕ) → KeyspaceLives t.keyspaces.living id → id < 2 ^ 64 → P (keyspace_folder id) × P (current_name id))
      → ((id n : ℕ) → KeyspaceLives t.keyspaces.living id → id < 2 ^ 64 → n < 2 ^ 64 → Contains (names_in t id) n → P (table_name id n)) → (id : ℕ) (h : Home) → get t.homes id ≡ Some h → At id h.last.tables P
  at_homes P all to each id h is =
      let here = home_given id h is in
      let small = lives_small t.keyspaces rests.catalog.are id here.0 in
      let both = to id here.0 small in
      let names = names_home t rests.catalog.are id h is here.0 in
      record {
        keyspaces_folder = all;
        folder = both.0;
        current = both.1;
        each = each_given (λ n. P (table_name id n)) h.last.next_table_id h.last.tables here.1 (λ n fits has. each id n here.0 small fits (subst (λ (l : List ℕ). Contains l n) (sym names) has));
      }

  -- a table that is unnamed
  table_spare : (name : Name) → IsUnnamedTable (names_in t) t.keyspaces.living name → IsSpare t name
  table_spare name un = subst (IsSpare t) (sym un.name_is) (record {
    catalog = record {
      keyspaces_folder = not_it;
      folder = λ e. folders 0 (omega arith) e;
      current = λ e. Apart.not_current un.id 0 un.table un.table_fits e;
      each = each_given (λ n. table_name 0 n ≢ table_name un.id un.table) t.last.next_table_id (listed t.last.table) named_given (λ n fits has. apart 0 n (omega arith) fits has);
    };
    homes = at_homes (λ q. q ≢ table_name un.id un.table) not_it (λ id lives fits. (folders id fits, λ e. Apart.not_current un.id id un.table un.table_fits e)) (λ id n lives small fits has. apart id n small fits has);
    strays = λ q in_all stray e. Apart.not_all un.id (sym in_all ∙ ap (λ (n : Name). folder_of n) e ∙ Apart.in_folder un.id un.table un.table_fits);
  })
    where
      inside : (q : Name) → q ≡ table_name un.id un.table → folder_of q ≡ keyspace_folder un.id
      inside q e = ap (λ (n : Name). folder_of n) e ∙ Apart.in_folder un.id un.table un.table_fits

      not_it : codes "keyspaces" ≢ table_name un.id un.table
      not_it e = let no : [] ≡ keyspace_folder un.id = inside (codes "keyspaces") e in cc

      folders : (id : ℕ) → id < 2 ^ 64 → keyspace_folder id ≢ table_name un.id un.table
      folders id fits e = Apart.not_all un.id (sym (Apart.in_keyspaces id fits) ∙ inside (keyspace_folder id) e)

      apart : (id n : ℕ) → id < 2 ^ 64 → n < 2 ^ 64 → Contains (names_in t id) n → table_name id n ≢ table_name un.id un.table
      apart id n small fits has e =
          let same = Apart.same_table id n un.id un.table small fits un.id_fits un.table_fits e in
          un.unnamed (subst (λ (m : ℕ). Contains (names_in t un.id) m) same.1 (subst (λ (i : ℕ). Contains (names_in t i) n) same.0 has))

  module _ (home : OwnFiles) (un : IsUnnamedHome t.keyspaces.living home) where
    other_id : (id : ℕ) → KeyspaceLives t.keyspaces.living id → id ≢ un.id
    other_id id lives e = un.dead (subst (KeyspaceLives t.keyspaces.living) e lives)

    table_of : (P : Name → Type 0) → ((n : ℕ) → n < 2 ^ 64 → P (table_name 0 n)) → AllByRecursion (λ i. P (table_name 0 i.id)) (listed t.last.table)
    table_of P to = each_more (IsGiven t.last.next_table_id) (λ i. P (table_name 0 i.id)) (λ i given. to i.id given.0) (listed t.last.table) named_given

    -- its folder
    folder_spare : IsSpare t (string_bytes home.folder)
    folder_spare = subst (IsSpare t) (sym un.folder_is) (record {
      catalog = record {
        keyspaces_folder = Apart.not_all un.id;
        folder = λ e. un.some (sym (Apart.folders_apart 0 un.id (omega arith) un.fits e));
        current = λ e. currents 0 (omega arith) e;
        each = table_of (λ q. q ≢ keyspace_folder un.id) (λ n fits. tables 0 n fits);
      };
      homes = at_homes (λ q. q ≢ keyspace_folder un.id) (Apart.not_all un.id) (λ id lives fits. (λ e. other_id id lives (Apart.folders_apart id un.id fits un.fits e), currents id fits)) (λ id n lives small fits has. tables id n fits);
      strays = λ q in_all stray e. stray un.id (un.fits, e);
    })
      where
        currents : (id : ℕ) → id < 2 ^ 64 → current_name id ≢ keyspace_folder un.id
        currents id fits e = Apart.not_all id (sym (Apart.in_keyspaces un.id un.fits) ∙ ap (λ (n : Name). folder_of n) (sym e) ∙ Apart.of_current id)

        tables : (id n : ℕ) → n < 2 ^ 64 → table_name id n ≢ keyspace_folder un.id
        tables id n fits e = Apart.not_all id (sym (Apart.in_keyspaces un.id un.fits) ∙ ap (λ (q : Name). folder_of q) (sym e) ∙ Apart.in_folder id n fits)

    -- what is in it
    inner_spare : (file : Name) → folder_of file ≡ keyspace_folder un.id → IsSpare t file
    inner_spare file inside = record {
      catalog = record {
        keyspaces_folder = not_it;
        folder = λ e. Apart.not_all un.id (sym (Apart.in_keyspaces 0 (omega arith)) ∙ at (keyspace_folder 0) e);
        current = λ e. un.some (sym (Apart.folders_apart 0 un.id (omega arith) un.fits (sym (Apart.of_current 0) ∙ at (current_name 0) e)));
        each = table_of (λ q. q ≢ file) (λ n fits e. un.some (sym (Apart.folders_apart 0 un.id (omega arith) un.fits (sym (Apart.in_folder 0 n fits) ∙ at (table_name 0 n) e))));
      };
      homes = at_homes (λ q. q ≢ file) not_it (λ id lives fits. (
        (λ e. Apart.not_all un.id (sym (Apart.in_keyspaces id fits) ∙ at (keyspace_folder id) e)),
        (λ e. other_id id lives (Apart.folders_apart id un.id fits un.fits (sym (Apart.of_current id) ∙ at (current_name id) e))),
      )) (λ id n lives small fits has e. other_id id lives (Apart.folders_apart id un.id small un.fits (sym (Apart.in_folder id n fits) ∙ at (table_name id n) e)));
      strays = λ q in_all stray e. Apart.not_all un.id (sym in_all ∙ at q e);
    }
      where
        at : (q : Name) → q ≡ file → folder_of q ≡ keyspace_folder un.id
        at q e = ap (λ (n : Name). folder_of n) e ∙ inside

        not_it : codes "keyspaces" ≢ file
        not_it e = let no : [] ≡ keyspace_folder un.id = at (codes "keyspaces") e in cc

-- ---- all that a plan has

flat_all : (P : Name → Type 0) (homes : List OwnFiles) → AllByRecursion (λ home. AllByRecursion P (home_names home)) homes → AllByRecursion P (flat_map home_names homes)
flat_all P [] all = tt
flat_all P (home ∷ homes) all = subst (AllByRecursion P) (sym (flat_map-cons home_names home homes)) (Removals.all_both P (home_names home) (flat_map home_names homes) all.0 (flat_all P homes all.1))

pub planned_all : (P : Name → Type 0) (plan : SweepPlan) → All (λ table. P (string_bytes table)) plan.tables.items → All (λ home. P (string_bytes home.folder) × All (λ file. P (string_bytes file)) home.files.items) plan.homes.items → All P (planned plan)
planned_all P plan tables homes =
    All-append P (map string_bytes plan.tables.items) (flat_map home_names plan.homes.items) (All-map P string_bytes plan.tables.items tables)
    (All-from_recursion P (flat_map home_names plan.homes.items) (flat_all P plan.homes.items (recursion_from_All (λ (home : OwnFiles). AllByRecursion P (home_names home)) plan.homes.items (λ i d lt.
    let both = homes i d lt in
    Removals.all_both P _ _ (recursion_from_All P _ (All-map P string_bytes _ both.1)) (both.0, tt)))))

inner_within : (id : ℕ) (file : Name) → folder_of file ≡ keyspace_folder id → is_under (codes "keyspaces") file ≡ true
inner_within id file inside = under_within id file (in_folder (keyspace_folder id) file (λ none. cc) inside)

-- its names are in `keyspaces`
pub planned_within : (names : TablesNamed) (living : List LivingKeyspace) (plan : SweepPlan) → IsSweepPlan names living plan → All (λ name. is_under (codes "keyspaces") name ≡ true) (planned plan)
planned_within names living plan is = planned_all (λ name. is_under (codes "keyspaces") name ≡ true) plan
    (λ i d lt. let un = is.tables i d lt in subst (λ (n : Name). is_under (codes "keyspaces") n ≡ true) (sym un.name_is) (Apart.table_within un.id un.table))
    (λ i d lt. let un = is.homes i d lt in (
      subst (λ (n : Name). is_under (codes "keyspaces") n ≡ true) (sym un.folder_is) (Apart.home_within un.id),
      λ j e less. inner_within un.id (string_bytes (get_or (get_or plan.homes.items i d).files.items j e)) (un.inside j e less),
    ))

module _ (state : DiskState) (records : List Fields) (t : Tree) (rests : RestsInTree state records t) where
  -- keyspaces that rest don't rest on any of them
  pub planned_spare : (plan : SweepPlan) → IsSweepPlan (names_in t) t.keyspaces.living plan → All (IsSpare t) (planned plan)
  planned_spare plan is = planned_all (IsSpare t) plan
      (λ i d lt. table_spare state records t rests _ (is.tables i d lt))
      (λ i d lt. let un = is.homes i d lt in (
        folder_spare state records t rests _ un,
        λ j e less. inner_spare state records t rests _ un _ (un.inside j e less),
      ))

  pub spare_run : (plan : SweepPlan) (old new : Meaning) → IsSweepPlan (names_in t) t.keyspaces.living plan → RemovesNames (Contains (planned plan)) old new → RemovesNames (IsSpare t) old new
  spare_run plan old new is run = Removals.weaker (Contains (planned plan)) (IsSpare t) old new (λ name has. All-contains (IsSpare t) (planned plan) name (planned_spare plan is) has) run

pub within_run : (names : TablesNamed) (living : List LivingKeyspace) (plan : SweepPlan) (old new : Meaning) → IsSweepPlan names living plan → RemovesNames (Contains (planned plan)) old new → Within (codes "keyspaces") old new
within_run names living plan old new is run =
    Removals.within (Contains (planned plan)) (codes "keyspaces") old new (λ name has. All-contains (λ n. is_under (codes "keyspaces") n ≡ true) (planned plan) name (planned_within names living plan is) has) run

-- ---- the ids that are free

missing_or_not : (entry : DiskEntry) → (entry ≡ Missing) ⊎ (entry ≢ Missing)
missing_or_not Missing = inl refl
missing_or_not (File synced unsynced) = inr (λ e. let no : File synced unsynced ≡ Missing = e in cc)
missing_or_not Folder = inr (λ e. let no : Folder ≡ Missing = e in cc)

-- a table that is named has an id below the next one
named_below : (t : Tree) (id : ℕ) → AllByRecursion (IsGiven t.last.next_table_id) (listed t.last.table) → Contains (names_in t 0) id → id < t.last.next_table_id
named_below t id given has =
    All-contains (λ n. n < t.last.next_table_id) (map (λ (i : TableInfo). i.id) (listed t.last.table)) id
    (All-map (λ n. n < t.last.next_table_id) (λ (i : TableInfo). i.id) (listed t.last.table) (λ k d lt. (All-from_recursion (IsGiven t.last.next_table_id) (listed t.last.table) given k d lt).1)) has

pub tables_free : (old new : Meaning) (records : List Fields) (t : Tree) (plan : SweepPlan) → RestsInTree (state_in old) records t → FindsTables (state_in old) (names_in t) (map string_bytes plan.tables.items)
    → RemovesNames (Contains (planned plan)) old new → NamesAreGone (state_in new) (planned plan) → IsFree (state_in new) 0 t.last.next_table_id
tables_free old new records t plan rests finds run gone id least small = elim (missing_or_not (state_in old (table_name 0 id)).now) [
  | inl none ↦ Removals.stays_missing (Contains (planned plan)) old new (table_name 0 id) run none
  | inr some ↦ ⊎_elim
      (λ named. let below = named_below t id (named_given (state_in old) records t rests) named in absurd (omega (arith, least, below)))
      (λ has. All-contains (λ (n : Name). (state_in new n).now ≡ Missing) (planned plan) (table_name 0 id) (All-from_recursion (λ (n : Name). (state_in new n).now ≡ Missing) (planned plan) gone)
      (Contains-append_left (map string_bytes plan.tables.items) (flat_map home_names plan.homes.items) (table_name 0 id) has))
      (finds id small some)
]

pub swept : (old new : Meaning) (records : List Fields) (t : Tree) (plan : SweepPlan) (r : Result Unit Error) → RestsInTree (state_in old) records t → FindsTables (state_in old) (names_in t) (map string_bytes plan.tables.items)
    → IsSweepPlan (names_in t) t.keyspaces.living plan → RemovesNames (Contains (planned plan)) old new → OnOk r (NamesAreGone (state_in new) (planned plan)) → OnOk r (LiesInTree (state_in new) records t)
swept old new records t plan (Ok done) rests finds is run gone = record {
  rests = spared records t old new (spare_run (state_in old) records t rests plan old new is run) rests;
  free = tables_free old new records t plan rests finds run gone;
}
swept old new records t plan (Err e) rests finds is run gone = tt

-- ---- what is left

module _ (old new : DiskState) (last : Catalog) (living : List LivingKeyspace) (names : TablesNamed) (ids : List ℕ) (plan : SweepPlan) (finds : FindsAll old names living ids plan) (are : AreFolderIds (standing old) ids) (gone : NamesAreGone new (planned plan))
    (small : (id : ℕ) → KeyspaceLives living id → id < 2 ^ 64) (brings : BringsNoTable old new)
    (tree : (n : ℕ) → Contains (names 0) n → option_map (λ table. table.id) last.table ≡ Some n) (named : (id n : ℕ) → KeyspaceLives living id → Contains (names id) n → NamesTable (standing old) id n) where
  at_planned : (name : Name) → Contains (planned plan) name → (new name).now ≡ Missing
  at_planned name has = All-contains (λ (n : Name). (new n).now ≡ Missing) (planned plan) name (All-from_recursion (λ (n : Name). (new n).now ≡ Missing) (planned plan) gone) has

  found : (id : ℕ) → id < 2 ^ 64 → id ≢ 0 → (KeyspaceLives living id → ⊥) → (old (keyspace_folder id)).now ≡ Folder → HoldsOnlyOwn old id → Any (AreOwnFiles old id) plan.homes.items
  found id fits some dead stands holds = finds.homes id ((are.each id).1 (fits, stands)) some dead holds

  -- a name of a home that is planned
  home_name : (id : ℕ) (some : Any (AreOwnFiles old id) plan.homes.items) (name : Name) → Contains (home_names some.1) name → (new name).now ≡ Missing
  home_name id (k, home, lt, at, is) name has =
      at_planned name (Contains-append_right (map string_bytes plan.tables.items) (flat_map home_names plan.homes.items) name (Removals.within_all home_names plan.homes.items k home home (sym at) lt name has))

  -- the name of a table that is planned
  table_planned : (id n : ℕ) → Contains (map string_bytes plan.tables.items) (table_name id n) → (new (table_name id n)).now ≡ Missing
  table_planned id n has = at_planned (table_name id n) (Contains-append_left (map string_bytes plan.tables.items) (flat_map home_names plan.homes.items) (table_name id n) has)

  pub is_swept : IsSwept old new last living
  is_swept = record {
    homes = λ id fits some dead stands holds.
        let home = found id fits some dead stands holds in
        home_name id home (keyspace_folder id) (subst (λ (n : Name). Contains (home_names home.1) n) home.4.folder_is (Contains-push (map string_bytes home.1.files.items) (string_bytes home.1.folder)));
    files = λ id name fits some dead stands holds inside there.
        let home = found id fits some dead stands holds in
        home_name id home name (Contains-append_left (map string_bytes home.1.files.items) (string_bytes home.1.folder ∷ []) name (home.4.whole name inside there));
    tables = λ id n fits lives unnamed. elim (missing_or_not (old (table_name id n)).now) [
      | inl none ↦ brings id n (small id lives) fits none
      | inr some ↦ ⊎_elim (λ has. absurd (unnamed (named id n lives has))) (λ has. table_planned id n has) (finds.tables_of id lives n fits some)
    ];
    others = λ n fits other. elim (missing_or_not (old (table_name 0 n)).now) [
      | inl none ↦ brings 0 n (lit< tt) fits none
      | inr some ↦ ⊎_elim (λ has. absurd (other (tree n has))) (λ has. table_planned 0 n has) (finds.tables n fits some)
    ];
  }
