-- A change of the catalog as one of its home.
use Rattle.std.proofs.Common.{◌≡◌, ◌≢◌, inl, inr, ⊎_elim, ℕ, ◌+◌, ◌<◌, ◌≤◌, List, [], ◌∷◌, ◌++◌, All, length, map, String, Global, string_bytes, Option, Some, None, IfSome, Result, Ok, Err, OnOk, refl, sym, ◌∙◌, ap, subst, arith}
use Rattle.std.specs.Option.{option_map}
use Rattle.std.proofs.lemmas.List.Elements.{All-cons, All-head, All-nil}
use Rattle.fjall_base.specs.declared.error.Error.{Error}
use Rattle.fjall_base.specs.Disk.{Name, File, Missing, DiskState, Image, Meaning, LeavesOnly}
use Rattle.fjall_base.proofs.Moments.{weaken}
use Rattle.fjall_files.specs.Names.{table_name}
use Rattle.fjall_files.specs.Tidy.{FitsAt}
use Rattle.fjall_files.proofs.Fitting.{fits_table}
use Rattle.fjall_table.specs.declared.table_info.TableInfo.{TableInfo}
use Rattle.fjall_manifest.specs.Records.{Fields, IsRecord}
use Rattle.fjall_manifest.specs.declared.writing.TableFile.{TableFile}
use Rattle.fjall_manifest.specs.Homes as homes
use Rattle.fjall_manifest.specs.Homes.{HasHome, Home, IsFree, SyncedStays}
use Rattle.fjall_manifest.specs.Changes as changes
use Rattle.fjall_manifest.specs.Changes.{AreKeptOrNew, AreNewTables, AreUnnamed, HasEitherHome, IsNext}
use Rattle.fjall_meta.specs.declared.entry.MetaEntry.{MetaEntry}
use Rattle.fjall_meta.specs.Keyspaces.{AreKeyspaces, Keyspaces}
use Rattle.fjall_meta.specs.Entries.{entries_of}
use Rattle.fjall_manifest.specs.declared.catalog.Catalog.{Catalog}
use Rattle.fjall_manifest.specs.declared.update.Update.{Update}
use Rattle.fjall_manifest.specs.Catalog.{ArePairs, CatalogRests, IsReady, fields, home_of, listed}
use Rattle.fjall_manifest.specs.Updates.{IsCatalogWritten, IsNewTable, IsTableGone, IsUpdate, SaysEither}
use Rattle.fjall_manifest.proofs.CatalogResting.{files_say, rests_with}
use Rattle.fjall_manifest.proofs.CatalogRuns.{given}

-- ---- the new table

-- the bytes of the file that is prepared
abbrev pub texts_of : Option TableFile → List (List ℕ)
texts_of found = map (λ (file : TableFile). file.bytes.items) (listed found)

pub new_tables : (next after : ℕ) (entries : List MetaEntry) (info : Option TableInfo) (found : Option TableFile) → IsNewTable next after entries info found → AreNewTables 0 next (listed info) (listed found) (texts_of found)
new_tables next after entries None None new = tt
new_tables next after entries None (Some file) new = absurd new
new_tables next after entries (Some t) None new = absurd new
new_tables next after entries (Some t) (Some file) new = (record { id_is = new.1.id_is; below = new.1.below; name = new.1.name; bytes_are = refl }, tt)

pub new_pairs : (next after : ℕ) (entries : List MetaEntry) (info : Option TableInfo) (found : Option TableFile) → IsNewTable next after entries info found → ArePairs info (texts_of found) entries
new_pairs next after entries None None new = new.0
new_pairs next after entries None (Some file) new = absurd new
new_pairs next after entries (Some t) None new = absurd new
new_pairs next after entries (Some t) (Some file) new = new.1.is

more_ids : (next after : ℕ) (entries : List MetaEntry) (info : Option TableInfo) (found : Option TableFile) → IsNewTable next after entries info found → next + length (listed info) ≤ after
more_ids next after entries None None new = let same = new.1 in omega (arith, same)
more_ids next after entries None (Some file) new = absurd new
more_ids next after entries (Some t) None new = absurd new
more_ids next after entries (Some t) (Some file) new = let same = new.0 in omega (arith, same)

all_new : (h : Home) (next after : ℕ) (entries : List MetaEntry) (info : Option TableInfo) (found : Option TableFile) → IsNewTable next after entries info found → AreKeptOrNew h (listed info) (texts_of found) (listed info) (texts_of found)
all_new h next after entries None None new = tt
all_new h next after entries None (Some file) new = absurd new
all_new h next after entries (Some t) None new = absurd new
all_new h next after entries (Some t) (Some file) new = (inr (inl (refl, refl)), tt)

-- the home whose one table is the new one comes next
pub next_home : (old next : Catalog) (texts : List (List ℕ)) (entries : List MetaEntry) (found : Option TableFile) → IsNewTable old.next_table_id next.next_table_id entries next.table found
    → IsNext (home_of old texts) (listed next.table) (texts_of found) (home_of next (texts_of found))
next_home old next texts entries found new = record {
  tables = all_new (home_of old texts) old.next_table_id next.next_table_id entries next.table found new;
  given = more_ids old.next_table_id next.next_table_id entries next.table found new;
}

-- its name may have a file
pub fits_new : (next after : ℕ) (entries : List MetaEntry) (info : Option TableInfo) (found : Option TableFile) → IsNewTable next after entries info found → All (λ file. FitsAt (string_bytes file.name) (File [] [])) (listed found)
fits_new next after entries None None new = All-nil (λ (file : TableFile). FitsAt (string_bytes file.name) (File [] []))
fits_new next after entries None (Some file) new = absurd new
fits_new next after entries (Some t) None new = absurd new
fits_new next after entries (Some t) (Some file) new =
    let low = new.1.below in
    All-cons (λ (f : TableFile). FitsAt (string_bytes f.name) (File [] [])) file [] (subst (λ (n : Name). FitsAt n (File [] [])) (sym new.1.name) (fits_table 0 next (omega arith) (omega (arith, low)) [] []))
    (All-nil (λ (f : TableFile). FitsAt (string_bytes f.name) (File [] [])))

-- the files that are put, where one is prepared
module _ (old : Catalog) (t : Keyspaces) (number : ℕ) (u : Update) (update : IsUpdate old t number u) (file : TableFile) (is : u.table ≡ Some file) (files : List TableFile) (all : files ≡ file ∷ []) where
  same : files ≡ listed u.table
  same = all ∙ sym (ap (λ (found : Option TableFile). listed found) is)

  pub tables : AreNewTables 0 old.next_table_id (listed u.catalog.table) files (texts_of u.table)
  tables =
      subst (λ (l : List TableFile). AreNewTables 0 old.next_table_id (listed u.catalog.table) l (texts_of u.table)) (sym same) (new_tables old.next_table_id u.catalog.next_table_id (entries_of t.living) u.catalog.table u.table update.table)

  pub fits : All (λ f. FitsAt (string_bytes f.name) (File [] [])) files
  fits =
      subst (λ (l : List TableFile). All (λ f. FitsAt (string_bytes f.name) (File [] [])) l) (sym same) (fits_new old.next_table_id u.catalog.next_table_id (entries_of t.living) u.catalog.table u.table update.table)

-- ---- how far it has come

module _ (records : List Fields) (c : Catalog) (s : Keyspaces) (next : Catalog) (t : Keyspaces) where
  -- from the home to the catalog
  is_written : (old new : DiskState) (rests : CatalogRests old records c s) (texts : List (List ℕ)) → ArePairs next.table texts (entries_of t.living) → changes.IsHomeWritten new 0 records (home_of c rests.texts) (home_of next texts) → IsCatalogWritten new records c s next t
  is_written old new rests texts pairs written = record { rests = rests_with old new records c s rests written.rests; texts = texts; tables = written.tables; pairs = pairs; free = written.free }

  pub put : (old new : DiskState) (rests : CatalogRests old records c s) (texts : List (List ℕ)) (r : Result Unit Error) → ArePairs next.table texts (entries_of t.living) → OnOk r (changes.IsHomeWritten new 0 records (home_of c rests.texts) (home_of next texts)) → OnOk r (IsCatalogWritten new records c s next t)
  put old new rests texts (Ok done) pairs written = is_written old new rests texts pairs written
  put old new rests texts (Err e) pairs written = tt

  -- and back
  pub home_written : (state : DiskState) (written : IsCatalogWritten state records c s next t) → changes.IsHomeWritten state 0 records (home_of c written.rests.texts) (home_of next written.texts)
  home_written state written = record { rests = written.rests.home; tables = written.tables; free = written.free }

  module _ (state : DiskState) (written : IsCatalogWritten state records c s next t) (next_is : t.next ≡ next.next_keyspace_id) (are : AreKeyspaces t) where
    says_either : (image : Image) → HasEitherHome 0 records (home_of c written.rests.texts) (home_of next written.texts) image → SaysEither records c s next t image
    says_either image either =
        ⊎_elim (λ old. inl (files_say state image records c s written.rests old.files)) (λ new. inr (record { texts = written.texts; files = new.files; pairs = written.pairs; next = next_is; are = are })) either

    -- a crash leaves what the one or the other says
    pub said_either : (old new : Meaning) → LeavesOnly old new (HasEitherHome 0 records (home_of c written.rests.texts) (home_of next written.texts)) → LeavesOnly old new (SaysEither records c s next t)
    said_either old new run = weaken old new (HasEitherHome 0 records (home_of c written.rests.texts) (home_of next written.texts)) (SaysEither records c s next t) run says_either

    pub committed : (new : DiskState) (r : Result Unit Error) → OnOk r (homes.IsReady new 0 (records ++ fields next ∷ []) (home_of next written.texts)) → OnOk r (IsReady new (records ++ fields next ∷ []) next t)
    committed new (Ok done) ready = record { rests = record { texts = written.texts; home = ready.rests; pairs = written.pairs; next = next_is; are = are }; free = ready.free }
    committed new (Err e) ready = tt

-- the home of a catalog that is ready is ready
pub home_ready : (state : DiskState) (records : List Fields) (c : Catalog) (s : Keyspaces) (ready : IsReady state records c s) → homes.IsReady state 0 records (home_of c ready.rests.texts)
home_ready state records c s ready = record { rests = ready.rests.home; free = ready.free }

pub still_ready : (old new : DiskState) (records : List Fields) (c : Catalog) (s : Keyspaces) (rests : CatalogRests old records c s) → homes.IsReady new 0 records (home_of c rests.texts) → IsReady new records c s
still_ready old new records c s rests ready = record { rests = rests_with old new records c s rests ready.rests; free = ready.free }

-- ---- the old table

-- the ids of the tables that a catalog names
abbrev pub ids_of : Catalog → List ℕ
ids_of c = map (λ (t : TableInfo). t.id) (listed c.table)

-- the file that is to be removed is that of the old catalog's table
names_of : (found : Option (String Global)) (c : Catalog) → option_map string_bytes found ≡ option_map (λ t. table_name 0 t.id) c.table → map string_bytes (listed found) ≡ map (table_name 0) (ids_of c)
names_of found c at = of found c.table at
  where
    of : (found : Option (String Global)) (table : Option TableInfo) → option_map string_bytes found ≡ option_map (λ t. table_name 0 t.id) table → map string_bytes (listed found) ≡ map (table_name 0) (map (λ (t : TableInfo). t.id) (listed table))
    of None None at = refl
    of None (Some t) at = cc
    of (Some name) None at = cc
    of (Some name) (Some t) at = let same : string_bytes name ≡ table_name 0 t.id = cc in ap (λ (n : Name). n ∷ []) same

-- the names that are given to the removal, where there is one
pub removed : (old : Catalog) (t : Keyspaces) (number : ℕ) (u : Update) → IsUpdate old t number u → (name : String Global) → u.old_table ≡ Some name → (names : List (String Global)) → names ≡ name ∷ [] → map string_bytes names ≡ map (table_name 0) (ids_of old)
removed old t number u update name is names all = ap (λ (l : List (String Global)). map string_bytes l) (all ∙ sym (ap (λ (found : Option (String Global)). listed found) is)) ∙ names_of u.old_table old update.old_table

-- where there is none, none is to be gone
pub none_gone : (state : DiskState) (old : Catalog) (t : Keyspaces) (number : ℕ) (u : Update) → IsUpdate old t number u → ((name : String Global) → u.old_table ≡ Some name → ⊥) → IsTableGone state old
none_gone state old t number u update none = of u.old_table old.table none update.old_table
  where
    of : (found : Option (String Global)) (table : Option TableInfo) → ((name : String Global) → found ≡ Some name → ⊥) → option_map string_bytes found ≡ option_map (λ t. table_name 0 t.id) table → IfSome table (λ t. (state (table_name 0 t.id)).now ≡ Missing)
    of found None none at = tt
    of (Some name) (Some t) none at = absurd (none name refl)
    of None (Some t) none at = cc

later : (next after n : ℕ) (entries : List MetaEntry) (info : Option TableInfo) (found : Option TableFile) → IsNewTable next after entries info found → n < next → (n < after) × All (λ t. t.id ≢ n) (listed info)
later next after n entries None None new below = (let same = new.1 in omega (arith, same, below), All-nil (λ (t : TableInfo). t.id ≢ n))
later next after n entries None (Some file) new below = absurd new
later next after n entries (Some t) None new below = absurd new
later next after n entries (Some t) (Some file) new below =
    let more = new.0 in
    let at = new.1.id_is in
    (omega (arith, more, below), All-cons (λ (t : TableInfo). t.id ≢ n) t [] (λ e. omega (arith, at, e, below)) (All-nil (λ (t : TableInfo). t.id ≢ n)))

-- the next catalog names it no more
pub unnamed : (old next : Catalog) (texts : List (List ℕ)) (entries : List MetaEntry) (found : Option TableFile) → IsNewTable old.next_table_id next.next_table_id entries next.table found → IsRecord (fields old) → AreUnnamed (home_of next texts) (ids_of old)
unnamed old next texts entries found new is = of old.table (given old is)
  where
    of : (table : Option TableInfo) → IfSome table (λ t. t.id < old.next_table_id) → AreUnnamed (home_of next texts) (map (λ (t : TableInfo). t.id) (listed table))
    of None below = record { given = All-nil (λ n. n < next.next_table_id); unnamed = All-nil (λ n. All (λ t. t.id ≢ n) (listed next.table)) }
    of (Some t) below =
        let apart = later old.next_table_id next.next_table_id t.id entries next.table found new below in
        record {
          given = All-cons (λ n. n < next.next_table_id) t.id [] apart.0 (All-nil (λ n. n < next.next_table_id));
          unnamed = All-cons (λ n. All (λ t. t.id ≢ n) (listed next.table)) t.id [] apart.1 (All-nil (λ n. All (λ t. t.id ≢ n) (listed next.table)));
        }

-- what holds of the name of its table, from one form to the other
module _ (P : Name → Type 0) where
  pub each_old : (c : Catalog) → IfSome c.table (λ t. P (table_name 0 t.id)) → All (λ n. P (table_name 0 n)) (ids_of c)
  each_old c is = of c.table is
    where
      of : (table : Option TableInfo) → IfSome table (λ t. P (table_name 0 t.id)) → All (λ n. P (table_name 0 n)) (map (λ (t : TableInfo). t.id) (listed table))
      of None is = All-nil (λ n. P (table_name 0 n))
      of (Some t) is = All-cons (λ n. P (table_name 0 n)) t.id [] is (All-nil (λ n. P (table_name 0 n)))

  pub old_each : (c : Catalog) (r : Result Unit Error) → OnOk r (All (λ n. P (table_name 0 n)) (ids_of c)) → OnOk r (IfSome c.table (λ t. P (table_name 0 t.id)))
  old_each c (Err e) each = tt
  old_each c (Ok done) each = of c.table each
    where
      of : (table : Option TableInfo) → All (λ n. P (table_name 0 n)) (map (λ (t : TableInfo). t.id) (listed table)) → IfSome table (λ t. P (table_name 0 t.id))
      of None each = tt
      of (Some t) each = All-head (λ n. P (table_name 0 n)) t.id [] each
