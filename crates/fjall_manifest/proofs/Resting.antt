-- A home that rests, and what a crash leaves of it.
use Rattle.std.proofs.Common.{◌≡◌, inl, inr, ℕ, ◌<◌, ◌^◌, Bool, true, All, List, [], ◌∷◌, length, codes, Some, refl, sym, ◌∙◌, ap, subst}
use Rattle.std.specs.List.{flat_map, AllByRecursion}
use Rattle.std.proofs.lemmas.List.{append-nil}
use Rattle.std.proofs.lemmas.List.Elements.{All-head, All-tail}
use Rattle.fjall_base.specs.Disk.{Name, DiskEntry, File, Folder, DiskState, Image, IsFile, IsImageBy, IsThere, folder_of}
use Rattle.fjall_base.specs.Lists.{last_of}
use Rattle.fjall_files.specs.Names.{keyspace_folder, current_name, table_name}
use Rattle.fjall_files.specs.Regions.{IsImageIn, IsSafe}
use Rattle.fjall_files.specs.Texts.{text_in}
use Rattle.fjall_files.proofs.Fitting.{folder_of-current, folder_of-folder, folder_of-table}
use Rattle.fjall_files.proofs.Parts.{in_region, left_at}
use Rattle.fjall_table.specs.declared.table_info.TableInfo.{TableInfo}
use Rattle.fjall_manifest.specs.Records.{Fields, HasRoom, IsRecord, IsRecords, record_text}
use Rattle.fjall_manifest.proofs.Currents.{texts_are_records}
use Rattle.fjall_manifest.specs.Homes.{AreSafe, HasHome, HoldTables, Home, IsReady, Rests, SyncedStays, is_counted, only, records_text}
use Rattle.fjall_manifest.proofs.Naming.{current_counts, folder_counts, table_counts}

-- ---- the last record

pub last_has : {A : Type 0} (P : A → Type 0) (xs : List A) (x : A) → AllByRecursion P xs → last_of xs ≡ Some x → P x
last_has P [] x each is = cc
last_has {A} P (y ∷ []) x each is = let same : y ≡ x = cc in subst P same each.0
last_has P (y ∷ z ∷ zs) x each is = last_has P (z ∷ zs) x each.1 is

pub last_record : (state : DiskState) (id : ℕ) (records : List Fields) (h : Home) → Rests state id records h → IsRecord h.last
last_record state id records h rests = last_has IsRecord records h.last rests.each rests.last_is

-- the ids of its tables have their place, and were given out
abbrev pub IsGiven : ℕ → TableInfo → Type 0
IsGiven next t = (t.id < 2 ^ 64) × (t.id < next)

pub all_given : (r : Fields) → IsRecord r → AllByRecursion (IsGiven r.next_table_id) r.tables
all_given r is = of r.tables is.fits.room.tables is.consistent.given
  where
    of : (tables : List TableInfo) → AllByRecursion HasRoom tables → All (λ t. t.id < r.next_table_id) tables → AllByRecursion (IsGiven r.next_table_id) tables
    of [] room given = tt
    of (t ∷ tables) room given =
        ((room.0.0, All-head (λ (u : TableInfo). u.id < r.next_table_id) t tables given), of tables room.1 (All-tail (λ (u : TableInfo). u.id < r.next_table_id) t tables given))

pub each_more : {A : Type 0} (P Q : A → Type 0) → ((x : A) → P x → Q x) → (xs : List A) → AllByRecursion P xs → AllByRecursion Q xs
each_more P Q to [] each = tt
each_more P Q to (x ∷ xs) each = (to x each.0, each_more P Q to xs each.1)

-- ---- the names that it rests on

-- what holds at each of them
pub record At (id : ℕ) (tables : List TableInfo) (P : Name → Type 0) : Type 0 where
  pub keyspaces_folder : P (codes "keyspaces")
  pub folder : P (keyspace_folder id)
  pub current : P (current_name id)
  pub each : AllByRecursion (λ t. P (table_name id t.id)) tables

pub at_more : (id : ℕ) (tables : List TableInfo) (P Q : Name → Type 0) → ((q : Name) → P q → Q q) → At id tables P → At id tables Q
at_more id tables P Q to at = record {
  keyspaces_folder = to _ at.keyspaces_folder;
  folder = to _ at.folder;
  current = to _ at.current;
  each = each_more (λ (t : TableInfo). P (table_name id t.id)) (λ (t : TableInfo). Q (table_name id t.id)) (λ t is. to _ is) tables at.each;
}

-- what holds of all names that count holds there
pub at_counted : (id : ℕ) (tables : List TableInfo) (P : Name → Type 0) → ((q : Name) → is_counted id q ≡ true → P q) → At id tables P
at_counted id tables P to = record {
  keyspaces_folder = to (codes "keyspaces") refl;
  folder = to (keyspace_folder id) (folder_counts id);
  current = to (current_name id) (current_counts id);
  each = all tables;
}
  where
    all : (tables : List TableInfo) → AllByRecursion (λ t. P (table_name id t.id)) tables
    all [] = tt
    all (t ∷ tables) = (to (table_name id t.id) (table_counts id t.id), all tables)

pub safe_along : (old new : DiskState) (id : ℕ) (tables : List TableInfo) (texts : List (List ℕ)) → AllByRecursion (λ t. new (table_name id t.id) ≡ old (table_name id t.id)) tables → AreSafe old id tables texts → AreSafe new id tables texts
safe_along old new id [] [] at safe = tt
safe_along old new id [] (bytes ∷ texts) at safe = absurd safe
safe_along old new id (t ∷ tables) [] at safe = absurd safe
safe_along old new id (t ∷ tables) (bytes ∷ texts) at safe = (at.0 ∙ safe.0, safe_along old new id tables texts at.1 safe.1)

-- what stands there is all that matters
pub rests_along : (old new : DiskState) (id : ℕ) (records : List Fields) (h : Home) → At id h.last.tables (λ q. new q ≡ old q) → Rests old id records h → Rests new id records h
rests_along old new id records h at rests = record {
  keyspaces_folder = at.keyspaces_folder ∙ rests.keyspaces_folder;
  folder = at.folder ∙ rests.folder;
  current = at.current ∙ rests.current;
  each = rests.each;
  last_is = rests.last_is;
  tables = safe_along old new id h.last.tables h.texts at.each rests.tables;
}

module _ (old new : DiskState) (id : ℕ) (records : List Fields) (h : Home) (agree : (q : Name) → is_counted id q ≡ true → new q ≡ old q) where
  pub rests_where : Rests old id records h → Rests new id records h
  rests_where rests = rests_along old new id records h (at_counted id h.last.tables (λ q. new q ≡ old q) agree) rests

  pub ready_where : IsReady old id records h → IsReady new id records h
  ready_where ready = record {
    rests = rests_where ready.rests;
    free = λ table above below. ap (λ p. p.now) (agree (table_name id table) (table_counts id table)) ∙ ready.free table above below;
  }

-- ---- what a crash leaves

module _ (id : ℕ) (small : id < 2 ^ 64) (region : Name → Bool) (state : DiskState) (image : Image) (is : IsImageIn SyncedStays region state image) where
  -- a file that is safe stands whole
  whole : (q : Name) (bytes : List ℕ) → region q ≡ true → IsThere image (folder_of q) → IsSafe state q bytes → image q ≡ File bytes []
  whole q bytes in_it there safe = left_at region state image q (File bytes []) in_it is safe there

  pub folder_left : region (codes "keyspaces") ≡ true → region (keyspace_folder id) ≡ true → state (codes "keyspaces") ≡ only Folder → state (keyspace_folder id) ≡ only Folder → image (keyspace_folder id) ≡ Folder
  folder_left in_keyspaces in_folder at_keyspaces at_folder =
      let outer : image (codes "keyspaces") ≡ Folder = left_at region state image (codes "keyspaces") Folder in_keyspaces is at_keyspaces (inl refl) in
      left_at region state image (keyspace_folder id) Folder in_folder is at_folder (inr (ap (λ (n : Name). image n) (folder_of-folder id small) ∙ outer))

  pub tables_left : (tables : List TableInfo) (texts : List (List ℕ)) → image (keyspace_folder id) ≡ Folder → AllByRecursion (λ t. t.id < 2 ^ 64) tables → AllByRecursion (λ t. region (table_name id t.id) ≡ true) tables
      → AreSafe state id tables texts → HoldTables image id tables texts
  tables_left [] [] there fits in_it safe = tt
  tables_left [] (bytes ∷ texts) there fits in_it safe = absurd safe
  tables_left (t ∷ tables) [] there fits in_it safe = absurd safe
  tables_left (t ∷ tables) (bytes ∷ texts) there fits in_it safe =
      let at : image (table_name id t.id) ≡ File bytes [] = whole (table_name id t.id) bytes in_it.0 (inr (ap (λ (n : Name). image n) (folder_of-table id t.id fits.0) ∙ there)) safe.0 in
      ((subst IsFile (sym at) tt, ap (λ (e : DiskEntry). text_in e) at ∙ append-nil bytes), tables_left tables texts there fits.1 in_it.1 safe.1)

  pub home_in : (records : List Fields) (h : Home) → Rests state id records h → At id h.last.tables (λ q. region q ≡ true) → HasHome image id records h
  home_in records h rests at =
      let there = folder_left at.keyspaces_folder at.folder rests.keyspaces_folder rests.folder in
      let bytes = flat_map record_text records in
      let current : image (current_name id) ≡ File bytes [] = whole (current_name id) bytes at.current (inr (ap (λ (n : Name). image n) (folder_of-current id) ∙ there)) rests.current in
      let text : records_text image id ≡ bytes = ap (λ (e : DiskEntry). text_in e) current ∙ append-nil bytes in
      let fits = each_more (IsGiven h.last.next_table_id) (λ (t : TableInfo). t.id < 2 ^ 64) (λ t given. given.0) h.last.tables (all_given h.last (last_record state id records h rests)) in
      record {
        folder = there;
        files = record {
          current = subst IsFile (sym current) tt;
          end = length bytes;
          whole = subst (λ (text : List ℕ). IsRecords text records (length bytes)) (sym text) (texts_are_records records rests.each);
          last_is = rests.last_is;
          tables = tables_left h.last.tables h.texts there fits at.each rests.tables;
        };
      }

pub region_home : (region : Name → Bool) (state : DiskState) (image : Image) (id : ℕ) (records : List Fields) (h : Home) → id < 2 ^ 64 → ((q : Name) → is_counted id q ≡ true → region q ≡ true)
    → Rests state id records h → IsImageIn SyncedStays region state image → HasHome image id records h
region_home region state image id records h small more rests is = home_in id small region state image is records h rests (at_counted id h.last.tables (λ q. region q ≡ true) more)

abbrev pub anywhere : Name → Bool
anywhere q = true

pub crash_home : (state : DiskState) (image : Image) (id : ℕ) (records : List Fields) (h : Home) → id < 2 ^ 64 → Rests state id records h → IsImageBy SyncedStays state image → HasHome image id records h
crash_home state image id records h small rests is = region_home anywhere state image id records h small (λ q counts. refl) rests (in_region anywhere state image is)
