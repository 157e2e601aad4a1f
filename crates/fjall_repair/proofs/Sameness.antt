-- Where all that counts is synced, an image in which an opening finds nothing wrong holds what stands.
use Rattle.std.proofs.Common.{◌≡◌, inl, inr, ⊎_elim, ℕ, ◌<◌, ◌^◌, List, [], ◌∷◌, length, take, map, codes, refl, sym, ◌∙◌, ap, subst, arith}
use Rattle.std.specs.Prelude.{◌↔◌, Contains}
use Rattle.std.specs.List.{AllByRecursion}
use Rattle.std.proofs.lemmas.List.{take_all, length-take}
use Rattle.fjall_base.specs.Disk.{Name, DiskEntry, Missing, File, Folder, DiskState, Image, IsFile, IsImage, IsThere, Survives, SomeSurvives, folder_of, standing}
use Rattle.fjall_base.proofs.States.{survives_whole}
use Rattle.fjall_files.specs.Texts.{text_in}
use Rattle.fjall_table.specs.declared.table_info.TableInfo.{TableInfo}
use Rattle.fjall_manifest.specs.Records.{Fields, IsRecord, IsRecords}
use Rattle.fjall_files.specs.Names.{journal_name, keyspace_folder, current_name, table_name}
use Rattle.fjall_manifest.specs.Homes.{HasFiles, HoldTables, HoldsText, Home}
use Rattle.fjall_manifest.proofs.Meanings as homes
use Rattle.fjall_manifest.proofs.Resting.{IsGiven, all_given, each_more, last_has}
use Rattle.fjall_meta.specs.Keyspaces.{Keyspaces}
use Rattle.fjall_manifest.specs.Catalog.{home_of}
use Rattle.fjall_manifest.specs.Catalog as catalog
use Rattle.fjall_manifest.proofs.CatalogMeanings.{last_one, one_catalog}
use Rattle.fjall_recovery.specs.Folders.{Contents, IsOpenable, file_bytes}
use Rattle.fjall_recovery.specs.Homes.{HasOpenableHome}
use Rattle.fjall_recovery.specs.Journals.{WholeJournal, journal_text}
use Rattle.fjall_recovery.proofs.Alike.{sound_by}
use Rattle.fjall_recovery.proofs.Housing.{is_housed}
use Rattle.fjall_repair.specs.Steps.{IsSynced, active_of, ended_names, folder_names, whole_names}
use Rattle.fjall_repair.specs.Sweeps.{KeyspaceLives}
use Rattle.fjall_repair.proofs.Naming.{folder_of-journal, folder_of-current, folder_of-table}
use Rattle.fjall_repair.proofs.Homing.{HasCounts, catalog_counts, open_counts}
use Rattle.fjall_repair.proofs.Items.{contains_map, each_in}
use Rattle.fjall_repair.proofs.Living.{have_along, ids_fit, ids_with, lives_found, with_living}
use Rattle.fjall_repair.proofs.Trimming.{fits_all}
use Rattle.fjall_repair.proofs.MendOpened.{ids_of}
use Rattle.fjall_repair.proofs.Rested.{Parted, active_parted, each_both, each_front, last_parted, parted, sealed_parted}
use Rattle.fjall_repair.proofs.Carrying.{survived_text}

-- ---- what survives of an entry

pub file_survives : (e left : DiskEntry) → Survives e left → IsFile left ↔ IsFile e
file_survives Missing left is = ((λ f. absurd (subst IsFile is f)), (λ f. absurd f))
file_survives Folder left is = ((λ f. absurd (subst IsFile is f)), (λ f. absurd f))
file_survives (File synced unsynced) left some = ((λ f. tt), (λ f. subst IsFile (sym some.1) tt))

same_by_length : (text part : List ℕ) (n count : ℕ) → part ≡ take n text → length text ≡ count → length part ≡ count → part ≡ text
same_by_length text part n count is all some =
    let l = ap length is in
    let m = length-take n text in
    is ∙ take_all n text (omega (arith, l, m, all, some))

-- ---- an image of a disk on which all that counts is synced

module _ (s : DiskState) (c : Contents) (sound : IsOpenable (standing s) c) (root : (q : Name) → folder_of q ≡ [] → (s q).older ≡ [])
    (folders : AllByRecursion (λ f. (q : Name) → folder_of q ≡ f → (s q).older ≡ []) (folder_names (map (λ k. k.id) c.keyspaces.living)))
    (whole : AllByRecursion (λ f. IsSynced (s f).now) (whole_names (ids_of c.journals)))
    (ended : AllByRecursion (λ f. IsSynced (s f).now) (ended_names (active_of (ids_of c.journals)) (map (λ k. k.id) c.keyspaces.living)))
    (image : Image) (is : IsImage s image) (d : Contents) (other : IsOpenable image d) where
  seen : (q : Name) → IsThere image (folder_of q) → (s q).older ≡ [] → Survives (s q).now (image q)
  seen q there older = ⊎_elim (λ here. here) (λ was. absurd (subst (λ (es : List DiskEntry). SomeSurvives es (image q)) older was)) (is.kept q there)

  synced_seen : (q : Name) → IsThere image (folder_of q) → (s q).older ≡ [] → IsSynced (s q).now → image q ≡ (s q).now
  synced_seen q there older (bytes, at) = survives_whole bytes (image q) (subst (λ (e : DiskEntry). Survives e (image q)) at (seen q there older)) ∙ sym at

  -- ---- the root

  small_ids : AllByRecursion (λ (j : WholeJournal). j.id < 2 ^ 64) c.journals
  small_ids = fits_all c.journals (λ id has. ((sound.journals.ids.each id).0 has).0)

  files_alike : (id : ℕ) → id < 2 ^ 64 → IsFile (image (journal_name id)) ↔ IsFile (s (journal_name id)).now
  files_alike id small = let at = folder_of-journal id small in file_survives (s (journal_name id)).now (image (journal_name id)) (seen (journal_name id) (inl at) (root (journal_name id) at))

  texts_alike : (js : List WholeJournal) → AllByRecursion (λ (j : WholeJournal). j.id < 2 ^ 64) js → AllByRecursion (λ f. IsSynced (s f).now) (map journal_name (ids_of js)) → AllByRecursion (λ (j : WholeJournal). journal_text image j.id ≡ journal_text (standing s) j.id) js
  texts_alike [] small synced = tt
  texts_alike (j ∷ js) small synced =
      let at = folder_of-journal j.id small.0 in
      (ap text_in (synced_seen (journal_name j.id) (inl at) (root (journal_name j.id) at) synced.0), texts_alike js small.1 synced.1)

  texts_parted : Parted c.journals → AllByRecursion (λ (j : WholeJournal). journal_text image j.id ≡ journal_text (standing s) j.id) c.journals
  texts_parted p =
      let smalls = subst (AllByRecursion (λ (j : WholeJournal). j.id < 2 ^ 64)) p.is small_ids in
      let names = subst (λ (ids : List ℕ). AllByRecursion (λ f. IsSynced (s f).now) (map journal_name ids)) (sealed_parted c.journals p) whole.1 in
      let last = subst (λ (n : ℕ). IsSynced (s (journal_name n)).now) (active_parted c.journals p) ended.0 in
      let active_small : p.active.id < 2 ^ 64 = last_has (λ (j : WholeJournal). j.id < 2 ^ 64) c.journals p.active small_ids (last_parted c.journals p) in
      subst (AllByRecursion (λ (j : WholeJournal). journal_text image j.id ≡ journal_text (standing s) j.id)) (sym p.is)
      (each_both (λ (j : WholeJournal). journal_text image j.id ≡ journal_text (standing s) j.id) p.sealed (p.active ∷ []) (texts_alike p.sealed (each_front (λ (j : WholeJournal). j.id < 2 ^ 64) p.sealed (p.active ∷ []) smalls) names)
      (texts_alike (p.active ∷ []) (active_small, tt) (last, tt)))

  texts_all : (js : List WholeJournal) → c.journals ≡ js → AllByRecursion (λ (j : WholeJournal). journal_text image j.id ≡ journal_text (standing s) j.id) c.journals
  texts_all [] none = subst (AllByRecursion (λ (j : WholeJournal). journal_text image j.id ≡ journal_text (standing s) j.id)) (sym none) tt
  texts_all (j ∷ js) some = texts_parted (subst Parted (sym some) (parted j js))

  -- ---- the keyspaces

  -- a home of tree 0 or of a keyspace that lives
  module _ (id : ℕ) (has : Contains (ids_with c.keyspaces.living) id) where
    small : id < 2 ^ 64
    small = each_in (λ n. n < 2 ^ 64) (ids_with c.keyspaces.living) id has (ids_fit c.keyspaces sound.catalog.are)

    inside : (q : Name) → folder_of q ≡ keyspace_folder id → (s q).older ≡ []
    inside = each_in (λ f. (q : Name) → folder_of q ≡ f → (s q).older ≡ []) (map keyspace_folder (ids_with c.keyspaces.living)) (keyspace_folder id) (contains_map keyspace_folder (ids_with c.keyspaces.living) id has) folders.1

    file_there : (q : Name) → folder_of q ≡ keyspace_folder id → image (keyspace_folder id) ≡ Folder → IsThere image (folder_of q)
    file_there q at there = subst (IsThere image) (sym at) (inr there)

    current_alike : image (keyspace_folder id) ≡ Folder → image (current_name id) ≡ (s (current_name id)).now
    current_alike there =
        let at = folder_of-current id in
        synced_seen (current_name id) (file_there (current_name id) at there) (inside (current_name id) at)
        (each_in (λ f. IsSynced (s f).now) (map current_name (ids_with c.keyspaces.living)) (current_name id) (contains_map current_name (ids_with c.keyspaces.living) id has) ended.1)

    table_alike : (n : ℕ) (bytes left : List ℕ) → n < 2 ^ 64 → image (keyspace_folder id) ≡ Folder → HoldsText (standing s) (table_name id n) bytes → HoldsText image (table_name id n) left → length left ≡ length bytes → HoldsText image (table_name id n) bytes
    table_alike n bytes left fits there stands holds count =
        let name = table_name id n in
        let at = folder_of-table id n fits in
        let part = survived_text (s name).now (image name) (seen name (file_there name at there) (inside name at)) in
        (holds.0, same_by_length (text_in (s name).now) (text_in (image name)) part.0 (length bytes) part.1 (ap length stands.1) (ap length holds.1 ∙ count) ∙ stands.1)

    tables_alike : (tables : List TableInfo) (texts others : List (List ℕ)) → AllByRecursion (λ t. t.id < 2 ^ 64) tables → image (keyspace_folder id) ≡ Folder → HoldTables (standing s) id tables texts → HoldTables image id tables others → map length others ≡ map length texts
        → HoldTables image id tables texts
    tables_alike [] [] others fits there stands holds counts = tt
    tables_alike [] (bytes ∷ texts) others fits there stands holds counts = absurd stands
    tables_alike (t ∷ tables) [] others fits there stands holds counts = absurd stands
    tables_alike (t ∷ tables) (bytes ∷ texts) [] fits there stands holds counts = absurd holds
    tables_alike (t ∷ tables) (bytes ∷ texts) (left ∷ others) fits there stands holds counts =
        (table_alike t.id bytes left fits.0 there stands.0 holds.0 cc, tables_alike tables texts others fits.1 there stands.1 holds.1 cc)

    pub files_alike_here : (records : List Fields) (h : Home) → HasFiles (standing s) id records h → HasCounts image id h → HasFiles image id records h
    files_alike_here records h stands counts =
        let same = current_alike counts.folder in
        let fits = each_more (IsGiven h.last.next_table_id) (λ (t : TableInfo). t.id < 2 ^ 64) (λ t given. given.0) h.last.tables (all_given h.last (last_has IsRecord records h.last stands.whole.each stands.last_is)) in
        record {
          current = subst IsFile (sym same) stands.current;
          end = stands.end;
          whole = subst (λ (e : DiskEntry). IsRecords (text_in e) records stands.end) (sym same) stands.whole;
          last_is = stands.last_is;
          tables = tables_alike h.last.tables h.texts counts.texts fits counts.folder stands.tables counts.tables counts.counts;
        }

  first_has : Contains (ids_with c.keyspaces.living) 0
  first_has = (0, omega arith, refl)

  one_last : c.last ≡ d.last
  one_last = last_one (catalog.records_in image) sound.records other.records sound.catalog.files.end other.catalog.files.end c.last d.last
      (subst (λ (e : DiskEntry). IsRecords (text_in e) sound.records sound.catalog.files.end) (sym (current_alike 0 first_has other.folder)) sound.catalog.files.whole) other.catalog.files.whole sound.catalog.files.last_is other.catalog.files.last_is

  same_files : HasFiles image 0 sound.records (home_of c.last sound.catalog.texts)
  same_files = files_alike_here 0 first_has sound.records (home_of c.last sound.catalog.texts) sound.catalog.files
      (catalog_counts (standing s) image sound.records other.records c.last d.last c.keyspaces d.keyspaces sound.catalog one_last other.catalog other.folder)

  -- it says that the same keyspaces live
  same_keyspaces : c.keyspaces ≡ d.keyspaces
  same_keyspaces =
      let says : catalog.Says image sound.records c.last c.keyspaces =
      record { texts = sound.catalog.texts; files = same_files; pairs = sound.catalog.pairs; next = sound.catalog.next; are = sound.catalog.are } in
      (one_catalog image sound.records other.records c.last d.last c.keyspaces d.keyspaces says other.catalog).2

  -- and the home of each of them is there, with as many bytes in its tables
  same_counts : (id : ℕ) (h : Home) → KeyspaceLives c.keyspaces.living id → HasOpenableHome (standing s) id h → HasCounts image id h
  same_counts id h lives stands =
      let has = with_living c.keyspaces.living id lives in
      let alive = lives_found d.keyspaces.living id (subst (λ (k : Keyspaces). KeyspaceLives k.living id) same_keyspaces lives) in
      let there = is_housed image d.keyspaces.living d.homes id other.homes alive in
      let files = there.2.home.files in
      let whole = subst (λ (e : DiskEntry). IsRecords (text_in e) there.2.records files.end) (current_alike id has there.2.home.folder) files.whole in
      let same : there.0.last ≡ h.last =
      homes.last_one (text_in (s (current_name id)).now) there.2.records stands.records files.end stands.home.files.end there.0.last h.last whole stands.home.files.whole files.last_is stands.home.files.last_is in
      open_counts (standing s) image id h there.0 stands same there.2

  home_alike : (id : ℕ) (h : Home) → KeyspaceLives c.keyspaces.living id → HasOpenableHome (standing s) id h → HasOpenableHome image id h
  home_alike id h lives stands =
      let has = with_living c.keyspaces.living id lives in
      let counts = same_counts id h lives stands in
      record {
        records = stands.records;
        home = record { folder = counts.folder; files = files_alike_here id has stands.records h stands.home.files counts };
        indexes = stands.indexes;
        indexed = stands.indexed;
        clears = stands.clears;
      }

  -- the image holds what stands
  pub same_sound : IsOpenable image c
  same_sound = sound_by (standing s) image c sound (ap file_bytes (synced_seen (codes "version") (inl refl) (root (codes "version") refl) whole.0)) other.journals_named files_alike (texts_all c.journals refl)
      other.keyspaces_named other.folder same_files.current (ap text_in (current_alike 0 first_has other.folder)) (sound.catalog.texts, same_files.tables, sound.catalog.pairs)
      (have_along (standing s) c.keyspaces.living c.homes image home_alike sound.homes)
