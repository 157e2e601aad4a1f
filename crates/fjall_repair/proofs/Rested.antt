-- Where nothing waits for a sync, all that whatever a crash leaves says lies on the disk.
use Rattle.std.proofs.Common.{◌≡◌, ◌⊎◌, inl, inr, ⊎_elim, ℕ, ◌-◌, ◌<◌, ◌≤◌, ◌^◌, List, [], ◌∷◌, ◌++◌, length, get_or, map, All, codes, None, Some, refl, sym, ◌∙◌, ap, subst, arith}
use Rattle.std.specs.Prelude.{Contains}
use Rattle.std.specs.List.{flat_map, AllByRecursion}
use Rattle.std.specs.List.Sorted.{IsStrictlyIncreasing}
use Rattle.std.specs.FinMap.{get}
use Rattle.std.proofs.lemmas.List.{append-nil, get_or_default, length-append, length-drop, map-append, nil_from_length, take_all, take_at}
use Rattle.std.proofs.Math.Seq.{get_or-append_right}
use Rattle.fjall_base.specs.Crash.{keeping}
use Rattle.fjall_base.specs.Disk.{Name, DiskEntry, Missing, File, Folder, DiskState, Image, IsFile, IsNoFile, IsNoFolder, IsThere, folder_of}
use Rattle.fjall_files.specs.Regions.{IsSafe}
use Rattle.fjall_journal.specs.declared.batch.Tail.TheVariants.{Clean, Torn}
use Rattle.fjall_journal.specs.Batches.{Written, IsWritten, shown}
use Rattle.fjall_table.specs.declared.table_info.TableInfo.{TableInfo}
use Rattle.fjall_manifest.specs.Records.{Fields, IsRecord, IsRecords, record_text}
use Rattle.fjall_base.specs.Lists.{last_of}
use Rattle.fjall_files.specs.Texts.{text_in}
use Rattle.fjall_base.proofs.Lists.{last_behind}
use Rattle.fjall_files.specs.Marker.{marker_tells}
use Rattle.fjall_files.specs.Names.{journal_name, keyspace_folder, current_name, table_name}
use Rattle.fjall_manifest.specs.Homes as homes
use Rattle.fjall_manifest.specs.Homes.{AreSafe, HasHome, HoldTables, HoldsText, Home, only, records_text}
use Rattle.fjall_manifest.proofs.Resting.{IsGiven, all_given, each_more, last_has}
use Rattle.fjall_meta.specs.Replays.{first_fault}
use Rattle.fjall_manifest.specs.Catalog.{CatalogRests, home_of}
use Rattle.fjall_recovery.specs.Folders.{Contents, IsOpenable, file_bytes}
use Rattle.fjall_recovery.specs.Homes.{HasOpenableHome, HaveVersions}
use Rattle.fjall_recovery.specs.Journals.{WholeJournal, ReadsAs, AreJournalsRead, batches_in, journal_text}
use Rattle.fjall_recovery.specs.Places.{HasSafeHome, IsNeverFile, Journaling, LiesInRoot, RestsInTree, journal_ids, journals_with, texts_of}
use Rattle.fjall_recovery.proofs.Housing.{is_housed}
use Rattle.fjall_repair.specs.Steps.{IsRested, IsSynced, active_of, sealed_of}
use Rattle.fjall_repair.specs.Sweeps.{KeyspaceLives}
use Rattle.fjall_repair.proofs.Naming.{folder_of-journal, folder_of-folder, folder_of-current, folder_of-table}
use Rattle.fjall_repair.proofs.Halving.{tree_of}
use Rattle.fjall_repair.proofs.Homing.{HasCounts, catalog_counts, open_counts}
use Rattle.fjall_repair.proofs.Items.{contains_map, each_in}
use Rattle.fjall_repair.proofs.Living.{homes_safe, ids_fit, ids_with, lives_found, with_living}
use Rattle.fjall_repair.proofs.Cutting.{whole_length}
use Rattle.fjall_repair.proofs.Trimming.{fits_all}
use Rattle.fjall_repair.proofs.Crashing.{left, left_is, left_there}
use Rattle.fjall_repair.proofs.MendOpened.{ids_of}

-- ---- the last of a list

active_last : (xs : List ℕ) (x : ℕ) → active_of (xs ++ x ∷ []) ≡ x
active_last xs x =
    let all = length-append xs (x ∷ []) in
    let place : length (xs ++ x ∷ []) - 1 - length xs ≡ 0 = omega arith in
    get_or-append_right xs (x ∷ []) (length (xs ++ x ∷ []) - 1) 1 (omega arith) ∙ ap (λ i. get_or (x ∷ []) i 1) place

sealed_first : (xs : List ℕ) (x : ℕ) → sealed_of (xs ++ x ∷ []) ≡ xs
sealed_first xs x = let all = length-append xs (x ∷ []) in take_at xs (x ∷ []) (length (xs ++ x ∷ []) - 1) (omega arith)

-- the sealed journals, and the active one
pub record Parted (journals : List WholeJournal) : Type 0 where
  pub sealed : List WholeJournal
  pub active : WholeJournal
  pub is : journals ≡ sealed ++ active ∷ []

pub parted : (j : WholeJournal) (journals : List WholeJournal) → Parted (j ∷ journals)
parted j [] = record { sealed = []; active = j; is = refl }
parted j (k ∷ journals) = let rest = parted k journals in record { sealed = j ∷ rest.sealed; active = rest.active; is = ap (λ (l : List WholeJournal). j ∷ l) rest.is }

ids_parted : (sealed : List WholeJournal) (a : WholeJournal) → ids_of (sealed ++ a ∷ []) ≡ ids_of sealed ++ a.id ∷ []
ids_parted sealed a = map-append (λ (j : WholeJournal). j.id) sealed (a ∷ [])

pub active_parted : (journals : List WholeJournal) (p : Parted journals) → active_of (ids_of journals) ≡ p.active.id
active_parted journals p = ap (λ js. active_of (ids_of js)) p.is ∙ ap active_of (ids_parted p.sealed p.active) ∙ active_last (ids_of p.sealed) p.active.id

pub sealed_parted : (journals : List WholeJournal) (p : Parted journals) → sealed_of (ids_of journals) ≡ ids_of p.sealed
sealed_parted journals p = ap (λ js. sealed_of (ids_of js)) p.is ∙ ap sealed_of (ids_parted p.sealed p.active) ∙ sealed_first (ids_of p.sealed) p.active.id

pub last_parted : (journals : List WholeJournal) (p : Parted journals) → last_of journals ≡ Some p.active
last_parted journals p = ap last_of p.is ∙ last_behind p.sealed p.active

-- ---- entries of which a crash leaves so many bytes

kept_folder : (k : ℕ) (e : DiskEntry) → keeping k e ≡ Folder → e ≡ Folder
kept_folder k Missing is = let bad : ⊥ = cc in absurd bad
kept_folder k (File synced unsynced) is = let bad : ⊥ = cc in absurd bad
kept_folder k Folder is = refl

kept_file : (k : ℕ) (e : DiskEntry) → IsFile e → IsFile (keeping k e)
kept_file k Missing file = absurd file
kept_file k Folder file = absurd file
kept_file k (File synced unsynced) file = tt

no_file : (e : DiskEntry) → (IsFile e → ⊥) → IsNoFile e
no_file Missing none = tt
no_file Folder none = tt
no_file (File synced unsynced) none = none tt

no_folder : (e : DiskEntry) → (e ≡ Folder → ⊥) → IsNoFolder e
no_folder Missing none = tt
no_folder Folder none = none refl
no_folder (File synced unsynced) none = tt

kept_synced : (e : DiskEntry) (bytes : List ℕ) → e ≡ File bytes [] → keeping 0 e ≡ File bytes []
kept_synced e bytes is = ap (keeping 0) is ∙ ap (λ l. File l []) (append-nil bytes)

-- a file of which a crash leaves the same count of bytes whatever it keeps is synced
same_whole : (e : DiskEntry) (count : ℕ) → IsFile e → ((k : ℕ) → length (text_in (keeping k e)) ≡ count) → (bytes : List ℕ) × (e ≡ File bytes []) × (text_in (keeping 0 e) ≡ bytes)
same_whole Missing count file same = absurd file
same_whole Folder count file same = absurd file
same_whole (File synced unsynced) count file same =
    let few : length synced ≡ count = ap length (sym (append-nil synced) ∙ sym (append-nil (synced ++ []))) ∙ same 0 in
    let all = same (length unsynced) in
    let whole = ap (λ l. length ((synced ++ l) ++ [])) (take_all (length unsynced) unsynced (omega arith)) in
    let long = length-append (synced ++ unsynced) [] in
    let sum = length-append synced unsynced in
    let none : unsynced ≡ [] = nil_from_length unsynced (omega (arith, few, all, whole, long, sum)) in
    (synced, ap (File synced) none, append-nil (synced ++ []) ∙ append-nil synced)

-- ---- lists of journals

read_parts : (image : Image) (js : List WholeJournal) (a : WholeJournal) → AreJournalsRead image (js ++ a ∷ [])
    → AllByRecursion (λ (j : WholeJournal). ReadsAs (journal_text image j.id) j.batches Clean) js × (ReadsAs (journal_text image a.id) a.batches Clean ⊎ ReadsAs (journal_text image a.id) a.batches Torn)
read_parts image [] a read = (tt, read)
read_parts image (j ∷ []) a read = ((read.0, tt), read.1)
read_parts image (j ∷ k ∷ js) a read = let rest = read_parts image (k ∷ js) a read.1 in ((read.0, rest.0), rest.1)

pub each_both : {A : Type 0} (P : A → Type 0) (xs ys : List A) → AllByRecursion P xs → AllByRecursion P ys → AllByRecursion P (xs ++ ys)
each_both P [] ys all others = others
each_both P (x ∷ xs) ys all others = (all.0, each_both P xs ys all.1 others)

pub each_front : {A : Type 0} (P : A → Type 0) (xs ys : List A) → AllByRecursion P (xs ++ ys) → AllByRecursion P xs
each_front P [] ys all = tt
each_front P (x ∷ xs) ys all = (all.0, each_front P xs ys all.1)

written_all : (image : Image) (js : List WholeJournal) → AreJournalsRead image js → AllByRecursion IsWritten (batches_in js)
written_all image [] read = tt
written_all image (j ∷ []) read = each_both IsWritten j.batches [] (⊎_elim (λ clean. clean.whole.each) (λ torn. torn.whole.each) read) tt
written_all image (j ∷ k ∷ js) read = each_both IsWritten j.batches (batches_in (k ∷ js)) read.0.whole.each (written_all image (k ∷ js) read.1)

clean_text : (text : List ℕ) (bs : List Written) → ReadsAs text bs Clean → text ≡ texts_of bs
clean_text text bs clean =
    let none = ap length clean.behind in
    let l = length-drop clean.end text in
    sym (take_all clean.end text (omega (arith, none, l))) ∙ clean.whole.texts

short_text : (text : List ℕ) (bs : List Written) → length text ≤ length (texts_of bs) → ReadsAs text bs Clean ⊎ ReadsAs text bs Torn → text ≡ texts_of bs
short_text text bs short (inl clean) = clean_text text bs clean
short_text text bs short (inr torn) = let n = whole_length text bs torn.end torn.whole in sym (take_all torn.end text (omega (arith, n, short))) ∙ torn.whole.texts

-- ---- a disk at rest

module _ (s : DiskState) (c : Contents) (rest : IsRested s c) where
  abbrev pub image : Image
  image = left 0 s

  pub sound : IsOpenable image c
  sound = rest.images (left 0 s) (left_is 0 s)

  seen : (q : Name) → IsThere image (folder_of q) → image q ≡ keeping 0 (s q).now
  seen q there = left_there 0 s q there

  in_root : (q : Name) → folder_of q ≡ [] → image q ≡ keeping 0 (s q).now
  in_root q root = seen q (inl root)

  safe : (q : Name) (bytes : List ℕ) → (s q).now ≡ File bytes [] → (s q).older ≡ [] → IsSafe s q bytes
  safe q bytes now older = λ j. record { now = now j; older = older j }

  whole_text : (q : Name) (bytes : List ℕ) → IsThere image (folder_of q) → (s q).now ≡ File bytes [] → text_in (image q) ≡ bytes
  whole_text q bytes there is = ap text_in (seen q there ∙ kept_synced (s q).now bytes is) ∙ append-nil bytes

  small_ids : AllByRecursion (λ (j : WholeJournal). j.id < 2 ^ 64) c.journals
  small_ids = fits_all c.journals (λ id has. ((sound.journals.ids.each id).0 has).0)

  never : (q : Name) → folder_of q ≡ [] → (IsFile (image q) → ⊥) → IsNeverFile (s q)
  never q root none =
      subst (λ (es : List DiskEntry). AllByRecursion IsNoFile ((s q).now ∷ es)) (sym (rest.root q root)) (no_file (s q).now (λ file. none (subst IsFile (sym (in_root q root)) (kept_file 0 (s q).now file))), tt)

  sealed_safe : (js : List WholeJournal) → AllByRecursion (λ (j : WholeJournal). j.id < 2 ^ 64) js → AllByRecursion (λ f. IsSynced (s f).now) (map journal_name (ids_of js)) → AllByRecursion (λ (j : WholeJournal). ReadsAs (journal_text image j.id) j.batches Clean) js
      → AllByRecursion (λ (j : WholeJournal). IsSafe s (journal_name j.id) (texts_of j.batches)) js
  sealed_safe [] small synced read = tt
  sealed_safe (j ∷ js) small synced read =
      let root = folder_of-journal j.id small.0 in
      let bytes = synced.0.0 in
      let text : bytes ≡ texts_of j.batches = sym (whole_text (journal_name j.id) bytes (inl root) synced.0.1) ∙ clean_text (journal_text image j.id) j.batches read.0 in
      (safe (journal_name j.id) (texts_of j.batches) (synced.0.1 ∙ ap (λ l. File l []) text) (rest.root (journal_name j.id) root), sealed_safe js small.1 synced.1 read.1)

  module _ (p : Parted c.journals) where
    abbrev pub journaling : Journaling
    journaling = record { sealed = p.sealed; active = p.active.id; whole = p.active.batches; later = []; cut = 0 }

    pub with_is : journals_with journaling [] ≡ c.journals
    with_is = ap (λ (bs : List Written). p.sealed ++ (let r : WholeJournal = record { id = p.active.id; batches = bs } in r) ∷ []) (append-nil p.active.batches) ∙ sym p.is

    active_small : p.active.id < 2 ^ 64
    active_small = last_has (λ (j : WholeJournal). j.id < 2 ^ 64) c.journals p.active small_ids (last_parted c.journals p)

    ids_same : journal_ids journaling ≡ ids_of c.journals
    ids_same = ap ids_of with_is

    pub lies_in_root : LiesInRoot s journaling
    lies_in_root =
        let marker = rest.whole.0 in
        let marker_text : text_in (image (codes "version")) ≡ marker.0 = whole_text (codes "version") marker.0 (inl refl) marker.1 in
        let parts = read_parts image p.sealed p.active (subst (AreJournalsRead image) p.is sound.journals.read) in
        let active_root = folder_of-journal p.active.id active_small in
        let active_synced : IsSynced (s (journal_name p.active.id)).now = subst (λ (n : ℕ). IsSynced (s (journal_name n)).now) (active_parted c.journals p) rest.ended.0 in
        let active_text : text_in (image (journal_name p.active.id)) ≡ active_synced.0 = whole_text (journal_name p.active.id) active_synced.0 (inl active_root) active_synced.1 in
        let now_text : text_in (s (journal_name p.active.id)).now ≡ active_synced.0 = ap text_in active_synced.1 ∙ append-nil active_synced.0 in
        let short = rest.active p.active (last_parted c.journals p) in
        let count = ap length (now_text ∙ sym active_text) in
        let active_is : active_synced.0 ≡ texts_of p.active.batches = sym active_text ∙ short_text (journal_text image p.active.id) p.active.batches (omega (arith, short, count)) parts.1 in
        record {
          marker_text = marker.0;
          marker = safe (codes "version") marker.0 marker.1 (rest.root (codes "version") refl);
          marker_is = ap marker_tells (ap (λ l. Some l) (sym (append-nil marker.0)) ∙ ap file_bytes (sym (seen (codes "version") (inl refl) ∙ kept_synced (s (codes "version")).now marker.0 marker.1))) ∙ sound.marker;
          named = λ name root misnamed. never name root (λ file. sound.journals_named name root file misnamed);
          ascending = subst IsStrictlyIncreasing (sym ids_same) sound.journals.ids.ascending;
          fit = subst (All (λ id. id < 2 ^ 64)) (sym ids_same) (λ k d lt. ((sound.journals.ids.each (get_or (ids_of c.journals) k d)).0 (k, lt, get_or_default (ids_of c.journals) k _ d lt)).0);
          others = λ id small none. never (journal_name id) (folder_of-journal id small) (λ file. none (subst (λ (ids : List ℕ). Contains ids id) (sym ids_same) ((sound.journals.ids.each id).1 (small, file))));
          sealed = sealed_safe p.sealed (each_front (λ (j : WholeJournal). j.id < 2 ^ 64) p.sealed (p.active ∷ []) (subst (AllByRecursion (λ (j : WholeJournal). j.id < 2 ^ 64)) p.is small_ids))
              (subst (λ (ids : List ℕ). AllByRecursion (λ f. IsSynced (s f).now) (map journal_name ids)) (sealed_parted c.journals p) rest.whole.1) parts.0;
          active = safe (journal_name p.active.id) (texts_of p.active.batches) (active_synced.1 ∙ ap (λ l. File l []) active_is) (rest.root (journal_name p.active.id) active_root);
          written = subst (λ js. AllByRecursion IsWritten (batches_in js)) (sym with_is) (written_all image c.journals sound.journals.read);
          sound = subst (λ js. first_fault 0 (map shown (batches_in js)) ≡ None) (sym with_is) sound.journals.sound;
        }

  -- ---- the keyspaces

  names_left : (folder : Name) → IsThere image folder → (q : Name) → folder_of q ≡ folder → image q ≡ keeping 0 (s q).now
  names_left folder there q is = seen q (subst (IsThere image) (sym is) there)

  -- a name in a folder that isn't there is missing
  above_there : (q : Name) → image q ≡ Folder → IsThere image (folder_of q)
  above_there q is = by (folder_of q) refl
    where
      lost : (IsThere image (folder_of q) → ⊥) → IsThere image (folder_of q)
      lost none = let no : Missing ≡ Folder = sym ((left_is 0 s).lost q none) ∙ is in let bad : ⊥ = cc in absurd bad

      stands : (folder : Name) (entry : DiskEntry) → folder_of q ≡ folder → image folder ≡ entry → (folder ≡ [] → ⊥) → IsThere image (folder_of q)
      stands folder Folder at here some = inr (ap image at ∙ here)
      stands folder Missing at here some = lost (λ there. ⊎_elim (λ root. some (sym at ∙ root)) (λ folder_is. let no : Missing ≡ Folder = sym here ∙ ap image (sym at) ∙ folder_is in let bad : ⊥ = cc in bad) there)
      stands folder (File a u) at here some = lost (λ there. ⊎_elim (λ root. some (sym at ∙ root)) (λ folder_is. let no : File a u ≡ Folder = sym here ∙ ap image (sym at) ∙ folder_is in let bad : ⊥ = cc in bad) there)

      by : (folder : Name) → folder_of q ≡ folder → IsThere image (folder_of q)
      by [] is = inl is
      by (d ∷ ds) is = stands (d ∷ ds) (image (d ∷ ds)) is refl (λ e. let bad : ⊥ = cc in bad)

  keyspaces_there : image (codes "keyspaces") ≡ Folder
  keyspaces_there = ⊎_elim
      (λ root. let no : codes "keyspaces" ≡ [] = sym (folder_of-folder 0 (omega arith)) ∙ root in let bad : ⊥ = cc in absurd bad)
      (λ stands. ap image (sym (folder_of-folder 0 (omega arith))) ∙ stands) (above_there (keyspace_folder 0) sound.folder)

  folder_place : (q : Name) → image q ≡ keeping 0 (s q).now → image q ≡ Folder → (s q).older ≡ [] → s q ≡ only Folder
  folder_place q seen_as is older = λ j. record { now = kept_folder 0 (s q).now (sym seen_as ∙ is) j; older = older j }

  keyspaces_place : s (codes "keyspaces") ≡ only Folder
  keyspaces_place = folder_place (codes "keyspaces") (in_root (codes "keyspaces") refl) keyspaces_there (rest.root (codes "keyspaces") refl)

  home_place : (id : ℕ) → id < 2 ^ 64 → image (keyspace_folder id) ≡ Folder → s (keyspace_folder id) ≡ only Folder
  home_place id small is =
      let at = folder_of-folder id small in
      folder_place (keyspace_folder id) (names_left (codes "keyspaces") (inr keyspaces_there) (keyspace_folder id) at) is (rest.folders.0 (keyspace_folder id) at)

  -- ---- a home of tree 0 or of a keyspace that lives

  module _ (id : ℕ) (has : Contains (ids_with c.keyspaces.living) id) where
    small : id < 2 ^ 64
    small = each_in (λ n. n < 2 ^ 64) (ids_with c.keyspaces.living) id has (ids_fit c.keyspaces sound.catalog.are)

    inside : (q : Name) → folder_of q ≡ keyspace_folder id → (s q).older ≡ []
    inside = each_in (λ f. (q : Name) → folder_of q ≡ f → (s q).older ≡ []) (map keyspace_folder (ids_with c.keyspaces.living)) (keyspace_folder id) (contains_map keyspace_folder (ids_with c.keyspaces.living) id has) rest.folders.1

    file_synced : IsSynced (s (current_name id)).now
    file_synced = each_in (λ f. IsSynced (s f).now) (map current_name (ids_with c.keyspaces.living)) (current_name id) (contains_map current_name (ids_with c.keyspaces.living) id has) rest.ended.1

    -- all of its records are whole
    records_safe : (records : List Fields) (h : Home) → HasHome image id records h → IsSafe s (current_name id) (flat_map record_text records)
    records_safe records h stands =
        let bytes = file_synced.0 in
        let text : records_text image id ≡ bytes = whole_text (current_name id) bytes (subst (IsThere image) (sym (folder_of-current id)) (inr stands.folder)) file_synced.1 in
        let whole : IsRecords bytes records stands.files.end = subst (λ t. IsRecords t records stands.files.end) text stands.files.whole in
        let now_text : text_in (s (current_name id)).now ≡ bytes = ap text_in file_synced.1 ∙ append-nil bytes in
        let short = rest.records id has records stands.files.end (subst (λ t. IsRecords t records stands.files.end) (sym now_text) whole) in
        let count = ap length now_text in
        let all : bytes ≡ flat_map record_text records = sym (take_all stands.files.end bytes (omega (arith, short, count))) ∙ whole.texts in
        safe (current_name id) (flat_map record_text records) (file_synced.1 ∙ ap (λ l. File l []) all) (inside (current_name id) (folder_of-current id))

    -- a table is synced: a crash that keeps all its bytes leaves as many as one that keeps none of the unsynced ones
    table_safe : (n : ℕ) (bytes : List ℕ) → n < 2 ^ 64 → ((k : ℕ) → (left k s (keyspace_folder id) ≡ Folder) × ((text : List ℕ) × HoldsText (left k s) (table_name id n) text × (length text ≡ length bytes)))
        → HoldsText image (table_name id n) bytes → IsSafe s (table_name id n) bytes
    table_safe n bytes fits all here =
        let name = table_name id n in
        let at : (k : ℕ) → left k s name ≡ keeping k (s name).now = λ k. left_there k s name (subst (IsThere (left k s)) (sym (folder_of-table id n fits)) (inr (all k).0)) in
        let counts : (k : ℕ) → length (text_in (keeping k (s name).now)) ≡ length bytes = λ k. (let one = (all k).1 in ap (λ (e : DiskEntry). length (text_in e)) (sym (at k)) ∙ ap length one.1.1 ∙ one.2) in
        let whole = same_whole (s name).now (length bytes) (was_file (s name).now (subst IsFile (at 0) here.0)) counts in
        let text : whole.0 ≡ bytes = sym whole.2 ∙ ap text_in (sym (at 0)) ∙ here.1 in
        safe name bytes (whole.1 ∙ ap (λ l. File l []) text) (inside name (folder_of-table id n fits))
      where
        was_file : (e : DiskEntry) → IsFile (keeping 0 e) → IsFile e
        was_file Missing file = file
        was_file Folder file = file
        was_file (File synced unsynced) file = tt

    -- whatever it keeps, a crash leaves the folder with as many bytes in each of these tables
    abbrev Leaves : List TableInfo → List (List ℕ) → Type 0
    Leaves tables texts = (k : ℕ) → (left k s (keyspace_folder id) ≡ Folder) × ((others : List (List ℕ)) × HoldTables (left k s) id tables others × (map length others ≡ map length texts))

    first_left : (t : TableInfo) (tables : List TableInfo) (bytes : List ℕ) (texts others : List (List ℕ)) (k : ℕ) → HoldTables (left k s) id (t ∷ tables) others → map length others ≡ map length (bytes ∷ texts)
        → ((text : List ℕ) × HoldsText (left k s) (table_name id t.id) text × (length text ≡ length bytes)) × ((rests : List (List ℕ)) × HoldTables (left k s) id tables rests × (map length rests ≡ map length texts))
    first_left t tables bytes texts [] k holds counts = absurd holds
    first_left t tables bytes texts (text ∷ others) k holds counts = ((text, holds.0, cc), (others, holds.1, cc))

    tables_safe : (tables : List TableInfo) (texts : List (List ℕ)) → AllByRecursion (λ t. t.id < 2 ^ 64) tables → HoldTables image id tables texts → Leaves tables texts → AreSafe s id tables texts
    tables_safe [] [] fits holds leaves = tt
    tables_safe [] (bytes ∷ texts) fits holds leaves = absurd holds
    tables_safe (t ∷ tables) [] fits holds leaves = absurd holds
    tables_safe (t ∷ tables) (bytes ∷ texts) fits holds leaves = (
      table_safe t.id bytes fits.0 (λ k. let all = leaves k in (all.0, (first_left t tables bytes texts all.1.0 k all.1.1 all.1.2).0)) holds.0,
      tables_safe tables texts fits.1 holds.1 (λ k. let all = leaves k in (all.0, (first_left t tables bytes texts all.1.0 k all.1.1 all.1.2).1)),
    )

    home_rests : (records : List Fields) (h : Home) → HasHome image id records h → ((k : ℕ) → HasCounts (left k s) id h) → homes.Rests s id records h
    home_rests records h stands counts =
        let fits = each_more (IsGiven h.last.next_table_id) (λ (t : TableInfo). t.id < 2 ^ 64) (λ t given. given.0) h.last.tables (all_given h.last (last_has IsRecord records h.last stands.files.whole.each stands.files.last_is)) in
        record {
          keyspaces_folder = keyspaces_place;
          folder = home_place id small stands.folder;
          current = records_safe records h stands;
          each = stands.files.whole.each;
          last_is = stands.files.last_is;
          tables = tables_safe h.last.tables h.texts fits stands.files.tables (λ k. let all = counts k in (all.folder, (all.texts, all.tables, all.counts)));
        }

  -- ---- the keyspaces

  -- what another crash leaves holds the same
  others : (k : ℕ) → IsOpenable (left k s) c
  others k = rest.images (left k s) (left_is k s)

  catalog_rests : CatalogRests s sound.records c.last c.keyspaces
  catalog_rests =
      let says = sound.catalog in
      record {
        texts = says.texts;
        home = home_rests 0 (0, omega arith, refl) sound.records (home_of c.last says.texts) (record { folder = sound.folder; files = says.files })
            (λ k. catalog_counts image (left k s) sound.records (others k).records c.last c.last c.keyspaces c.keyspaces says refl (others k).catalog (others k).folder);
        pairs = says.pairs;
        next = says.next;
        are = says.are;
      }

  -- the same home is there in what another crash leaves
  home_counts : (id : ℕ) (h : Home) → KeyspaceLives c.keyspaces.living id → get c.homes id ≡ Some h → HasOpenableHome image id h → (k : ℕ) → HasCounts (left k s) id h
  home_counts id h lives at stands k =
      let there = is_housed (left k s) c.keyspaces.living c.homes id (others k).homes (lives_found c.keyspaces.living id lives) in
      let both : Some there.0 ≡ Some h = sym there.1 ∙ at in
      let same : there.0 ≡ h = cc in
      open_counts image (left k s) id h there.0 stands (ap (λ (i : Home). i.last) same) there.2

  safe_home : (id : ℕ) (h : Home) → KeyspaceLives c.keyspaces.living id → get c.homes id ≡ Some h → HasOpenableHome image id h → HasSafeHome s id h
  safe_home id h lives at stands = record {
    records = stands.records;
    rests = home_rests id (with_living c.keyspaces.living id lives) stands.records h stands.home (home_counts id h lives at stands);
    indexes = stands.indexes;
    indexed = stands.indexed;
    clears = stands.clears;
  }

  pub rests_in_tree : HaveVersions c.homes c.versions → RestsInTree s sound.records (tree_of c)
  rests_in_tree have = record {
    named = λ name inside none. subst (λ (es : List DiskEntry). AllByRecursion IsNoFolder ((s name).now ∷ es)) (sym (rest.folders.0 name inside))
        (no_folder (s name).now (λ folder. sound.keyspaces_named name inside (names_left (codes "keyspaces") (inr keyspaces_there) name inside ∙ ap (keeping 0) folder) none), tt);
    catalog = catalog_rests;
    made = sound.made;
    homes = homes_safe image c.keyspaces.living c.homes s safe_home sound.homes;
    versions = have;
  }
