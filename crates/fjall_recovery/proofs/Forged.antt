-- Where whole batches or records are forged: what stands then.
use Rattle.std.proofs.Common.{◌≡◌, inl, ℕ, suc, ◌<◌, ◌^◌, true, false, List, [], ◌∷◌, ◌++◌, drop, length, map, codes, None, refl, sym, ◌∙◌, ap, subst, arith, append_assoc}
use Rattle.std.specs.Prelude.{Contains, not}
use Rattle.std.specs.Ordering.{nat_cmp}
use Rattle.std.specs.FinMap.{empty, get-empty}
use Rattle.std.specs.List.{AllByRecursion}
use Rattle.std.proofs.lemmas.List.{append-nil, drop_at, map-append}
use Rattle.std.proofs.lemmas.List.Kept.{AllPairs-from_increasing}
use Rattle.std.proofs.lemmas.Grind.{flat_map-append}
use Rattle.std.proofs.lemmas.List.Elements.{All-nil}
use Rattle.fjall_base.specs.Disk.{Name, DiskEntry, Image, IsFile}
use Rattle.fjall_files.specs.Marker.{marker_tells}
use Rattle.fjall_files.specs.Names.{Journal, Version, current_name, journal_name, keyspace_folder}
use Rattle.fjall_files.specs.Texts.{text_in}
use Rattle.fjall_files.proofs.Distinct.{journals, kept}
use Rattle.fjall_journal.specs.declared.batch.Tail.TheVariants.{Clean}
use Rattle.fjall_journal.specs.Batches.{Written, IsAll, IsWritten, batch_text, shown}
use Rattle.fjall_journal.proofs.Wholes.{whole_grows}
use Rattle.fjall_manifest.specs.Records.{Fields, IsRecords, record_text}
use Rattle.fjall_manifest.proofs.Currents.{records_grow}
use Rattle.fjall_meta.specs.Keyspaces.{no_keyspaces}
use Rattle.fjall_meta.proofs.Rising.{Rises, from_pairs}
use Rattle.fjall_manifest.specs.Catalog.{Says, fields, first_catalog, records_in}
use Rattle.fjall_manifest.proofs.Shapes.{first_fits}
use Rattle.fjall_meta.specs.Contents.{store_held}
use Rattle.fjall_meta.specs.Replays.{bare, first_fault}
use Rattle.fjall_recovery.specs.Folders.{Contents, ImageStandsFor, IsSound, file_bytes}
use Rattle.fjall_recovery.specs.Halves.{HasRoot, HasTree, is_of_keyspaces, is_of_root}
use Rattle.fjall_recovery.specs.Homes.{HasHomeAt, HaveHomes, stored_in}
use Rattle.fjall_recovery.specs.Journals.{AreJournalIds, AreJournalsRead, WholeJournal, ReadsAs, batches_in, journal_text}
use Rattle.fjall_recovery.proofs.Holding.{made, root_of, tree_of}
use Rattle.fjall_recovery.proofs.Named.{current_within, journal_within}
use Rattle.fjall_recovery.proofs.Roots.{roots_alike}
use Rattle.fjall_recovery.proofs.Trees.{trees_alike}
use Rattle.fjall_recovery.proofs.Longer.{elsewhere, file_at, folder_at, text_at_name, with_more}
use Rattle.fjall_recovery.proofs.Folders.{lawful, none_stored}

-- ---- parts of a folder

has_tree : (image : Image) (c : Contents) → IsSound image c → HasTree image (tree_of c)
has_tree image c sound = record {
  named = sound.openable.keyspaces_named;
  folder = sound.openable.folder;
  records = sound.openable.records;
  catalog = sound.openable.catalog;
  made = sound.openable.made;
  homes = sound.openable.homes;
  versions = sound.versions;
}

-- no name is of the root and of `keyspaces`
parted : (q : Name) → is_of_keyspaces q ≡ true → is_of_root q ≡ true → ⊥
parted q within outside = let no : true ≡ false = sym outside ∙ ap not within in cc

no_marker : (id : ℕ) → id < 2 ^ 64 → codes "version" ≡ journal_name id → ⊥
no_marker id small e = let no : Version ≡ Journal id = kept Version (Journal id) tt small e in cc

-- ---- a batch

abbrev ids_of : List WholeJournal → List ℕ
ids_of journals = map (λ (j : WholeJournal). j.id) journals

first_in : (x : ℕ) (xs : List ℕ) → Contains (x ∷ xs) x
first_in x xs = (0, omega arith, refl)

later_in : (x n : ℕ) (xs : List ℕ) → Contains xs n → Contains (x ∷ xs) n
later_in x n xs (k, lt, at) = (suc k, omega (arith, lt), at)

last_in : (sealed : List WholeJournal) (active : WholeJournal) → Contains (ids_of (sealed ++ active ∷ [])) active.id
last_in [] active = first_in active.id []
last_in (j ∷ sealed) active = later_in j.id active.id (ids_of (sealed ++ active ∷ [])) (last_in sealed active)

-- no sealed journal has the active one's name
names_apart : (sealed : List WholeJournal) (active : WholeJournal) → Rises (λ x y. x < y) (ids_of (sealed ++ active ∷ [])) → ((n : ℕ) → Contains (ids_of (sealed ++ active ∷ [])) n → n < 2 ^ 64)
    → AllByRecursion (λ (j : WholeJournal). journal_name j.id ≡ journal_name active.id → ⊥) sealed
names_apart [] active rises small = tt
names_apart (j ∷ sealed) active rises small =
    let ids = ids_of (sealed ++ active ∷ []) in
    let last = last_in sealed active in
    let below : j.id < active.id = subst (λ (n : ℕ). j.id < n) last.2 (rises.0 last.0 active.id last.1) in (
      (λ alike. let same = journals j.id active.id (small j.id (first_in j.id ids)) (small active.id (later_in j.id active.id ids last)) alike in omega (arith, same, below)),
      names_apart sealed active rises.1 (λ n has. small n (later_in j.id n ids has)),
    )

-- the sealed journals read as they did, and the active one as another one of its id
reads_but_last : (image other : Image) (sealed : List WholeJournal) (active grown : WholeJournal) → AllByRecursion (λ (j : WholeJournal). journal_text other j.id ≡ journal_text image j.id) sealed → ReadsAs (journal_text other grown.id) grown.batches Clean
    → AreJournalsRead image (sealed ++ active ∷ []) → AreJournalsRead other (sealed ++ grown ∷ [])
reads_but_last image other [] active grown alike last read = inl last
reads_but_last image other (j ∷ []) active grown alike last read = (subst (λ (v : List ℕ). ReadsAs v j.batches Clean) (sym alike.0) read.0, inl last)
reads_but_last image other (j ∷ k ∷ sealed) active grown alike last read = (subst (λ (v : List ℕ). ReadsAs v j.batches Clean) (sym alike.0) read.0, reads_but_last image other (k ∷ sealed) active grown alike.1 last read.1)

-- the journal with one more batch
abbrev pub grown_by : Written → WholeJournal → WholeJournal
grown_by forged j = record { id = j.id; batches = j.batches ++ forged ∷ [] }

-- the image in which that batch stands behind those of the journal
abbrev pub with_batch : Image → ℕ → Written → Image
with_batch image id forged = with_more image (journal_name id) (batch_text forged)

-- the batches of all journals, and that one
one_more : (sealed : List WholeJournal) (active : WholeJournal) (forged : Written) → batches_in (sealed ++ active ∷ []) ++ forged ∷ [] ≡ batches_in (sealed ++ grown_by forged active ∷ [])
one_more sealed active forged =
    let behind = λ (j : WholeJournal). flat_map-append (λ (k : WholeJournal). k.batches) sealed (j ∷ []) ∙ ap (λ (l : List Written). batches_in sealed ++ l) (append-nil j.batches) in
    ap (λ (l : List Written). l ++ forged ∷ []) (behind active) ∙ append_assoc (batches_in sealed) active.batches (forged ∷ []) ∙ sym (behind (grown_by forged active))

module _ (image : Image) (sealed : List WholeJournal) (active : WholeJournal) (forged : Written) (root : HasRoot image (sealed ++ active ∷ [])) where
  active_stands : (active.id < 2 ^ 64) × IsFile (image (journal_name active.id))
  active_stands = (root.holds.ids.each active.id).0 (last_in sealed active)

  others_stay : AllByRecursion (λ (j : WholeJournal). journal_text (with_batch image active.id forged) j.id ≡ journal_text image j.id) sealed
  others_stay =
      let rises = from_pairs (λ x y. x < y) (ids_of (sealed ++ active ∷ [])) (AllPairs-from_increasing (ids_of (sealed ++ active ∷ [])) root.holds.ids.ascending) in
      stay sealed (names_apart sealed active rises (λ n has. ((root.holds.ids.each n).0 has).0))
    where
      stay : (some : List WholeJournal) → AllByRecursion (λ (j : WholeJournal). journal_name j.id ≡ journal_name active.id → ⊥) some → AllByRecursion (λ (j : WholeJournal). journal_text (with_batch image active.id forged) j.id ≡ journal_text image j.id) some
      stay [] apart = tt
      stay (j ∷ some) apart = (ap (λ (e : DiskEntry). text_in e) (elsewhere image (journal_name active.id) (batch_text forged) (journal_name j.id) apart.0), stay some apart.1)

  forged_reads : IsAll (journal_text image active.id) active.batches → IsWritten forged → ReadsAs (journal_text (with_batch image active.id forged) active.id) (active.batches ++ forged ∷ []) Clean
  forged_reads all is =
      let more = journal_text image active.id ++ batch_text forged in
      let text : journal_text (with_batch image active.id forged) active.id ≡ more = text_at_name image (journal_name active.id) (batch_text forged) active_stands.1 in
      subst (λ (v : List ℕ). ReadsAs v (active.batches ++ forged ∷ []) Clean) (sym text) (record {
        end = length more;
        whole = whole_grows (journal_text image active.id) active.batches forged all is;
        behind = ap (drop (length more)) (sym (append-nil more)) ∙ drop_at more [] (length more) refl;
      })

  forged_root : IsAll (journal_text image active.id) active.batches → IsWritten forged → first_fault 0 (map shown (batches_in (sealed ++ active ∷ []) ++ forged ∷ [])) ≡ None
      → HasRoot (with_batch image active.id forged) (sealed ++ grown_by forged active ∷ [])
  forged_root all is faultless =
      let file = file_at image (journal_name active.id) (batch_text forged) in
      let ids : ids_of (sealed ++ active ∷ []) ≡ ids_of (sealed ++ grown_by forged active ∷ []) = map-append (λ (j : WholeJournal). j.id) sealed (active ∷ []) ∙ sym (map-append (λ (j : WholeJournal). j.id) sealed (grown_by forged active ∷ [])) in
      record {
        marker = ap (λ (e : DiskEntry). marker_tells (file_bytes e)) (elsewhere image (journal_name active.id) (batch_text forged) (codes "version") (no_marker active.id active_stands.0)) ∙ root.marker;
        named = λ name inside stands misnamed. root.named name inside ((file name).1 stands) misnamed;
        holds = record {
          ids = subst (AreJournalIds (with_batch image active.id forged)) ids (record {
            ascending = root.holds.ids.ascending;
            each = λ n. (
              (λ has. let at = (root.holds.ids.each n).0 has in (at.0, (file (journal_name n)).0 at.1)),
              (λ at. (root.holds.ids.each n).1 (at.0, (file (journal_name n)).1 at.1)),
            );
          });
          read = reads_but_last image (with_batch image active.id forged) sealed active (grown_by forged active) others_stay (forged_reads all is) root.holds.read;
          sound = ap (λ (l : List Written). first_fault 0 (map shown l)) (sym (one_more sealed active forged)) ∙ faultless;
        };
      }

pub active_file : (image : Image) (c : Contents) (sealed : List WholeJournal) (active : WholeJournal) → IsSound image c → c.journals ≡ sealed ++ active ∷ [] → IsFile (image (journal_name active.id))
active_file image c sealed active sound are =
    let root : HasRoot image (sealed ++ active ∷ []) = subst (HasRoot image) are (root_of image c sound.openable) in
    ((root.holds.ids.each active.id).0 (last_in sealed active)).1

pub forged_batch_stands : (image : Image) (c : Contents) (sealed : List WholeJournal) (active : WholeJournal) (forged : Written) → IsSound image c → c.journals ≡ sealed ++ active ∷ []
    → IsAll (journal_text image active.id) active.batches → IsWritten forged → first_fault 0 (map shown (batches_in c.journals ++ forged ∷ [])) ≡ None
    → ImageStandsFor (with_batch image active.id forged) (store_held c.keyspaces (stored_in c.homes c.versions) (map shown (batches_in c.journals ++ forged ∷ [])))
forged_batch_stands image c sealed active forged sound are all is faultless =
    let name = journal_name active.id in
    let root : HasRoot image (sealed ++ active ∷ []) = subst (HasRoot image) are (root_of image c sound.openable) in
    let stands = active_stands image sealed active forged root in
    let other : (q : Name) → is_of_keyspaces q ≡ true → with_batch image active.id forged q ≡ image q =
    λ q within. elsewhere image name (batch_text forged) q (λ at. parted name (subst (λ (n : Name). is_of_keyspaces n ≡ true) at within) (journal_within active.id stands.0)) in
    let found : Contents = record { journals = sealed ++ grown_by forged active ∷ []; keyspaces = c.keyspaces; last = c.last; homes = c.homes; versions = c.versions } in
    let none : first_fault 0 (map shown (batches_in (sealed ++ active ∷ []) ++ forged ∷ [])) ≡ None = subst (λ (l : List WholeJournal). first_fault 0 (map shown (batches_in l ++ forged ∷ [])) ≡ None) are faultless in
    let grown : batches_in c.journals ++ forged ∷ [] ≡ batches_in (sealed ++ grown_by forged active ∷ []) = ap (λ (l : List WholeJournal). batches_in l ++ forged ∷ []) are ∙ one_more sealed active forged in
    inl (
      found,
      made (with_batch image active.id forged) found (forged_root image sealed active forged root all is none) (trees_alike image (with_batch image active.id forged) (tree_of c) other (has_tree image c sound)),
      ap (λ (l : List Written). store_held c.keyspaces (stored_in c.homes c.versions) (map shown l)) grown,
    )

-- ---- a record

abbrev first_text : List ℕ
first_text = record_text (fields first_catalog)

-- tree 0 with the first record once more
abbrev pub with_first_record : Image → Image
with_first_record image = with_more image (current_name 0) first_text

module _ (image : Image) (c : Contents) (sound : IsSound image c) (records : List Fields) where
  forged_says : IsRecords (records_in image) records (length (records_in image)) → Says (with_first_record image) (records ++ fields first_catalog ∷ []) first_catalog no_keyspaces
  forged_says whole =
      let current = sound.openable.catalog.files.current in
      let grown = records_grow (records_in image) records (fields first_catalog) whole (first_fits None 1 tt (omega arith)) in
      let text : records_in (with_first_record image) ≡ records_in image ++ first_text = text_at_name image (current_name 0) first_text current in
      record {
        texts = [];
        files = record {
          current = (file_at image (current_name 0) first_text (current_name 0)).0 current;
          end = length (records_in image ++ first_text);
          whole = subst (λ (v : List ℕ). IsRecords v (records ++ fields first_catalog ∷ []) (length (records_in image ++ first_text))) (sym text) grown.0;
          last_is = grown.1;
          tables = tt;
        };
        pairs = refl;
        next = refl;
        are = lawful;
      }

  no_homes : HaveHomes (with_first_record image) [] empty
  no_homes id = subst (HasHomeAt (with_first_record image) id None) (sym (get-empty nat_cmp id)) tt

  pub forged_record_stands : IsRecords (records_in image) records (length (records_in image)) → ImageStandsFor (with_first_record image) (bare no_keyspaces)
  forged_record_stands whole =
      let tree = has_tree image c sound in
      let folder = folder_at image (current_name 0) first_text in
      let other : (q : Name) → is_of_root q ≡ true → with_first_record image q ≡ image q =
      λ q outside. elsewhere image (current_name 0) first_text q (λ at. parted (current_name 0) (current_within 0) (subst (λ (n : Name). is_of_root n ≡ true) at outside)) in
      let found : Contents = record { journals = c.journals; keyspaces = no_keyspaces; last = first_catalog; homes = empty; versions = empty } in
      inl (
        found,
        made (with_first_record image) found (roots_alike image (with_first_record image) c.journals other (root_of image c sound.openable)) (record {
          named = λ name inside is stray. tree.named name inside ((folder name).1 is) stray;
          folder = (folder (keyspace_folder 0)).0 tree.folder;
          records = records ++ fields first_catalog ∷ [];
          catalog = forged_says whole;
          made = All-nil _;
          homes = no_homes;
          versions = none_stored (with_first_record image) empty no_homes;
        }),
        refl,
      )
