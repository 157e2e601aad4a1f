-- A wild image in which an opening finds nothing wrong stands for each store that the image stands for that is cut from it.
use Rattle.std.proofs.Common.{◌≡◌, ◌⊎◌, inl, inr, ⊎_elim, ℕ, ◌<◌, Bool, true, false, List, [], ◌∷◌, ◌++◌, take, drop, length, map, codes, Option, None, Some, refl, sym, ◌∙◌, ap, subst, lit<, arith, append_assoc, take-append-drop}
use Rattle.std.specs.Prelude.{◌&&◌, nat_lt, Ok, Result}
use Rattle.std.specs.Str.{bytes_eq}
use Rattle.std.proofs.lemmas.Bool.Decides.{nat_tests}
use Rattle.std.proofs.lemmas.List.{take_at, length-append}
use Rattle.std.proofs.lemmas.List.Elements.{All-nil}
use Rattle.std.proofs.lemmas.Slice.Eq.{bytes_eq-Decides}
use Rattle.std.specs.Ordering.{nat_cmp}
use Rattle.std.specs.FinMap.{empty, get, get-empty}
use Rattle.fjall_base.specs.declared.error.Error.{Error}
use Rattle.fjall_base.specs.declared.error.FormatVersion.{FormatVersion}
use Rattle.fjall_base.specs.declared.error.FormatVersion.TheVariants.{V1, V2, V3}
use Rattle.fjall_base.specs.Store.{Store, Command}
use Rattle.fjall_base.specs.Disk.{Name, DiskEntry, Missing, File, Folder, Image, DiskState, DiskStep, Leaves, LeavesBy}
use Rattle.fjall_base.specs.Lists.{last_of}
use Rattle.fjall_base.proofs.Names.{bool_cases}
use Rattle.fjall_files.specs.declared.marker.Marker.{Marker}
use Rattle.fjall_files.specs.declared.marker.Marker.TheVariants.{Whole, Unfinished}
use Rattle.fjall_files.specs.Marker.{accepted, header, is_cut_short, marker_tells, version_at}
use Rattle.fjall_files.specs.Names.{journal_name}
use Rattle.fjall_journal.specs.declared.batch.Tail.{Tail}
use Rattle.fjall_journal.specs.declared.batch.Tail.TheVariants.{Clean, Torn}
use Rattle.fjall_journal.specs.Batches.{IsWritten, batch_text, shown}
use Rattle.fjall_manifest.specs.Records.{Fields}
use Rattle.fjall_manifest.proofs.Currents.{one_reading}
use Rattle.fjall_manifest.specs.Homes.{Home}
use Rattle.fjall_meta.specs.declared.entry.MetaEntry.{MetaEntry}
use Rattle.fjall_meta.specs.Entries.{entries_of}
use Rattle.fjall_meta.specs.Keyspaces.{AreKeyspaces, Keyspaces, no_keyspaces}
use Rattle.fjall_meta.proofs.Alike.{one_list}
use Rattle.fjall_manifest.specs.declared.catalog.Catalog.{Catalog}
use Rattle.fjall_manifest.specs.Catalog.{ArePairs, fields, first_catalog, records_in}
use Rattle.fjall_manifest.proofs.CatalogMeanings.{one_catalog}
use Rattle.fjall_manifest.proofs.Shapes.{fields_one}
use Rattle.fjall_meta.specs.Replays.{bare}
use Rattle.fjall_meta.specs.Contents.{store_held}
use Rattle.fjall_recovery.specs.Amid.{StandsAmid}
use Rattle.fjall_recovery.specs.Folders.{Contents, IsBegun, IsOpenable, IsSound, IsUnfinished, ImageStandsFor, file_bytes, marker_bytes, store_of_contents, with_versions}
use Rattle.fjall_recovery.specs.Held.{IsOpenFolder}
use Rattle.fjall_recovery.specs.Homes.{HasHomeAt, HasVersionsAt, HaveHomes, HaveVersions, Homes, stored_in}
use Rattle.fjall_recovery.specs.Journals.{AreJournalIds, AreJournalsRead, HoldsJournals, WholeJournal, ReadsAs, batches_in, journal_text}
use Rattle.fjall_recovery.proofs.Alone.{one_list_of_journals}
use Rattle.fjall_recovery.specs.Wild.{IsCutFrom, NoneForged, SurvivesUnforged}
use Rattle.fjall_recovery.proofs.Cutting.{cut_amid}
use Rattle.fjall_recovery.proofs.Texts.{clean_front, torn_or_clean_front}
use Rattle.fjall_recovery.proofs.Tables.{catalog_front, homes_front, records_alike}

-- ---- the marker

both_true : (a b : Bool) → (a && b) ≡ true → (a ≡ true) × (b ≡ true)
both_true true b is = (refl, is)
both_true false b is = let no : ⊥ = cc in absurd no

never_accepted : (version : Option FormatVersion) → accepted version ≡ Ok Unfinished → ⊥
never_accepted None is = cc
never_accepted (Some V1) is = cc
never_accepted (Some V2) is = cc
never_accepted (Some V3) is = cc

cut_short : (text : List ℕ) → marker_tells (Some text) ≡ Ok Unfinished → is_cut_short text ≡ true
cut_short text tells = elim (bool_cases (is_cut_short text)) [
  | inl is ↦ is
  | inr not ↦ let other : accepted (version_at text) ≡ Ok Unfinished = rw not at tells in absurd (never_accepted (version_at text) other)
]

tells_cut : (text : List ℕ) → is_cut_short text ≡ true → marker_tells (Some text) ≡ Ok Unfinished
tells_cut text is = rw is refl

short_header : (text more : List ℕ) → text ++ more ≡ header V3 → length text < 4 → is_cut_short text ≡ true
short_header text more at lt =
    let low : nat_lt (length text) 4 ≡ true = grind (arith, nat_tests) in
    let same : text ≡ take (length text) (header V3) = sym (take_at text more (length text) refl) ∙ ap (take (length text)) at in
    let test : bytes_eq text (take (length text) (header V3)) ≡ true = (bytes_eq-Decides text (take (length text) (header V3))).1 same in
    rw (low, test) refl

low_of : (n : ℕ) → nat_lt n 4 ≡ true → n < 4
low_of n is = grind (arith, nat_tests)

cut_front : (text more : List ℕ) → is_cut_short (text ++ more) ≡ true → is_cut_short text ≡ true
cut_front text more is =
    let parts = both_true (nat_lt (length (text ++ more)) 4) (bytes_eq (text ++ more) (take (length (text ++ more)) (header V3))) is in
    let low = low_of (length (text ++ more)) parts.0 in
    let same : text ++ more ≡ take (length (text ++ more)) (header V3) = (bytes_eq-Decides (text ++ more) (take (length (text ++ more)) (header V3))).0 parts.1 in
    let rest = drop (length (text ++ more)) (header V3) in
    let at : text ++ (more ++ rest) ≡ header V3 = sym (append_assoc text more rest) ∙ ap (λ (l : List ℕ). l ++ rest) same ∙ take-append-drop (length (text ++ more)) (header V3) in
    short_header text (more ++ rest) at (omega (arith, low, length-append text more))

marker_front : (e d : DiskEntry) → IsCutFrom e d → marker_tells (file_bytes e) ≡ Ok Unfinished → marker_tells (file_bytes d) ≡ Ok Unfinished
marker_front e Missing front tells = refl
marker_front e Folder front tells = refl
marker_front Missing (File a b) front tells = absurd (front.file.1 tt)
marker_front Folder (File a b) front tells = absurd (front.file.1 tt)
marker_front (File x y) (File a b) front tells =
    tells_cut (a ++ b) (cut_front (a ++ b) front.rest (ap is_cut_short (sym front.text) ∙ cut_short (x ++ y) tells))

not_both : (told : Result Marker Error) → told ≡ Ok Whole → told ≡ Ok Unfinished → ⊥
not_both told whole unfinished = let no = sym whole ∙ unfinished in cc

-- ---- tree 0 whose first record alone is there

pub lawful : AreKeyspaces no_keyspaces
lawful = record {
  begun = omega arith;
  fits = lit< tt;
  ids = All-nil _;
  given = All-nil _;
  ascending = λ i j d lt below. absurd (omega (arith, below));
  names = All-nil _;
  distinct = λ i j d lt below. absurd (omega (arith, below));
  options = All-nil _;
}

no_pairs : (texts : List (List ℕ)) (entries : List MetaEntry) → ArePairs None texts entries → entries ≡ []
no_pairs [] entries is = is
no_pairs (bytes ∷ texts) entries is = absurd is

no_last : (records : List Fields) (last : Fields) → last_of records ≡ Some last → records ≡ [] → ⊥
no_last records last is none = let no : None ≡ Some last = ap (λ (l : List Fields). last_of l) (sym none) ∙ is in cc

first_last : (records : List Fields) (last : Catalog) → last_of records ≡ Some (fields last) → records ≡ fields first_catalog ∷ [] → last ≡ first_catalog
first_last records last is first =
    let some : Some (fields first_catalog) ≡ Some (fields last) = ap (λ (l : List Fields). last_of l) (sym first) ∙ is in
    let same : fields last ≡ fields first_catalog = cc in
    fields_one last first_catalog same

no_versions : (image : Image) (id : ℕ) (h : Option Home) → HasHomeAt image id None h → HasVersionsAt h None
no_versions image id (Some h) has = absurd has
no_versions image id None has = tt

-- where no keyspace lives there are no versions
pub none_stored : (image : Image) (homes : Homes) → HaveHomes image [] homes → HaveVersions homes empty
none_stored image homes none id = subst (HasVersionsAt (get homes id)) (sym (get-empty nat_cmp id)) (no_versions image id (get homes id) (none id))

module _ (wild cut : Image) (fronts : (q : Name) → IsCutFrom (wild q) (cut q)) where
  -- ---- journals

  batches_held : (id : ℕ) → NoneForged batch_text IsWritten (journal_text cut id) (journal_text cut id ++ (fronts (journal_name id)).rest)
  batches_held id = let at = fronts (journal_name id) in subst (NoneForged batch_text IsWritten (journal_text cut id)) at.text at.unforged.batches

  whole_journal : (j : WholeJournal) (tail : Tail) → ReadsAs (journal_text wild j.id) j.batches tail → ReadsAs (journal_text cut j.id ++ (fronts (journal_name j.id)).rest) j.batches tail
  whole_journal j tail reads = subst (λ (v : List ℕ). ReadsAs v j.batches tail) (fronts (journal_name j.id)).text reads

  sealed_journal : (j : WholeJournal) → ReadsAs (journal_text wild j.id) j.batches Clean → ReadsAs (journal_text cut j.id) j.batches Clean
  sealed_journal j clean = clean_front (journal_text cut j.id) (fronts (journal_name j.id)).rest (batches_held j.id) j.batches (whole_journal j Clean clean)

  active_journal : (j : WholeJournal) → ReadsAs (journal_text wild j.id) j.batches Clean ⊎ ReadsAs (journal_text wild j.id) j.batches Torn → ReadsAs (journal_text cut j.id) j.batches Clean ⊎ ReadsAs (journal_text cut j.id) j.batches Torn
  active_journal j (inl clean) = inl (sealed_journal j clean)
  active_journal j (inr torn) = torn_or_clean_front (journal_text cut j.id) (fronts (journal_name j.id)).rest (batches_held j.id) j.batches (whole_journal j Torn torn)

  reads_front : (journals : List WholeJournal) → AreJournalsRead wild journals → AreJournalsRead cut journals
  reads_front [] read = tt
  reads_front (j ∷ []) read = active_journal j read
  reads_front (j ∷ k ∷ journals) read = (sealed_journal j read.0, reads_front (k ∷ journals) read.1)

  ids_front : (ids : List ℕ) → AreJournalIds wild ids → AreJournalIds cut ids
  ids_front ids are = record {
    ascending = are.ascending;
    each = λ id. (
      (λ has. let at = (are.each id).0 has in (at.0, (fronts (journal_name id)).file.0 at.1)),
      (λ at. (are.each id).1 (at.0, (fronts (journal_name id)).file.1 at.1)),
    );
  }

  journals_front : (journals : List WholeJournal) → HoldsJournals wild journals → HoldsJournals cut journals
  journals_front journals holds = record {
    ids = ids_front (map (λ (j : WholeJournal). j.id) journals) holds.ids;
    read = reads_front journals holds.read;
    sound = holds.sound;
  }

  -- ---- the folder

  sound_front : (c d : Contents) → IsOpenable wild c → IsSound cut d → IsSound wild d
  sound_front c d opens sound =
      let s = sound.openable in
      let journals : c.journals ≡ d.journals = one_list_of_journals cut c.journals d.journals (journals_front c.journals opens.journals) s.journals in
      let says = catalog_front wild cut fronts opens.records s.records c.last d.last c.keyspaces d.keyspaces opens.catalog s.catalog in
      let same = (one_catalog wild opens.records s.records c.last d.last c.keyspaces d.keyspaces opens.catalog says).2 in
      let homes : HaveHomes wild d.keyspaces.living c.homes = subst (λ (k : Keyspaces). HaveHomes wild k.living c.homes) same opens.homes in
      record {
        openable = record {
          marker = opens.marker;
          journals_named = opens.journals_named;
          journals = subst (HoldsJournals wild) journals opens.journals;
          keyspaces_named = opens.keyspaces_named;
          folder = opens.folder;
          records = s.records;
          catalog = says;
          made = s.made;
          homes = homes_front wild cut fronts d.keyspaces.living c.homes d.homes homes s.homes;
        };
        versions = sound.versions;
      }

  -- a folder whose marker was made whole stands for no keyspaces where the other one's isn't
  first_tree : (c : Contents) → IsOpenable wild c → IsBegun (records_in cut) → c.last ≡ first_catalog
  first_tree c opens begun =
      let read = records_alike wild cut fronts 0 opens.records opens.catalog.files.end opens.catalog.files.whole in
      let same = (one_reading (records_in cut) opens.records begun.records opens.catalog.files.end begun.end read begun.whole).0 in
      ⊎_elim (λ none. absurd (no_last opens.records (fields c.last) opens.catalog.files.last_is (same ∙ none))) (λ first. first_last opens.records c.last opens.catalog.files.last_is (same ∙ first)) begun.first

  no_keyspace : (c : Contents) → IsOpenable wild c → c.last ≡ first_catalog → c.keyspaces ≡ no_keyspaces
  no_keyspace c opens first =
      let pairs : ArePairs None opens.catalog.texts (entries_of c.keyspaces.living) = subst (λ (l : Catalog). ArePairs l.table opens.catalog.texts (entries_of c.keyspaces.living)) first opens.catalog.pairs in
      let next : c.keyspaces.next ≡ 1 = opens.catalog.next ∙ ap (λ (l : Catalog). l.next_keyspace_id) first in
      one_list c.keyspaces no_keyspaces opens.catalog.are lawful next (no_pairs opens.catalog.texts (entries_of c.keyspaces.living) pairs)

  begun_front : (c : Contents) → IsOpenable wild c → IsUnfinished cut → ImageStandsFor wild (bare no_keyspaces)
  begun_front c opens begun =
      let none = no_keyspace c opens (first_tree c opens begun.catalog) in
      let homes : HaveHomes wild [] c.homes = subst (λ (k : Keyspaces). HaveHomes wild k.living c.homes) none opens.homes in
      let openable : IsOpenable wild (with_versions empty c) = record {
        marker = opens.marker;
        journals_named = opens.journals_named;
        journals = opens.journals;
        keyspaces_named = opens.keyspaces_named;
        folder = opens.folder;
        records = opens.records;
        catalog = opens.catalog;
        made = opens.made;
        homes = opens.homes;
      } in
      let sound : IsSound wild (with_versions empty c) = record { openable = openable; versions = none_stored wild c.homes homes } in
      let store : store_of_contents (with_versions empty c) ≡ bare no_keyspaces = ap (λ (k : Keyspaces). store_held k (stored_in c.homes empty) (map shown (batches_in c.journals))) none in
      inl (with_versions empty c, sound, sym store)

  unfinished_front : IsUnfinished wild → (store : Store) → ImageStandsFor cut store → store ≡ bare no_keyspaces
  unfinished_front begun store (inl (c, sound, is)) =
      absurd (not_both (marker_tells (marker_bytes cut)) sound.openable.marker (marker_front (wild (codes "version")) (cut (codes "version")) (fronts (codes "version")) begun.marker))
  unfinished_front begun store (inr (other, is)) = is

  pub stands_front : (folder : Option Contents) → IsOpenFolder wild folder → (store : Store) → ImageStandsFor cut store → ImageStandsFor wild store
  stands_front (Some c) opens store (inl (d, sound, is)) = inl (d, sound_front c d opens sound, is)
  stands_front (Some c) opens store (inr (begun, is)) = subst (ImageStandsFor wild) (sym is) (begun_front c opens begun)
  stands_front None opens store stands = inr (opens, unfinished_front opens store stands)

-- ---- at each moment

pub wild_stands : (state : DiskState) (steps : List DiskStep) (wild : Image) (folder : Option Contents) → LeavesBy SurvivesUnforged state steps wild → IsOpenFolder wild folder
    → (image : Image) × Leaves state steps image × ((store : Store) → ImageStandsFor image store → ImageStandsFor wild store)
wild_stands state steps wild folder leaves opens =
    let t = cut_amid state steps wild leaves in
    (t.0, t.1, stands_front wild t.0 t.2 folder opens)

pub wild_amid : (state : DiskState) (steps : List DiskStep) (base : Store) (least all : List Command) (wild : Image) (folder : Option Contents) → ((image : Image) → Leaves state steps image → StandsAmid base least all image)
    → LeavesBy SurvivesUnforged state steps wild → IsOpenFolder wild folder → StandsAmid base least all wild
wild_amid state steps base least all wild folder each leaves opens =
    let t = wild_stands state steps wild folder leaves opens in
    let amid = each t.0 t.1 in
    record { front = amid.front; holds = amid.holds; within = amid.within; stands = t.2 _ amid.stands }
