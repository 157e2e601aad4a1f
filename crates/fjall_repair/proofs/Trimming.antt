-- A folder in which an opening finds nothing wrong holds the same where one of its files is cut behind all that counts in it.
use Rattle.std.proofs.Common.{◌≡◌, ◌≢◌, ◌⊎◌, inl, inr, ⊎_elim, ℕ, suc, ◌<◌, ◌≤◌, ◌^◌, List, [], ◌∷◌, length, take, map, codes, All, Some, refl, sym, ◌∙◌, ap, subst, arith}
use Rattle.std.specs.Prelude.{Contains}
use Rattle.std.specs.List.{AllByRecursion}
use Rattle.std.proofs.lemmas.List.Kept.{AllPairs-from_increasing}
use Rattle.fjall_base.specs.Disk.{Name, DiskEntry, Folder, DiskState, Image, IsFile}
use Rattle.fjall_base.proofs.Lists.{front_of_part}
use Rattle.fjall_journal.specs.declared.batch.Tail.TheVariants.{Clean, Torn}
use Rattle.fjall_manifest.specs.Records.{Fields, IsRecords}
use Rattle.fjall_base.specs.Lists.{last_of}
use Rattle.fjall_files.specs.Texts.{text_in}
use Rattle.fjall_meta.proofs.Rising.{Rises, from_pairs}
use Rattle.fjall_files.specs.Names.{journal_name, current_name, table_name}
use Rattle.fjall_manifest.proofs.Resting.{last_has}
use Rattle.fjall_files.specs.Marker.{marker_tells}
use Rattle.fjall_recovery.specs.Folders.{Contents, IsOpenable, file_bytes}
use Rattle.fjall_recovery.specs.Journals.{WholeJournal, ReadsAs, AreJournalsRead, journal_text}
use Rattle.fjall_recovery.specs.Halves.{HasRoot}
use Rattle.fjall_recovery.specs.Places.{texts_of}
use Rattle.fjall_repair.specs.Steps.{EndsBatches, EndsRecords, Stays}
use Rattle.fjall_repair.proofs.Naming.{journal_current, journal_table, current_table, marker_journal, marker_current, journals_apart}
use Rattle.fjall_repair.proofs.Halving.{SaysSame, file_is, no_folder, root_of, open_tree_in, open_of, tree_of, root_along, tree_along, tree_with}
use Rattle.fjall_repair.proofs.Cutting.{Lasts, journal_cut, records_cut}

-- ---- the ids of journals

pub fits_all : (js : List WholeJournal) → ((id : ℕ) → Contains (map (λ (j : WholeJournal). j.id) js) id → id < 2 ^ 64) → AllByRecursion (λ (j : WholeJournal). j.id < 2 ^ 64) js
fits_all [] fits = tt
fits_all (j ∷ js) fits = (fits j.id (0, omega arith, refl), fits_all js (λ id has. fits id (suc has.0, omega (arith, has.1), has.2)))

last_above : (x : ℕ) (js : List WholeJournal) (a : WholeJournal) → All (λ y. x < y) (map (λ (j : WholeJournal). j.id) js) → last_of js ≡ Some a → x < a.id
last_above x [] a all is = let bad : ⊥ = cc in absurd bad
last_above x (j ∷ []) a all is = let same : j ≡ a = cc in subst (λ (b : WholeJournal). x < b.id) same (all 0 0 (omega arith))
last_above x (j ∷ k ∷ js) a all is = last_above x (k ∷ js) a (λ i d lt. all (suc i) d (omega (arith, lt))) is

-- ---- one file is cut

-- the file is there, and this is what is left of it
pub record IsCut (image other : Image) (len : ℕ) (q : Name) : Type 0 where
  pub file : IsFile (image q)
  pub still : IsFile (other q)
  pub k : ℕ
  pub le : len ≤ k
  pub text : text_in (other q) ≡ take k (text_in (image q))

-- all is alike but that file
abbrev pub Cuts : Image → Image → Name → ℕ → Type 0
Cuts image other f len = (q : Name) → (other q ≡ image q) ⊎ ((q ≡ f) × IsCut image other len q)

module _ (image other : Image) (f : Name) (len : ℕ) (at : Cuts image other f len) where
  pub elsewhere : (q : Name) → q ≢ f → other q ≡ image q
  elsewhere q not = ⊎_elim (λ same. same) (λ cut. absurd (not cut.0)) (at q)

  pub folder_back : (q : Name) → other q ≡ Folder → image q ≡ Folder
  folder_back q is = ⊎_elim (λ same. sym same ∙ is) (λ cut. absurd (no_folder (other q) cut.1.still is)) (at q)

  pub folder_stays : (q : Name) → image q ≡ Folder → other q ≡ Folder
  folder_stays q is = ⊎_elim (λ same. same ∙ is) (λ cut. absurd (no_folder (image q) cut.1.file is)) (at q)

  pub file_back : (q : Name) → IsFile (other q) → IsFile (image q)
  file_back q file = ⊎_elim (λ same. file_is _ _ same file) (λ cut. cut.1.file) (at q)

  pub file_stays : (q : Name) → IsFile (image q) → IsFile (other q)
  file_stays q file = ⊎_elim (λ same. file_is _ _ (sym same) file) (λ cut. cut.1.still) (at q)

  -- ---- the active journal

  module _ (a : WholeJournal) (named : f ≡ journal_name a.id) (is : len ≡ length (texts_of a.batches)) where
    read_last : (j : WholeJournal) → j ≡ a → AreJournalsRead image (j ∷ []) → AreJournalsRead other (j ∷ [])
    read_last j same read = ⊎_elim
        (λ alike. subst (λ t. ReadsAs t j.batches Clean ⊎ ReadsAs t j.batches Torn) (ap text_in (sym alike)) read)
        (λ cut. subst (λ t. ReadsAs t j.batches Clean ⊎ ReadsAs t j.batches Torn) (sym cut.1.text)
        (journal_cut (journal_text image j.id) j.batches cut.1.k (let n = ap (λ (b : WholeJournal). length (texts_of b.batches)) same in let le = cut.1.le in omega (arith, n, is, le)) read))
        (at (journal_name j.id))

    read_cut : (js : List WholeJournal) → AllByRecursion (λ (j : WholeJournal). j.id < 2 ^ 64) js → Rises (λ x y. x < y) (map (λ (j : WholeJournal). j.id) js) → last_of js ≡ Some a → AreJournalsRead image js → AreJournalsRead other js
    read_cut [] fits rises last read = tt
    read_cut (j ∷ []) fits rises last read = let same : j ≡ a = cc in read_last j same read
    read_cut (j ∷ k ∷ js) fits rises last read =
        let small : a.id < 2 ^ 64 = last_has (λ (b : WholeJournal). b.id < 2 ^ 64) (j ∷ k ∷ js) a fits last in
        let less : j.id < a.id = last_above j.id (k ∷ js) a rises.0 last in
        let apart : journal_name j.id ≢ f = λ same. (let equal = journals_apart j.id a.id fits.0 small (same ∙ named) in omega (arith, less, equal)) in
        (subst (λ t. ReadsAs t j.batches Clean) (ap text_in (sym (elsewhere (journal_name j.id) apart))) read.0, read_cut (k ∷ js) fits.1 rises.1 last read.1)

    root_cut : (js : List WholeJournal) → last_of js ≡ Some a → HasRoot image js → HasRoot other js
    root_cut js last root = record {
      marker = ap (λ (e : DiskEntry). marker_tells (file_bytes e)) (elsewhere (codes "version") (λ same. marker_journal a.id (same ∙ named))) ∙ root.marker;
      named = λ name in_root file. root.named name in_root (file_back name file);
      holds = record {
        ids = record {
          ascending = root.holds.ids.ascending;
          each = λ id. (
            (λ has. let here = (root.holds.ids.each id).0 has in (here.0, file_stays (journal_name id) here.1)),
            (λ here. (root.holds.ids.each id).1 (here.0, file_back (journal_name id) here.1)),
          );
        };
        read = read_cut js (fits_all js (λ id has. ((root.holds.ids.each id).0 has).0)) (from_pairs (λ x y. x < y) (map (λ (j : WholeJournal). j.id) js) (AllPairs-from_increasing (map (λ (j : WholeJournal). j.id) js) root.holds.ids.ascending)) last root.holds.read;
        sound = root.holds.sound;
      };
    }

    pub active_cut : (c : Contents) → last_of c.journals ≡ Some a → IsOpenable image c → IsOpenable other c
    active_cut c last sound = open_of other c (root_cut c.journals last (root_of image c sound))
        (tree_along image other (tree_of c) folder_back folder_stays (λ id. elsewhere (current_name id) (λ same. journal_current a.id id (sym named ∙ sym same)))
        (λ id n. elsewhere (table_name id n) (λ same. journal_table a.id id n (sym named ∙ sym same))) (open_tree_in image c sound))

  -- ---- records

  module _ (id : ℕ) (named : f ≡ current_name id) (text : List ℕ) (rs : List Fields) (whole : IsRecords text rs len) (n : ℕ) (part : text_in (image f) ≡ take n text) where
    lasts_at : (q : Name) (ps : List Fields) (end : ℕ) → IsRecords (text_in (image q)) ps end → Lasts (text_in (other q)) ps
    lasts_at q ps end reads = ⊎_elim
        (λ same. record { records = ps; end = end; whole = subst (λ t. IsRecords t ps end) (ap text_in (sym same)) reads; is = refl })
        (λ cut.
        let here : text_in (image q) ≡ take n text = ap (λ (r : Name). text_in (image r)) cut.0 ∙ part in
        subst (λ t. Lasts t ps) (ap (take cut.1.k) (sym here) ∙ sym cut.1.text)
        (records_cut text rs len n cut.1.k whole cut.1.le ps end (subst (λ t. IsRecords t ps end) here reads)))
        (at q)

    says_same : SaysSame image other
    says_same = record {
      back = folder_back;
      stays = folder_stays;
      files = λ k. file_stays (current_name k);
      lasts = λ k. lasts_at (current_name k);
      tables = λ k m. elsewhere (table_name k m) (λ same. current_table id k m (sym named ∙ sym same));
    }

    pub records_are_cut : (c : Contents) → IsOpenable image c → IsOpenable other c
    records_are_cut c sound =
        open_of other c
        (root_along image other c.journals (elsewhere (codes "version") (λ same. marker_current id (same ∙ named))) (λ j. elsewhere (journal_name j) (λ same. journal_current j id (same ∙ named))) file_back (root_of image c sound))
        (tree_with image other (tree_of c) says_same (open_tree_in image c sound))

-- ---- what stays

module _ (start : DiskState) (c : Contents) (image other : Image) (f : Name) (len : ℕ) (at : Cuts image other f len) (stays : Stays start c image) where
  parts_left : (q : Name) → (start q).older ≡ [] → (n : ℕ) × (text_in (other q) ≡ take n (text_in (start q).now))
  parts_left q older =
      let was = stays.parts q older in
      ⊎_elim (λ same. (was.0, ap text_in same ∙ was.1))
      (λ cut. let front = front_of_part [] (text_in (start q).now) cut.1.k was.0 in (front.0, cut.1.text ∙ ap (take cut.1.k) was.1 ∙ front.1)) (at q)

  pub trimmed : (start f).older ≡ [] → EndsBatches c f len ⊎ EndsRecords (λ q. (start q).now) f len → Stays start c other
  trimmed older (inl batches) = record { sound = active_cut image other f len at batches.journal batches.named batches.is c batches.last stays.sound; parts = parts_left }
  trimmed older (inr records) =
      let was = stays.parts f older in
      record { sound = records_are_cut image other f len at records.id records.named (text_in (start f).now) records.records records.whole was.0 was.1 c stays.sound; parts = parts_left }
