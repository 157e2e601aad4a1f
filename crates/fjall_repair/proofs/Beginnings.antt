-- A file is ended where all that counts in it ends: an image whose file has a beginning of it says the same, whatever it says.
use Rattle.std.proofs.Common.{◌≡◌, ◌⊎◌, inl, inr, ⊎_elim, ℕ, ◌≤◌, List, [], ◌∷◌, length, take, codes, Some, sym, ◌∙◌, ap, subst, arith}
use Rattle.std.proofs.lemmas.Bool.{cases_lt}
use Rattle.std.proofs.lemmas.List.{length-drop, length-take, take_all}
use Rattle.fjall_base.specs.Store.{Store, Command}
use Rattle.fjall_base.specs.Disk.{Name, DiskEntry, DiskState, Image, IsImage, standing}
use Rattle.fjall_base.proofs.Lists.{front_of_part}
use Rattle.fjall_files.specs.Trims.{IsTrimmed}
use Rattle.fjall_journal.specs.declared.batch.Tail.TheVariants.{Clean, Torn}
use Rattle.fjall_journal.specs.Batches.{Written, IsWhole}
use Rattle.fjall_journal.proofs.Wholes as Wholes
use Rattle.fjall_base.specs.Lists.{last_of}
use Rattle.fjall_files.specs.Texts.{text_in}
use Rattle.fjall_files.specs.Marker.{marker_tells}
use Rattle.fjall_files.specs.Names.{journal_name, current_name, table_name}
use Rattle.fjall_recovery.specs.Folders.{Contents, IsOpenable, file_bytes}
use Rattle.fjall_recovery.specs.Journals.{WholeJournal, ReadsAs, AreJournalsRead, journal_text}
use Rattle.fjall_recovery.specs.Halves.{HasRoot}
use Rattle.fjall_repair.specs.Amids.{StaysAmid}
use Rattle.fjall_repair.specs.Steps.{End, EndsBatches, EndsRecords, IsRightEnd}
use Rattle.fjall_repair.proofs.Naming.{journal_current, journal_table, marker_journal}
use Rattle.fjall_repair.proofs.Halving.{root_of, open_tree_in, open_of, tree_of, tree_along}
use Rattle.fjall_repair.proofs.Cutting.{journal_cut, whole_cut, whole_length}
use Rattle.fjall_repair.proofs.Trimming.{Cuts, elsewhere, file_back, file_stays, folder_back, folder_stays, records_are_cut}
use Rattle.fjall_repair.proofs.Ending.{keeps_cut}

-- what is read of a beginning of a text ends where what is read of the text ends, or before
pub beginning_ends : (text : List ℕ) (bs : List Written) (len n : ℕ) → IsWhole text bs len → (ps : List Written) (end : ℕ) → IsWhole (take n text) ps end → end ≤ len
beginning_ends text bs len n whole ps end part = elim (cases_lt n len) [
  | inl less ↦ let within = part.within in let l = length-take n text in omega (arith, less, within, l)
  | inr le ↦ let same = (Wholes.one_reading (take n text) ps bs end len part (whole_cut text bs len n whole le)).1 in omega (arith, same)
]

-- the whole batches of the last journal
pub last_whole : (image : Image) (js : List WholeJournal) (a : WholeJournal) → last_of js ≡ Some a → AreJournalsRead image js → (end : ℕ) × IsWhole (journal_text image a.id) a.batches end
last_whole image [] a is read = let bad : ⊥ = cc in absurd bad
last_whole image (j ∷ []) a is read =
    let same : j ≡ a = cc in
    subst (λ (b : WholeJournal). (end : ℕ) × IsWhole (journal_text image b.id) b.batches end) same (⊎_elim (λ clean. (clean.end, clean.whole)) (λ torn. (torn.end, torn.whole)) read)
last_whole image (j ∷ k ∷ js) a is read = last_whole image (k ∷ js) a is read.1

module _ (image other : Image) (f : Name) (len : ℕ) (at : Cuts image other f len) where
  -- ---- a journal of which the image has a beginning

  module _ (text : List ℕ) (bs : List Written) (whole : IsWhole text bs len) (n : ℕ) (part : text_in (image f) ≡ take n text) where
    ends_before : (j : WholeJournal) → journal_name j.id ≡ f → (end : ℕ) → IsWhole (journal_text image j.id) j.batches end → end ≤ len
    ends_before j is end reads = beginning_ends text bs len n whole j.batches end (subst (λ t. IsWhole t j.batches end) (ap (λ (r : Name). text_in (image r)) is ∙ part) reads)

    clean_cut : (j : WholeJournal) → ReadsAs (journal_text image j.id) j.batches Clean → ReadsAs (journal_text other j.id) j.batches Clean
    clean_cut j clean = ⊎_elim
        (λ alike. subst (λ t. ReadsAs t j.batches Clean) (ap text_in (sym alike)) clean)
        (λ cut.
        let le = ends_before j cut.0 clean.end clean.whole in
        let none = ap length clean.behind in
        let l = length-drop clean.end (journal_text image j.id) in
        let behind = cut.1.le in
        let all : take cut.1.k (journal_text image j.id) ≡ journal_text image j.id = take_all cut.1.k (journal_text image j.id) (omega (arith, le, none, l, behind)) in
        subst (λ t. ReadsAs t j.batches Clean) (sym (cut.1.text ∙ all)) clean) (at (journal_name j.id))

    torn_cut : (j : WholeJournal) → ReadsAs (journal_text image j.id) j.batches Torn → ReadsAs (journal_text other j.id) j.batches Clean ⊎ ReadsAs (journal_text other j.id) j.batches Torn
    torn_cut j torn = ⊎_elim
        (λ alike. inr (subst (λ t. ReadsAs t j.batches Torn) (ap text_in (sym alike)) torn))
        (λ cut.
        let le = ends_before j cut.0 torn.end torn.whole in
        let count = whole_length (journal_text image j.id) j.batches torn.end torn.whole in
        let behind = cut.1.le in
        subst (λ t. ReadsAs t j.batches Clean ⊎ ReadsAs t j.batches Torn) (sym cut.1.text) (journal_cut (journal_text image j.id) j.batches cut.1.k (omega (arith, le, count, behind)) (inr torn))) (at (journal_name j.id))

    read_cut : (js : List WholeJournal) → AreJournalsRead image js → AreJournalsRead other js
    read_cut [] read = tt
    read_cut (j ∷ []) read = ⊎_elim (λ clean. inl (clean_cut j clean)) (λ torn. torn_cut j torn) read
    read_cut (j ∷ k ∷ js) read = (clean_cut j read.0, read_cut (k ∷ js) read.1)

    -- the image says the same
    pub journal_is_cut : (id : ℕ) → f ≡ journal_name id → (c : Contents) → IsOpenable image c → IsOpenable other c
    journal_is_cut id named c sound =
        let root = root_of image c sound in
        let left : HasRoot other c.journals = record {
          marker = ap (λ (e : DiskEntry). marker_tells (file_bytes e)) (elsewhere image other f len at (codes "version") (λ same. marker_journal id (same ∙ named))) ∙ root.marker;
          named = λ name in_root file. root.named name in_root (file_back image other f len at name file);
          holds = record {
            ids = record {
              ascending = root.holds.ids.ascending;
              each = λ k. (
                (λ has. let here = (root.holds.ids.each k).0 has in (here.0, file_stays image other f len at (journal_name k) here.1)),
                (λ here. (root.holds.ids.each k).1 (here.0, file_back image other f len at (journal_name k) here.1)),
              );
            };
            read = read_cut c.journals root.holds.read;
            sound = root.holds.sound;
          };
        } in
        open_of other c left
        (tree_along image other (tree_of c) (folder_back image other f len at) (folder_stays image other f len at) (λ k. elsewhere image other f len at (current_name k) (λ same. journal_current id k (sym named ∙ sym same)))
        (λ k m. elsewhere image other f len at (table_name k m) (λ same. journal_table id k m (sym named ∙ sym same))) (open_tree_in image c sound))

-- ---- what stays

module _ (start : DiskState) (stood : Contents) (sound : IsOpenable (standing start) stood) (base : Store) (pending : List Command) where
  left_sound : (image other : Image) (f : Name) (len : ℕ) → Cuts image other f len → (start f).older ≡ [] → EndsBatches stood f len ⊎ EndsRecords (standing start) f len → (n : ℕ) → text_in (image f) ≡ take n (text_in (start f).now)
      → (c : Contents) → IsOpenable image c → IsOpenable other c
  left_sound image other f len at older (inl b) n part c is =
      let read = last_whole (standing start) stood.journals b.journal b.last sound.journals.read in
      let ends : read.0 ≡ len = whole_length (journal_text (standing start) b.journal.id) b.journal.batches read.0 read.1 ∙ sym b.is in
      let text : journal_text (standing start) b.journal.id ≡ text_in (start f).now = ap (λ (q : Name). text_in (start q).now) (sym b.named) in
      journal_is_cut image other f len at (text_in (start f).now) b.journal.batches (subst (λ (m : ℕ). IsWhole (text_in (start f).now) b.journal.batches m) ends (subst (λ t. IsWhole t b.journal.batches read.0) text read.1)) n part b.journal.id b.named c is
  left_sound image other f len at older (inr r) n part c is = records_are_cut image other f len at r.id r.named (text_in (start f).now) r.records r.whole n part c is

  pub trimmed_amid : (image other : Image) (f : Name) (len : ℕ) → Cuts image other f len → (start f).older ≡ [] → EndsBatches stood f len ⊎ EndsRecords (standing start) f len → StaysAmid start base pending image → StaysAmid start base pending other
  trimmed_amid image other f len at older ends stays =
      let was = stays.parts f older in
      record {
        front = stays.front;
        within = stays.within;
        c = stays.c;
        sound = record { openable = left_sound image other f len at older ends was.0 was.1 stays.c stays.sound.openable; versions = stays.sound.versions };
        is = stays.is;
        parts = λ q settled.
            let had = stays.parts q settled in
            ⊎_elim (λ same. (had.0, ap text_in same ∙ had.1))
            (λ cut. let front = front_of_part [] (text_in (start q).now) cut.1.k had.0 in (front.0, cut.1.text ∙ ap (take cut.1.k) had.1 ∙ front.1)) (at q);
        files = λ q root settled file. file_stays image other f len at q (stays.files q root settled file);
      }

  -- whatever a crash leaves while a file is ended stays as it was
  pub moment_amid : (state : DiskState) (e : End) (image : Image) → IsRightEnd (standing start) stood e → (start e.name).older ≡ [] → ((whole : Image) → IsImage state whole → StaysAmid start base pending whole) → IsTrimmed state e.name e.len image
      → StaysAmid start base pending image
  moment_amid state e image right older all trim = trimmed_amid trim.whole image e.name e.len (keeps_cut trim.whole image e.name e.len trim.here trim.elsewhere) older right.kind (all trim.whole trim.is)
