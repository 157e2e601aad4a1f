-- A folder whose making was cut short holds no whole batch, and no record but the first one.
use Rattle.std.proofs.Common.{◌≡◌, ◌≢◌, inl, inr, ⊎_elim, ℕ, zero, suc, ◌+◌, ◌<◌, ◌≤◌, List, [], ◌∷◌, ◌++◌, length, take, drop, get_or, All, refl, sym, ◌∙◌, ap, subst, add-one, arith, append_assoc, take-append-drop}
use Rattle.std.proofs.lemmas.List.{append-nil, length-take, get_or_default}
use Rattle.std.proofs.lemmas.List.Elements.{All-append}
use Rattle.std.proofs.Math.Seq.{take-suc}
use Rattle.std.specs.Prelude.{Contains}
use Rattle.std.specs.List.{flat_map}
use Rattle.fjall_base.specs.Disk.{DiskEntry, Missing, File, Folder, Image, IsFile}
use Rattle.fjall_files.specs.Texts.{text_in}
use Rattle.fjall_journal.specs.declared.batch.Tail.{Tail}
use Rattle.fjall_journal.specs.Spelling.{spelling}
use Rattle.fjall_journal.specs.Batches.{Shown, Written, IsWhole, NoneAt, batch_text}
use Rattle.fjall_table.specs.Frame.{NoFrame}
use Rattle.fjall_manifest.specs.Records.{Fields, HasContradiction, IsRecord, IsRecords, record_text}
use Rattle.fjall_manifest.proofs.Currents.{contradiction_has_no_reading}
use Rattle.fjall_files.specs.Names.{journal_name}
use Rattle.fjall_manifest.specs.Catalog.{fields, first_catalog}
use Rattle.fjall_recovery.specs.Folders.{AreEmpty, IsBegun}
use Rattle.fjall_recovery.specs.Journals.{AreJournalIds, IsReadAs, journal_text}

-- ---- a journal without a whole batch

no_part : (n : ℕ) (text : List ℕ) → n ≤ length text → take n text ≡ [] → n ≡ 0
no_part n text le none = let l = length-take n text in let z = ap length none in omega (arith, le, l, z)

whole_some : (text : List ℕ) (b : Written) (bs : List Written) (end : ℕ) → IsWhole text (b ∷ bs) end → NoneAt text → ⊥
whole_some text b bs end whole none =
    none b (flat_map batch_text bs ++ drop end text) whole.each.0
    (sym (take-append-drop end text) ∙ ap (λ (l : List ℕ). l ++ drop end text) whole.texts ∙ append_assoc (batch_text b) (flat_map batch_text bs) (drop end text))

some_batches : (text : List ℕ) (written : List Written) (end : ℕ) → IsWhole text written end → 0 < end → NoneAt text → ⊥
some_batches text [] end whole some none = let z = no_part end text whole.within whole.texts in absurd (omega (arith, some, z))
some_batches text (b ∷ bs) end whole some none = whole_some text b bs end whole none

pub read_none : (text : List ℕ) (batches : List Shown) (end : ℕ) (tail : Tail) → IsReadAs text batches end tail → end ≡ 0 → NoneAt text
read_none text batches end tail read start = subst (λ n. NoneAt (drop n text)) start read.whole.last

pub read_some : (text : List ℕ) (batches : List Shown) (end : ℕ) (tail : Tail) → IsReadAs text batches end tail → 0 < end → NoneAt text → ⊥
read_some text batches end tail read some = some_batches text read.written end read.whole some

nothing_none : NoneAt []
unfolding spelling
nothing_none b more is at = let l = ap length at in absurd (omega (arith, l))

-- ---- all journals

abbrev pub AreNone : Image → List ℕ → Type 0
AreNone image ids = All (λ id. NoneAt (journal_text image id)) ids

one_all : {X : Type 0} (P : X → Type 0) (x : X) → P x → All P (x ∷ [])
one_all P x is zero d lt = is
one_all P x is (suc k) d lt = absurd (omega (arith, lt))

pub none_more : (image : Image) (ids : List ℕ) (n : ℕ) → n < length ids → AreNone image (take n ids) → NoneAt (journal_text image (get_or ids n 0)) → AreNone image (take (n + 1) ids)
none_more image ids n lt all one =
    subst (AreNone image) (sym (ap (λ m. take m ids) (add-one n) ∙ take-suc ids n 0 lt))
    (All-append (λ id. NoneAt (journal_text image id)) (take n ids) (get_or ids n 0 ∷ []) all (one_all (λ id. NoneAt (journal_text image id)) (get_or ids n 0) one))

at_id : (image : Image) (ids : List ℕ) (id : ℕ) → AreNone image ids → Contains ids id → NoneAt (journal_text image id)
at_id image ids id all (k, lt, at) = subst (λ n. NoneAt (journal_text image n)) at (all k id lt)

by_entry : (entry : DiskEntry) → (IsFile entry → NoneAt (text_in entry)) → NoneAt (text_in entry)
by_entry Missing file = nothing_none
by_entry Folder file = nothing_none
by_entry (File synced unsynced) file = file tt

pub all_empty : (image : Image) (ids : List ℕ) → AreJournalIds image ids → AreNone image ids → AreEmpty image
all_empty image ids are all id lt = by_entry (image (journal_name id)) (λ file. at_id image ids id all ((are.each id).1 (lt, file)))

pub not_empty : (image : Image) (ids : List ℕ) (n : ℕ) → AreJournalIds image ids → n < length ids → (NoneAt (journal_text image (get_or ids n 0)) → ⊥) → AreEmpty image → ⊥
not_empty image ids n are lt some empty =
    let id = get_or ids n 0 in
    some (empty id ((are.each id).0 (n, lt, get_or_default ids n id 0 lt)).0)

-- ---- tree 0

pub none_begun : (text other : List ℕ) (rs : List Fields) (end : ℕ) → text ≡ other → IsRecords text rs end → end ≡ 0 → IsBegun other
none_begun text other rs end same reads start =
    subst IsBegun same (record {
      records = [];
      end = 0;
      whole = record { within = omega arith; texts = refl; each = tt; last = subst (λ n. NoFrame 4 (drop n text)) start reads.last };
      first = inl refl;
    })

pub first_begun : (text other : List ℕ) (rs : List Fields) (end : ℕ) → text ≡ other → IsRecords text rs end → IsRecord (fields first_catalog) → take end text ≡ record_text (fields first_catalog) → IsBegun other
first_begun text other rs end same reads is at =
    subst IsBegun same (record {
      records = fields first_catalog ∷ [];
      end = end;
      whole = record { within = reads.within; texts = at ∙ sym (append-nil (record_text (fields first_catalog))); each = (is, tt); last = reads.last };
      first = inr refl;
    })

pub not_begun : (text other : List ℕ) (end : ℕ) → text ≡ other → ((rs : List Fields) (n : ℕ) → IsRecords text rs n → n ≡ end) → end ≢ 0 → take end text ≢ record_text (fields first_catalog) → IsBegun other → ⊥
not_begun text other end same only some others begun =
    let here : IsBegun text = subst IsBegun (sym same) begun in
    let at : here.end ≡ end = only here.records here.end here.whole in
    ⊎_elim
    (λ none. some (sym at ∙ no_part here.end text here.whole.within (here.whole.texts ∙ ap (flat_map record_text) none)))
    (λ first. others (ap (λ n. take n text) (sym at) ∙ here.whole.texts ∙ ap (flat_map record_text) first ∙ append-nil (record_text (fields first_catalog)))) here.first

-- bytes that read as records hold none that contradicts itself
pub not_contradicted : (text other : List ℕ) (rs : List Fields) (end : ℕ) → text ≡ other → IsRecords text rs end → HasContradiction other → ⊥
not_contradicted text other rs end same reads bad = contradiction_has_no_reading other rs end bad (subst (λ (l : List ℕ). IsRecords l rs end) same reads)
