-- Beginnings of texts: a beginning of what may stand in a file may stand there.
use Rattle.std.proofs.Common.{◌≡◌, inl, inr, ⊎_elim, ℕ, ◌<◌, ◌≤◌, ◌^◌, Bool, true, false, ◌&&◌, nat_lt, List, [], ◌∷◌, ◌++◌, length, take, drop, Option, Some, None, Ok, refl, sym, ◌∙◌, ap, subst, arith, append_assoc, take-append-drop}
use Rattle.std.proofs.lemmas.List.{append-nil, length-append, length-take, take_at, take-append-le, drop-append-le, nil_from_length}
use Rattle.std.proofs.lemmas.Bool.{cases_lt, true≢false}
use Rattle.std.proofs.lemmas.Bool.Decides.{nat_tests}
use Rattle.std.proofs.lemmas.Slice.Eq.{bytes_eq-Decides}
use Rattle.std.specs.Str.{bytes_eq}
use Rattle.std.specs.List.{flat_map, AllByRecursion}
use Rattle.fjall_base.specs.declared.error.FormatVersion.{FormatVersion}
use Rattle.fjall_base.specs.declared.error.FormatVersion.TheVariants.{V1, V2, V3}
use Rattle.fjall_journal.specs.Batches.{NoneAt, batch_text}
use Rattle.fjall_table.specs.Frame.{NoFrame, framed}
use Rattle.fjall_table.specs.Reading.{frame_at}
use Rattle.fjall_manifest.specs.Records.{Fields, IsRecord, body, record_text}
use Rattle.fjall_base.proofs.Codecs.{one_text}
use Rattle.fjall_base.proofs.Names.{bool_cases}
use Rattle.fjall_table.proofs.Frames.{frame4}
use Rattle.fjall_files.specs.declared.marker.Marker.TheVariants.{Unfinished}
use Rattle.fjall_files.specs.Marker.{accepted, header, is_cut_short, marker_tells, version_at}
use Rattle.fjall_manifest.specs.Catalog.{fields, first_catalog}
use Rattle.fjall_recovery.specs.Folders.{IsBegun}
use Rattle.fjall_repair.specs.Making.{MayMark}

-- ---- journals

pub none_front : (text more : List ℕ) → NoneAt (text ++ more) → NoneAt text
none_front text more none b rest is at = none b (rest ++ more) is (ap (λ (l : List ℕ). l ++ more) at ∙ append_assoc (batch_text b) rest more)

-- ---- records

no_frame_front : (text more : List ℕ) → NoFrame 4 (text ++ more) → NoFrame 4 text
no_frame_front text more none payload rest fits at = none payload (rest ++ more) fits (ap (λ (l : List ℕ). l ++ more) at ∙ append_assoc (framed 4 payload) rest more)

no_part : (n : ℕ) (text : List ℕ) → n ≤ length text → take n text ≡ [] → n ≡ 0
no_part n text le none = let l = length-take n text in let z = ap length none in omega (arith, le, l, z)

nothing_begun : (text : List ℕ) → NoFrame 4 text → IsBegun text
nothing_begun text none = record {
  records = [];
  end = 0;
  whole = record { within = omega arith; texts = refl; each = tt; last = none };
  first = inl refl;
}

module _ (text more : List ℕ) (end : ℕ) (is : IsRecord (fields first_catalog)) (within : end ≤ length (text ++ more)) (at : take end (text ++ more) ≡ record_text (fields first_catalog)) (last : NoFrame 4 (drop end (text ++ more))) where
  -- all of the record is there
  long : end ≤ length text → IsBegun text
  long le =
      let front : take end text ≡ record_text (fields first_catalog) = sym (take-append-le end text more le) ∙ at in
      record {
        records = fields first_catalog ∷ [];
        end = end;
        whole = record {
          within = le;
          texts = front ∙ sym (append-nil (record_text (fields first_catalog)));
          each = (is, tt);
          last = no_frame_front (drop end text) more (subst (λ (l : List ℕ). NoFrame 4 l) (drop-append-le end text more le) last);
        };
        first = inr refl;
      }

  -- a frame that is there would be all of it
  short : length text < end → NoFrame 4 text
  short lt payload rest fits here =
      let first = body (fields first_catalog) in
      let whole : framed 4 first ++ drop end (text ++ more) ≡ text ++ more = ap (λ (l : List ℕ). l ++ drop end (text ++ more)) (sym at) ∙ take-append-drop end (text ++ more) in
      let other : framed 4 payload ++ (rest ++ more) ≡ text ++ more = sym (append_assoc (framed 4 payload) rest more) ∙ ap (λ (l : List ℕ). l ++ more) (sym here) in
      let same = (one_text (frame_at 4) (framed 4) (λ (p : List ℕ). length p < 2 ^ 32) frame4 payload first (rest ++ more) (drop end (text ++ more)) fits is.fits.len (other ∙ sym whole)).0 in
      let counts = ap (λ (p : List ℕ). length (framed 4 p)) same in
      let l0 = ap length here in
      let l1 = length-append (framed 4 payload) rest in
      let l2 = ap length at in
      let l3 = length-take end (text ++ more) in
      omega (arith, lt, counts, l0, l1, l2, l3, within)

pub begun_front : (text more : List ℕ) → IsBegun (text ++ more) → IsBegun text
begun_front text more begun = ⊎_elim
    (λ none.
    let nothing : take begun.end (text ++ more) ≡ [] = begun.whole.texts ∙ ap (flat_map record_text) none in
    let start = no_part begun.end (text ++ more) begun.whole.within nothing in
    nothing_begun text (no_frame_front text more (subst (λ (n : ℕ). NoFrame 4 (drop n (text ++ more))) start begun.whole.last)))
    (λ first.
    let each : AllByRecursion IsRecord (fields first_catalog ∷ []) = subst (λ (l : List Fields). AllByRecursion IsRecord l) first begun.whole.each in
    let at : take begun.end (text ++ more) ≡ record_text (fields first_catalog) = begun.whole.texts ∙ ap (flat_map record_text) first ∙ append-nil (record_text (fields first_catalog)) in
    elim (cases_lt (length text) begun.end) [
      | inl lt ↦ nothing_begun text (short text more begun.end each.0 begun.whole.within at begun.whole.last lt)
      | inr le ↦ long text more begun.end each.0 begun.whole.within at begun.whole.last le
    ])
    begun.first

-- ---- the marker

both_true : (a b : Bool) → (a && b) ≡ true → (a ≡ true) × (b ≡ true)
both_true true b is = (refl, is)
both_true false b is = absurd (true≢false (sym is))

never_accepted : (version : Option FormatVersion) → accepted version ≡ Ok Unfinished → ⊥
never_accepted None is = cc
never_accepted (Some V1) is = cc
never_accepted (Some V2) is = cc
never_accepted (Some V3) is = cc

cut_short : (text : List ℕ) → marker_tells (Some text) ≡ Ok Unfinished → is_cut_short text ≡ true
cut_short text tells = elim (bool_cases (is_cut_short text)) [
  | inl is ↦ is
  | inr not ↦ let other : accepted (version_at text) ≡ Ok Unfinished = rw not at tells in absurd (never_accepted (version_at text) other)
]

tells_cut : (text : List ℕ) → is_cut_short text ≡ true → marker_tells (Some text) ≡ Ok Unfinished
tells_cut text is = rw is refl

-- a beginning of the header that isn't all of it
short_header : (text more : List ℕ) → text ++ more ≡ header V3 → length text < 4 → is_cut_short text ≡ true
short_header text more at lt =
    let low : nat_lt (length text) 4 ≡ true = grind (arith, nat_tests) in
    let same : text ≡ take (length text) (header V3) = sym (take_at text more (length text) refl) ∙ ap (take (length text)) at in
    let test : bytes_eq text (take (length text) (header V3)) ≡ true = (bytes_eq-Decides text (take (length text) (header V3))).1 same in
    rw (low, test) refl

low_of : (n : ℕ) → nat_lt n 4 ≡ true → n < 4
low_of n is = grind (arith, nat_tests)

cut_front : (text more : List ℕ) → is_cut_short (text ++ more) ≡ true → is_cut_short text ≡ true
cut_front text more is =
    let parts = both_true (nat_lt (length (text ++ more)) 4) (bytes_eq (text ++ more) (take (length (text ++ more)) (header V3))) is in
    let low = low_of (length (text ++ more)) parts.0 in
    let same : text ++ more ≡ take (length (text ++ more)) (header V3) = (bytes_eq-Decides (text ++ more) (take (length (text ++ more)) (header V3))).0 parts.1 in
    let rest = drop (length (text ++ more)) (header V3) in
    let at : text ++ (more ++ rest) ≡ header V3 = sym (append_assoc text more rest) ∙ ap (λ (l : List ℕ). l ++ rest) same ∙ take-append-drop (length (text ++ more)) (header V3) in
    short_header text (more ++ rest) at (omega (arith, low, length-append text more))

front_of_header : (text more : List ℕ) → text ++ more ≡ header V3 → MayMark true (Some text)
front_of_header text more at = elim (cases_lt (length text) 4) [
  | inl lt ↦ inl (tells_cut text (short_header text more at lt))
  | inr le ↦
      let none : more ≡ [] = nil_from_length more (let l0 = length-append text more in let l1 = ap length at in omega (arith, l0, l1, le)) in
      inr (ap Some (sym (append-nil text) ∙ ap (λ (l : List ℕ). text ++ l) (sym none) ∙ at))
]

some_is : (a b : List ℕ) → Some a ≡ Some b → a ≡ b
some_is a b is = cc

pub mark_front : (marking : Bool) (text more : List ℕ) → MayMark marking (Some (text ++ more)) → MayMark marking (Some text)
mark_front false text more tells = tells_cut text (cut_front text more (cut_short (text ++ more) tells))
mark_front true text more (inl tells) = inl (tells_cut text (cut_front text more (cut_short (text ++ more) tells)))
mark_front true text more (inr is) = front_of_header text more (some_is (text ++ more) (header V3) is)

pub header_marks : (n : ℕ) → MayMark true (Some (take n (header V3)))
header_marks n = front_of_header (take n (header V3)) (drop n (header V3)) (take-append-drop n (header V3))

pub no_file_marks : (marking : Bool) → MayMark marking None
no_file_marks false = refl
no_file_marks true = inl refl

pub marks_more : (bytes : Option (List ℕ)) → MayMark false bytes → MayMark true bytes
marks_more bytes tells = inl tells
