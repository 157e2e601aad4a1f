-- Records one behind the other, as a reader meets them.
use Rattle.std.proofs.Common.{◌≡◌, ℕ, ◌-◌, ◌^◌, ◌<◌, ◌≤◌, List, [], ◌∷◌, ◌++◌, length, take, drop, Option, Some, None, refl, sym, ap, subst, ◌∙◌, append_assoc, arith, inl, inr}
use Rattle.std.specs.List.{flat_map, AllByRecursion}
use Rattle.std.proofs.lemmas.Bool.{cases_lt}
use Rattle.std.proofs.lemmas.List.{take_at, drop_at, length-append, length-drop, append-nil, take-append-drop, append_cancel_left, nil_from_length, take_all, take-append-le}
use Rattle.std.proofs.lemmas.List.Concat.{flat_map-cons}
use Rattle.fjall_table.specs.Frame.{framed, NoFrame}
use Rattle.fjall_table.specs.Reading.{frame_at}
use Rattle.fjall_manifest.specs.Records.{Fields, body, record_text, body_of, IsConsistent, IsRecord, IsRecords, IsNoBody, HasContradiction, KeptRecords}
use Rattle.fjall_base.specs.Lists.{last_of}
use Rattle.fjall_base.proofs.Lists.{last_behind}
use Rattle.fjall_base.proofs.Codecs.{IsBytes, IsBytes-back, some_is, one_text, first_of, one_behind, each_more}
use Rattle.fjall_table.proofs.Frames.{frame4, length_framed}
use Rattle.fjall_manifest.proofs.Records.{length_body}
use Rattle.fjall_manifest.proofs.RecordCodecs.{body_again, body_takes}
use Rattle.fjall_table.proofs.Lists.{Apart, NoItem, same_lists}

-- ---- one body

pub again : (r : Fields) → IsRecord r → body_of (body r) ≡ Some r
again r is = let l = length_body r in let f = is.fits.len in body_again r is.fits.room (omega arith) (omega arith)

-- what is read, and agrees, is a record
pub is_record : (payload : List ℕ) (r : Fields) → IsBytes payload → body_of payload ≡ Some r → IsConsistent r → length payload < 2 ^ 32 → IsRecord r × (payload ≡ body r)
is_record payload r fits e agrees len =
    let t = body_takes payload r fits e in
    (record { fits = record { room = t.1; len = (let l = ap length t.0 in omega arith) }; consistent = agrees }, t.0)

pub no_body : (payload : List ℕ) → body_of payload ≡ None → IsNoBody payload
no_body payload e r is text = let h = again r is in let g = ap body_of text in cc

pub not_agreeing : (payload : List ℕ) (r : Fields) → body_of payload ≡ Some r → (IsConsistent r → ⊥) → IsNoBody payload
not_agreeing payload r e bad s is text =
    let same : r ≡ s = some_is r s (sym e ∙ ap body_of text ∙ again s is) in
    bad (subst IsConsistent (sym same) is.consistent)

-- ---- frames

one_frame : (p q x y : List ℕ) → length p < 2 ^ 32 → length q < 2 ^ 32 → framed 4 p ++ x ≡ framed 4 q ++ y → (p ≡ q) × (x ≡ y)
one_frame p q x y fp fq e = one_text (frame_at 4) (framed 4) (λ (payload : List ℕ). length payload < 2 ^ 32) frame4 p q x y fp fq e

one_record : (a b : Fields) (x y : List ℕ) → IsRecord a → IsRecord b → record_text a ++ x ≡ record_text b ++ y → (a ≡ b) × (x ≡ y)
one_record a b x y ia ib e =
    let f = one_frame (body a) (body b) x y ia.fits.len ib.fits.len e in
    (some_is a b (sym (again a ia) ∙ ap body_of f.0 ∙ again b ib), f.1)

pub records_apart : Apart record_text IsRecord
records_apart = record { one = one_record; some = λ r. let l = length_framed 4 (body r) in omega arith }

pub no_frame : (bytes : List ℕ) → frame_at 4 bytes ≡ None → NoFrame 4 bytes
no_frame bytes e payload more fits text = let h = frame4.again payload more fits in let g = ap (frame_at 4) text in cc

no_item : (bytes : List ℕ) → NoFrame 4 bytes → NoItem record_text IsRecord bytes
no_item bytes none r more is text = none (body r) more is.fits.len text

-- ---- what was read so far

pub record SoFar (text : List ℕ) (last : Option Fields) (rest : List ℕ) : Type 0 where
  pub records : List Fields
  pub each : AllByRecursion IsRecord records
  pub parts : text ≡ flat_map record_text records ++ rest
  pub last_is : last ≡ last_of records

pub rest_fits : (text : List ℕ) (last : Option Fields) (rest : List ℕ) → IsBytes text → SoFar text last rest → IsBytes rest
rest_fits text last rest fits so_far = IsBytes-back (flat_map record_text so_far.records) rest (subst IsBytes so_far.parts fits)

pub record Frame (rest payload after : List ℕ) : Type 0 where
  pub parts : rest ≡ framed 4 payload ++ after
  pub fits : length payload < 2 ^ 32
  pub shorter : length after < length rest

pub frame_takes : (rest payload after : List ℕ) → IsBytes rest → frame_at 4 rest ≡ Some (payload, after) → Frame rest payload after
frame_takes rest payload after fits e =
    let f = frame4.takes rest payload after fits e in
    record { parts = f.parts; fits = f.is; shorter = (let l = ap length f.parts in let m = length-append (framed 4 payload) after in let n = length_framed 4 payload in omega arith) }

pub one_more : (text : List ℕ) (last : Option Fields) (rest payload after : List ℕ) (r : Fields) → SoFar text last rest → Frame rest payload after → IsRecord r → payload ≡ body r → SoFar text (Some r) after
one_more text last rest payload after r so_far frame is e =
    record {
      records = so_far.records ++ r ∷ [];
      each = each_more IsRecord so_far.records r so_far.each is;
      parts = so_far.parts ∙ ap (λ (v : List ℕ). flat_map record_text so_far.records ++ v) (frame.parts ∙ ap (λ (v : List ℕ). framed 4 v ++ after) e) ∙ one_behind record_text so_far.records r after;
      last_is = sym (last_behind so_far.records r);
    }

pub contradiction : (text : List ℕ) (last : Option Fields) (rest payload after : List ℕ) → SoFar text last rest → Frame rest payload after → IsNoBody payload → HasContradiction text
contradiction text last rest payload after so_far frame none =
    record {
      records = so_far.records;
      payload = payload;
      more = after;
      each = so_far.each;
      fits = frame.fits;
      none = none;
      text = so_far.parts ∙ ap (λ (v : List ℕ). flat_map record_text so_far.records ++ v) frame.parts;
    }

-- records, and then no frame
records_and : (rs : List Fields) (rest : List ℕ) → AllByRecursion IsRecord rs → NoFrame 4 rest → IsRecords (flat_map record_text rs ++ rest) rs (length (flat_map record_text rs))
records_and rs rest each none = record {
  within = omega (arith, length-append (flat_map record_text rs) rest);
  texts = take_at (flat_map record_text rs) rest (length (flat_map record_text rs)) refl;
  each = each;
  last = λ payload more fits at. none payload more fits (sym (drop_at (flat_map record_text rs) rest (length (flat_map record_text rs)) refl) ∙ at);
}

pub finished : (text : List ℕ) (last : Option Fields) (rest : List ℕ) (end : ℕ) → SoFar text last rest → NoFrame 4 rest → end ≡ length text - length rest → (rs : List Fields) × IsRecords text rs end × (last ≡ last_of rs)
finished text last rest end so_far none is =
    let where-end : end ≡ length (flat_map record_text so_far.records) = let l = ap length so_far.parts in let m = length-append (flat_map record_text so_far.records) rest in omega arith in
    (so_far.records, rw (where-end, so_far.parts) (records_and so_far.records rest so_far.each none), so_far.last_is)

-- ---- laws

pub one_reading : (text : List ℕ) (rs ps : List Fields) (m n : ℕ) → IsRecords text rs m → IsRecords text ps n → (rs ≡ ps) × (m ≡ n)
one_reading text rs ps m n p q =
    let ea : flat_map record_text rs ++ drop m text ≡ text = ap (λ (v : List ℕ). v ++ drop m text) (sym p.texts) ∙ take-append-drop m text in
    let eb : flat_map record_text ps ++ drop n text ≡ text = ap (λ (v : List ℕ). v ++ drop n text) (sym q.texts) ∙ take-append-drop n text in
    let one = same_lists record_text IsRecord records_apart rs ps (drop m text) (drop n text) p.each q.each (no_item (drop m text) p.last) (no_item (drop n text) q.last) (ea ∙ sym eb) in
    (one.0, same_length m n p.within q.within (ap length one.1))
  where
    same_length : (m n : ℕ) → m ≤ length text → n ≤ length text → length (drop m text) ≡ length (drop n text) → m ≡ n
    same_length m n hm hn e = omega (arith, length-drop m text, length-drop n text)

apart_from : (rs ps : List Fields) (payload more y : List ℕ) → AllByRecursion IsRecord rs → AllByRecursion IsRecord ps → length payload < 2 ^ 32 → IsNoBody payload → NoFrame 4 y → flat_map record_text rs ++ (framed 4 payload ++ more) ≡ flat_map record_text ps ++ y → ⊥
apart_from [] [] payload more y er ep fits none ny e = ny payload more fits (sym e)
apart_from [] (p ∷ ps) payload more y er ep fits none ny e =
    none p ep.0 (one_frame payload (body p) more (flat_map record_text ps ++ y) fits ep.0.fits.len (e ∙ first_of record_text p ps y)).0
apart_from (r ∷ rs) [] payload more y er ep fits none ny e = ny (body r) (flat_map record_text rs ++ (framed 4 payload ++ more)) er.0.fits.len (sym e ∙ first_of record_text r rs (framed 4 payload ++ more))
apart_from (r ∷ rs) (p ∷ ps) payload more y er ep fits none ny e =
    let first = one_record r p (flat_map record_text rs ++ (framed 4 payload ++ more)) (flat_map record_text ps ++ y) er.0 ep.0 (sym (first_of record_text r rs (framed 4 payload ++ more)) ∙ e ∙ first_of record_text p ps y) in
    apart_from rs ps payload more y er.1 ep.1 fits none ny first.1

pub contradiction_has_no_reading : (text : List ℕ) (ps : List Fields) (n : ℕ) → HasContradiction text → IsRecords text ps n → ⊥
contradiction_has_no_reading text ps n h q =
    let eb : flat_map record_text ps ++ drop n text ≡ text = ap (λ (v : List ℕ). v ++ drop n text) (sym q.texts) ∙ take-append-drop n text in
    apart_from h.records ps h.payload h.more (drop n text) h.each q.each h.fits h.none q.last (sym h.text ∙ sym eb)

none_at_nil : NoFrame 4 []
none_at_nil payload more fits text = let l = ap length text in let m = length-append (framed 4 payload) more in let n = length_framed 4 payload in absurd (omega arith)

pub texts_are_records : (rs : List Fields) → AllByRecursion IsRecord rs → IsRecords (flat_map record_text rs) rs (length (flat_map record_text rs))
texts_are_records rs each = subst (λ (text : List ℕ). IsRecords text rs (length (flat_map record_text rs))) (append-nil (flat_map record_text rs)) (records_and rs [] each none_at_nil)

pub records_grow : (text : List ℕ) (rs : List Fields) (r : Fields) → IsRecords text rs (length text) → IsRecord r → IsRecords (text ++ record_text r) (rs ++ r ∷ []) (length (text ++ record_text r)) × (last_of (rs ++ r ∷ []) ≡ Some r)
records_grow text rs r w is =
    let whole : text ≡ flat_map record_text rs = sym (take_all (length text) text (omega arith)) ∙ w.texts in
    let more : flat_map record_text (rs ++ r ∷ []) ≡ text ++ record_text r =
    sym (append-nil (flat_map record_text (rs ++ r ∷ []))) ∙ sym (one_behind record_text rs r []) ∙ ap (λ (v : List ℕ). flat_map record_text rs ++ v) (append-nil (record_text r)) ∙ ap (λ (v : List ℕ). v ++ record_text r) (sym whole) in
    (subst (λ (v : List ℕ). IsRecords v (rs ++ r ∷ []) (length v)) more (texts_are_records (rs ++ r ∷ []) (each_more IsRecord rs r w.each is)), last_behind rs r)

-- ---- a text that is cut

-- a part of a record's text has no frame at its front
cut_has_none : (r : Fields) (part lost : List ℕ) → IsRecord r → part ++ lost ≡ record_text r → 0 < length lost → NoFrame 4 part
cut_has_none r part lost is e some payload more fits text =
    let both : framed 4 payload ++ (more ++ lost) ≡ framed 4 (body r) ++ [] = sym (append_assoc (framed 4 payload) more lost) ∙ ap (λ (v : List ℕ). v ++ lost) (sym text) ∙ e ∙ sym (append-nil (record_text r)) in
    let one = one_frame payload (body r) (more ++ lost) [] fits is.fits.len both in
    let l = ap length one.1 in
    let m = length-append more lost in
    omega arith

record Cut (rs : List Fields) (text : List ℕ) : Type 0 where
  pub kept : List Fields
  pub gone : List Fields
  pub part : List ℕ
  pub all : kept ++ gone ≡ rs
  pub each : AllByRecursion IsRecord kept
  pub text_is : text ≡ flat_map record_text kept ++ part
  pub none : NoFrame 4 part

cut : (rs : List Fields) (text lost : List ℕ) → AllByRecursion IsRecord rs → text ++ lost ≡ flat_map record_text rs → Cut rs text
cut [] text lost each e =
    let nothing : text ≡ [] = nil_from_length text (let l = length-append text lost in let z = ap length e in omega arith) in
    record { kept = []; gone = []; part = text; all = refl; each = tt; text_is = refl; none = subst (λ (v : List ℕ). NoFrame 4 v) (sym nothing) none_at_nil }
cut (r ∷ rs) text lost each e =
    elim (cases_lt (length text) (length (record_text r))) [
      | inr le ↦
          let n = length (record_text r) in
          let front : take n text ≡ record_text r = sym (take-append-le n text lost le) ∙ ap (take n) (e ∙ flat_map-cons record_text r rs) ∙ take_at (record_text r) (flat_map record_text rs) n refl in
          let parts : text ≡ record_text r ++ drop n text = sym (take-append-drop n text) ∙ ap (λ (v : List ℕ). v ++ drop n text) front in
          let after : drop n text ++ lost ≡ flat_map record_text rs =
          append_cancel_left (record_text r) _ _ (sym (append_assoc (record_text r) (drop n text) lost) ∙ ap (λ (v : List ℕ). v ++ lost) (sym parts) ∙ e ∙ flat_map-cons record_text r rs) in
          let c = cut rs (drop n text) lost each.1 after in
          record {
            kept = r ∷ c.kept;
            gone = c.gone;
            part = c.part;
            all = ap (λ (v : List Fields). r ∷ v) c.all;
            each = (each.0, c.each);
            text_is = parts ∙ ap (λ (v : List ℕ). record_text r ++ v) c.text_is ∙ sym (first_of record_text r c.kept c.part);
            none = c.none;
          }
      | inl lt ↦
          let k = length text in
          let here : take k (record_text r) ≡ text = sym (take-append-le k (record_text r) (flat_map record_text rs) (omega arith)) ∙ ap (take k) (sym (e ∙ flat_map-cons record_text r rs)) ∙ take_at text lost k refl in
          let split : text ++ drop k (record_text r) ≡ record_text r = ap (λ (v : List ℕ). v ++ drop k (record_text r)) (sym here) ∙ take-append-drop k (record_text r) in
          record { kept = []; gone = r ∷ rs; part = text; all = refl; each = tt; text_is = refl; none = cut_has_none r text (drop k (record_text r)) each.0 split (omega (arith, length-drop k (record_text r))) }
    ]

pub cut_reads : (rs : List Fields) (text lost : List ℕ) → AllByRecursion IsRecord rs → text ++ lost ≡ flat_map record_text rs → KeptRecords rs text
cut_reads rs text lost each e =
    let c = cut rs text lost each e in
    record { kept = c.kept; gone = c.gone; all = c.all; whole = subst (λ (v : List ℕ). IsRecords v c.kept (length (flat_map record_text c.kept))) (sym c.text_is) (records_and c.kept c.part c.each c.none) }
