-- A text that is cut behind all that counts in it reads the same.
use Rattle.std.proofs.Common.{◌≡◌, ◌⊎◌, inl, inr, ⊎_elim, ℕ, ◌-◌, ◌≤◌, List, [], ◌∷◌, ◌++◌, length, take, drop, refl, sym, ◌∙◌, ap, subst, arith, append_assoc, take-append-drop}
use Rattle.std.proofs.lemmas.Bool.{cases_lt}
use Rattle.std.proofs.lemmas.List.{take_at, drop_at, take_all, length-append, length-take, nil_from_length}
use Rattle.fjall_base.proofs.Lists.{take_past}
use Rattle.fjall_journal.specs.declared.batch.Tail.TheVariants.{Clean, Torn}
use Rattle.fjall_journal.specs.declared.entry.Entry.TheVariants.{End}
use Rattle.fjall_journal.specs.Spelling.{spelling}
use Rattle.fjall_journal.specs.Batches.{Written, IsWhole, IsTail, NoneAt, EndsEarly, HasChangeForEnd, HasOtherCheck, begun, checked, batch_text}
use Rattle.fjall_table.specs.Frame.{NoFrame, framed}
use Rattle.fjall_manifest.specs.Records.{Fields, IsRecords}
use Rattle.fjall_base.specs.Lists.{last_of}
use Rattle.fjall_manifest.proofs.Currents as Currents
use Rattle.fjall_recovery.specs.Journals.{ReadsAs}
use Rattle.fjall_recovery.specs.Places.{texts_of}

-- ---- a beginning of a torn tail

regroup : (a b c more : List ℕ) → (a ++ (b ++ c)) ++ more ≡ a ++ (b ++ (c ++ more))
regroup a b c more = append_assoc a (b ++ c) more ∙ ap (λ (l : List ℕ). a ++ l) (append_assoc b c more)

early_more : (bytes more : List ℕ) → EndsEarly bytes → EndsEarly (bytes ++ more)
early_more bytes more h = record { count = h.count; number = h.number; changes = h.changes; found = h.found; more = h.more ++ more; start = h.start; each = h.each; fewer = h.fewer; end = h.end; text = ap (λ (l : List ℕ). l ++ more) h.text ∙ regroup (begun h.count h.number h.changes) (spelling (End h.found)) h.more more }

goes_on_more : (bytes more : List ℕ) → HasChangeForEnd bytes → HasChangeForEnd (bytes ++ more)
goes_on_more bytes more h = record { number = h.number; changes = h.changes; another = h.another; more = h.more ++ more; start = h.start; each = h.each; change = h.change; text = ap (λ (l : List ℕ). l ++ more) h.text ∙ regroup (begun (length h.changes) h.number h.changes) (spelling h.another) h.more more }

other_more : (bytes more : List ℕ) → HasOtherCheck bytes → HasOtherCheck (bytes ++ more)
other_more bytes more h = record { batch = h.batch; found = h.found; more = h.more ++ more; is_written = h.is_written; end = h.end; other = h.other; text = ap (λ (l : List ℕ). l ++ more) h.text ∙ regroup (checked h.batch) (spelling (End h.found)) h.more more }

none_in_part : (part lost rest : List ℕ) → part ++ lost ≡ rest → NoneAt rest → NoneAt part
none_in_part part lost rest all none batch more is at = none batch (more ++ lost) is (sym all ∙ ap (λ (l : List ℕ). l ++ lost) at ∙ append_assoc (batch_text batch) more lost)

no_front : (part lost : List ℕ) → part ++ lost ≡ [] → part ≡ []
no_front part lost e = nil_from_length part (let l = length-append part lost in let z = ap length e in omega arith)

part_tail : (part lost rest : List ℕ) → part ++ lost ≡ rest → IsTail rest Clean ⊎ IsTail rest Torn → IsTail part Clean ⊎ IsTail part Torn
part_tail part lost rest all (inl clean) = inl (no_front part lost (all ∙ clean))
part_tail [] lost rest all (inr torn) = inl refl
part_tail (b ∷ part) lost rest all (inr torn) = inr (
  (λ e. let bad : ⊥ = cc in bad),
  (λ h. torn.1 (subst EndsEarly all (early_more (b ∷ part) lost h))),
  (λ h. torn.2 (subst HasChangeForEnd all (goes_on_more (b ∷ part) lost h))),
  (λ h. torn.3 (subst HasOtherCheck all (other_more (b ∷ part) lost h))),
)

-- ---- a text that is cut behind its front

-- the length of a front that is within the text
pub front_length : (text front : List ℕ) (end : ℕ) → end ≤ length text → take end text ≡ front → end ≡ length front
front_length text front end within is = let l = length-take end text in let z = ap length is in omega (arith, within, l, z)

-- the parts of what is left of it
record Parts (text : List ℕ) (end k : ℕ) : Type 0 where
  pub front : take end (take k text) ≡ take end text
  pub behind : drop end (take k text) ++ drop (k - end) (drop end text) ≡ drop end text
  pub within : end ≤ length (take k text)

parts : (text : List ℕ) (end k : ℕ) → end ≤ length text → end ≤ k → Parts text end k
parts text end k within le =
    let front = take end text in
    let rest = drop end text in
    let count : end ≡ length front = front_length text front end within refl in
    let left : take k text ≡ front ++ take (k - end) rest =
    ap (take k) (sym (take-append-drop end text)) ∙ take_past front rest k (omega (arith, count, le)) ∙ ap (λ n. front ++ take (k - n) rest) (sym count) in
    record {
      front = ap (take end) left ∙ take_at front (take (k - end) rest) end (sym count);
      behind = ap (λ l. l ++ drop (k - end) rest) (ap (drop end) left ∙ drop_at front (take (k - end) rest) end (sym count)) ∙ take-append-drop (k - end) rest;
      within = let l = ap length left in let m = length-append front (take (k - end) rest) in omega (arith, l, m, count);
    }

-- ---- journals

pub whole_length : (text : List ℕ) (bs : List Written) (end : ℕ) → IsWhole text bs end → end ≡ length (texts_of bs)
whole_length text bs end whole = front_length text (texts_of bs) end whole.within whole.texts

pub whole_cut : (text : List ℕ) (bs : List Written) (end k : ℕ) → IsWhole text bs end → end ≤ k → IsWhole (take k text) bs end
whole_cut text bs end k whole le =
    let p = parts text end k whole.within le in
    record { within = p.within; texts = p.front ∙ whole.texts; each = whole.each; last = none_in_part _ _ (drop end text) p.behind whole.last }

-- clean or torn
abbrev pub ReadsOn : List ℕ → List Written → Type 0
ReadsOn text bs = ReadsAs text bs Clean ⊎ ReadsAs text bs Torn

tails_cut : (text : List ℕ) (bs : List Written) (end k : ℕ) → IsWhole text bs end → end ≤ k → IsTail (drop end text) Clean ⊎ IsTail (drop end text) Torn → ReadsOn (take k text) bs
tails_cut text bs end k whole le tail =
    let p = parts text end k whole.within le in
    let cut = whole_cut text bs end k whole le in
    ⊎_elim (λ clean. inl (record { end = end; whole = cut; behind = clean })) (λ torn. inr (record { end = end; whole = cut; behind = torn })) (part_tail _ _ (drop end text) p.behind tail)

pub journal_cut : (text : List ℕ) (bs : List Written) (k : ℕ) → length (texts_of bs) ≤ k → ReadsOn text bs → ReadsOn (take k text) bs
journal_cut text bs k le (inl clean) = let n = whole_length text bs clean.end clean.whole in tails_cut text bs clean.end k clean.whole (omega (arith, n, le)) (inl clean.behind)
journal_cut text bs k le (inr torn) = let n = whole_length text bs torn.end torn.whole in tails_cut text bs torn.end k torn.whole (omega (arith, n, le)) (inr torn.behind)

-- ---- records

none_before : (part lost rest : List ℕ) → part ++ lost ≡ rest → NoFrame 4 rest → NoFrame 4 part
none_before part lost rest all none payload more fits at = none payload (more ++ lost) fits (sym all ∙ ap (λ (l : List ℕ). l ++ lost) at ∙ append_assoc (framed 4 payload) more lost)

pub begin_records : (text : List ℕ) (rs : List Fields) (end k : ℕ) → IsRecords text rs end → end ≤ k → IsRecords (take k text) rs end
begin_records text rs end k whole le =
    let p = parts text end k whole.within le in
    record { within = p.within; texts = p.front ∙ whole.texts; each = whole.each; last = none_before _ _ (drop end text) p.behind whole.last }

-- what the records of a text say, where its last one is this
pub record Lasts (text : List ℕ) (last : List Fields) : Type 0 where
  pub records : List Fields
  pub end : ℕ
  pub whole : IsRecords text records end
  pub is : last_of records ≡ last_of last

-- A beginning of a text is cut behind the whole records of the text.
pub records_cut : (text : List ℕ) (rs : List Fields) (len n k : ℕ) → IsRecords text rs len → len ≤ k → (ps : List Fields) (end : ℕ) → IsRecords (take n text) ps end → Lasts (take k (take n text)) ps
records_cut text rs len n k whole le ps end part =
    elim (cases_lt k (length (take n text))) [
      | inl less ↦
          let l = length-take n text in
          let here = begin_records text rs len n whole (omega (arith, less, le, l)) in
          let same = (Currents.one_reading (take n text) rs ps len end here part).0 in
          record { records = rs; end = len; whole = begin_records (take n text) rs len k here le; is = ap last_of same }
      | inr all ↦ record { records = ps; end = end; whole = subst (λ t. IsRecords t ps end) (sym (take_all k (take n text) all)) part; is = refl }
    ]
