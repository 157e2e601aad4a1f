-- How a beginning of a text reads that has all whole batches and all whole records at the text's front.
use Rattle.std.proofs.Common.{◌≡◌, ◌⊎◌, inl, inr, ⊎_elim, ℕ, ◌≤◌, List, [], ◌∷◌, ◌++◌, take, drop, length, refl, sym, ◌∙◌, ap, subst, arith, append_assoc, take-append-drop}
use Rattle.std.specs.List.{flat_map}
use Rattle.std.proofs.lemmas.List.{take_at, drop_at, nil_from_length, length-append, length-take}
use Rattle.fjall_journal.specs.declared.entry.Entry.TheVariants.{End}
use Rattle.fjall_journal.specs.declared.batch.Tail.TheVariants.{Clean, Torn}
use Rattle.fjall_journal.specs.Spelling.{spelling}
use Rattle.fjall_journal.specs.Batches.{Written, IsWritten, IsWhole, IsTail, NoneAt, EndsEarly, HasChangeForEnd, HasOtherCheck, batch_text, begun, checked}
use Rattle.fjall_table.specs.Frame.{NoFrame, framed}
use Rattle.fjall_manifest.specs.Records.{Fields, IsRecord, IsRecords, record_text}
use Rattle.fjall_recovery.specs.Journals.{ReadsAs}
use Rattle.fjall_recovery.specs.Wild.{IsAtFront, NoneForged}

-- ---- what stands behind

regroup : (a b c q : List ℕ) → (a ++ (b ++ c)) ++ q ≡ a ++ (b ++ (c ++ q))
regroup a b c q = append_assoc a (b ++ c) q ∙ ap (λ (v : List ℕ). a ++ v) (append_assoc b c q)

ends_early_more : (bytes q : List ℕ) → EndsEarly bytes → EndsEarly (bytes ++ q)
ends_early_more bytes q h = record {
  count = h.count;
  number = h.number;
  changes = h.changes;
  found = h.found;
  more = h.more ++ q;
  start = h.start;
  each = h.each;
  fewer = h.fewer;
  end = h.end;
  text = ap (λ (v : List ℕ). v ++ q) h.text ∙ regroup (begun h.count h.number h.changes) (spelling (End h.found)) h.more q;
}

change_for_end_more : (bytes q : List ℕ) → HasChangeForEnd bytes → HasChangeForEnd (bytes ++ q)
change_for_end_more bytes q h = record {
  number = h.number;
  changes = h.changes;
  another = h.another;
  more = h.more ++ q;
  start = h.start;
  each = h.each;
  change = h.change;
  text = ap (λ (v : List ℕ). v ++ q) h.text ∙ regroup (begun (length h.changes) h.number h.changes) (spelling h.another) h.more q;
}

other_check_more : (bytes q : List ℕ) → HasOtherCheck bytes → HasOtherCheck (bytes ++ q)
other_check_more bytes q h = record {
  batch = h.batch;
  found = h.found;
  more = h.more ++ q;
  is_written = h.is_written;
  end = h.end;
  other = h.other;
  text = ap (λ (v : List ℕ). v ++ q) h.text ∙ regroup (checked h.batch) (spelling (End h.found)) h.more q;
}

-- a beginning of a torn tail is torn, or there is nothing of it
torn_front : (front rest : List ℕ) → IsTail (front ++ rest) Torn → IsTail front Clean ⊎ IsTail front Torn
torn_front [] rest torn = inl refl
torn_front (b ∷ bs) rest torn =
    inr ((λ none. let no : ⊥ = cc in no), (λ h. torn.1 (ends_early_more (b ∷ bs) rest h)), (λ h. torn.2 (change_for_end_more (b ∷ bs) rest h)), (λ h. torn.3 (other_check_more (b ∷ bs) rest h)))

none_front : (front rest : List ℕ) → NoneAt (front ++ rest) → NoneAt front
none_front front rest none b more is at = none b (more ++ rest) is (ap (λ (v : List ℕ). v ++ rest) at ∙ append_assoc (batch_text b) more rest)

no_frame_front : (front rest : List ℕ) → NoFrame 4 (front ++ rest) → NoFrame 4 front
no_frame_front front rest none payload more fits at = none payload (more ++ rest) fits (ap (λ (v : List ℕ). v ++ rest) at ∙ append_assoc (framed 4 payload) more rest)

-- ---- the front of a text

-- A text and what stands behind it begin with a front that ends where it ends in the text, and so does the text alone: what stands
-- behind the front there is a beginning of what stands behind it in all.
record HasFront (text rest front : List ℕ) (end : ℕ) : Type 0 where
  pub behind : List ℕ
  pub within : end ≤ length text
  pub texts : take end text ≡ front
  pub left : drop end text ≡ behind
  pub more : drop end (text ++ rest) ≡ behind ++ rest

has_front : (text rest front : List ℕ) (end : ℕ) → end ≤ length (text ++ rest) → take end (text ++ rest) ≡ front → (IsAtFront front (text ++ rest) → IsAtFront front text) → HasFront text rest front end
has_front text rest front end within taken has =
    let len : end ≡ length front = let l0 = ap length taken in let l1 = length-take end (text ++ rest) in omega (arith, l0, l1, within) in
    let begins = has (drop end (text ++ rest), sym (take-append-drop end (text ++ rest)) ∙ ap (λ (v : List ℕ). v ++ drop end (text ++ rest)) taken) in
    let again : text ++ rest ≡ front ++ (begins.0 ++ rest) = ap (λ (v : List ℕ). v ++ rest) begins.1 ∙ append_assoc front begins.0 rest in
    record {
      behind = begins.0;
      within = let l0 = ap length begins.1 in let l1 = length-append front begins.0 in omega (arith, l0, l1, len);
      texts = ap (take end) begins.1 ∙ take_at front begins.0 end (sym len);
      left = ap (drop end) begins.1 ∙ drop_at front begins.0 end (sym len);
      more = ap (drop end) again ∙ drop_at front (begins.0 ++ rest) end (sym len);
    }

-- ---- a text and a beginning of it

module _ (text rest : List ℕ) where
  module _ (has : NoneForged batch_text IsWritten text (text ++ rest)) where
    batches_at : (bs : List Written) (end : ℕ) → IsWhole (text ++ rest) bs end → HasFront text rest (flat_map batch_text bs) end
    batches_at bs end w = has_front text rest (flat_map batch_text bs) end w.within w.texts (has bs w.each)

    -- the same batches stand whole there, up to the same end
    pub whole_front : (bs : List Written) (end : ℕ) → IsWhole (text ++ rest) bs end → IsWhole text bs end
    whole_front bs end w =
        let c = batches_at bs end w in
        record {
          within = c.within;
          texts = c.texts;
          each = w.each;
          last = subst NoneAt (sym c.left) (none_front c.behind rest (subst NoneAt c.more w.last));
        }

    pub torn_left : (bs : List Written) (end : ℕ) → IsWhole (text ++ rest) bs end → IsTail (drop end (text ++ rest)) Torn → IsTail (drop end text) Clean ⊎ IsTail (drop end text) Torn
    torn_left bs end w torn =
        let c = batches_at bs end w in
        subst (λ (v : List ℕ). IsTail v Clean ⊎ IsTail v Torn) (sym c.left) (torn_front c.behind rest (subst (λ (v : List ℕ). IsTail v Torn) c.more torn))

    pub clean_left : (bs : List Written) (end : ℕ) → IsWhole (text ++ rest) bs end → IsTail (drop end (text ++ rest)) Clean → IsTail (drop end text) Clean
    clean_left bs end w clean =
        let c = batches_at bs end w in
        let none : c.behind ≡ [] = nil_from_length c.behind (let l0 = ap length (sym c.more ∙ clean) in let l1 = length-append c.behind rest in omega (arith, l0, l1)) in
        c.left ∙ none

    -- so a journal of them is as clean there, and a torn one is clean or torn
    pub clean_front : (bs : List Written) → ReadsAs (text ++ rest) bs Clean → ReadsAs text bs Clean
    clean_front bs reads = record { end = reads.end; whole = whole_front bs reads.end reads.whole; behind = clean_left bs reads.end reads.whole reads.behind }

    pub torn_or_clean_front : (bs : List Written) → ReadsAs (text ++ rest) bs Torn → ReadsAs text bs Clean ⊎ ReadsAs text bs Torn
    torn_or_clean_front bs reads =
        let whole = whole_front bs reads.end reads.whole in
        ⊎_elim (λ clean. inl (record { end = reads.end; whole = whole; behind = clean })) (λ torn. inr (record { end = reads.end; whole = whole; behind = torn }))
        (torn_left bs reads.end reads.whole reads.behind)

  module _ (has : NoneForged record_text IsRecord text (text ++ rest)) where
    -- the same records stand whole there
    pub records_front : (rs : List Fields) (end : ℕ) → IsRecords (text ++ rest) rs end → IsRecords text rs end
    records_front rs end w =
        let c = has_front text rest (flat_map record_text rs) end w.within w.texts (has rs w.each) in
        record {
          within = c.within;
          texts = c.texts;
          each = w.each;
          last = subst (NoFrame 4) (sym c.left) (no_frame_front c.behind rest (subst (NoFrame 4) c.more w.last));
        }
