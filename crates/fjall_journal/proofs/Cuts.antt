-- What stands at a place has one tail, and a text that is cut short reads as its first batches, clean or torn.
use Rattle.std.proofs.Common.{◌≡◌, ◌≢◌, ℕ, ◌<◌, ◌≤◌, List, [], ◌∷◌, ◌++◌, length, take, drop, Result, Ok, Err, refl, sym, ap, subst, ◌∙◌, append_assoc, arith, ◌⊎◌, inl, inr}
use Rattle.std.specs.List.{flat_map, AllByRecursion}
use Rattle.std.proofs.lemmas.Bool.{cases_lt}
use Rattle.std.proofs.lemmas.List.{take_at, drop_at, length-append, append-nil, take-append-drop, take-append-le, append_cancel_left, nil_from_length}
use Rattle.std.proofs.lemmas.List.Concat.{flat_map-cons}
use Rattle.fjall_journal.specs.declared.entry.Entry.{Entry}
use Rattle.fjall_journal.specs.declared.entry.Entry.TheVariants.{Start, End}
use Rattle.fjall_base.specs.declared.error.JournalRecoveryError.TheVariants.{InsufficientLength, TooManyItems, ChecksumMismatch, InvalidFileName, TornTail}
use Rattle.fjall_journal.specs.declared.batch.Tail.{Tail}
use Rattle.fjall_journal.specs.declared.batch.Tail.TheVariants.{Clean, Torn, Damaged}
use Rattle.fjall_journal.specs.Spelling.{spelling}
use Rattle.fjall_journal.specs.Batches.{Written, begun, checked, batch_text, IsWritten, EndsEarly, HasChangeForEnd, HasOtherCheck, IsTail, Shown, shown, NoneAt, KeptBatches}
use Rattle.fjall_journal.specs.Steps.{batch_at}
use Rattle.fjall_base.proofs.Codecs.{IsBytes}
use Rattle.fjall_journal.proofs.Entries.{text_some}
use Rattle.fjall_journal.proofs.Batches.{done_is, as_some, some_early, some_goes_on, some_other, batch_takes, batch_again, batch_some, tail_is}

nonempty : (bytes : List ℕ) (count number : ℕ) (changes : List Entry) (x : List ℕ) → bytes ≡ begun count number changes ++ x → 0 < length bytes
nonempty bytes count number changes x e =
    let s = text_some (Start count number) in
    let l0 = ap length e in
    let l1 = length-append (begun count number changes) x in
    let l2 = length-append (spelling (Start count number)) (flat_map spelling changes) in
    omega arith

early_at : (bytes : List ℕ) → EndsEarly bytes → batch_at bytes ≡ Err (Damaged InsufficientLength)
early_at bytes h = as_some bytes (nonempty bytes h.count h.number h.changes _ h.text) ∙ some_early bytes h

goes_on_at : (bytes : List ℕ) → HasChangeForEnd bytes → batch_at bytes ≡ Err (Damaged TooManyItems)
goes_on_at bytes h = as_some bytes (nonempty bytes (length h.changes) h.number h.changes _ h.text) ∙ some_goes_on bytes h

other_at : (bytes : List ℕ) → HasOtherCheck bytes → batch_at bytes ≡ Err (Damaged ChecksumMismatch)
other_at bytes h = as_some bytes (nonempty bytes (length h.batch.changes) h.batch.number h.batch.changes _ h.text) ∙ some_other bytes h

-- ---- one tail

torn_at : (bytes : List ℕ) (r : Result (Shown × List ℕ) Tail) → IsBytes bytes → NoneAt bytes → IsTail bytes Torn → batch_at bytes ≡ r → batch_at bytes ≡ Err Torn
torn_at bytes (Ok x) fits none h e = let n = batch_takes bytes x fits e in absurd (none n.batch x.1 n.is n.takes.parts)
torn_at bytes (Err Clean) fits none h e = absurd (h.0 (tail_is bytes Clean fits e))
torn_at bytes (Err Torn) fits none h e = e
torn_at bytes (Err (Damaged InsufficientLength)) fits none h e = absurd (h.1 (tail_is bytes (Damaged InsufficientLength) fits e))
torn_at bytes (Err (Damaged TooManyItems)) fits none h e = absurd (h.2 (tail_is bytes (Damaged TooManyItems) fits e))
torn_at bytes (Err (Damaged ChecksumMismatch)) fits none h e = absurd (h.3 (tail_is bytes (Damaged ChecksumMismatch) fits e))
torn_at bytes (Err (Damaged InvalidFileName)) fits none h e = absurd (tail_is bytes (Damaged InvalidFileName) fits e)
torn_at bytes (Err (Damaged TornTail)) fits none h e = absurd (tail_is bytes (Damaged TornTail) fits e)

tail_at : (bytes : List ℕ) (t : Tail) → IsBytes bytes → NoneAt bytes → IsTail bytes t → batch_at bytes ≡ Err t
unfolding batch_at
tail_at bytes Clean fits none h = ap batch_at h
tail_at bytes Torn fits none h = torn_at bytes (batch_at bytes) fits none h refl
tail_at bytes (Damaged InsufficientLength) fits none h = early_at bytes h
tail_at bytes (Damaged TooManyItems) fits none h = goes_on_at bytes h
tail_at bytes (Damaged ChecksumMismatch) fits none h = other_at bytes h
tail_at bytes (Damaged InvalidFileName) fits none h = absurd h
tail_at bytes (Damaged TornTail) fits none h = absurd h

abbrev failed : Tail → Result (Shown × List ℕ) Tail
failed t = Err t

failed_is : (t u : Tail) → failed t ≡ failed u → t ≡ u
failed_is t u e = cc

pub one_tail : (bytes : List ℕ) (t u : Tail) → IsBytes bytes → NoneAt bytes → IsTail bytes t → IsTail bytes u → t ≡ u
one_tail bytes t u fits none h k = failed_is t u (sym (tail_at bytes t fits none h) ∙ tail_at bytes u fits none k)

-- ---- a cut

regroup : (a b c q : List ℕ) → (a ++ (b ++ c)) ++ q ≡ a ++ (b ++ (c ++ q))
regroup a b c q = append_assoc a (b ++ c) q ∙ ap (λ (v : List ℕ). a ++ v) (append_assoc b c q)

early_more : (bytes q : List ℕ) → EndsEarly bytes → EndsEarly (bytes ++ q)
early_more bytes q h = record { count = h.count; number = h.number; changes = h.changes; found = h.found; more = h.more ++ q; start = h.start; each = h.each; fewer = h.fewer; end = h.end; text = ap (λ (v : List ℕ). v ++ q) h.text ∙ regroup (begun h.count h.number h.changes) (spelling (End h.found)) h.more q }

goes_on_more : (bytes q : List ℕ) → HasChangeForEnd bytes → HasChangeForEnd (bytes ++ q)
goes_on_more bytes q h = record { number = h.number; changes = h.changes; another = h.another; more = h.more ++ q; start = h.start; each = h.each; change = h.change; text = ap (λ (v : List ℕ). v ++ q) h.text ∙ regroup (begun (length h.changes) h.number h.changes) (spelling h.another) h.more q }

other_more : (bytes q : List ℕ) → HasOtherCheck bytes → HasOtherCheck (bytes ++ q)
other_more bytes q h = record { batch = h.batch; found = h.found; more = h.more ++ q; is_written = h.is_written; end = h.end; other = h.other; text = ap (λ (v : List ℕ). v ++ q) h.text ∙ regroup (checked h.batch) (spelling (End h.found)) h.more q }

-- a part of a batch's text, neither nothing nor all
cut_is_torn : (b : Written) (part lost : List ℕ) → IsWritten b → part ++ lost ≡ batch_text b → part ≢ [] → lost ≢ [] → NoneAt part × IsTail part Torn
cut_is_torn b part lost is e some missing =
    let whole : batch_at (part ++ lost) ≡ Ok (shown b, []) = ap batch_at (e ∙ sym (append-nil (batch_text b))) ∙ batch_again b [] is in
    let none : NoneAt part = λ c more its text. missing (nothing_lost whole c more its text) in
    (none, (some, (λ h. let g = early_at (part ++ lost) (early_more part lost h) in absurd cc), (λ h. let g = goes_on_at (part ++ lost) (goes_on_more part lost h) in absurd cc), (λ h. let g = other_at (part ++ lost) (other_more part lost h) in absurd cc)))
  where
    end_nil : (x y : List ℕ) → x ++ y ≡ [] → y ≡ []
    end_nil x y e = nil_from_length y (let l = length-append x y in let z = ap length e in omega arith)

    nothing_lost : batch_at (part ++ lost) ≡ Ok (shown b, []) → (c : Written) (more : List ℕ) → IsWritten c → part ≡ batch_text c ++ more → lost ≡ []
    nothing_lost whole c more its text =
        let other : batch_at (part ++ lost) ≡ Ok (shown c, more ++ lost) = ap (λ (v : List ℕ). batch_at (v ++ lost)) text ∙ ap batch_at (append_assoc (batch_text c) more lost) ∙ batch_again c (more ++ lost) its in
        let same : (shown c, more ++ lost) ≡ (shown b, []) = done_is (shown c, more ++ lost) (shown b, []) (sym other ∙ whole) in
        end_nil more lost (ap (λ (p : Shown × List ℕ). p.1) same)

pub none_at_nil : NoneAt []
none_at_nil c more its text = let l = ap length text in let m = length-append (batch_text c) more in let s = batch_some c in absurd (omega arith)

record Cut (bs : List Written) (text : List ℕ) : Type 0 where
  pub kept : List Written
  pub gone : List Written
  pub part : List ℕ
  pub all : kept ++ gone ≡ bs
  pub each : AllByRecursion IsWritten kept
  pub text_is : text ≡ flat_map batch_text kept ++ part
  pub none : NoneAt part
  pub tail : IsTail part Clean ⊎ IsTail part Torn

texts_first : (b : Written) (bs : List Written) → flat_map batch_text (b ∷ bs) ≡ batch_text b ++ flat_map batch_text bs
texts_first b bs = flat_map-cons batch_text b bs

cut : (bs : List Written) (text lost : List ℕ) → AllByRecursion IsWritten bs → text ++ lost ≡ flat_map batch_text bs → Cut bs text
cut [] text lost each e =
    let nothing : text ≡ [] = nil_from_length text (let l = length-append text lost in let z = ap length e in omega arith) in
    record { kept = []; gone = []; part = text; all = refl; each = tt; text_is = refl; none = subst (λ (v : List ℕ). NoneAt v) (sym nothing) none_at_nil; tail = inl nothing }
cut (b ∷ bs) text lost each e =
    elim (cases_lt (length text) (length (batch_text b))) [
      | inr le ↦
          let parts : text ≡ batch_text b ++ drop (length (batch_text b)) text = sym (take-append-drop (length (batch_text b)) text) ∙ ap (λ (v : List ℕ). v ++ drop (length (batch_text b)) text) (front b bs text lost le e) in
          let after : drop (length (batch_text b)) text ++ lost ≡ flat_map batch_text bs =
          append_cancel_left (batch_text b) _ _ (sym (append_assoc (batch_text b) (drop (length (batch_text b)) text) lost) ∙ ap (λ (v : List ℕ). v ++ lost) (sym parts) ∙ e ∙ texts_first b bs) in
          let c = cut bs (drop (length (batch_text b)) text) lost each.1 after in
          record {
            kept = b ∷ c.kept;
            gone = c.gone;
            part = c.part;
            all = ap (λ (v : List Written). b ∷ v) c.all;
            each = (each.0, c.each);
            text_is = parts ∙ ap (λ (v : List ℕ). batch_text b ++ v) c.text_is ∙ sym (append_assoc (batch_text b) (flat_map batch_text c.kept) c.part) ∙ ap (λ (v : List ℕ). v ++ c.part) (sym (texts_first b c.kept));
            none = c.none;
            tail = c.tail;
          }
      | inl lt ↦ first_cut b bs text lost each.0 lt e
    ]
  where
    front : (b : Written) (bs : List Written) (text lost : List ℕ) → length (batch_text b) ≤ length text → text ++ lost ≡ flat_map batch_text (b ∷ bs) → take (length (batch_text b)) text ≡ batch_text b
    front b bs text lost le e = sym (take-append-le (length (batch_text b)) text lost le) ∙ ap (take (length (batch_text b))) (e ∙ texts_first b bs) ∙ take_at (batch_text b) (flat_map batch_text bs) (length (batch_text b)) refl

    first_cut : (b : Written) (bs : List Written) (text lost : List ℕ) → IsWritten b → length text < length (batch_text b) → text ++ lost ≡ flat_map batch_text (b ∷ bs) → Cut (b ∷ bs) text
    first_cut b bs [] lost is lt e = record { kept = []; gone = b ∷ bs; part = []; all = refl; each = tt; text_is = refl; none = none_at_nil; tail = inl refl }
    first_cut b bs (x ∷ xs) lost is lt e =
        let text = x ∷ xs in
        let here : take (length text) (batch_text b) ≡ text =
        sym (take-append-le (length text) (batch_text b) (flat_map batch_text bs) (omega arith)) ∙ ap (take (length text)) (sym (e ∙ texts_first b bs)) ∙ take_at text lost (length text) refl in
        let split : text ++ drop (length text) (batch_text b) ≡ batch_text b = ap (λ (v : List ℕ). v ++ drop (length text) (batch_text b)) (sym here) ∙ take-append-drop (length text) (batch_text b) in
        let t = cut_is_torn b text (drop (length text) (batch_text b)) is split (λ nothing. absurd cc) (λ nothing. let l = ap length split in let m = length-append text (drop (length text) (batch_text b)) in let z = ap length nothing in omega arith) in
        record { kept = []; gone = b ∷ bs; part = text; all = refl; each = tt; text_is = refl; none = t.0; tail = inr t.1 }

pub cut_reads : (bs : List Written) (text lost : List ℕ) → AllByRecursion IsWritten bs → text ++ lost ≡ flat_map batch_text bs → KeptBatches bs text
cut_reads bs text lost each e =
    let c = cut bs text lost each e in
    let n = length (flat_map batch_text c.kept) in
    let front : take n text ≡ flat_map batch_text c.kept = ap (take n) c.text_is ∙ take_at (flat_map batch_text c.kept) c.part n refl in
    let back : drop n text ≡ c.part = ap (drop n) c.text_is ∙ drop_at (flat_map batch_text c.kept) c.part n refl in
    let within : n ≤ length text = let l = ap length c.text_is in let m = length-append (flat_map batch_text c.kept) c.part in omega arith in
    record {
      kept = c.kept;
      gone = c.gone;
      all = c.all;
      whole = record { within = within; texts = front; each = c.each; last = λ b more is at. c.none b more is (sym back ∙ at) };
      tail = subst (λ (v : List ℕ). IsTail v Clean ⊎ IsTail v Torn) (sym back) c.tail;
    }
