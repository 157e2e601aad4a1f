-- A batch that is read is the one that stands there, and what stands there is read; so is each tail.
use Rattle.std.proofs.Common.{◌≡◌, ℕ, ◌+◌, ◌-◌, ◌<◌, List, [], ◌∷◌, ◌++◌, length, take, drop, map, Result, Ok, Err, refl, sym, ap, subst, ◌∙◌, append_assoc, arith, ◌⊎◌, inl, inr}
use Rattle.std.specs.List.{flat_map, AllByRecursion}
use Rattle.std.proofs.lemmas.List.{take_at, drop_at, length-append, map_push}
use Rattle.fjall_journal.specs.declared.entry.Entry.{Entry}
use Rattle.fjall_journal.specs.declared.entry.Entry.TheVariants.{Start, End}
use Rattle.fjall_base.specs.declared.error.JournalRecoveryError.TheVariants.{InsufficientLength, TooManyItems, ChecksumMismatch}
use Rattle.fjall_journal.specs.declared.batch.Tail.{Tail}
use Rattle.fjall_journal.specs.declared.batch.Tail.TheVariants.{Clean, Torn, Damaged}
use Rattle.fjall_journal.specs.declared.batch.ReadBatchItem.{ReadBatchItem}
use Rattle.fjall_journal.specs.Spelling.{spelling, HasSpelling}
use Rattle.fjall_base.specs.Results.{◌>>=◌}
use Rattle.fjall_base.specs.Check.{check}
use Rattle.fjall_base.proofs.Checks.{check_len}
use Rattle.fjall_journal.specs.Batches.{Written, IsChange, begun, checked, batch_text, IsWritten, NoneAt, IsWhole, EndsEarly, HasChangeForEnd, HasOtherCheck, IsTail, Shown, items_of, clears_of, shown}
use Rattle.fjall_journal.specs.Steps.{opening_at, changes_at, closing_at, unclosed_at, some_batch_at, batch_at, known_at}
use Rattle.fjall_base.proofs.Codecs.{IsBytes, one_behind, each_more}
use Rattle.fjall_base.proofs.Results.{bind_ok}
use Rattle.fjall_journal.proofs.Fields.{Takes, Takes-then}
use Rattle.fjall_journal.proofs.Entries.{bind_is, text_some}
use Rattle.fjall_journal.proofs.Changes.{bind_err, opening_takes, opening_err, opening_again, changes_take, changes_err, changes_again, changes_early, closing_takes, closing_err, closing_again, closing_other, closing_another, ending_again}

front_is : (bytes text rest : List ℕ) → bytes ≡ text ++ rest → take (length bytes - length rest) bytes ≡ text
front_is bytes text rest e =
    let sum : length bytes ≡ length text + length rest = ap length e ∙ length-append text rest in
    let len : length bytes - length rest ≡ length text = omega arith in
    rw (len, e) (take_at text rest (length text) refl)

back_is : (bytes text rest : List ℕ) → bytes ≡ text ++ rest → drop (length bytes - length rest) bytes ≡ rest
back_is bytes text rest e =
    let sum : length bytes ≡ length text + length rest = ap length e ∙ length-append text rest in
    let len : length bytes - length rest ≡ length text = omega arith in
    rw (len, e) (drop_at text rest (length text) refl)

-- ---- a batch that was read

pub record BatchRead (bytes : List ℕ) (x : Shown × List ℕ) : Type 0 where
  pub batch : Written
  pub is : IsWritten batch
  pub takes : Takes bytes (batch_text batch) x.1
  pub shows : shown batch ≡ x.0

abbrev pub done : Shown × List ℕ → Result (Shown × List ℕ) Tail
done x = Ok x

pub done_is : (x y : Shown × List ℕ) → done x ≡ done y → x ≡ y
done_is x y e = cc

abbrev made : ℕ → (List ReadBatchItem × List ℕ) → List ℕ → Shown × List ℕ
made number kinds rest = (record { number = number; items = kinds.0; clears = kinds.1 }, rest)

-- what follows the Start, and what follows the changes
abbrev closed : List ℕ → ℕ → (List ReadBatchItem × List ℕ) × List ℕ → Result (Shown × List ℕ) Tail
closed bytes number changes = closing_at (check (take (length bytes - length changes.1) bytes)) changes.1 >>= λ rest. Ok (made number changes.0 rest)

abbrev opened : List ℕ → (ℕ × ℕ) × List ℕ → Result (Shown × List ℕ) Tail
opened bytes opening = changes_at opening.0.0 opening.1 >>= λ changes. closed bytes opening.0.1 changes

-- two steps, whose value a third takes
bind_two : {A B C D E : Type 0} (r : Result A E) (f : A → Result B E) (g : A → B → C) (h : C → Result D E) → ((r >>= λ a. f a >>= λ b. Ok (g a b)) >>= h) ≡ (r >>= λ a. f a >>= λ b. h (g a b))
bind_two {B = B} {C = C} {D = D} {E = E} (Ok a) f g h = then_both (f a)
  where
    then_both : (s : Result B E) → ((s >>= λ b. Ok (g a b)) >>= h) ≡ (s >>= λ b. h (g a b))
    then_both (Ok b) = refl
    then_both (Err d) = refl
bind_two (Err d) f g h = refl

-- the steps of a batch, one behind another
some_steps : (bytes : List ℕ) → some_batch_at bytes ≡ (opening_at bytes >>= λ opening. opened bytes opening)
unfolding unclosed_at
some_steps bytes =
    bind_two (opening_at bytes) (λ opening. changes_at opening.0.0 opening.1) (λ opening changes. made opening.0.1 changes.0 changes.1)
    (λ batch. closing_at (check (take (length bytes - length batch.1) bytes)) batch.1 >>= λ rest. Ok (batch.0, rest))

some_takes : (bytes : List ℕ) (x : Shown × List ℕ) → IsBytes bytes → some_batch_at bytes ≡ Ok x → BatchRead bytes x
some_takes bytes x fits e =
    let a = bind_ok (opening_at bytes) (opened bytes) x (sym (some_steps bytes) ∙ e) in
    let b = bind_ok (changes_at a.0.0.0 a.0.1) (closed bytes a.0.0.1) x a.2 in
    let d = bind_ok (closing_at (check (take (length bytes - length b.0.1) bytes)) b.0.1) (λ rest. Ok (made a.0.0.1 b.0.0 rest)) x b.2 in
    let t0 = opening_takes bytes a.0 fits a.1 in
    let r = changes_take a.0.0.0 a.0.1 b.0 t0.0.rest_fits b.1 in
    let batch : Written = record { number = a.0.0.1; changes = r.changes } in
    let counted = Takes-then bytes (spelling (Start a.0.0.0 a.0.0.1)) a.0.1 (flat_map spelling r.changes) b.0.1 t0.0 r.takes in
    let front : Takes bytes (checked batch) b.0.1 = subst (λ (n : ℕ). Takes bytes (begun n a.0.0.1 r.changes) b.0.1) (sym r.count) counted in
    let sum-is : take (length bytes - length b.0.1) bytes ≡ checked batch = front_is bytes (checked batch) b.0.1 front.parts in
    let end = closing_takes (check (take (length bytes - length b.0.1) bytes)) b.0.1 d.0 front.rest_fits d.1 in
    let end' : Takes b.0.1 (spelling (End (check (checked batch)))) d.0 = subst (λ (s : List ℕ). Takes b.0.1 (spelling (End (check s))) d.0) sum-is end.0 in
    let whole = Takes-then bytes (checked batch) b.0.1 (spelling (End (check (checked batch)))) d.0 front end' in
    let seen : shown batch ≡ (made a.0.0.1 b.0.0 d.0).0 = rw (r.items, r.clears) refl in
    let fits' : IsWritten batch = record { number = t0.1.1; count = (let h = t0.1.0 in omega (arith, r.count)); each = r.each } in
    subst (λ (y : Shown × List ℕ). BatchRead bytes y) (done_is (made a.0.0.1 b.0.0 d.0) x d.2)
    (record { batch = batch; is = fits'; takes = whole; shows = seen })

-- ---- what stands there is read

opened_front : (count number : ℕ) (changes : List Entry) (tail : List ℕ) → begun count number changes ++ tail ≡ spelling (Start count number) ++ (flat_map spelling changes ++ tail)
opened_front count number changes tail = append_assoc (spelling (Start count number)) (flat_map spelling changes) tail

-- up to its End
unclosed_again : (b : Written) (tail : List ℕ) → HasSpelling (Start (length b.changes) b.number) → AllByRecursion IsChange b.changes → unclosed_at (checked b ++ tail) ≡ Ok (shown b, tail)
unfolding unclosed_at
unclosed_again b tail start each =
    let count = length b.changes in
    bind_is _ _ ((count, b.number), flat_map spelling b.changes ++ tail) _
    (ap opening_at (opened_front count b.number b.changes tail) ∙ opening_again count b.number (flat_map spelling b.changes ++ tail) start)
    (bind_is _ _ ((items_of b.changes, clears_of b.changes), tail) _ (changes_again b.changes tail each) refl)

some_front : (b : Written) (tail : List ℕ) → HasSpelling (Start (length b.changes) b.number) → AllByRecursion IsChange b.changes
    → some_batch_at (checked b ++ tail) ≡ (closing_at (check (checked b)) tail >>= λ rest. Ok (shown b, rest))
some_front b tail start each =
    bind_is _ _ (shown b, tail) _ (unclosed_again b tail start each)
    (ap (λ (s : List ℕ). closing_at (check s) tail >>= λ rest. Ok (shown b, rest)) (front_is (checked b ++ tail) (checked b) tail refl))

some_again : (b : Written) (rest : List ℕ) → IsWritten b → HasSpelling (End (check (checked b))) → some_batch_at (batch_text b ++ rest) ≡ Ok (shown b, rest)
some_again b rest is end =
    ap some_batch_at (append_assoc (checked b) (spelling (End (check (checked b)))) rest)
    ∙ some_front b (spelling (End (check (checked b))) ++ rest) (is.count, is.number) is.each
    ∙ bind_is _ _ rest _ (closing_again (check (checked b)) rest end) refl

pub some_early : (bytes : List ℕ) → EndsEarly bytes → some_batch_at bytes ≡ Err (Damaged InsufficientLength)
some_early bytes h =
    let tail = spelling (End h.found) ++ h.more in
    let regrouped : bytes ≡ spelling (Start h.count h.number) ++ (flat_map spelling h.changes ++ tail) = h.text ∙ opened_front h.count h.number h.changes tail in
    some_steps bytes ∙ bind_is _ (opened bytes) ((h.count, h.number), flat_map spelling h.changes ++ tail) _ (ap opening_at regrouped ∙ opening_again h.count h.number (flat_map spelling h.changes ++ tail) h.start)
    (ap (λ (r : Result ((List ReadBatchItem × List ℕ) × List ℕ) Tail). r >>= closed bytes h.number) (changes_early h.changes h.count h.found h.more h.each h.fewer h.end))

pub some_goes_on : (bytes : List ℕ) → HasChangeForEnd bytes → some_batch_at bytes ≡ Err (Damaged TooManyItems)
some_goes_on bytes h =
    let b : Written = record { number = h.number; changes = h.changes } in
    ap some_batch_at h.text ∙ some_front b (spelling h.another ++ h.more) h.start h.each
    ∙ ap (λ (r : Result (List ℕ) Tail). r >>= λ rest. Ok (shown b, rest)) (closing_another (check (checked b)) h.another h.more h.change)

pub some_other : (bytes : List ℕ) → HasOtherCheck bytes → some_batch_at bytes ≡ Err (Damaged ChecksumMismatch)
some_other bytes h =
    let b = h.batch in
    ap some_batch_at h.text ∙ some_front b (spelling (End h.found) ++ h.more) (h.is_written.count, h.is_written.number) h.is_written.each
    ∙ ap (λ (r : Result (List ℕ) Tail). r >>= λ rest. Ok (shown b, rest)) (closing_other (check (checked b)) h.found h.more h.end h.other)

-- ---- the tail that was told

abbrev Told : List ℕ → Tail → Type 0
Told bytes t = (t ≡ Torn) ⊎ (((t ≡ Damaged InsufficientLength) × EndsEarly bytes) ⊎ (((t ≡ Damaged TooManyItems) × HasChangeForEnd bytes) ⊎ ((t ≡ Damaged ChecksumMismatch) × HasOtherCheck bytes)))

some_err : (bytes : List ℕ) (t : Tail) → IsBytes bytes → some_batch_at bytes ≡ Err t → Told bytes t
some_err bytes t fits e =
    elim (bind_err (opening_at bytes) (opened bytes) t (sym (some_steps bytes) ∙ e)) [
      | inl h ↦ inl (opening_err bytes t h)
      | inr a ↦
          let t0 = opening_takes bytes a.0 fits a.1 in
          elim (bind_err (changes_at a.0.0.0 a.0.1) (closed bytes a.0.0.1) t a.2) [
            | inl h ↦ elim (changes_err a.0.0.0 a.0.1 t t0.0.rest_fits h) [
              | inl torn ↦ inl torn
              | inr k ↦ inr (inl (
                k.0,
                record {
                  count = a.0.0.0;
                  number = a.0.0.1;
                  changes = k.1.changes;
                  found = k.1.found;
                  more = k.1.more;
                  start = t0.1;
                  each = k.1.each;
                  fewer = k.1.fewer;
                  end = k.1.end;
                  text = t0.0.parts ∙ ap (λ (v : List ℕ). spelling (Start a.0.0.0 a.0.0.1) ++ v) k.1.text ∙ sym (opened_front a.0.0.0 a.0.0.1 k.1.changes (spelling (End k.1.found) ++ k.1.more));
                },
              ))
            ]
            | inr b ↦
                let r = changes_take a.0.0.0 a.0.1 b.0 t0.0.rest_fits b.1 in
                let batch : Written = record { number = a.0.0.1; changes = r.changes } in
                let counted = Takes-then bytes (spelling (Start a.0.0.0 a.0.0.1)) a.0.1 (flat_map spelling r.changes) b.0.1 t0.0 r.takes in
                let front : Takes bytes (checked batch) b.0.1 = subst (λ (n : ℕ). Takes bytes (begun n a.0.0.1 r.changes) b.0.1) (sym r.count) counted in
                let sum-is : take (length bytes - length b.0.1) bytes ≡ checked batch = front_is bytes (checked batch) b.0.1 front.parts in
                let start' : HasSpelling (Start (length r.changes) a.0.0.1) = subst (λ (n : ℕ). HasSpelling (Start n a.0.0.1)) (sym r.count) t0.1 in
                elim (bind_err (closing_at (check (take (length bytes - length b.0.1) bytes)) b.0.1) (λ rest. Ok (made a.0.0.1 b.0.0 rest)) t b.2) [
                  | inr g ↦ absurd (let e' = g.2 in cc)
                  | inl h ↦ elim (closing_err (check (take (length bytes - length b.0.1) bytes)) b.0.1 t front.rest_fits h) [
                    | inl torn ↦ inl torn
                    | inr k ↦ elim k [
                      | inl j ↦ inr (inr (inl (
                        j.0,
                        record {
                          number = a.0.0.1;
                          changes = r.changes;
                          another = j.1.another;
                          more = j.1.more;
                          start = start';
                          each = r.each;
                          change = j.1.change;
                          text = front.parts ∙ ap (λ (v : List ℕ). checked batch ++ v) j.1.text;
                        },
                      )))
                      | inr j ↦ inr (inr (inr (
                        j.0,
                        record {
                          batch = batch;
                          found = j.1.found;
                          more = j.1.more;
                          is_written = record { number = start'.1; count = start'.0; each = r.each };
                          end = j.1.end;
                          other = (λ same. j.1.other (same ∙ ap check (sym sum-is)));
                          text = front.parts ∙ ap (λ (v : List ℕ). checked batch ++ v) j.1.text;
                        },
                      )))
                    ]
                  ]
                ]
          ]
    ]

torn_is : (b : ℕ) (bytes : List ℕ) (t : Tail) → t ≡ Torn → some_batch_at (b ∷ bytes) ≡ Err t → IsTail (b ∷ bytes) t
torn_is b bytes t torn e =
    let e' : some_batch_at (b ∷ bytes) ≡ Err Torn = e ∙ ap (λ (v : Tail). Err v) torn in
    subst (λ (v : Tail). IsTail (b ∷ bytes) v) (sym torn)
    ((λ nothing. absurd cc), (λ h. let g = some_early (b ∷ bytes) h in absurd cc), (λ h. let g = some_goes_on (b ∷ bytes) h in absurd cc), (λ h. let g = some_other (b ∷ bytes) h in absurd cc))

pub tail_is : (bytes : List ℕ) (t : Tail) → IsBytes bytes → batch_at bytes ≡ Err t → IsTail bytes t
unfolding batch_at
tail_is [] t fits e = let clean : Clean ≡ t = cc in subst (λ (v : Tail). IsTail [] v) clean refl
tail_is (b ∷ bytes) t fits e =
    elim (some_err (b ∷ bytes) t fits e) [
      | inl torn ↦ torn_is b bytes t torn e
      | inr h ↦ elim h [
        | inl k ↦ subst (λ (v : Tail). IsTail (b ∷ bytes) v) (sym k.0) k.1
        | inr g ↦ elim g [
          | inl k ↦ subst (λ (v : Tail). IsTail (b ∷ bytes) v) (sym k.0) k.1
          | inr k ↦ subst (λ (v : Tail). IsTail (b ∷ bytes) v) (sym k.0) k.1
        ]
      ]
    ]

pub batch_takes : (bytes : List ℕ) (x : Shown × List ℕ) → IsBytes bytes → batch_at bytes ≡ Ok x → BatchRead bytes x
unfolding batch_at
batch_takes [] x fits e = absurd cc
batch_takes (b ∷ bytes) x fits e = some_takes (b ∷ bytes) x fits e

pub as_some : (bytes : List ℕ) → 0 < length bytes → batch_at bytes ≡ some_batch_at bytes
unfolding batch_at
as_some [] h = absurd (omega arith)
as_some (b ∷ bytes) h = refl

pub batch_some : (b : Written) → 0 < length (batch_text b)
batch_some b =
    let s = text_some (Start (length b.changes) b.number) in
    let l0 = length-append (checked b) (spelling (End (check (checked b)))) in
    let l1 = length-append (spelling (Start (length b.changes) b.number)) (flat_map spelling b.changes) in
    omega arith

pub batch_again : (b : Written) (rest : List ℕ) → IsWritten b → batch_at (batch_text b ++ rest) ≡ Ok (shown b, rest)
batch_again b rest is =
    let some = batch_some b in
    let l = length-append (batch_text b) rest in
    as_some (batch_text b ++ rest) (omega arith) ∙ some_again b rest is (check_len (checked b))

-- where the check is passed over too
pub known_again : (b : Written) (rest : List ℕ) → IsWritten b → known_at (batch_text b ++ rest) ≡ Ok (shown b, rest)
unfolding known_at
known_again b rest is =
    let end = spelling (End (check (checked b))) in
    ap known_at (append_assoc (checked b) end rest)
    ∙ bind_is _ _ (shown b, end ++ rest) _ (unclosed_again b (end ++ rest) (is.count, is.number) is.each)
    (bind_is _ _ (check (checked b), rest) _ (ending_again (check (checked b)) rest (check_len (checked b))) refl)

-- where a tail is told no batch stands
pub no_batch : (bytes : List ℕ) (t : Tail) → batch_at bytes ≡ Err t → (b : Written) (more : List ℕ) → IsWritten b → bytes ≡ batch_text b ++ more → ⊥
no_batch bytes t e b more is text = let g = ap batch_at text ∙ batch_again b more is in cc

-- ---- batch after batch

-- these batches were read, and the rest is left
pub record ReadSoFar (text : List ℕ) (front : List Shown) (rest : List ℕ) : Type 0 where
  pub batches : List Written
  pub each : AllByRecursion IsWritten batches
  pub parts : text ≡ flat_map batch_text batches ++ rest
  pub shows : map shown batches ≡ front

pub nothing_read : (text : List ℕ) → ReadSoFar text [] text
nothing_read text = record { batches = []; each = tt; parts = refl; shows = refl }

pub one_more_read : (text : List ℕ) (front : List Shown) (rest : List ℕ) (b : Written) (more : List ℕ) → ReadSoFar text front rest → IsWritten b → rest ≡ batch_text b ++ more → ReadSoFar text (front ++ shown b ∷ []) more
one_more_read text front rest b more r is parts = record {
  batches = r.batches ++ b ∷ [];
  each = each_more IsWritten r.batches b r.each is;
  parts = r.parts ∙ ap (λ (v : List ℕ). flat_map batch_text r.batches ++ v) parts ∙ one_behind batch_text r.batches b more;
  shows = map_push shown r.batches b ∙ ap (λ (v : List Shown). v ++ shown b ∷ []) r.shows;
}

-- what was read, once no batch is left
pub all_read : (text : List ℕ) (front : List Shown) (rest : List ℕ) (t : Tail) → ReadSoFar text front rest → NoneAt rest → IsTail rest t
    → ((bs : List Written) × (front ≡ map shown bs) × IsWhole text bs (length text - length rest)) × IsTail (drop (length text - length rest) text) t
all_read text front rest t r none tail =
    let front-is = front_is text (flat_map batch_text r.batches) rest r.parts in
    let back = back_is text (flat_map batch_text r.batches) rest r.parts in (
      (
        r.batches,
        sym r.shows,
        record {
          within = omega arith;
          texts = front-is;
          each = r.each;
          last = λ b more is at. none b more is (sym back ∙ at);
        },
      ),
      rw back tail,
    )
