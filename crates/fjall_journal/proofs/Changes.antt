-- The steps of a batch: a Start, changes, an End; in both directions.
use Rattle.std.proofs.Common.{◌≡◌, ◌≢◌, ℕ, zero, suc, ◌<◌, Bool, true, false, cond, List, [], ◌∷◌, ◌++◌, length, Result, Ok, Err, refl, sym, ap, subst, ◌∙◌, append_assoc, arith, ◌⊎◌, inl, inr}
use Rattle.std.specs.List.{flat_map, AllByRecursion}
use Rattle.std.specs.Str.{bytes_eq}
use Rattle.std.proofs.lemmas.Slice.Eq.{bytes_eq-Decides}
use Rattle.std.proofs.lemmas.List.Concat.{flat_map-cons}
use Rattle.fjall_journal.specs.declared.entry.Entry.{Entry}
use Rattle.fjall_journal.specs.declared.entry.Entry.TheVariants.{Start, Item, End, Clear}
use Rattle.fjall_base.specs.declared.error.JournalRecoveryError.TheVariants.{InsufficientLength, TooManyItems, ChecksumMismatch}
use Rattle.fjall_journal.specs.declared.batch.Tail.{Tail}
use Rattle.fjall_journal.specs.declared.batch.Tail.TheVariants.{Torn, Damaged}
use Rattle.fjall_journal.specs.declared.batch.ReadBatchItem.{ReadBatchItem}
use Rattle.fjall_journal.specs.Spelling.{spelling, HasSpelling}
use Rattle.fjall_base.specs.Results.{◌>>=◌}
use Rattle.fjall_journal.specs.Reading.{Fault, entry_at}
use Rattle.fjall_journal.specs.Batches.{IsChange, items_of, clears_of}
use Rattle.fjall_journal.specs.Steps.{or_torn, as_start, as_change, as_end, as_closing, opening_at, change_at, changes_at, ending_at, closing_at}
use Rattle.fjall_base.proofs.Codecs.{IsBytes}
use Rattle.fjall_base.proofs.Results.{bind_ok}
use Rattle.fjall_journal.proofs.Fields.{Takes, Takes-then}
use Rattle.fjall_journal.proofs.Entries.{entry_takes, entry_again, bind_is}

-- the step that failed
pub bind_err : {A B E : Type 0} (r : Result A E) (f : A → Result B E) (t : E) → (r >>= f) ≡ Err t → (r ≡ Err t) ⊎ ((x : A) × (r ≡ Ok x) × (f x ≡ Err t))
bind_err (Ok x) f t e = inr (x, refl, e)
bind_err (Err d) f t e = let d-is : d ≡ t = cc in inl (ap (λ (v : _). Err v) d-is)

or_torn_ok : {A : Type 0} (r : Result A Fault) (x : A) → or_torn r ≡ Ok x → r ≡ Ok x
or_torn_ok (Ok y) x e = let y-is : y ≡ x = cc in ap (λ (v : _). Ok v) y-is
or_torn_ok (Err f) x e = absurd cc

or_torn_err : {A : Type 0} (r : Result A Fault) (t : Tail) → or_torn r ≡ Err t → t ≡ Torn
or_torn_err (Ok y) t e = absurd cc
or_torn_err (Err f) t e = cc

-- an entry, where one is wanted
or_torn_takes : (bytes : List ℕ) (x : Entry × List ℕ) → IsBytes bytes → or_torn (entry_at bytes) ≡ Ok x → Takes bytes (spelling x.0) x.1 × HasSpelling x.0
or_torn_takes bytes x fits e = entry_takes bytes x fits (or_torn_ok (entry_at bytes) x e)

or_torn_again : (entry : Entry) (rest : List ℕ) → HasSpelling entry → or_torn (entry_at (spelling entry ++ rest)) ≡ Ok (entry, rest)
or_torn_again entry rest fits = ap or_torn (entry_again entry rest fits)

-- ---- the Start

start_is : (entry : Entry) (rest : List ℕ) (x : (ℕ × ℕ) × List ℕ) → as_start entry rest ≡ Ok x → (entry ≡ Start x.0.0 x.0.1) × (rest ≡ x.1)
start_is (Start count number) rest x e = let x-is : ((count, number), rest) ≡ x = cc in (ap (λ (y : (ℕ × ℕ) × List ℕ). Start y.0.0 y.0.1) x-is, ap (λ (y : (ℕ × ℕ) × List ℕ). y.1) x-is)
start_is (Item id key value kind compression) rest x e = absurd cc
start_is (End found) rest x e = absurd cc
start_is (Clear id) rest x e = absurd cc

start_err : (entry : Entry) (rest : List ℕ) (t : Tail) → as_start entry rest ≡ Err t → t ≡ Torn
start_err (Start count number) rest t e = absurd cc
start_err (Item id key value kind compression) rest t e = cc
start_err (End found) rest t e = cc
start_err (Clear id) rest t e = cc

pub opening_takes : (bytes : List ℕ) (x : (ℕ × ℕ) × List ℕ) → IsBytes bytes → opening_at bytes ≡ Ok x → Takes bytes (spelling (Start x.0.0 x.0.1)) x.1 × HasSpelling (Start x.0.0 x.0.1)
unfolding opening_at
opening_takes bytes x fits e =
    let a = bind_ok (or_torn (entry_at bytes)) (λ y. as_start y.0 y.1) x e in
    let t = or_torn_takes bytes a.0 fits a.1 in
    let s = start_is a.0.0 a.0.1 x a.2 in
    let t' : Takes bytes (spelling (Start x.0.0 x.0.1)) a.0.1 × HasSpelling (Start x.0.0 x.0.1) = subst (λ (y : Entry). Takes bytes (spelling y) a.0.1 × HasSpelling y) s.0 t in
    (subst (λ (r : List ℕ). Takes bytes (spelling (Start x.0.0 x.0.1)) r) s.1 t'.0, t'.1)

pub opening_err : (bytes : List ℕ) (t : Tail) → opening_at bytes ≡ Err t → t ≡ Torn
unfolding opening_at
opening_err bytes t e =
    elim (bind_err (or_torn (entry_at bytes)) (λ y. as_start y.0 y.1) t e) [
      | inl h ↦ or_torn_err (entry_at bytes) t h
      | inr h ↦ start_err h.0.0 h.0.1 t h.2
    ]

pub opening_again : (count number : ℕ) (rest : List ℕ) → HasSpelling (Start count number) → opening_at (spelling (Start count number) ++ rest) ≡ Ok ((count, number), rest)
unfolding opening_at
opening_again count number rest fits = bind_is _ _ (Start count number, rest) _ (or_torn_again (Start count number) rest fits) refl

-- ---- a change

change_is : (entry : Entry) (rest : List ℕ) (x : Entry × List ℕ) → as_change entry rest ≡ Ok x → ((entry, rest) ≡ x) × (HasSpelling entry → IsChange entry)
change_is (Start count number) rest x e = absurd cc
change_is (Item id key value kind compression) rest x e = (cc, λ h. h)
change_is (End found) rest x e = absurd cc
change_is (Clear id) rest x e = (cc, λ h. h)

pub change_takes : (bytes : List ℕ) (x : Entry × List ℕ) → IsBytes bytes → change_at bytes ≡ Ok x → Takes bytes (spelling x.0) x.1 × IsChange x.0
unfolding change_at
change_takes bytes x fits e =
    let a = bind_ok (or_torn (entry_at bytes)) (λ y. as_change y.0 y.1) x e in
    let t = or_torn_takes bytes a.0 fits a.1 in
    let s = change_is a.0.0 a.0.1 x a.2 in
    subst (λ (y : Entry × List ℕ). Takes bytes (spelling y.0) y.1 × IsChange y.0) s.0 (t.0, s.1 t.1)

-- an End in the place of a change
pub record EndsHere (bytes : List ℕ) : Type 0 where
  pub found : List ℕ
  pub more : List ℕ
  pub end : HasSpelling (End found)
  pub text : Takes bytes (spelling (End found)) more

change_fails : (bytes : List ℕ) (entry : Entry) (rest : List ℕ) (t : Tail) → Takes bytes (spelling entry) rest → HasSpelling entry → as_change entry rest ≡ Err t → (t ≡ Torn) ⊎ ((t ≡ Damaged InsufficientLength) × EndsHere bytes)
change_fails bytes (Start count number) rest t takes is e = inl cc
change_fails bytes (Item id key value kind compression) rest t takes is e = absurd cc
change_fails bytes (End found) rest t takes is e = inr (cc, record { found = found; more = rest; end = is; text = takes })
change_fails bytes (Clear id) rest t takes is e = absurd cc

pub change_err : (bytes : List ℕ) (t : Tail) → IsBytes bytes → change_at bytes ≡ Err t → (t ≡ Torn) ⊎ ((t ≡ Damaged InsufficientLength) × EndsHere bytes)
unfolding change_at
change_err bytes t fits e =
    elim (bind_err (or_torn (entry_at bytes)) (λ y. as_change y.0 y.1) t e) [
      | inl h ↦ inl (or_torn_err (entry_at bytes) t h)
      | inr h ↦ let k = or_torn_takes bytes h.0 fits h.1 in change_fails bytes h.0.0 h.0.1 t k.0 k.1 h.2
    ]

as_change_again : (entry : Entry) (rest : List ℕ) → IsChange entry → (as_change entry rest ≡ Ok (entry, rest)) × HasSpelling entry
as_change_again (Start count number) rest h = absurd h
as_change_again (Item id key value kind compression) rest h = (refl, h)
as_change_again (End found) rest h = absurd h
as_change_again (Clear id) rest h = (refl, h)

pub change_again : (entry : Entry) (rest : List ℕ) → IsChange entry → change_at (spelling entry ++ rest) ≡ Ok (entry, rest)
unfolding change_at
change_again entry rest h =
    let a = as_change_again entry rest h in
    bind_is _ _ (entry, rest) _ (or_torn_again entry rest a.1) a.0

pub change_early : (found more : List ℕ) → HasSpelling (End found) → change_at (spelling (End found) ++ more) ≡ Err (Damaged InsufficientLength)
unfolding change_at
change_early found more is = bind_is _ _ (End found, more) _ (or_torn_again (End found) more is) refl

-- ---- the changes

pub record ChangesRead (n : ℕ) (bytes : List ℕ) (x : (List ReadBatchItem × List ℕ) × List ℕ) : Type 0 where
  pub changes : List Entry
  pub takes : Takes bytes (flat_map spelling changes) x.1
  pub count : length changes ≡ n
  pub each : AllByRecursion IsChange changes
  pub items : items_of changes ≡ x.0.0
  pub clears : clears_of changes ≡ x.0.1

items_first : (change : Entry) (changes : List Entry) → items_of (change ∷ changes) ≡ items_of (change ∷ []) ++ items_of changes
items_first (Start count number) changes = refl
items_first (Item id key value kind compression) changes = refl
items_first (End found) changes = refl
items_first (Clear id) changes = refl

clears_first : (change : Entry) (changes : List Entry) → clears_of (change ∷ changes) ≡ clears_of (change ∷ []) ++ clears_of changes
clears_first (Start count number) changes = refl
clears_first (Item id key value kind compression) changes = refl
clears_first (End found) changes = refl
clears_first (Clear id) changes = refl

abbrev done : (List ReadBatchItem × List ℕ) × List ℕ → Result ((List ReadBatchItem × List ℕ) × List ℕ) Tail
done x = Ok x

done_is : (x y : (List ReadBatchItem × List ℕ) × List ℕ) → done x ≡ done y → x ≡ y
done_is x y e = cc

abbrev both : Entry → (List ReadBatchItem × List ℕ) × List ℕ → (List ReadBatchItem × List ℕ) × List ℕ
both first others = ((items_of (first ∷ []) ++ others.0.0, clears_of (first ∷ []) ++ others.0.1), others.1)

pub changes_take : (n : ℕ) (bytes : List ℕ) (x : (List ReadBatchItem × List ℕ) × List ℕ) → IsBytes bytes → changes_at n bytes ≡ Ok x → ChangesRead n bytes x
unfolding changes_at
changes_take zero bytes x fits e =
    subst (λ (y : (List ReadBatchItem × List ℕ) × List ℕ). ChangesRead 0 bytes y) (done_is (([], []), bytes) x e)
    (record { changes = []; takes = record { parts = refl; rest_fits = fits }; count = refl; each = tt; items = refl; clears = refl })
changes_take (suc n) bytes x fits e =
    let a = bind_ok (change_at bytes) (λ first. changes_at n first.1 >>= λ others. Ok (both first.0 others)) x e in
    let b = bind_ok (changes_at n a.0.1) (λ others. Ok (both a.0.0 others)) x a.2 in
    let first = change_takes bytes a.0 fits a.1 in
    let r = changes_take n a.0.1 b.0 first.0.rest_fits b.1 in
    let whole = Takes-then bytes (spelling a.0.0) a.0.1 (flat_map spelling r.changes) b.0.1 first.0 r.takes in
    subst (λ (y : (List ReadBatchItem × List ℕ) × List ℕ). ChangesRead (suc n) bytes y) (done_is (both a.0.0 b.0) x b.2)
    (record {
      changes = a.0.0 ∷ r.changes;
      takes = rw flat_map-cons whole;
      count = ap suc r.count;
      each = (first.1, r.each);
      items = items_first a.0.0 r.changes ∙ ap (λ (v : List ReadBatchItem). items_of (a.0.0 ∷ []) ++ v) r.items;
      clears = clears_first a.0.0 r.changes ∙ ap (λ (v : List ℕ). clears_of (a.0.0 ∷ []) ++ v) r.clears;
    })

-- an End before all of the changes
pub record EndsAmong (n : ℕ) (bytes : List ℕ) : Type 0 where
  pub changes : List Entry
  pub found : List ℕ
  pub more : List ℕ
  pub each : AllByRecursion IsChange changes
  pub fewer : length changes < n
  pub end : HasSpelling (End found)
  pub text : bytes ≡ flat_map spelling changes ++ (spelling (End found) ++ more)

pub changes_err : (n : ℕ) (bytes : List ℕ) (t : Tail) → IsBytes bytes → changes_at n bytes ≡ Err t → (t ≡ Torn) ⊎ ((t ≡ Damaged InsufficientLength) × EndsAmong n bytes)
unfolding changes_at
changes_err zero bytes t fits e = absurd cc
changes_err (suc n) bytes t fits e =
    elim (bind_err (change_at bytes) (λ first. changes_at n first.1 >>= λ others. Ok (both first.0 others)) t e) [
      | inl h ↦ elim (change_err bytes t fits h) [
        | inl torn ↦ inl torn
        | inr k ↦ inr (k.0, record { changes = []; found = k.1.found; more = k.1.more; each = tt; fewer = omega arith; end = k.1.end; text = k.1.text.parts })
      ]
      | inr h ↦
          let first = change_takes bytes h.0 fits h.1 in
          elim (bind_err (changes_at n h.0.1) (λ others. Ok (both h.0.0 others)) t h.2) [
            | inl g ↦ elim (changes_err n h.0.1 t first.0.rest_fits g) [
              | inl torn ↦ inl torn
              | inr k ↦ inr (
                k.0,
                record {
                  changes = h.0.0 ∷ k.1.changes;
                  found = k.1.found;
                  more = k.1.more;
                  each = (first.1, k.1.each);
                  fewer = (let f : length k.1.changes < n = k.1.fewer in omega arith);
                  end = k.1.end;
                  text = first.0.parts ∙ ap (λ (v : List ℕ). spelling h.0.0 ++ v) k.1.text
                      ∙ sym (append_assoc (spelling h.0.0) (flat_map spelling k.1.changes) (spelling (End k.1.found) ++ k.1.more))
                      ∙ ap (λ (v : List ℕ). v ++ (spelling (End k.1.found) ++ k.1.more)) (sym (flat_map-cons spelling h.0.0 k.1.changes));
                },
              )
            ]
            | inr g ↦ absurd (let e' = g.2 in cc)
          ]
    ]

texts_first : (change : Entry) (changes : List Entry) (rest : List ℕ) → flat_map spelling (change ∷ changes) ++ rest ≡ spelling change ++ (flat_map spelling changes ++ rest)
texts_first change changes rest = ap (λ (v : List ℕ). v ++ rest) (flat_map-cons spelling change changes) ∙ append_assoc (spelling change) (flat_map spelling changes) rest

pub changes_again : (changes : List Entry) (rest : List ℕ) → AllByRecursion IsChange changes → changes_at (length changes) (flat_map spelling changes ++ rest) ≡ Ok ((items_of changes, clears_of changes), rest)
unfolding changes_at
changes_again [] rest each = refl
changes_again (change ∷ changes) rest each =
    ap (changes_at (suc (length changes))) (texts_first change changes rest)
    ∙ bind_is _ _ (change, flat_map spelling changes ++ rest) _ (change_again change (flat_map spelling changes ++ rest) each.0)
    (bind_is _ _ ((items_of changes, clears_of changes), rest) _ (changes_again changes rest each.1)
    (rw (items_first change changes, clears_first change changes) refl))

pub changes_early : (changes : List Entry) (n : ℕ) (found more : List ℕ) → AllByRecursion IsChange changes → length changes < n → HasSpelling (End found)
    → changes_at n (flat_map spelling changes ++ (spelling (End found) ++ more)) ≡ Err (Damaged InsufficientLength)
unfolding changes_at
changes_early changes zero found more each fewer is = absurd (omega arith)
changes_early [] (suc n) found more each fewer is = ap (λ (r : Result (Entry × List ℕ) Tail). r >>= λ first. changes_at n first.1 >>= λ others. Ok (both first.0 others)) (change_early found more is)
changes_early (change ∷ changes) (suc n) found more each fewer is =
    let rest = spelling (End found) ++ more in
    ap (changes_at (suc n)) (texts_first change changes rest)
    ∙ bind_is _ _ (change, flat_map spelling changes ++ rest) _ (change_again change (flat_map spelling changes ++ rest) each.0)
    (ap (λ (r : Result ((List ReadBatchItem × List ℕ) × List ℕ) Tail). r >>= λ others. Ok (both change others)) (changes_early changes n found more each.1 (omega arith) is))

-- ---- the End

-- An End is read whatever its check.
pub ending_again : (found rest : List ℕ) → HasSpelling (End found) → ending_at (spelling (End found) ++ rest) ≡ Ok (found, rest)
unfolding ending_at
ending_again found rest is = bind_is _ _ (End found, rest) _ (or_torn_again (End found) rest is) refl

-- an End with this check
abbrev closes : List ℕ → Entry → List ℕ → Result (List ℕ) Tail
closes sum entry rest = as_end entry rest >>= λ end. as_closing sum end

closing_is : (sum bytes : List ℕ) → closing_at sum bytes ≡ (or_torn (entry_at bytes) >>= λ y. closes sum y.0 y.1)
unfolding closing_at ending_at
closing_is sum bytes = then_closes (or_torn (entry_at bytes))
  where
    then_closes : (r : Result (Entry × List ℕ) Tail) → ((r >>= λ y. as_end y.0 y.1) >>= λ end. as_closing sum end) ≡ (r >>= λ y. closes sum y.0 y.1)
    then_closes (Ok y) = refl
    then_closes (Err t) = refl

end_is : (sum : List ℕ) (entry : Entry) (rest after : List ℕ) → closes sum entry rest ≡ Ok after → (entry ≡ End sum) × (rest ≡ after)
end_is sum (Start count number) rest after e = absurd cc
end_is sum (Item id key value kind compression) rest after e = absurd cc
end_is sum (Clear id) rest after e = absurd cc
end_is sum (End found) rest after e = right (bytes_eq found sum) refl e
  where
    right : (b : Bool) → bytes_eq found sum ≡ b → cond b (Ok rest) (Err (Damaged ChecksumMismatch)) ≡ Ok after → (End found ≡ End sum) × (rest ≡ after)
    right true t e = (ap End ((bytes_eq-Decides found sum).0 t), cc)
    right false t e = absurd cc

pub closing_takes : (sum bytes rest : List ℕ) → IsBytes bytes → closing_at sum bytes ≡ Ok rest → Takes bytes (spelling (End sum)) rest × HasSpelling (End sum)
closing_takes sum bytes rest fits e =
    let a = bind_ok (or_torn (entry_at bytes)) (λ y. closes sum y.0 y.1) rest (sym (closing_is sum bytes) ∙ e) in
    let t = or_torn_takes bytes a.0 fits a.1 in
    let s = end_is sum a.0.0 a.0.1 rest a.2 in
    let t' : Takes bytes (spelling (End sum)) a.0.1 × HasSpelling (End sum) = subst (λ (y : Entry). Takes bytes (spelling y) a.0.1 × HasSpelling y) s.0 t in
    (subst (λ (r : List ℕ). Takes bytes (spelling (End sum)) r) s.1 t'.0, t'.1)

pub record AnotherHere (bytes : List ℕ) : Type 0 where
  pub another : Entry
  pub more : List ℕ
  pub change : IsChange another
  pub text : bytes ≡ spelling another ++ more

pub record OtherHere (sum bytes : List ℕ) : Type 0 where
  pub found : List ℕ
  pub more : List ℕ
  pub end : HasSpelling (End found)
  pub other : found ≢ sum
  pub text : bytes ≡ spelling (End found) ++ more

abbrev pub ClosingFails : Tail → List ℕ → List ℕ → Type 0
ClosingFails t sum bytes = (t ≡ Torn) ⊎ (((t ≡ Damaged TooManyItems) × AnotherHere bytes) ⊎ ((t ≡ Damaged ChecksumMismatch) × OtherHere sum bytes))

end_fails : (sum bytes : List ℕ) (entry : Entry) (rest : List ℕ) (t : Tail) → Takes bytes (spelling entry) rest → HasSpelling entry → closes sum entry rest ≡ Err t → ClosingFails t sum bytes
end_fails sum bytes (Start count number) rest t takes is e = inl cc
end_fails sum bytes (Item id key value kind compression) rest t takes is e = inr (inl (cc, record { another = Item id key value kind compression; more = rest; change = is; text = takes.parts }))
end_fails sum bytes (Clear id) rest t takes is e = inr (inl (cc, record { another = Clear id; more = rest; change = is; text = takes.parts }))
end_fails sum bytes (End found) rest t takes is e = wrong (bytes_eq found sum) refl e
  where
    wrong : (b : Bool) → bytes_eq found sum ≡ b → cond b (Ok rest) (Err (Damaged ChecksumMismatch)) ≡ Err t → ClosingFails t sum bytes
    wrong true h e = absurd cc
    wrong false h e = inr (inr (cc, record { found = found; more = rest; end = is; other = (λ same. let yes = (bytes_eq-Decides found sum).1 same in absurd cc); text = takes.parts }))

pub closing_err : (sum bytes : List ℕ) (t : Tail) → IsBytes bytes → closing_at sum bytes ≡ Err t → ClosingFails t sum bytes
closing_err sum bytes t fits e =
    elim (bind_err (or_torn (entry_at bytes)) (λ y. closes sum y.0 y.1) t (sym (closing_is sum bytes) ∙ e)) [
      | inl h ↦ inl (or_torn_err (entry_at bytes) t h)
      | inr h ↦ let k = or_torn_takes bytes h.0 fits h.1 in end_fails sum bytes h.0.0 h.0.1 t k.0 k.1 h.2
    ]

pub closing_again : (sum rest : List ℕ) → HasSpelling (End sum) → closing_at sum (spelling (End sum) ++ rest) ≡ Ok rest
unfolding closing_at
closing_again sum rest is = bind_is _ _ (sum, rest) _ (ending_again sum rest is) (let yes : bytes_eq sum sum ≡ true = (bytes_eq-Decides sum sum).1 refl in rw yes refl)

pub closing_other : (sum found more : List ℕ) → HasSpelling (End found) → found ≢ sum → closing_at sum (spelling (End found) ++ more) ≡ Err (Damaged ChecksumMismatch)
unfolding closing_at
closing_other sum found more is other = bind_is _ _ (found, more) _ (ending_again found more is) (not_same (bytes_eq found sum) refl)
  where
    not_same : (b : Bool) → bytes_eq found sum ≡ b → cond b (Ok more) (Err (Damaged ChecksumMismatch)) ≡ Err (Damaged ChecksumMismatch)
    not_same true t = absurd (other ((bytes_eq-Decides found sum).0 t))
    not_same false t = refl

closes_another : (sum : List ℕ) (another : Entry) (more : List ℕ) → IsChange another → (closes sum another more ≡ Err (Damaged TooManyItems)) × HasSpelling another
closes_another sum (Start count number) more h = absurd h
closes_another sum (Item id key value kind compression) more h = (refl, h)
closes_another sum (End found) more h = absurd h
closes_another sum (Clear id) more h = (refl, h)

pub closing_another : (sum : List ℕ) (another : Entry) (more : List ℕ) → IsChange another → closing_at sum (spelling another ++ more) ≡ Err (Damaged TooManyItems)
closing_another sum another more h =
    let a = closes_another sum another more h in
    closing_is sum (spelling another ++ more) ∙ bind_is _ _ (another, more) _ (or_torn_again another more a.1) a.0
