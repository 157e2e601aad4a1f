-- The greatest clear below an instant: of one list that ascends, and of parts.
use Rattle.std.proofs.Common.{◌≡◌, ◌≢◌, ℕ, zero, suc, ◌-◌, ◌<◌, ◌≤◌, max, Bool, true, false, ltb, cond, List, [], ◌∷◌, ◌++◌, length, get_or, refl, sym, ap, subst, ◌∙◌, inl, inr, arith}
use Rattle.std.specs.List.{All, AllWithin}
use Rattle.std.specs.List.Sorted.{IsPartitionedBy}
use Rattle.std.proofs.lemmas.Bool.{cases_lt, cond-true, cond-false, lt-ltb, ltb-true}
use Rattle.std.proofs.lemmas.List.{append-nil}
use Rattle.std.proofs.lemmas.List.Concat.{flat_map-append}
use Rattle.std.proofs.lemmas.List.Elements.{All-head, All-tail}
use Rattle.fjall_memtable.specs.SortedPages.{barrier}
use Rattle.fjall_memtable.specs.Parts.{AreApart, Ascends, HeldPart, IsHeld, clears_in}
use Rattle.fjall_memtable.proofs.Apart.{apart_front, clears_numbered, held_behind, numbers_below}

-- ---- one list

none_below : (t : ℕ) (xs : List ℕ) → AllWithin (λ y. ltb y t ≡ false) xs 0 (length xs) → barrier t xs ≡ 0
none_below t [] h = refl
none_below t (x ∷ xs) h =
    cond-false (ltb x t) (max x (barrier t xs)) (barrier t xs) (h 0 x (omega arith) (omega arith))
    ∙ none_below t xs (λ k d low high. h (suc k) d (omega arith) (omega arith))

greatest : (t : ℕ) (xs : List ℕ) (i : ℕ) → Ascends xs → suc i ≤ length xs → AllWithin (λ y. ltb y t ≡ true) xs 0 (suc i)
    → AllWithin (λ y. ltb y t ≡ false) xs (suc i) (length xs) → barrier t xs ≡ get_or xs i 0
greatest t [] i up le h k = absurd (omega arith)
greatest t (x ∷ xs) zero up le h k =
    let none = none_below t xs (λ j d low high. k (suc j) d (omega arith) (omega arith)) in
    let here : max x (barrier t xs) ≡ x = omega (arith, none) in
    cond-true (ltb x t) (max x (barrier t xs)) (barrier t xs) (h 0 x (omega arith) (omega arith)) ∙ here
greatest t (x ∷ xs) (suc i) up le h k =
    let more = greatest t xs i up.1 (omega arith) (λ j d low high. h (suc j) d (omega arith) (omega arith)) (λ j d low high. k (suc j) d (omega arith) (omega arith)) in
    let above : x < get_or xs i 0 = up.0 i 0 (omega arith) in
    let here : max x (barrier t xs) ≡ get_or xs i 0 = omega (arith, more, above) in
    cond-true (ltb x t) (max x (barrier t xs)) (barrier t xs) (h 0 x (omega arith) (omega arith)) ∙ here

-- where no element is below it
pub point_none : (t : ℕ) (xs : List ℕ) (count : ℕ) → count ≡ 0 → AllWithin (λ y. ltb y t ≡ false) xs count (length xs) → 0 ≡ barrier t xs
point_none t xs count e k = sym (none_below t xs (λ j d low high. k j d (omega arith) high))

-- where so many are
pub point_some : (t : ℕ) (xs : List ℕ) (count : ℕ) → Ascends xs → 0 < count → count ≤ length xs → AllWithin (λ y. ltb y t ≡ true) xs 0 count
    → AllWithin (λ y. ltb y t ≡ false) xs count (length xs) → get_or xs (count - 1) 0 ≡ barrier t xs
point_some t xs zero up some le h k = absurd (omega arith)
point_some t xs (suc i) up some le h k = let e : suc i - 1 ≡ i = omega arith in ap (λ (n : ℕ). get_or xs n 0) e ∙ sym (greatest t xs i up le h k)

pub ascends_at : (xs : List ℕ) (i j d : ℕ) → Ascends xs → i < j → j < length xs → get_or xs i d < get_or xs j d
ascends_at [] i j d up lt le = absurd (omega arith)
ascends_at (x ∷ xs) i zero d up lt le = absurd (omega arith)
ascends_at (x ∷ xs) zero (suc j) d up lt le = up.0 j d (omega arith)
ascends_at (x ∷ xs) (suc i) (suc j) d up lt le = ascends_at xs i j d up.1 (omega arith) (omega arith)

-- those below an instant stand first
pub parted : (t : ℕ) (xs : List ℕ) → Ascends xs → IsPartitionedBy (λ y. ltb y t) xs
parted t xs up i j d le lt pass = elim (cases_lt i j) [
  | inl h ↦ let up' = ascends_at xs i j d up h lt in let low = ltb-true (get_or xs j d) t pass in lt-ltb (get_or xs i d) t (omega arith)
  | inr h ↦ let e : j ≡ i = omega arith in subst (λ (n : ℕ). ltb (get_or xs n d) t ≡ true) e pass
]

-- ---- parts

barrier-append : (t : ℕ) (xs ys : List ℕ) → barrier t (xs ++ ys) ≡ max (barrier t xs) (barrier t ys)
barrier-append t [] ys = omega arith
barrier-append t (x ∷ xs) ys = by (ltb x t) (barrier-append t xs ys)
  where
    by : (b : Bool) → barrier t (xs ++ ys) ≡ max (barrier t xs) (barrier t ys)
        → cond b (max x (barrier t (xs ++ ys))) (barrier t (xs ++ ys)) ≡ max (cond b (max x (barrier t xs)) (barrier t xs)) (barrier t ys)
    by true more = omega arith
    by false more = more

barrier_low : (t bound : ℕ) (xs : List ℕ) → All (λ n. n < bound) xs → barrier t xs ≤ bound
barrier_low t bound [] low = omega arith
barrier_low t bound (x ∷ xs) low = by (ltb x t) (All-head (λ n. n < bound) x xs low) (barrier_low t bound xs (All-tail (λ n. n < bound) x xs low))
  where
    by : (b : Bool) → x < bound → barrier t xs ≤ bound → cond b (max x (barrier t xs)) (barrier t xs) ≤ bound
    by true here more = omega arith
    by false here more = more

barrier_high : (t bound : ℕ) (xs : List ℕ) → All (λ n. bound ≤ n) xs → 0 < barrier t xs → bound ≤ barrier t xs
barrier_high t bound [] high some = absurd (omega arith)
barrier_high t bound (x ∷ xs) high some = by (ltb x t) (All-head (λ n. bound ≤ n) x xs high) (λ h. barrier_high t bound xs (All-tail (λ n. bound ≤ n) x xs high) h) some
  where
    by : (b : Bool) → bound ≤ x → (0 < barrier t xs → bound ≤ barrier t xs) → 0 < cond b (max x (barrier t xs)) (barrier t xs) → bound ≤ cond b (max x (barrier t xs)) (barrier t xs)
    by true here more some = omega arith
    by false here more some = more some

last_clears : (front : List HeldPart) (h : HeldPart) → clears_in (front ++ h ∷ []) ≡ clears_in front ++ h.clears
last_clears front h = flat_map-append (λ (g : HeldPart). g.clears) front (h ∷ []) ∙ ap (λ (xs : List ℕ). clears_in front ++ xs) (append-nil h.clears)

-- a clear of the last part decides
pub barrier_here : (t : ℕ) (front : List HeldPart) (h : HeldPart) → All IsHeld (front ++ h ∷ []) → AreApart (front ++ h ∷ []) → 0 < barrier t h.clears
    → barrier t h.clears ≡ barrier t (clears_in (front ++ h ∷ []))
barrier_here t front h held apart some =
    let low = barrier_low t h.from (clears_in front) (numbers_below (λ (g : HeldPart). g.clears) (λ (n : ℕ). n) clears_numbered front [] h held apart) in
    let here = All-head IsHeld h [] (held_behind front (h ∷ []) held) in
    let high = barrier_high t h.from h.clears here.low_clears some in
    let both = barrier-append t (clears_in front) h.clears in
    let e : barrier t h.clears ≡ barrier t (clears_in front ++ h.clears) = omega arith in
    e ∙ sym (ap (barrier t) (last_clears front h))

-- and without one those before it
pub barrier_before : (t : ℕ) (front : List HeldPart) (h : HeldPart) → barrier t h.clears ≡ 0 → barrier t (clears_in front) ≡ barrier t (clears_in (front ++ h ∷ []))
barrier_before t front h none =
    let both = barrier-append t (clears_in front) h.clears in
    let e : barrier t (clears_in front) ≡ barrier t (clears_in front ++ h.clears) = omega arith in
    e ∙ sym (ap (barrier t) (last_clears front h))

-- ---- from the last part on

-- what the last part has is what all have
pub barrier_found : (t : ℕ) (hs front : List HeldPart) (h : HeldPart) (found all : ℕ) → hs ≡ front ++ h ∷ [] → All IsHeld hs → AreApart hs
    → barrier t (clears_in hs) ≡ all → found ≡ barrier t h.clears → found ≢ 0 → found ≡ all
barrier_found t hs front h found all e held apart same is some =
    is ∙ barrier_here t front h (subst (λ (xs : List HeldPart). All IsHeld xs) e held) (subst (λ (xs : List HeldPart). AreApart xs) e apart) (omega arith)
    ∙ sym (ap (λ (xs : List HeldPart). barrier t (clears_in xs)) e) ∙ same

-- or those before it have what all have
pub barrier_rest : (t : ℕ) (hs front : List HeldPart) (h : HeldPart) (found all : ℕ) → hs ≡ front ++ h ∷ [] → AreApart hs
    → barrier t (clears_in hs) ≡ all → found ≡ barrier t h.clears → found ≡ 0 → AreApart front × (barrier t (clears_in front) ≡ all)
barrier_rest t hs front h found all e apart same is none = (
  apart_front front (h ∷ []) (subst (λ (xs : List HeldPart). AreApart xs) e apart),
  barrier_before t front h (sym is ∙ none) ∙ sym (ap (λ (xs : List HeldPart). barrier t (clears_in xs)) e) ∙ same,
)
