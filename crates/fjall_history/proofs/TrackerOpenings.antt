-- What an opening and a closing do to the list of open instants.
use Rattle.std.proofs.Common.{◌≡◌, ℕ, suc, zero, ◌+◌, ◌||◌, ◌<◌, ◌≤◌, true, false, cond, List, [], ◌∷◌, length, nat_eq, nat_le, nat_lt, zero-add, refl, sym, ap, ◌∙◌, subst, arith}
use Rattle.std.specs.List.{All, AllByRecursion, count_by}
use Rattle.std.specs.List.Sorted.{IsNonDecreasing, IsPermutation}
use Rattle.std.proofs.lemmas.List.Sorted.{IsPermutation-refl, IsPermutation-trans, IsPermutation-cons, IsPermutation-middle, sum_by-IsPermutation}
use Rattle.std.proofs.lemmas.List.Sums.{sum_by-cons}
use Rattle.std.proofs.lemmas.Bool.{eqb-true, lt-ltb}
use Rattle.std.proofs.lemmas.List.Elements.{All-from_recursion, recursion_from_All}
use Rattle.std.proofs.lemmas.Bool.Decides.{nat_tests}
use Rattle.std.proofs.lemmas.Map.Made.{length-remove_key}
use Rattle.fjall_history.specs.Trackers.{with_instant, without_instant, is_open}

true-false : true ≡ false → ⊥
true-false e = cc

pub length-with_instant : (i : ℕ) (xs : List ℕ) → length (with_instant i xs) ≡ suc (length xs)
length-with_instant i [] = refl
length-with_instant i (x ∷ xs) =
    elim (nat_le i x) as (λ b. length (cond b (i ∷ x ∷ xs) (x ∷ with_instant i xs)) ≡ suc (suc (length xs))) [
      | true ↦ refl
      | false ↦ ap suc (length-with_instant i xs)
    ]

pub AllByRecursion-with_instant : (P : ℕ → Type 0) (i : ℕ) (xs : List ℕ) → P i → AllByRecursion P xs → AllByRecursion P (with_instant i xs)
AllByRecursion-with_instant P i [] here all = (here, tt)
AllByRecursion-with_instant P i (x ∷ xs) here all =
    elim (nat_le i x) as (λ b. AllByRecursion P (cond b (i ∷ x ∷ xs) (x ∷ with_instant i xs))) [
      | true ↦ (here, all)
      | false ↦ (all.0, AllByRecursion-with_instant P i xs here all.1)
    ]

pub AllByRecursion-without_instant : (P : ℕ → Type 0) (i : ℕ) (xs : List ℕ) → AllByRecursion P xs → AllByRecursion P (without_instant i xs)
AllByRecursion-without_instant P i [] all = tt
AllByRecursion-without_instant P i (x ∷ xs) all =
    elim (nat_eq i x) as (λ b. AllByRecursion P (cond b xs (x ∷ without_instant i xs))) [
      | true ↦ all.1
      | false ↦ (all.0, AllByRecursion-without_instant P i xs all.1)
    ]

swapped : (a b : ℕ) (xs : List ℕ) → IsPermutation (a ∷ b ∷ xs) (b ∷ a ∷ xs)
swapped a b xs = IsPermutation-middle (a ∷ []) b xs

weaker : (i x : ℕ) (xs : List ℕ) → i ≤ x → AllByRecursion (λ y. x ≤ y) xs → AllByRecursion (λ y. i ≤ y) xs
weaker i x [] h all = tt
weaker i x (y ∷ ys) h all = (omega (arith, all.0), weaker i x ys h all.1)

le_true : (i x : ℕ) → nat_le i x ≡ true → i ≤ x
le_true i x e = grind (arith, nat_tests)

le_false : (i x : ℕ) → nat_le i x ≡ false → x ≤ i
le_false i x e = grind (arith, nat_tests)

-- each instant is at most those after it
abbrev IsAscending : List ℕ → Type 0
IsAscending [] = Unit {0}
IsAscending (x ∷ xs) = AllByRecursion (λ y. x ≤ y) xs × IsAscending xs

from_ascending : (xs : List ℕ) → IsAscending xs → IsNonDecreasing xs
from_ascending [] sorted i j d h l = absurd (omega arith)
from_ascending (x ∷ xs) sorted zero zero d h l = omega arith
from_ascending (x ∷ xs) sorted zero (suc j) d h l = All-from_recursion (λ y. x ≤ y) xs sorted.0 j d (omega arith)
from_ascending (x ∷ xs) sorted (suc i) zero d h l = absurd (omega arith)
from_ascending (x ∷ xs) sorted (suc i) (suc j) d h l = from_ascending xs sorted.1 i j d (omega arith) (omega arith)

-- the first instant is the least
pub IsNonDecreasing-head : (x : ℕ) (xs : List ℕ) → IsNonDecreasing (x ∷ xs) → All (λ y. x ≤ y) xs
IsNonDecreasing-head x xs sorted k d l = sorted zero (suc k) d (omega arith) (omega arith)

to_ascending : (xs : List ℕ) → IsNonDecreasing xs → IsAscending xs
to_ascending [] sorted = tt
to_ascending (x ∷ xs) sorted = (
  recursion_from_All (λ y. x ≤ y) xs (IsNonDecreasing-head x xs sorted),
  to_ascending xs (λ i j d h l. sorted (suc i) (suc j) d (omega arith) (omega arith)),
)

ascending-with_instant : (i : ℕ) (xs : List ℕ) → IsAscending xs → IsAscending (with_instant i xs)
ascending-with_instant i [] sorted = (tt, tt)
ascending-with_instant i (x ∷ xs) sorted =
    (elim (nat_le i x) as (λ b. nat_le i x ≡ b → IsAscending (cond b (i ∷ x ∷ xs) (x ∷ with_instant i xs))) [
      | true ↦ λ q. let h : i ≤ x = le_true i x q in ((h, weaker i x xs h sorted.0), sorted)
      | false ↦ λ q. (AllByRecursion-with_instant (λ y. x ≤ y) i xs (le_false i x q) sorted.0, ascending-with_instant i xs sorted.1)
    ]) refl

ascending-without_instant : (i : ℕ) (xs : List ℕ) → IsAscending xs → IsAscending (without_instant i xs)
ascending-without_instant i [] sorted = tt
ascending-without_instant i (x ∷ xs) sorted =
    elim (nat_eq i x) as (λ b. IsAscending (cond b xs (x ∷ without_instant i xs))) [
      | true ↦ sorted.1
      | false ↦ (AllByRecursion-without_instant (λ y. x ≤ y) i xs sorted.0, ascending-without_instant i xs sorted.1)
    ]

pub IsNonDecreasing-with_instant : (i : ℕ) (xs : List ℕ) → IsNonDecreasing xs → IsNonDecreasing (with_instant i xs)
IsNonDecreasing-with_instant i xs sorted = from_ascending (with_instant i xs) (ascending-with_instant i xs (to_ascending xs sorted))

pub IsNonDecreasing-without_instant : (i : ℕ) (xs : List ℕ) → IsNonDecreasing xs → IsNonDecreasing (without_instant i xs)
IsNonDecreasing-without_instant i xs sorted = from_ascending (without_instant i xs) (ascending-without_instant i xs (to_ascending xs sorted))

-- to close what isn't open changes nothing
pub without-none : (i : ℕ) (xs : List ℕ) → is_open i xs ≡ false → without_instant i xs ≡ xs
without-none i [] none = refl
without-none i (x ∷ xs) none =
    (elim (nat_eq i x) as (λ b. (b || is_open i xs) ≡ false → cond b xs (x ∷ without_instant i xs) ≡ x ∷ xs) [
      | true ↦ λ n. absurd (true-false n)
      | false ↦ λ n. ap (λ t. x ∷ t) (without-none i xs n)
    ]) none

pub length-without_instant : (i : ℕ) (xs : List ℕ) → is_open i xs ≡ true → suc (length (without_instant i xs)) ≡ length xs
length-without_instant i xs there = let h : length (without_instant i xs) + 1 ≡ length xs = length-remove_key (nat_eq i) xs there in omega arith

-- an opening adds its instant, and moves the others at most
pub IsPermutation-with_instant : (i : ℕ) (xs : List ℕ) → IsPermutation (i ∷ xs) (with_instant i xs)
IsPermutation-with_instant i [] = IsPermutation-refl (i ∷ [])
IsPermutation-with_instant i (x ∷ xs) =
    elim (nat_le i x) as (λ b. IsPermutation (i ∷ x ∷ xs) (cond b (i ∷ x ∷ xs) (x ∷ with_instant i xs))) [
      | true ↦ IsPermutation-refl (i ∷ x ∷ xs)
      | false ↦ IsPermutation-trans (i ∷ x ∷ xs) (x ∷ i ∷ xs) (x ∷ with_instant i xs)
          (swapped i x xs) (IsPermutation-cons x (i ∷ xs) (with_instant i xs) (IsPermutation-with_instant i xs))
    ]

-- a closing takes its instant away once
pub IsPermutation-without_instant : (i : ℕ) (xs : List ℕ) → is_open i xs ≡ true → IsPermutation xs (i ∷ without_instant i xs)
IsPermutation-without_instant i [] there = let bad : ⊥ = cc in absurd bad
IsPermutation-without_instant i (x ∷ xs) there =
    (elim (nat_eq i x) as (λ b. nat_eq i x ≡ b → (b || is_open i xs) ≡ true → IsPermutation (x ∷ xs) (i ∷ cond b xs (x ∷ without_instant i xs))) [
      | true ↦ λ q t. subst (λ k. IsPermutation (x ∷ xs) (k ∷ xs)) (sym (eqb-true i x q)) (IsPermutation-refl (x ∷ xs))
      | false ↦ λ q t. IsPermutation-trans (x ∷ xs) (x ∷ i ∷ without_instant i xs) (i ∷ x ∷ without_instant i xs)
          (IsPermutation-cons x xs (i ∷ without_instant i xs) (IsPermutation-without_instant i xs t)) (swapped x i (without_instant i xs))
    ]) refl there

-- how often an instant is open, after an opening and a closing
pub count-with_instant : (q i : ℕ) (xs : List ℕ) → count_by (nat_eq q) (with_instant i xs) ≡ count_by (nat_eq q) (i ∷ xs)
count-with_instant q i xs = sum_by-IsPermutation (λ x. cond (nat_eq q x) 1 0) (i ∷ xs) (with_instant i xs) (IsPermutation-with_instant i xs)

pub count-without_instant : (q i : ℕ) (xs : List ℕ) → is_open i xs ≡ true → count_by (nat_eq q) (i ∷ without_instant i xs) ≡ count_by (nat_eq q) xs
count-without_instant q i xs there = sum_by-IsPermutation (λ x. cond (nat_eq q x) 1 0) xs (i ∷ without_instant i xs) (IsPermutation-without_instant i xs there)

-- what is open is what has a count
pub open-count : (i : ℕ) (xs : List ℕ) → is_open i xs ≡ nat_lt 0 (count_by (nat_eq i) xs)
open-count i [] = refl
open-count i (x ∷ xs) =
    rw (sum_by-cons (λ y. cond (nat_eq i y) 1 0) x xs)
    (elim (nat_eq i x) as (λ b. (b || is_open i xs) ≡ nat_lt 0 (cond b 1 0 + count_by (nat_eq i) xs)) [
      | true ↦ let h : 0 < 1 + count_by (nat_eq i) xs = omega arith in sym (lt-ltb _ _ h)
      | false ↦ open-count i xs ∙ ap (nat_lt 0) (sym (zero-add (count_by (nat_eq i) xs)))
    ])
