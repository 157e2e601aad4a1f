-- The greatest clear below an instant stands for all of them; runs without versions.
use Rattle.std.proofs.Common.{◌≡◌, ℕ, max, Bool, true, false, ◌&&◌, ◌||◌, ltb, cond, List, [], ◌∷◌, ◌++◌, refl, sym, ap, ◌∙◌, arith}
use Rattle.std.specs.List.{AllByRecursion, All}
use Rattle.std.proofs.lemmas.Bool.{le-ltb}
use Rattle.std.proofs.lemmas.Bool.Decides.{nat_tests}
use Rattle.std.proofs.lemmas.List.Elements.{recursion_from_All}
use Rattle.fjall_table.specs.Blocks.{Entry}
use Rattle.fjall_memtable.specs.Views.{is_cleared}
use Rattle.fjall_memtable.specs.SortedPages.{barrier}
use Rattle.fjall_memtable.specs.Sorted.{flat}

-- ---- clears

-- below the greater of two is what is below one of them
below_max : (n a b : ℕ) → ltb n (max a b) ≡ (ltb n a || ltb n b)
below_max n a b = grind (arith, nat_tests)

and_true : (b : Bool) → (b && true) ≡ b
and_true true = refl
and_true false = refl

and_false : (b : Bool) → (b && false) ≡ false
and_false true = refl
and_false false = refl

-- some clear below the instant hides a number where the greatest of them does
pub barrier_stands : (instant : ℕ) (clears : List ℕ) (number : ℕ) → is_cleared instant clears number ≡ ltb number (barrier instant clears)
barrier_stands instant [] number = sym (le-ltb number 0 (omega arith))
barrier_stands instant (n ∷ clears) number = by (ltb n instant) (barrier_stands instant clears number)
  where
    by : (b : Bool) → is_cleared instant clears number ≡ ltb number (barrier instant clears)
        → ((ltb number n && b) || is_cleared instant clears number) ≡ ltb number (cond b (max n (barrier instant clears)) (barrier instant clears))
    by true more = (λ i. and_true (ltb number n) i || more i) ∙ sym (below_max number n (barrier instant clears))
    by false more = ap (λ (b : Bool). b || is_cleared instant clears number) (and_false (ltb number n)) ∙ more

-- ---- runs

-- run after run there is nothing
none_left : (runs : List (List Entry)) → AllByRecursion (λ run. run ≡ []) runs → flat runs ≡ []
none_left [] h = refl
none_left (run ∷ runs) h = λ i. h.0 i ++ none_left runs h.1 i

pub used_up : (runs : List (List Entry)) → All (λ run. run ≡ []) runs → flat runs ≡ []
used_up runs h = none_left runs (recursion_from_All (λ run. run ≡ []) runs h)
