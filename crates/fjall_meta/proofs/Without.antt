-- Where a keyspace stands among those that live, and what is left without it.
use Rattle.std.proofs.Common.{◌≡◌, ℕ, suc, ◌+◌, ◌<◌, ◌==◌, not, nat_lt, Bool, true, false, cond, List, [], ◌∷◌, ◌++◌, length, take, drop, filter, All, AllPairs, Option, None, Some, IfSome, IfNone, refl, sym, ap, ◌∙◌, subst, arith}
use Rattle.std.specs.Prelude.{position}
use Rattle.std.specs.List.{position_or_len}
use Rattle.std.proofs.lemmas.Bool.Decides.{nat_tests}
use Rattle.std.proofs.lemmas.List.{take_all, append-nil, drop_all}
use Rattle.std.proofs.lemmas.List.Elements.{All-head, All-tail}
use Rattle.fjall_meta.specs.declared.living.LivingKeyspace.{LivingKeyspace}
use Rattle.fjall_meta.proofs.Rising.{Rises, from_pairs}

same_id : (a b : ℕ) → (a == b) ≡ true → a ≡ b
same_id a b e = grind (arith, nat_tests)

above : (a b : ℕ) → a < b → (b == a) ≡ false
above a b h = grind (arith, nat_tests)

-- none of them has this id
untouched : (living : List LivingKeyspace) (id : ℕ) → All (λ k. id < k.id) living → filter (λ k. not (k.id == id)) living ≡ living
untouched [] id all = refl
untouched (k ∷ living) id all =
    let other : (k.id == id) ≡ false = above id k.id (All-head (λ (j : LivingKeyspace). id < j.id) k living all) in
    ap (λ b. cond (not b) (k ∷ filter (λ j. not (j.id == id)) living) (filter (λ j. not (j.id == id)) living)) other
    ∙ ap (λ l. k ∷ l) (untouched living id (All-tail (λ (j : LivingKeyspace). id < j.id) k living all))

step : (k : LivingKeyspace) (rest living : List LivingKeyspace) (n : ℕ) (here : Bool) → (here ≡ true → rest ≡ living) → rest ≡ take n living ++ drop (n + 1) living
    → cond (not here) (k ∷ rest) rest ≡ take (cond (not here) (1 + n) 0) (k ∷ living) ++ drop (cond (not here) (1 + n) 0 + 1) (k ∷ living)
step k rest living n true same left = same refl
step k rest living n false same left =
    let front : suc n ≡ 1 + n = omega arith in
    let behind : suc (n + 1) ≡ 1 + n + 1 = omega arith in
    ap (λ l. k ∷ l) left ∙ ap (λ m. take m (k ∷ living) ++ drop (suc (n + 1)) (k ∷ living)) front ∙ ap (λ m. take (1 + n) (k ∷ living) ++ drop m (k ∷ living)) behind

-- what is left stands before its place and behind it
left_over : (living : List LivingKeyspace) (id : ℕ) → Rises (λ j k. j.id < k.id) living
    → filter (λ k. not (k.id == id)) living ≡ take (position_or_len (λ k. k.id == id) living) living ++ drop (position_or_len (λ k. k.id == id) living + 1) living
left_over [] id rise = refl
left_over (k ∷ living) id rise =
    let rest = filter (λ j. not (j.id == id)) living in
    step k rest living (position_or_len (λ j. j.id == id) living) (k.id == id)
    (λ here. untouched living id (subst (λ i. All (λ j. i < j.id) living) (same_id k.id id here) rise.0))
    (left_over living id rise.1)

module _ (living : List LivingKeyspace) (id : ℕ) (rise : AllPairs (λ j k. j.id < k.id) living) where
  abbrev place : ℕ
  place = position_or_len (λ (k : LivingKeyspace). k.id == id) living

  abbrev left : List LivingKeyspace
  left = filter (λ k. not (k.id == id)) living

  all_left : (before : Bool) → nat_lt place (length living) ≡ before → IfNone (cond before (Some place) None) (left ≡ living)
  all_left true e = tt
  all_left false e =
      left_over living id (from_pairs (λ (j : LivingKeyspace) (k : LivingKeyspace). j.id < k.id) living rise)
      ∙ ap (λ l. l ++ drop (place + 1) living) (take_all place living (grind (arith, nat_tests)))
      ∙ ap (λ l. living ++ l) (drop_all (place + 1) living (grind (arith, nat_tests)))
      ∙ append-nil living

  some_left : (before : Bool) → IfSome (cond before (Some place) None) (λ at. left ≡ take at living ++ drop (at + 1) living)
  some_left true = left_over living id (from_pairs (λ (j : LivingKeyspace) (k : LivingKeyspace). j.id < k.id) living rise)
  some_left false = tt

  pub left_without : (found : Option ℕ) → found ≡ position (λ k. k.id == id) living → IfSome found (λ at. left ≡ take at living ++ drop (at + 1) living)
  left_without found is = subst (λ o. IfSome o (λ at. left ≡ take at living ++ drop (at + 1) living)) (sym is) (some_left (nat_lt place (length living)))

  pub left_whole : (found : Option ℕ) → found ≡ position (λ k. k.id == id) living → IfNone found (left ≡ living)
  left_whole found is = subst (λ o. IfNone o (left ≡ living)) (sym is) (all_left (nat_lt place (length living)) refl)
