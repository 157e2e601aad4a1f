-- Tests of a list's elements, and the elements that pass them.
use Rattle.std.proofs.Common.{◌≡◌, Bool, true, false, ◌&&◌, ◌||◌, cond, List, [], ◌∷◌, refl, sym, ap, ◌∙◌, inl, inr}
use Rattle.std.proofs.Math.Bool.{and_comm}
use Rattle.std.proofs.lemmas.Bool.{or_cases, and_parts, and_from}
use Rattle.std.proofs.lemmas.List.Elements.{All-nil, All-cons, All-head, All-tail}
use Rattle.std.specs.List.{filter, list_any, All}
use Rattle.fjall_memtable.specs.Jobs.{Same}

-- ---- some element passes

pub any_first : {X : Type 0} (f : X → Bool) (x : X) (xs : List X) → f x ≡ true → list_any f (x ∷ xs) ≡ true
any_first f x xs e = ap (λ b. b || list_any f xs) e

pub any_later : {X : Type 0} (f : X → Bool) (x : X) (xs : List X) → list_any f xs ≡ true → list_any f (x ∷ xs) ≡ true
any_later f x xs e = by (f x) (list_any f xs) e
  where
    by : (a b : Bool) → b ≡ true → (a || b) ≡ true
    by true b h = refl
    by false b h = h

-- and so a weaker test
pub any_weaker : {X : Type 0} (f g : X → Bool) (xs : List X) → ((x : X) → f x ≡ true → g x ≡ true) → list_any f xs ≡ true → list_any g xs ≡ true
any_weaker f g [] each h = h
any_weaker f g (x ∷ xs) each h = elim (or_cases (f x) (list_any f xs) h) [
  | inl e ↦ any_first g x xs (each x e)
  | inr e ↦ any_later g x xs (any_weaker f g xs each e)
]

-- and a test that each element passes beside it
pub any_beside : {X : Type 0} (f g : X → Bool) (xs : List X) → All (λ x. g x ≡ true) xs → list_any f xs ≡ true → list_any (λ x. f x && g x) xs ≡ true
any_beside f g [] each h = h
any_beside f g (x ∷ xs) each h = elim (or_cases (f x) (list_any f xs) h) [
  | inl e ↦ any_first (λ y. f y && g y) x xs (and_from (f x) (g x) e (All-head (λ y. g y ≡ true) x xs each))
  | inr e ↦ any_later (λ y. f y && g y) x xs (any_beside f g xs (All-tail (λ y. g y ≡ true) x xs each) e)
]

-- ---- the elements that pass

filter_step : {X : Type 0} (p q : X → Bool) (x : X) (xs more : List X) (b : Bool) → filter p xs ≡ more
    → filter p (cond b (x ∷ xs) xs) ≡ cond (b && p x) (x ∷ more) more
filter_step p q x xs more true i = ap (λ ys. cond (p x) (x ∷ ys) ys) i
filter_step p q x xs more false i = i

pub filter-filter : {X : Type 0} (p q : X → Bool) (xs : List X) → filter p (filter q xs) ≡ filter (λ x. q x && p x) xs
filter-filter p q [] = refl
filter-filter p q (x ∷ xs) = filter_step p q x (filter q xs) (filter (λ y. q y && p y) xs) (q x) (filter-filter p q xs)

-- tests that answer alike on the elements keep the same ones
pub filters_agree : {X : Type 0} (p q : X → Bool) (xs : List X) → All (λ x. p x ≡ q x) xs → filter p xs ≡ filter q xs
filters_agree p q [] each = refl
filters_agree p q (x ∷ xs) each =
    let here = All-head (λ y. p y ≡ q y) x xs each in
    let rest = filters_agree p q xs (All-tail (λ y. p y ≡ q y) x xs each) in
    λ i. cond (here i) (x ∷ rest i) (rest i)

pub all_of : {X : Type 0} (P : X → Type 0) (xs : List X) → ((x : X) → P x) → All P xs
all_of P [] each = All-nil P
all_of P (x ∷ xs) each = All-cons P x xs (each x) (all_of P xs each)

pub filters_same : {X : Type 0} (p q : X → Bool) (xs : List X) → ((x : X) → p x ≡ q x) → filter p xs ≡ filter q xs
filters_same p q xs each = filters_agree p q xs (all_of (λ x. p x ≡ q x) xs each)

pub filters_swap : {X : Type 0} (p q : X → Bool) (xs : List X) → filter p (filter q xs) ≡ filter q (filter p xs)
filters_swap p q xs = filter-filter p q xs ∙ filters_same (λ x. q x && p x) (λ x. p x && q x) xs (λ x. and_comm (q x) (p x)) ∙ sym (filter-filter q p xs)

any_step : {X : Type 0} (f p : X → Bool) (x : X) (xs : List X) (more b : Bool) → list_any f xs ≡ more → list_any f (cond b (x ∷ xs) xs) ≡ ((b && f x) || more)
any_step f p x xs more true i = ap (λ b. f x || b) i
any_step f p x xs more false i = i

pub any-filter : {X : Type 0} (f p : X → Bool) (xs : List X) → list_any f (filter p xs) ≡ list_any (λ x. p x && f x) xs
any-filter f p [] = refl
any-filter f p (x ∷ xs) = any_step f p x (filter p xs) (list_any (λ y. p y && f y) xs) (p x) (any-filter f p xs)

pub any_fewer : {X : Type 0} (f p : X → Bool) (xs : List X) → list_any f (filter p xs) ≡ true → list_any f xs ≡ true
any_fewer f p xs h = any_weaker (λ x. p x && f x) f xs (λ x e. (and_parts (p x) (f x) e).1) (sym (any-filter f p xs) ∙ h)

pub same_filters : {X : Type 0} (p : X → Bool) (xs ys : List X) → Same xs ys → Same (filter p xs) (filter p ys)
same_filters p xs ys same test = any-filter test p xs ∙ same (λ x. p x && test x) ∙ sym (any-filter test p ys)
