-- Two lists in the order of their keys, merged: pairs, and writes of keys, each of which has a value or takes its key away.
use Rattle.std.proofs.Common.{◌≡◌, ℕ, zero, suc, ◌+◌, ◌-◌, ◌≤◌, Bool, true, false, cond, ◌&&◌, List, [], ◌∷◌, ◌++◌, length, take, drop, Option, Some, None, is_some, refl, sym, ap, subst, ◌∙◌, arith, inl, inr}
use Rattle.std.specs.Prelude.{T, IfSome, IsTrue, slice_get}
use Rattle.std.specs.Cmp.{IsTotalOrder}
use Rattle.std.specs.FinMap.{find, is_sorted}
use Rattle.std.specs.FinMap.Entries.{below_all}
use Rattle.std.specs.Ordering.{eq_by_cmp, is_eq, is_gt, is_lt, match_ordering, ordering_reverse}
use Rattle.std.specs.declared.cmp.Ordering.{Ordering}
use Rattle.std.specs.declared.cmp.Ordering.TheVariants.{Less, Equal, Greater}
use Rattle.std.proofs.lemmas.Bool.{cases_lt}
use Rattle.std.proofs.lemmas.List.{append_assoc, take-take}

-- ---- facts by tests

pub both : (a b : Bool) → T a → T b → T (a && b)
both true b p q = q
both false b p q = p

pub first : (a b : Bool) → T (a && b) → T a
first true b p = tt
first false b p = p

pub second : (a b : Bool) → T (a && b) → T b
second true b p = p
second false b p = absurd p

pub less : (o : Ordering) → T (is_lt o) → o ≡ Less
less Less p = refl
less Equal p = absurd p
less Greater p = absurd p

pub is_below : (o : Ordering) → is_lt o ≡ true → o ≡ Less
is_below Less e = refl
is_below Equal e = absurd cc
is_below Greater e = absurd cc

pub is_less : (o : Ordering) → o ≡ Less → T (is_lt o)
is_less o e = subst (λ (p : Ordering). T (is_lt p)) (sym e) tt

-- ---- keys below all keys of a list
module _ {K : Type 0} (R : K → K → Ordering) (o : IsTotalOrder R) where
  pub lt_all : {X : Type 0} (x y : K) (es : List (K × X)) → R x y ≡ Less → T (below_all R y es) → T (below_all R x es)
  lt_all x y [] p h = tt
  lt_all x y (e ∷ es) p h = both _ _ (is_less _ (o.trans x y e.0 p (less _ (first _ _ h)))) (lt_all x y es p (second _ _ h))

  pub tied_all : {X : Type 0} (x y : K) (es : List (K × X)) → R y x ≡ Equal → T (below_all R y es) → T (below_all R x es)
  tied_all x y [] p h = tt
  tied_all x y (e ∷ es) p h = both _ _ (is_less _ (sym (o.congr y x e.0 p) ∙ less _ (first _ _ h))) (tied_all x y es p (second _ _ h))

  pub take_all_below : {X : Type 0} (x : K) (n : ℕ) (es : List (K × X)) → T (below_all R x es) → T (below_all R x (take n es))
  take_all_below x zero es h = tt
  take_all_below x (suc n) [] h = tt
  take_all_below x (suc n) (e ∷ es) h = both _ _ (first _ _ h) (take_all_below x n es (second _ _ h))

  pub rest_sorted : {X : Type 0} (e : K × X) (es : List (K × X)) → T (is_sorted R (e ∷ es)) → T (is_sorted R es)
  rest_sorted e es s = second (below_all R e.0 es) (is_sorted R es) s

  -- it isn't found there
  pub not_found : {X : Type 0} (q : K) (es : List (K × X)) → T (below_all R q es) → find R q es ≡ None
  not_found q [] h = refl
  not_found q (e ∷ es) h = ap (λ (r : Ordering). cond (is_eq r) (Some e.1) (find R q es)) (less _ (first _ _ h)) ∙ not_found q es (second _ _ h)

  pub greater : (x y : K) → R x y ≡ Less → R y x ≡ Greater
  greater x y e = o.antisymm y x ∙ ap ordering_reverse e

  pub lesser : (x y : K) → R x y ≡ Greater → R y x ≡ Less
  lesser x y e = o.antisymm y x ∙ ap ordering_reverse e

  pub tied : (x y : K) → R x y ≡ Equal → R y x ≡ Equal
  tied x y e = o.antisymm y x ∙ ap ordering_reverse e

-- ---- the merge

-- a write's pair, where it has one, before others
abbrev pub put : {K X : Type 0} → K → Option X → List (K × X) → List (K × X)
put k (Some v) rest = (k, v) ∷ rest
put k None rest = rest

module _ {K X W : Type 0} (R : K → K → Ordering) (value : W → Option X) where
  -- a write among pairs: those before it, it, and the rest of both
  abbrev pub step : K × W → (List (K × X) → List (K × X)) → List (K × X) → List (K × X)
  step w rest [] = put w.0 (value w.1) (rest [])
  step w rest (b ∷ bs) = match_ordering (R b.0 w.0) (b ∷ step w rest bs) (step w rest bs) (put w.0 (value w.1) (rest (b ∷ bs)))

  abbrev pub merge : List (K × W) → List (K × X) → List (K × X)
  merge [] bs = bs
  merge (w ∷ ws) bs = step w (merge ws) bs

  -- how many take their keys away
  abbrev pub removed : List (K × W) → ℕ
  removed [] = 0
  removed (w ∷ ws) = cond (is_some (value w.1)) (removed ws) (suc (removed ws))

-- what a key has after a write of it, where there is one
abbrev pub chosen : {X W : Type 0} → (W → Option X) → Option W → Option X → Option X
chosen value (Some w) x = value w
chosen value None x = x

pub chosen_first : {X W : Type 0} (value : W → Option X) (b : Bool) (w : W) (f : Option W) (x : Option X) → cond b (value w) (chosen value f x) ≡ chosen value (cond b (Some w) f) x
chosen_first value true w f x = refl
chosen_first value false w f x = refl

pub is_tied : (r : Ordering) → is_eq r ≡ true → r ≡ Equal
is_tied Less e = absurd cc
is_tied Equal e = refl
is_tied Greater e = absurd cc

-- ---- what a write's pair changes

put_length : {K X : Type 0} (k : K) (v : Option X) (rest : List (K × X)) (m n : ℕ) → n ≤ length rest + m → suc n ≤ length (put k v rest) + cond (is_some v) m (suc m)
put_length k (Some v) rest m n h = omega (arith, h)
put_length k None rest m n h = omega (arith, h)

put_take : {K X : Type 0} (k : K) (v : Option X) (xs ys : List (K × X)) (m n max : ℕ) → cond (is_some v) m (suc m) + max ≤ suc n → ((x : ℕ) → m + x ≤ n → take x xs ≡ take x ys) → take max (put k v xs) ≡ take max (put k v ys)
put_take k (Some v) xs ys m n zero h same = refl
put_take k (Some v) xs ys m n (suc max) h same = ap (λ (l : List _). (k, v) ∷ l) (same max (omega (arith, h)))
put_take k None xs ys m n max h same = same max (omega (arith, h))

-- the last of a list, so many
abbrev pub last : {A : Type 0} → ℕ → List A → List A
last n xs = drop (length xs - n) xs

pub last-cons : {A : Type 0} (n : ℕ) (x : A) (xs : List A) → n ≤ length xs → last n (x ∷ xs) ≡ last n xs
last-cons n x xs h = let e : suc (length xs) - n ≡ suc (length xs - n) = omega (arith, h) in ap (λ (k : ℕ). drop k (x ∷ xs)) e

pub last_all : {A : Type 0} (n : ℕ) (xs : List A) → length xs ≤ n → last n xs ≡ xs
last_all n xs h = let e : length xs - n ≡ 0 = omega (arith, h) in ap (λ (k : ℕ). drop k xs) e

put_last : {K X : Type 0} (k : K) (v : Option X) (xs ys : List (K × X)) (max : ℕ) → max ≤ length xs → max ≤ length ys → last max xs ≡ last max ys → last max (put k v xs) ≡ last max (put k v ys)
put_last k (Some v) xs ys max h g same = last-cons max (k, v) xs h ∙ same ∙ sym (last-cons max (k, v) ys g)
put_last k None xs ys max h g same = same

counted_less : (b : Bool) (m : ℕ) → m ≤ cond b m (suc m)
counted_less true m = omega arith
counted_less false m = omega arith

-- ---- pages of a merge
module _ {K X W : Type 0} (R : K → K → Ordering) (o : IsTotalOrder R) (value : W → Option X) where
  abbrev Base : Type 0
  Base = List (K × X)

  -- a write whose key is below all stands first
  head_above : (w : K × W) (rest : Base → Base) (bs : Base) → T (below_all R w.0 bs) → step R value w rest bs ≡ put w.0 (value w.1) (rest bs)
  head_above w rest [] h = refl
  head_above w rest (c ∷ cs) h = ap (λ (r : Ordering). match_ordering r (c ∷ step R value w rest cs) (step R value w rest cs) (put w.0 (value w.1) (rest (c ∷ cs)))) (greater R o w.0 c.0 (less _ (first _ _ h)))

  -- a merge has at most as many pairs less as keys are taken away
  abbrev Lengths : List (K × W) → Base → Type 0
  Lengths ws bs = length bs ≤ length (merge R value ws bs) + removed R value ws

  lengths_of : (w : K × W) (ws : List (K × W)) → ((bs : Base) → T (is_sorted R bs) → Lengths ws bs) → (bs : Base) → T (is_sorted R bs) → Lengths (w ∷ ws) bs
  lengths_of w ws ih [] s = omega arith
  lengths_of w ws ih (b ∷ bs) s = by (lengths_of w ws ih bs (second _ _ s)) (R b.0 w.0) refl
    where
      by : Lengths (w ∷ ws) bs → (r : Ordering) → R b.0 w.0 ≡ r → suc (length bs) ≤ length (match_ordering r (b ∷ step R value w (merge R value ws) bs) (step R value w (merge R value ws) bs) (put w.0 (value w.1) (merge R value ws (b ∷ bs)))) + removed R value (w ∷ ws)
      by h Less e = omega (arith, h)
      by h Equal e =
          let at : step R value w (merge R value ws) bs ≡ put w.0 (value w.1) (merge R value ws bs) = head_above w (merge R value ws) bs (tied_all R o w.0 b.0 bs e (first _ _ s)) in
          subst (λ (l : Base). suc (length bs) ≤ length l + removed R value (w ∷ ws)) (sym at) (put_length w.0 (value w.1) (merge R value ws bs) (removed R value ws) (length bs) (ih bs (second _ _ s)))
      by h Greater e = let k = put_length w.0 (value w.1) (merge R value ws (b ∷ bs)) (removed R value ws) (suc (length bs)) (ih (b ∷ bs) s) in omega (arith, k)

  pub lengths : (ws : List (K × W)) (bs : Base) → T (is_sorted R bs) → Lengths ws bs
  lengths [] bs s = omega arith
  lengths (w ∷ ws) bs s = lengths_of w ws (lengths ws) bs s

  -- the first of a merge, so many, need of the pairs as many and those that are taken away
  abbrev Firsts : List (K × W) → Base → Type 0
  Firsts ws bs = (n max : ℕ) → removed R value ws + max ≤ n → take max (merge R value ws (take n bs)) ≡ take max (merge R value ws bs)

  firsts_of : (w : K × W) (ws : List (K × W)) → ((bs : Base) → T (is_sorted R bs) → Firsts ws bs) → (bs : Base) → T (is_sorted R bs) → Firsts (w ∷ ws) bs
  firsts_of w ws ih bs s zero max h =
      let e : max ≡ 0 = omega (arith, h) in
      ap (λ (k : ℕ). take k (merge R value (w ∷ ws) [])) e ∙ sym (ap (λ (k : ℕ). take k (merge R value (w ∷ ws) bs)) e)
  firsts_of w ws ih [] s (suc n) max h = refl
  firsts_of w ws ih (b ∷ bs) s (suc n) max h = by (λ x k. firsts_of w ws ih bs (second _ _ s) n x k) (R b.0 w.0) refl max h
    where
      by : ((x : ℕ) → removed R value (w ∷ ws) + x ≤ n → take x (merge R value (w ∷ ws) (take n bs)) ≡ take x (merge R value (w ∷ ws) bs)) → (r : Ordering) → R b.0 w.0 ≡ r → (max : ℕ) → removed R value (w ∷ ws) + max ≤ suc n
          → take max (match_ordering r (b ∷ step R value w (merge R value ws) (take n bs)) (step R value w (merge R value ws) (take n bs)) (put w.0 (value w.1) (merge R value ws (b ∷ take n bs))))
          ≡ take max (match_ordering r (b ∷ step R value w (merge R value ws) bs) (step R value w (merge R value ws) bs) (put w.0 (value w.1) (merge R value ws (b ∷ bs))))
      by more Less e zero g = refl
      by more Less e (suc x) g = ap (λ (l : Base). b ∷ l) (more x (omega (arith, g)))
      by more Equal e x g =
          let above = tied_all R o w.0 b.0 bs e (first _ _ s) in
          ap (take x) (head_above w (merge R value ws) (take n bs) (take_all_below R o w.0 n bs above))
          ∙ put_take w.0 (value w.1) (merge R value ws (take n bs)) (merge R value ws bs) (removed R value ws) n x g (λ y k. ih bs (second _ _ s) n y k)
          ∙ ap (take x) (sym (head_above w (merge R value ws) bs above))
      by more Greater e x g = put_take w.0 (value w.1) (merge R value ws (b ∷ take n bs)) (merge R value ws (b ∷ bs)) (removed R value ws) (suc n) x (omega (arith, g)) (λ y k. ih (b ∷ bs) s (suc n) y k)

  pub firsts : (ws : List (K × W)) (bs : Base) → T (is_sorted R bs) → Firsts ws bs
  firsts [] bs s n max h = take-take max n bs (omega (arith, h))
  firsts (w ∷ ws) bs s n max h = firsts_of w ws (firsts ws) bs s n max h

  -- a pair before many doesn't change the last of a merge
  pub one_before : (ws : List (K × W)) (b : K × X) (bs : Base) (max : ℕ) → T (is_sorted R (b ∷ bs)) → removed R value ws + max ≤ length bs → last max (merge R value ws (b ∷ bs)) ≡ last max (merge R value ws bs)
  one_before [] b bs max s h = last-cons max b bs (omega (arith, h))
  one_before (w ∷ ws) b bs max s h = by (λ k. one_before ws b bs max s k) (R b.0 w.0) refl
    where
      by : (removed R value ws + max ≤ length bs → last max (merge R value ws (b ∷ bs)) ≡ last max (merge R value ws bs)) → (r : Ordering) → R b.0 w.0 ≡ r → last max (match_ordering r (b ∷ step R value w (merge R value ws) bs) (step R value w (merge R value ws) bs) (put w.0 (value w.1) (merge R value ws (b ∷ bs)))) ≡ last max (step R value w (merge R value ws) bs)
      by more Less e = last-cons max b (step R value w (merge R value ws) bs) (let l : Lengths (w ∷ ws) bs = lengths (w ∷ ws) bs (rest_sorted R o b bs s) in omega (arith, l, h))
      by more Equal e = refl
      by more Greater e =
          let above = lt_all R o w.0 b.0 bs (lesser R o b.0 w.0 e) (first _ _ s) in
          let fewer : removed R value ws ≤ cond (is_some (value w.1)) (removed R value ws) (suc (removed R value ws)) = counted_less (is_some (value w.1)) (removed R value ws) in
          let l : Lengths ws bs = lengths ws bs (rest_sorted R o b bs s) in
          let k : Lengths ws (b ∷ bs) = lengths ws (b ∷ bs) s in
          put_last w.0 (value w.1) (merge R value ws (b ∷ bs)) (merge R value ws bs) max (omega (arith, k, h, fewer)) (omega (arith, l, h, fewer)) (more (omega (arith, h, fewer)))
          ∙ ap (last max) (sym (head_above w (merge R value ws) bs above))

  -- the last of it, so many, need as many
  pub lasts : (ws : List (K × W)) (bs : Base) → T (is_sorted R bs) → (n max : ℕ) → removed R value ws + max ≤ n → last max (merge R value ws (last n bs)) ≡ last max (merge R value ws bs)
  lasts ws [] s n max h = ap (λ (l : Base). last max (merge R value ws l)) (last_all n [] (omega arith))
  lasts ws (b ∷ bs) s n max h =
      elim (cases_lt (length bs) n) [
        | inl l ↦ ap (λ (xs : Base). last max (merge R value ws xs)) (last_all n (b ∷ bs) (omega (arith, l)))
        | inr g ↦ ap (λ (xs : Base). last max (merge R value ws xs)) (last-cons n b bs g) ∙ lasts ws bs (second _ _ s) n max h ∙ sym (one_before ws b bs max s (omega (arith, g, h)))
      ]

  -- a page of a merge needs a page of as many pairs and those that are taken away
  pub pages : (back : Bool) (ws : List (K × W)) (bs : Base) → T (is_sorted R bs) → (n max : ℕ) → removed R value ws + max ≤ n
      → cond back (last max (merge R value ws (cond back (last n bs) (take n bs)))) (take max (merge R value ws (cond back (last n bs) (take n bs)))) ≡ cond back (last max (merge R value ws bs)) (take max (merge R value ws bs))
  pages true ws bs s n max h = lasts ws bs s n max h
  pages false ws bs s n max h = firsts ws bs s n max h

  -- ---- a merge as a map

  below_put : (x k : K) (v : Option X) (rest : Base) → T (is_lt (R x k)) → T (below_all R x rest) → T (below_all R x (put k v rest))
  below_put x k (Some v) rest h g = both _ _ h g
  below_put x k None rest h g = g

  below_of : (x : K) (w : K × W) (ws : List (K × W)) → ((bs : Base) → T (below_all R x bs) → T (below_all R x (merge R value ws bs))) → T (is_lt (R x w.0)) → (bs : Base) → T (below_all R x bs) → T (below_all R x (merge R value (w ∷ ws) bs))
  below_of x w ws ih h [] g = below_put x w.0 (value w.1) (merge R value ws []) h (ih [] g)
  below_of x w ws ih h (b ∷ bs) g = by (below_of x w ws ih h bs (second _ _ g)) (R b.0 w.0)
    where
      by : T (below_all R x (merge R value (w ∷ ws) bs)) → (r : Ordering) → T (below_all R x (match_ordering r (b ∷ step R value w (merge R value ws) bs) (step R value w (merge R value ws) bs) (put w.0 (value w.1) (merge R value ws (b ∷ bs)))))
      by more Less = both _ _ (first _ _ g) more
      by more Equal = more
      by more Greater = below_put x w.0 (value w.1) (merge R value ws (b ∷ bs)) h (ih (b ∷ bs) g)

  below : (x : K) (ws : List (K × W)) → T (below_all R x ws) → (bs : Base) → T (below_all R x bs) → T (below_all R x (merge R value ws bs))
  below x [] h bs g = g
  below x (w ∷ ws) h bs g = below_of x w ws (below x ws (second _ _ h)) (first _ _ h) bs g

  sorted_put : (k : K) (v : Option X) (rest : Base) → T (below_all R k rest) → T (is_sorted R rest) → T (is_sorted R (put k v rest))
  sorted_put k (Some v) rest h g = both _ _ h g
  sorted_put k None rest h g = g

  sorted_of : (w : K × W) (ws : List (K × W)) → ((bs : Base) → T (is_sorted R bs) → T (is_sorted R (merge R value ws bs))) → T (below_all R w.0 ws) → (bs : Base) → T (is_sorted R bs) → T (is_sorted R (merge R value (w ∷ ws) bs))
  sorted_of w ws ih h [] s = sorted_put w.0 (value w.1) (merge R value ws []) (below w.0 ws h [] tt) (ih [] s)
  sorted_of w ws ih h (b ∷ bs) s = by (sorted_of w ws ih h bs (second _ _ s)) (R b.0 w.0) refl
    where
      by : T (is_sorted R (merge R value (w ∷ ws) bs)) → (r : Ordering) → R b.0 w.0 ≡ r → T (is_sorted R (match_ordering r (b ∷ step R value w (merge R value ws) bs) (step R value w (merge R value ws) bs) (put w.0 (value w.1) (merge R value ws (b ∷ bs)))))
      by more Less e = both _ _ (below b.0 (w ∷ ws) (both _ _ (is_less _ e) (lt_all R o b.0 w.0 ws e h)) bs (first _ _ s)) more
      by more Equal e = more
      by more Greater e = let l = lesser R o b.0 w.0 e in sorted_put w.0 (value w.1) (merge R value ws (b ∷ bs)) (below w.0 ws h (b ∷ bs) (both _ _ (is_less _ l) (lt_all R o w.0 b.0 bs l (first _ _ s)))) (ih (b ∷ bs) s)

  pub sorted : (ws : List (K × W)) → T (is_sorted R ws) → (bs : Base) → T (is_sorted R bs) → T (is_sorted R (merge R value ws bs))
  sorted [] h bs s = s
  sorted (w ∷ ws) h bs s = sorted_of w ws (sorted ws (second _ _ h)) (first _ _ h) bs s

  put_found : (q k : K) (v : Option X) (rest : Base) → T (below_all R k rest) → find R q (put k v rest) ≡ cond (eq_by_cmp R q k) v (find R q rest)
  put_found q k (Some v) rest h = refl
  put_found q k None rest h = by (eq_by_cmp R q k) refl
    where
      by : (t : Bool) → eq_by_cmp R q k ≡ t → find R q rest ≡ cond t None (find R q rest)
      by true e = not_found R o q rest (tied_all R o q k rest (tied R o q k (is_tied _ e)) h)
      by false e = refl

  abbrev Finds : K → List (K × W) → Base → Type 0
  Finds q ws bs = find R q (merge R value ws bs) ≡ chosen value (find R q ws) (find R q bs)

  finds_put : (q : K) (w : K × W) (ws : List (K × W)) (bs : Base) → T (below_all R w.0 ws) → T (below_all R w.0 bs) → Finds q ws bs → find R q (put w.0 (value w.1) (merge R value ws bs)) ≡ chosen value (find R q (w ∷ ws)) (find R q bs)
  finds_put q w ws bs h g ih =
      put_found q w.0 (value w.1) (merge R value ws bs) (below w.0 ws h bs g)
      ∙ ap (λ (f : Option X). cond (eq_by_cmp R q w.0) (value w.1) f) ih
      ∙ chosen_first value (eq_by_cmp R q w.0) w.1 (find R q ws) (find R q bs)

  finds_of : (q : K) (w : K × W) (ws : List (K × W)) → ((bs : Base) → T (is_sorted R bs) → Finds q ws bs) → T (below_all R w.0 ws) → (bs : Base) → T (is_sorted R bs) → Finds q (w ∷ ws) bs
  finds_of q w ws ih h [] s = finds_put q w ws [] h tt (ih [] s)
  finds_of q w ws ih h (b ∷ bs) s = by (finds_of q w ws ih h bs (second _ _ s)) (R b.0 w.0) refl
    where
      before : R b.0 w.0 ≡ Less → (t : Bool) → eq_by_cmp R q b.0 ≡ t → cond t (Some b.1) (chosen value (find R q (w ∷ ws)) (find R q bs)) ≡ chosen value (find R q (w ∷ ws)) (cond t (Some b.1) (find R q bs))
      before e true t =
          let none : find R q (w ∷ ws) ≡ None = not_found R o q (w ∷ ws) (tied_all R o q b.0 (w ∷ ws) (tied R o q b.0 (is_tied _ t)) (both _ _ (is_less _ e) (lt_all R o b.0 w.0 ws e h))) in
          sym (ap (λ (f : Option W). chosen value f (Some b.1)) none)
      before e false t = refl

      at : R b.0 w.0 ≡ Equal → (t : Bool) → eq_by_cmp R q b.0 ≡ t → chosen value (find R q (w ∷ ws)) (find R q bs) ≡ chosen value (find R q (w ∷ ws)) (cond t (Some b.1) (find R q bs))
      at e true t =
          let same : R q w.0 ≡ Equal = o.congr q b.0 w.0 (is_tied _ t) ∙ e in
          let some : find R q (w ∷ ws) ≡ Some w.1 = ap (λ (r : Ordering). cond (is_eq r) (Some w.1) (find R q ws)) same in
          ap (λ (f : Option W). chosen value f (find R q bs)) some ∙ sym (ap (λ (f : Option W). chosen value f (Some b.1)) some)
      at e false t = refl

      by : Finds q (w ∷ ws) bs → (r : Ordering) → R b.0 w.0 ≡ r → find R q (match_ordering r (b ∷ step R value w (merge R value ws) bs) (step R value w (merge R value ws) bs) (put w.0 (value w.1) (merge R value ws (b ∷ bs)))) ≡ chosen value (find R q (w ∷ ws)) (find R q (b ∷ bs))
      by more Less e = ap (λ (f : Option X). cond (eq_by_cmp R q b.0) (Some b.1) f) more ∙ before e (eq_by_cmp R q b.0) refl
      by more Equal e = more ∙ at e (eq_by_cmp R q b.0) refl
      by more Greater e = let l = lesser R o b.0 w.0 e in finds_put q w ws (b ∷ bs) h (both _ _ (is_less _ l) (lt_all R o w.0 b.0 bs l (first _ _ s))) (ih (b ∷ bs) s)

  -- a key of a merge has what its write gives it, or what it had
  pub finds : (q : K) (ws : List (K × W)) → T (is_sorted R ws) → (bs : Base) → T (is_sorted R bs) → Finds q ws bs
  finds q [] h bs s = refl
  finds q (w ∷ ws) h bs s = finds_of q w ws (finds q ws (second _ _ h)) (first _ _ h) bs s

-- ---- the steps of a merge
module _ {K X W : Type 0} (R : K → K → Ordering) (value : W → Option X) (w : K × W) (rest : List (K × X) → List (K × X)) where
  -- a pair before the write
  pub pair_done : (seen found more : List (K × X)) (b : K × X) (all : List (K × X)) → found ≡ b ∷ more → R b.0 w.0 ≡ Less → seen ++ step R value w rest found ≡ all → (seen ++ b ∷ []) ++ step R value w rest more ≡ all
  pair_done seen found more b all is e done =
      append_assoc seen (b ∷ []) (step R value w rest more)
      ∙ ap (λ (r : Ordering). seen ++ match_ordering r (b ∷ step R value w rest more) (step R value w rest more) (put w.0 (value w.1) (rest (b ∷ more)))) (sym e)
      ∙ ap (λ (l : List (K × X)). seen ++ step R value w rest l) (sym is)
      ∙ done

  is_greater : (r : Ordering) → is_gt r ≡ true → r ≡ Greater
  is_greater Less e = absurd cc
  is_greater Equal e = absurd cc
  is_greater Greater e = refl

  above_is : (bs : List (K × X)) → IfSome (slice_get bs 0) (λ b. IsTrue (is_gt (R b.0 w.0))) → step R value w rest bs ≡ put w.0 (value w.1) (rest bs)
  above_is [] h = refl
  above_is (b ∷ bs) h = ap (λ (r : Ordering). match_ordering r (b ∷ step R value w rest bs) (step R value w rest bs) (put w.0 (value w.1) (rest (b ∷ bs)))) (is_greater (R b.0 w.0) h)

  -- the write itself, before all that is left
  pub write_done : (seen found left all : List (K × X)) (v : X) → left ≡ found → IfSome (slice_get found 0) (λ b. IsTrue (is_gt (R b.0 w.0))) → value w.1 ≡ Some v → seen ++ step R value w rest found ≡ all → (seen ++ (w.0, v) ∷ []) ++ rest left ≡ all
  write_done seen found left all v is above of done =
      append_assoc seen ((w.0, v) ∷ []) (rest left)
      ∙ ap (λ (l : List (K × X)). seen ++ (w.0, v) ∷ rest l) is
      ∙ ap (λ (o : Option X). seen ++ put w.0 o (rest found)) (sym of)
      ∙ ap (λ (l : List (K × X)). seen ++ l) (sym (above_is found above))
      ∙ done

  pub removal_done : (seen found left all : List (K × X)) → left ≡ found → IfSome (slice_get found 0) (λ b. IsTrue (is_gt (R b.0 w.0))) → value w.1 ≡ None → seen ++ step R value w rest found ≡ all → seen ++ rest left ≡ all
  removal_done seen found left all is above of done =
      ap (λ (l : List (K × X)). seen ++ rest l) is
      ∙ ap (λ (o : Option X). seen ++ put w.0 o (rest found)) (sym of)
      ∙ ap (λ (l : List (K × X)). seen ++ l) (sym (above_is found above))
      ∙ done
