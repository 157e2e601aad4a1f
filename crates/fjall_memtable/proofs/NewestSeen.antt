-- The newest version among those that pass a test, and what leaves it the newest.
use Rattle.std.proofs.Common.{◌≡◌, ℕ, ◌+◌, ◌<◌, ◌≤◌, Bool, true, false, cond, ltb, List, [], ◌∷◌, ◌++◌, Option, Some, None, refl, sym, ap, subst, ◌∙◌, inl, inr, ◌⊎◌, arith}
use Rattle.std.specs.List.{filter, list_any, All}
use Rattle.std.proofs.lemmas.Bool.{cases_lt, cond-true, cond-false, lt-ltb, le-ltb, or_cases, true≢false}
use Rattle.std.proofs.lemmas.List.Elements.{All-head, All-tail, filter_passes}
use Rattle.fjall_table.specs.Blocks.{Entry}
use Rattle.fjall_memtable.specs.Views.{later, newest_of}
use Rattle.fjall_memtable.proofs.Tests.{any_first, any_later, all_of}

-- ---- the later of two

-- one past the number, and 0 for none
abbrev pub top : Option Entry → ℕ
top None = 0
top (Some v) = v.number + 1

pub nothing : (o : Option Entry) → top o ≤ 0 → o ≡ None
nothing None h = refl
nothing (Some v) h = absurd (omega arith)

pub first_wins : (a b : Option Entry) → top b < top a → later a b ≡ a
first_wins None b h = absurd (omega arith)
first_wins (Some v) None h = refl
first_wins (Some v) (Some w) h = ap Some (cond-true (ltb w.number v.number) v w (lt-ltb w.number v.number (omega arith)))

pub second_wins : (a b : Option Entry) → top a ≤ top b → later a b ≡ b
second_wins None b h = refl
second_wins (Some v) None h = absurd (omega arith)
second_wins (Some v) (Some w) h = ap Some (cond-false (ltb w.number v.number) v w (le-ltb w.number v.number (omega arith)))

pub later_none : (o : Option Entry) → later o None ≡ o
later_none None = refl
later_none (Some v) = refl

-- one of the two is the later
abbrev pub IsDecided : Option Entry → Option Entry → Type 0
IsDecided a b = ((top b < top a) × (later a b ≡ a)) ⊎ ((top a ≤ top b) × (later a b ≡ b))

pub decided : (a b : Option Entry) → IsDecided a b
decided a b = elim (cases_lt (top b) (top a)) [ inl h ↦ inl (h, first_wins a b h) | inr h ↦ inr (h, second_wins a b h) ]

pub top-later : (a b : Option Entry) → (top a ≤ top (later a b)) × (top b ≤ top (later a b))
top-later a b = elim (decided a b) [
  | inl h ↦ let e = ap top h.1 in (omega arith, omega arith)
  | inr h ↦ let e = ap top h.1 in (omega arith, omega arith)
]

pub later_assoc : (a b c : Option Entry) → later (later a b) c ≡ later a (later b c)
later_assoc a b c = by (decided a b) (decided b c)
  where
    by : IsDecided a b → IsDecided b c → later (later a b) c ≡ later a (later b c)
    by (inl h) (inl k) = ap (λ o. later o c) h.1 ∙ first_wins a c (omega arith) ∙ sym (ap (λ o. later a o) k.1 ∙ h.1)
    by (inl h) (inr k) = ap (λ o. later o c) h.1 ∙ sym (ap (λ o. later a o) k.1)
    by (inr h) (inl k) = ap (λ o. later o c) h.1 ∙ k.1 ∙ sym (ap (λ o. later a o) k.1 ∙ h.1)
    by (inr h) (inr k) = ap (λ o. later o c) h.1 ∙ k.1 ∙ sym (ap (λ o. later a o) k.1 ∙ second_wins a c (omega arith))

-- ---- the newest

-- a version alone
abbrev pub one : (Entry → Bool) → Entry → Option Entry
one test v = cond (test v) (Some v) None

pub newest-append : (test : Entry → Bool) (vs ws : List Entry) → newest_of test (vs ++ ws) ≡ later (newest_of test vs) (newest_of test ws)
newest-append test [] ws = refl
newest-append test (v ∷ vs) ws = ap (λ o. later (one test v) o) (newest-append test vs ws)
    ∙ sym (later_assoc (one test v) (newest_of test vs) (newest_of test ws))

one_is : (test : Entry → Bool) (v w : Entry) → one test v ≡ Some w → (v ≡ w) × (test w ≡ true)
one_is test v w e = by (test v) refl e
  where
    by : (b : Bool) → test v ≡ b → cond b (Some v) None ≡ Some w → (v ≡ w) × (test w ≡ true)
    by true t e = let same : v ≡ w = cc in (same, subst (λ (u : Entry). test u ≡ true) same t)
    by false t e = cc

-- the newest passes the test, and has what each version has
pub newest_has : (test : Entry → Bool) (P : Entry → Type 0) (vs : List Entry) (w : Entry) → newest_of test vs ≡ Some w → All P vs → P w × (test w ≡ true)
newest_has test P [] w e each = cc
newest_has test P (v ∷ vs) w e each = elim (decided (one test v) (newest_of test vs)) [
  | inl h ↦ let o = one_is test v w (sym h.1 ∙ e) in (subst P o.0 (All-head P v vs each), o.1)
  | inr h ↦ newest_has test P vs w (sym h.1 ∙ e) (All-tail P v vs each)
]

pub newest_passes : (test : Entry → Bool) (vs : List Entry) (w : Entry) → newest_of test vs ≡ Some w → test w ≡ true
newest_passes test vs w e = (newest_has test (λ v. Unit {0}) vs w e (all_of (λ v. Unit {0}) vs (λ v. tt))).1

-- the newest is among them
pub newest_among : (test f : Entry → Bool) (vs : List Entry) (w : Entry) → newest_of test vs ≡ Some w → f w ≡ true → list_any f vs ≡ true
newest_among test f [] w e k = cc
newest_among test f (v ∷ vs) w e k = elim (decided (one test v) (newest_of test vs)) [
  | inl h ↦ any_first f v vs (ap f (one_is test v w (sym h.1 ∙ e)).0 ∙ k)
  | inr h ↦ any_later f v vs (newest_among test f vs w (sym h.1 ∙ e) k)
]

-- its number is at least that of each one that passes
pub reaches : (test f : Entry → Bool) (n : ℕ) (vs : List Entry) → ((u : Entry) → f u ≡ true → (test u ≡ true) × (n ≤ u.number))
    → list_any f vs ≡ true → n < top (newest_of test vs)
reaches test f n [] each h = cc
reaches test f n (v ∷ vs) each h =
    let t = top-later (one test v) (newest_of test vs) in
    elim (or_cases (f v) (list_any f vs) h) [
      | inl e ↦ let g = each v e in let o = ap top (cond-true (test v) (Some v) None g.0) in omega arith
      | inr e ↦ let i = reaches test f n vs each e in omega arith
    ]

-- ---- fewer versions

-- have no newer one
pub fewer : (test p : Entry → Bool) (vs : List Entry) → top (newest_of test (filter p vs)) ≤ top (newest_of test vs)
fewer test p [] = omega arith
fewer test p (v ∷ vs) = by (p v) (fewer test p vs) (top-later (one test v) (newest_of test vs)) (decided (one test v) (newest_of test (filter p vs)))
  where
    by : (b : Bool) → top (newest_of test (filter p vs)) ≤ top (newest_of test vs)
        → (top (one test v) ≤ top (later (one test v) (newest_of test vs))) × (top (newest_of test vs) ≤ top (later (one test v) (newest_of test vs)))
        → IsDecided (one test v) (newest_of test (filter p vs))
        → top (newest_of test (cond b (v ∷ filter p vs) (filter p vs))) ≤ top (later (one test v) (newest_of test vs))
    by true i t (inl h) = let e = ap top h.1 in omega arith
    by true i t (inr h) = let e = ap top h.1 in omega arith
    by false i t d = omega arith

pub still_none : (test p : Entry → Bool) (vs : List Entry) → newest_of test vs ≡ None → newest_of test (filter p vs) ≡ None
still_none test p vs e = let f = fewer test p vs in let t = ap top e in nothing (newest_of test (filter p vs)) (omega arith)

-- where the newest is kept it is still the newest
pub still_newest : (test p : Entry → Bool) (vs : List Entry) (w : Entry) → newest_of test vs ≡ Some w → p w ≡ true → newest_of test (filter p vs) ≡ Some w
still_newest test p [] w e k = cc
still_newest test p (v ∷ vs) w e k = by (p v) refl (decided (one test v) (newest_of test vs)) (λ h. still_newest test p vs w h k)
  where
    by : (b : Bool) → p v ≡ b → IsDecided (one test v) (newest_of test vs) → (newest_of test vs ≡ Some w → newest_of test (filter p vs) ≡ Some w)
        → newest_of test (cond b (v ∷ filter p vs) (filter p vs)) ≡ Some w
    by true h (inl d) i = let l = fewer test p vs in first_wins (one test v) (newest_of test (filter p vs)) (omega arith) ∙ sym d.1 ∙ e
    by true h (inr d) i =
        let j = i (sym d.1 ∙ e) in
        let t = ap top (j ∙ sym (sym d.1 ∙ e)) in
        second_wins (one test v) (newest_of test (filter p vs)) (omega arith) ∙ j
    by false h (inl d) i = absurd (true≢false (sym k ∙ ap p (sym (one_is test v w (sym d.1 ∙ e)).0) ∙ h))
    by false h (inr d) i = i (sym d.1 ∙ e)

-- so are views that keep each newest one
pub kept_newest : (test p : Entry → Bool) (vs : List Entry) → ((w : Entry) → newest_of test vs ≡ Some w → p w ≡ true)
    → newest_of test (filter p vs) ≡ newest_of test vs
kept_newest test p vs keeps = by (newest_of test vs) refl
  where
    by : (o : Option Entry) → newest_of test vs ≡ o → newest_of test (filter p vs) ≡ newest_of test vs
    by None e = still_none test p vs e ∙ sym e
    by (Some w) e = still_newest test p vs w e (keeps w e) ∙ sym e

-- the newest of those that a test keeps is kept by it
pub newest_kept : (test p : Entry → Bool) (vs : List Entry) (w : Entry) → newest_of test (filter p vs) ≡ Some w → p w ≡ true
newest_kept test p vs w e = (newest_has test (λ v. p v ≡ true) (filter p vs) w e (filter_passes p vs)).0

-- ---- bounds

-- the newest of versions below a bound
pub top_below : (test : Entry → Bool) (bound : ℕ) (vs : List Entry) → All (λ v. v.number < bound) vs → top (newest_of test vs) ≤ bound
top_below test bound vs below = by (newest_of test vs) refl
  where
    by : (o : Option Entry) → newest_of test vs ≡ o → top (newest_of test vs) ≤ bound
    by None e = let t = ap top e in omega arith
    by (Some v) e = let t = ap top e in let h = (newest_has test (λ w. w.number < bound) vs v e below).0 in omega arith

-- and of versions from a bound on
pub top_from : (test : Entry → Bool) (bound : ℕ) (vs : List Entry) → All (λ v. bound ≤ v.number) vs
    → (newest_of test vs ≡ None) ⊎ (bound < top (newest_of test vs))
top_from test bound vs from = by (newest_of test vs) refl
  where
    by : (o : Option Entry) → newest_of test vs ≡ o → (newest_of test vs ≡ None) ⊎ (bound < top (newest_of test vs))
    by None e = inl e
    by (Some v) e = let t = ap top e in let h = (newest_has test (λ w. bound ≤ w.number) vs v e from).0 in inr (omega arith)

-- what stands behind, from a bound on, hides what stands before it, below the bound
pub behind_wins : (test : Entry → Bool) (bound : ℕ) (front behind : List Entry) (w : Entry)
    → All (λ v. v.number < bound) front → All (λ v. bound ≤ v.number) behind → newest_of test behind ≡ Some w → newest_of test (front ++ behind) ≡ Some w
behind_wins test bound front behind w below from e =
    let t = ap top e in
    let low = top_below test bound front below in
    let high = (newest_has test (λ v. bound ≤ v.number) behind w e from).0 in
    newest-append test front behind ∙ second_wins (newest_of test front) (newest_of test behind) (omega arith) ∙ e
