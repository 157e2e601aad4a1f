-- Texts parted at a byte.
use Rattle.std.proofs.Common.{◌≡◌, ℕ, suc, ◌<◌, List, [], ◌∷◌, ◌++◌, length, get_or, take, drop, Option, None, Bor, refl, sym, ap, ◌∙◌, arith, take-append-drop, MatchOption}
use Rattle.std.specs.Prelude.{◌≢◌}
use Rattle.std.specs.Str.Pattern.{RFindsChar, SplitsAroundMatch}
use Rattle.std.proofs.lemmas.List.{length-append}
use Rattle.std.proofs.Math.Seq.{get_or-append_seam}
use Rattle.std.proofs.lemmas.Str.Pattern.{NoCharPasses-char, drop_at_char}

-- the byte stands nowhere in the text
abbrev pub Without : ℕ → List ℕ → Type 0
Without c text = (i : ℕ) → i < length text → get_or text i 0 ≢ c

-- the text is parted at its last c
pub record Parted (c : ℕ) (text front back : List ℕ) : Type 0 where
  pub parts : text ≡ front ++ c ∷ back
  pub last : Without c back

tail : List ℕ → List ℕ
tail [] = []
tail (x ∷ xs) = xs

same_tail : (x y : ℕ) (xs ys : List ℕ) → x ∷ xs ≡ y ∷ ys → xs ≡ ys
unfolding tail
same_tail x y xs ys e = ap tail e

same_head : (x y : ℕ) (xs ys : List ℕ) → x ∷ xs ≡ y ∷ ys → x ≡ y
same_head x y xs ys e = ap (λ l. get_or l 0 0) e

pub stands : (c : ℕ) (front back : List ℕ) → Without c (front ++ c ∷ back) → ⊥
stands c front back without =
    let n = length-append front (c ∷ back) in
    let inside : length front < length (front ++ c ∷ back) = omega (arith, n) in
    without (length front) inside (get_or-append_seam front c back 0)

pub rest_without : (c x : ℕ) (xs : List ℕ) → Without c (x ∷ xs) → Without c xs
rest_without c x xs without i inside = without (suc i) (omega arith)

-- a text has one last c
pub one_last : (c : ℕ) (xs ys us vs : List ℕ) → xs ++ c ∷ ys ≡ us ++ c ∷ vs → Without c ys → Without c vs → (xs ≡ us) × (ys ≡ vs)
one_last c [] ys [] vs e no_y no_v = (refl, same_tail c c ys vs e)
one_last c [] ys (u ∷ us) vs e no_y no_v = absurd (stands c us vs (rw (same_tail c u ys (us ++ c ∷ vs) e) at no_y))
one_last c (x ∷ xs) ys [] vs e no_y no_v = absurd (stands c xs ys (rw (← same_tail x c (xs ++ c ∷ ys) vs e) at no_v))
one_last c (x ∷ xs) ys (u ∷ us) vs e no_y no_v =
    let rest = one_last c xs ys us vs (same_tail x u (xs ++ c ∷ ys) (us ++ c ∷ vs) e) no_y no_v in
    let first = same_head x u (xs ++ c ∷ ys) (us ++ c ∷ vs) e in
    (rw (first, rest.0) refl, rest.1)

-- and one first
pub one_first : (c : ℕ) (xs ys us vs : List ℕ) → xs ++ c ∷ ys ≡ us ++ c ∷ vs → Without c xs → Without c us → (xs ≡ us) × (ys ≡ vs)
one_first c [] ys [] vs e no_x no_u = (refl, same_tail c c ys vs e)
one_first c [] ys (u ∷ us) vs e no_x no_u = absurd (no_u 0 (omega arith) (sym (same_head c u ys (us ++ c ∷ vs) e)))
one_first c (x ∷ xs) ys [] vs e no_x no_u = absurd (no_x 0 (omega arith) (same_head x c (xs ++ c ∷ ys) vs e))
one_first c (x ∷ xs) ys (u ∷ us) vs e no_x no_u =
    let rest = one_first c xs ys us vs (same_tail x u (xs ++ c ∷ ys) (us ++ c ∷ vs) e) (rest_without c x xs no_x) (rest_without c u us no_u) in
    let first = same_head x u (xs ++ c ∷ ys) (us ++ c ∷ vs) e in
    (rw (first, rest.0) refl, rest.1)

-- what `rsplit_once` gives
abbrev pub RSplits : ℕ → List ℕ → Option (Bor (List ℕ) × Bor (List ℕ)) → Type 0
RSplits c text answer = MatchOption answer (RFindsChar c text None) (λ x. SplitsAroundMatch (RFindsChar c) text x.0.now x.1.now)

pub not_parted : (c : ℕ) (text : List ℕ) → RSplits c text None → c < 128 → Without c text
not_parted c text h low i inside = NoCharPasses-char c text i h low inside

pub parted : (c : ℕ) (text front back : List ℕ) → SplitsAroundMatch (RFindsChar c) text front back → c < 128 → Parted c text front back
parted c text front back h low =
    let found = h.2 in
    let whole : take h.0 text ++ drop h.0 text ≡ text = take-append-drop h.0 text in
    let behind : drop h.0 text ≡ c ∷ drop h.1 text = drop_at_char c text h.0 h.1 found.1 low in
    record {
      parts = rw (h.3, h.4) (sym whole ∙ ap (λ l. take h.0 text ++ l) behind);
      last = rw h.4 (λ i inside. NoCharPasses-char c (drop h.1 text) i found.0 low inside);
    }
