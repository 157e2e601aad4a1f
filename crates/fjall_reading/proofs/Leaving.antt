-- What a page leaves.
use Rattle.std.proofs.Common.{◌≡◌, ◌≢◌, ℕ, ◌+◌, ◌-◌, ◌≤◌, ◌<◌, List, [], ◌∷◌, ◌++◌, length, min, take, drop, get_or, sym, ◌∙◌, ap, arith, append_assoc, length-drop, length-take}
use Rattle.std.proofs.lemmas.List.{append-nil, take-append-drop, take_all, take_more}
use Rattle.fjall_base.specs.Pairs.{Bytes, KeyRange, Pairs, pairs_between}
use Rattle.fjall_reading.specs.Rests.{ahead_of, behind}
use Rattle.fjall_reading.proofs.Paging.{goes_on_ahead, goes_on_behind}

-- fewer than a page: all of them
pub short_page : (n : ℕ) (all found : List (Bytes × Bytes)) → found ≡ take n all → length found ≢ n → found ++ [] ≡ all
short_page n all found is other =
    let a = ap length is ∙ length-take n all in
    append-nil found ∙ is ∙ take_all n all (less n (length all) (length found) a other)
  where
    less : (n m f : ℕ) → f ≡ min n m → f ≢ n → m ≤ n
    less n m f e ne = omega (arith, e, ne)

-- a page: the others stand behind its last key
pub long_page : (n : ℕ) (pairs : Pairs) (range : KeyRange) (found : List (Bytes × Bytes)) (last : Bytes × Bytes) → found ≡ take n (pairs_between range pairs) → 0 < length found → get_or found (length found - 1) last ≡ last
    → found ++ pairs_between (behind last.0 range) pairs ≡ pairs_between range pairs
long_page n pairs range found last is some at =
    let all = pairs_between range pairs in
    let i = length found - 1 in
    let lt : i < length found = omega (arith, some) in
    let whole : i + 1 ≡ length found = omega (arith, some) in
    let ends : found ≡ take i found ++ last ∷ [] = sym (take_all (i + 1) found (omega (arith, whole))) ∙ take_more found i last lt ∙ ap (λ e. take i found ++ e ∷ []) at in
    let parts : all ≡ take i found ++ last ∷ drop n all =
    sym (take-append-drop n all) ∙ ap (λ l. l ++ drop n all) (sym is ∙ ends) ∙ append_assoc (take i found) (last ∷ []) (drop n all) in
    ap (λ l. found ++ l) (goes_on_behind pairs range (take i found) last (drop n all) parts) ∙ ap (λ l. l ++ drop n all) is ∙ take-append-drop n all

-- ---- from behind

pub short_page_back : (n : ℕ) (all found : List (Bytes × Bytes)) → found ≡ drop (length all - n) all → length found ≢ n → [] ++ found ≡ all
short_page_back n all found is other =
    let a = ap length is ∙ length-drop (length all - n) all in
    let none : length all - n ≡ 0 = less (length all) n (length found) a other in
    is ∙ ap (λ k. drop k all) none
  where
    less : (m n f : ℕ) → f ≡ m - (m - n) → f ≢ n → m - n ≡ 0
    less m n f e ne = omega (arith, e, ne)

pub long_page_back : (n : ℕ) (pairs : Pairs) (range : KeyRange) (found : List (Bytes × Bytes)) (first : Bytes × Bytes) → found ≡ drop (length (pairs_between range pairs) - n) (pairs_between range pairs) → 0 < length found → get_or found 0 first ≡ first
    → pairs_between (ahead_of first.0 range) pairs ++ found ≡ pairs_between range pairs
long_page_back n pairs range [] first is some at = absurd (omega (arith, some))
long_page_back n pairs range (x ∷ rest) first is some at =
    let all = pairs_between range pairs in
    let k = length all - n in
    let parts : all ≡ take k all ++ x ∷ rest = sym (take-append-drop k all) ∙ ap (λ l. take k all ++ l) (sym is) in
    ap (λ l. l ++ x ∷ rest) (ap (λ e. pairs_between (ahead_of e range) pairs) (sym (ap (λ p. p.0) at)) ∙ goes_on_ahead pairs range (take k all) x rest parts) ∙ sym parts
