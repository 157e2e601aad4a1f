-- Behind a page the pairs go on behind its last key.
use Rattle.std.proofs.Common.{◌≡◌, Bool, true, false, cond, ◌&&◌, List, [], ◌∷◌, ◌++◌, Option, Some, None, refl, sym, ◌∙◌, ap, subst}
use Rattle.std.specs.Prelude.{T}
use Rattle.std.proofs.lemmas.Bool.{true≢false, false_from_ne_true}
use Rattle.std.proofs.lemmas.Option.{none-some}
use Rattle.std.proofs.lemmas.Cmp.{nat_list_cmp_total, tied_itself}
use Rattle.std.proofs.lemmas.Map.Views.{IsInRange-from_range_contains, range_contains-from_IsInRange}
use Rattle.std.specs.declared.cmp.Ordering.{Ordering}
use Rattle.std.specs.declared.cmp.Ordering.TheVariants.{Less, Equal, Greater}
use Rattle.std.specs.declared.ops.Bound.{Bound}
use Rattle.std.specs.declared.ops.Bound.TheVariants.{Included, Excluded, Unbounded}
use Rattle.std.specs.Ordering.{is_eq, is_gt, is_le, is_lt, eq_by_cmp}
use Rattle.std.specs.BTreeMap.Range.{IsFromStart, IsLeBy, IsLtBy, IsUpToEnd, range_contains}
use Rattle.std.specs.BTreeMap.Comparable.{le_lt_trans}
use Rattle.std.specs.FinMap.{entries, entries-from_sorted, entries_sorted, find, from_sorted, get, get-entries, get-from_sorted, get-retain_keys, is_sorted, retain_keys, same_map, nat_cmp-IsAntisymmetric, slice_cmp-IsAntisymmetric}
use Rattle.std.specs.FinMap.Entries.{below_all}
use Rattle.fjall_base.specs.Pairs.{Bytes, KeyRange, Pairs, byte_order, pairs_between}
use Rattle.fjall_reading.specs.Rests.{ahead_of, behind}

tied : (a b : Bytes) → byte_order a b ≡ Equal → a ≡ b
tied = slice_cmp-IsAntisymmetric nat_cmp-IsAntisymmetric

not_gt_is_le : (o : Ordering) → is_gt o ≡ false → is_le o ≡ true
not_gt_is_le Less h = refl
not_gt_is_le Equal h = refl
not_gt_is_le Greater h = absurd (true≢false h)

le_lt : (a b c : Bytes) → IsLeBy byte_order a b → IsLtBy byte_order b c → IsLtBy byte_order a c
le_lt a b c h k = le_lt_trans nat_list_cmp_total a b c (not_gt_is_le _ h) k

lt_lt : (a b c : Bytes) → IsLtBy byte_order a b → IsLtBy byte_order b c → IsLtBy byte_order a c
lt_lt a b c h k = le_lt a b c (ap is_gt h) k

-- nothing is below itself
less_than_itself : (a : Bytes) → byte_order a a ≡ Less → ⊥
less_than_itself a e = true≢false (sym (ap is_eq (tied_itself nat_list_cmp_total a)) ∙ ap is_eq e)

eq_key : (a b : Bytes) → eq_by_cmp byte_order a b ≡ true → a ≡ b
eq_key a b e = tied a b (is_equal (byte_order a b) e)
  where
    is_equal : (o : Ordering) → is_eq o ≡ true → o ≡ Equal
    is_equal Less h = absurd (true≢false (sym h))
    is_equal Equal h = refl
    is_equal Greater h = absurd (true≢false (sym h))

both : (a b : Bool) → T (a && b) → T a × T b
both true b t = (tt, t)
both false b t = absurd t

less : (o : Ordering) → T (is_lt o) → o ≡ Less
less Less t = refl
less Equal t = absurd t
less Greater t = absurd t

-- ---- sorted entries

abbrev Entries : Type 0
Entries = List (Bytes × Bytes)

-- a key above one is not found before it or at it
found_behind : (front : Entries) (e : Bytes × Bytes) (rest : Entries) (q : Bytes) → T (is_sorted byte_order (front ++ e ∷ rest)) → byte_order e.0 q ≡ Less → find byte_order q (front ++ e ∷ rest) ≡ find byte_order q rest
found_behind [] e rest q sorted lt =
    ap (λ b. cond b (Some e.1) (find byte_order q rest)) (false_from_ne_true (eq_by_cmp byte_order q e.0) (λ t. less_than_itself e.0 (subst (λ k. byte_order e.0 k ≡ Less) (eq_key q e.0 t) lt)))
found_behind (x ∷ front) e rest q sorted lt =
    let parts = both (below_all byte_order x.0 (front ++ e ∷ rest)) (is_sorted byte_order (front ++ e ∷ rest)) sorted in
    let under : byte_order x.0 e.0 ≡ Less = among front e rest x.0 parts.0 in
    ap (λ b. cond b (Some x.1) (find byte_order q (front ++ e ∷ rest))) (false_from_ne_true (eq_by_cmp byte_order q x.0) (λ t. less_than_itself x.0 (subst (λ k. byte_order x.0 k ≡ Less) (eq_key q x.0 t) (lt_lt x.0 e.0 q under lt))))
    ∙ found_behind front e rest q parts.1 lt
  where
    among : (front : Entries) (e : Bytes × Bytes) (rest : Entries) (x : Bytes) → T (below_all byte_order x (front ++ e ∷ rest)) → byte_order x e.0 ≡ Less
    among [] e rest x all = less _ (both _ _ all).0
    among (y ∷ front) e rest x all = among front e rest x (both (is_lt (byte_order x y.0)) (below_all byte_order x (front ++ e ∷ rest)) all).1

-- a key that isn't above one is not found behind it
none_behind : (rest : Entries) (k q : Bytes) → T (below_all byte_order k rest) → (byte_order k q ≡ Less → ⊥) → find byte_order q rest ≡ None
none_behind [] k q all not_above = refl
none_behind (y ∷ rest) k q all not_above =
    let parts = both (is_lt (byte_order k y.0)) (below_all byte_order k rest) all in
    ap (λ b. cond b (Some y.1) (find byte_order q rest)) (false_from_ne_true (eq_by_cmp byte_order q y.0) (λ t. not_above (subst (λ x. byte_order k x ≡ Less) (sym (eq_key q y.0 t)) (less _ parts.0))))
    ∙ none_behind rest k q parts.1 not_above

-- what stands behind a place of sorted entries
sorted_behind : (front : Entries) (e : Bytes × Bytes) (rest : Entries) → T (is_sorted byte_order (front ++ e ∷ rest)) → T (below_all byte_order e.0 rest) × T (is_sorted byte_order rest)
sorted_behind [] e rest sorted = both (below_all byte_order e.0 rest) (is_sorted byte_order rest) sorted
sorted_behind (x ∷ front) e rest sorted = sorted_behind front e rest (both (below_all byte_order x.0 (front ++ e ∷ rest)) (is_sorted byte_order (front ++ e ∷ rest)) sorted).1

found_there : (front : Entries) (e : Bytes × Bytes) (rest : Entries) → T (is_sorted byte_order (front ++ e ∷ rest)) → find byte_order e.0 (front ++ e ∷ rest) ≡ Some e.1
found_there [] e rest sorted = ap (λ o. cond (is_eq o) (Some e.1) (find byte_order e.0 rest)) (tied_itself nat_list_cmp_total e.0)
found_there (x ∷ front) e rest sorted =
    let parts = both (below_all byte_order x.0 (front ++ e ∷ rest)) (is_sorted byte_order (front ++ e ∷ rest)) sorted in
    ap (λ b. cond b (Some x.1) (find byte_order e.0 (front ++ e ∷ rest))) (false_from_ne_true (eq_by_cmp byte_order e.0 x.0) (λ t. less_than_itself x.0 (subst (λ k. byte_order x.0 k ≡ Less) (eq_key e.0 x.0 t) (among front e rest x.0 parts.0))))
    ∙ found_there front e rest parts.1
  where
    among : (front : Entries) (e : Bytes × Bytes) (rest : Entries) (x : Bytes) → T (below_all byte_order x (front ++ e ∷ rest)) → byte_order x e.0 ≡ Less
    among [] e rest x all = less _ (both _ _ all).0
    among (y ∷ front) e rest x all = among front e rest x (both (is_lt (byte_order x y.0)) (below_all byte_order x (front ++ e ∷ rest)) all).1

-- ---- ranges

from_start : (low : Bound Bytes) (k q : Bytes) → IsFromStart byte_order low k → byte_order k q ≡ Less → IsFromStart byte_order low q
from_start (Included a) k q h lt = ap is_gt (le_lt a k q h lt)
from_start (Excluded a) k q h lt = lt_lt a k q h lt
from_start Unbounded k q h lt = tt

at_key : (pairs : Pairs) (range : KeyRange) (q : Bytes) → get (retain_keys pairs (range_contains byte_order range.0 range.1)) q ≡ cond (range_contains byte_order range.0 range.1 q) (get pairs q) None
at_key pairs range q = get-retain_keys pairs (range_contains byte_order range.0 range.1) q (λ x t. ap (range_contains byte_order range.0 range.1) (sym (tied q x t)))

kept_test : (b : Bool) (o : Option Bytes) (v : Bytes) → cond b o None ≡ Some v → b ≡ true
kept_test true o v e = refl
kept_test false o v e = absurd (none-some v e)

equal_less : Equal ≡ Less → ⊥
equal_less e = true≢false (ap is_eq e)

greater_less : Greater ≡ Less → ⊥
greater_less e = true≢false (ap is_gt e)

-- a key that isn't above one isn't in the range behind it
not_after : (k q : Bytes) (high : Bound Bytes) → (byte_order k q ≡ Less → ⊥) → range_contains byte_order (Excluded k) high q ≡ false
not_after k q high no_more = false_from_ne_true (range_contains byte_order (Excluded k) high q) (λ t. no_more (IsInRange-from_range_contains nat_list_cmp_total (Excluded k) high q t).0)

-- a key above one of the range is in it where it is in the range behind that one
same_test : (low high : Bound Bytes) (k q : Bytes) → IsFromStart byte_order low q → byte_order k q ≡ Less → range_contains byte_order (Excluded k) high q ≡ range_contains byte_order low high q
same_test low high k q begun above = by_iff (range_contains byte_order (Excluded k) high q) (range_contains byte_order low high q)
    (λ t. range_contains-from_IsInRange nat_list_cmp_total low high q (begun, (IsInRange-from_range_contains nat_list_cmp_total (Excluded k) high q t).1))
    (λ t. range_contains-from_IsInRange nat_list_cmp_total (Excluded k) high q (above, (IsInRange-from_range_contains nat_list_cmp_total low high q t).1))
  where
    by_iff : (a b : Bool) → (a ≡ true → b ≡ true) → (b ≡ true → a ≡ true) → a ≡ b
    by_iff true b f g = sym (f refl)
    by_iff false true f g = g refl
    by_iff false false f g = refl

-- THE LAW: the pairs behind one of a range are those of the range behind its key
pub goes_on_behind : (pairs : Pairs) (range : KeyRange) (front : Entries) (e : Bytes × Bytes) (rest : Entries) → pairs_between range pairs ≡ front ++ e ∷ rest → pairs_between (behind e.0 range) pairs ≡ rest
goes_on_behind pairs range front e rest is =
    let m = retain_keys pairs (range_contains byte_order range.0 range.1) in
    let sorted : T (is_sorted byte_order (front ++ e ∷ rest)) = subst (λ l. T (is_sorted byte_order l)) is (entries_sorted m) in
    let after = sorted_behind front e rest sorted in
    let here : range_contains byte_order range.0 range.1 e.0 ≡ true =
    kept_test (range_contains byte_order range.0 range.1 e.0) (get pairs e.0) e.1 (sym (at_key pairs range e.0) ∙ get-entries m e.0 ∙ ap (find byte_order e.0) is ∙ found_there front e rest sorted) in
    let inside = IsInRange-from_range_contains nat_list_cmp_total range.0 range.1 e.0 here in
    let found : (q : Bytes) → find byte_order q (front ++ e ∷ rest) ≡ cond (range_contains byte_order range.0 range.1 q) (get pairs q) None = λ q. ap (find byte_order q) (sym is) ∙ sym (get-entries m q) ∙ at_key pairs range q in
    ap entries (same_map nat_list_cmp_total tied (retain_keys pairs (range_contains byte_order (Excluded e.0) range.1)) (from_sorted rest) (λ q.
    at_key pairs (behind e.0 range) q ∙ either q (byte_order e.0 q) refl inside.0 after.0 sorted (found q) ∙ sym (get-from_sorted byte_order rest q after.1)))
    ∙ entries-from_sorted byte_order rest after.1
  where
    either : (q : Bytes) (o : Ordering) → byte_order e.0 q ≡ o → IsFromStart byte_order range.0 e.0 → T (below_all byte_order e.0 rest) → T (is_sorted byte_order (front ++ e ∷ rest))
        → find byte_order q (front ++ e ∷ rest) ≡ cond (range_contains byte_order range.0 range.1 q) (get pairs q) None
        → cond (range_contains byte_order (Excluded e.0) range.1 q) (get pairs q) None ≡ find byte_order q rest
    either q Less is_ start above sorted found =
        let begun : IsFromStart byte_order range.0 q = from_start range.0 e.0 q start is_ in
        ap (λ b. cond b (get pairs q) None) (same_test range.0 range.1 e.0 q begun is_) ∙ sym found ∙ found_behind front e rest q sorted is_
    either q Equal is_ start above sorted found =
        ap (λ b. cond b (get pairs q) None) (not_after e.0 q range.1 (λ l. equal_less (sym is_ ∙ l))) ∙ sym (none_behind rest e.0 q above (λ l. equal_less (sym is_ ∙ l)))
    either q Greater is_ start above sorted found =
        ap (λ b. cond b (get pairs q) None) (not_after e.0 q range.1 (λ l. greater_less (sym is_ ∙ l))) ∙ sym (none_behind rest e.0 q above (λ l. greater_less (sym is_ ∙ l)))

-- ---- the same from behind

-- the parts of sorted entries before a place: sorted, and all below it
sorted_front : (front : Entries) (e : Bytes × Bytes) (rest : Entries) → T (is_sorted byte_order (front ++ e ∷ rest)) → T (is_sorted byte_order front)
sorted_front [] e rest sorted = tt
sorted_front (x ∷ front) e rest sorted =
    let parts = both (below_all byte_order x.0 (front ++ e ∷ rest)) (is_sorted byte_order (front ++ e ∷ rest)) sorted in
    joined (below_all byte_order x.0 front) (is_sorted byte_order front) (shorter front x.0 parts.0) (sorted_front front e rest parts.1)
  where
    joined : (a b : Bool) → T a → T b → T (a && b)
    joined true b p q = q
    joined false b p q = p

    shorter : (front : Entries) (x : Bytes) → T (below_all byte_order x (front ++ e ∷ rest)) → T (below_all byte_order x front)
    shorter [] x all = tt
    shorter (y ∷ front) x all = let parts = both (is_lt (byte_order x y.0)) (below_all byte_order x (front ++ e ∷ rest)) all in joined (is_lt (byte_order x y.0)) (below_all byte_order x front) parts.0 (shorter front x parts.1)

-- a key below one is found before it, or nowhere
found_ahead : (front : Entries) (e : Bytes × Bytes) (rest : Entries) (q : Bytes) → T (is_sorted byte_order (front ++ e ∷ rest)) → byte_order q e.0 ≡ Less → find byte_order q (front ++ e ∷ rest) ≡ find byte_order q front
found_ahead [] e rest q sorted lt =
    ap (λ b. cond b (Some e.1) (find byte_order q rest)) (false_from_ne_true (eq_by_cmp byte_order q e.0) (λ t. less_than_itself e.0 (subst (λ k. byte_order k e.0 ≡ Less) (eq_key q e.0 t) lt)))
    ∙ above_all rest (sorted_behind [] e rest sorted).0
  where
    above_all : (others : Entries) → T (below_all byte_order e.0 others) → find byte_order q others ≡ None
    above_all [] all = refl
    above_all (y ∷ others) all =
        let parts = both (is_lt (byte_order e.0 y.0)) (below_all byte_order e.0 others) all in
        ap (λ b. cond b (Some y.1) (find byte_order q others)) (false_from_ne_true (eq_by_cmp byte_order q y.0) (λ t. less_than_itself q (lt_lt q e.0 q lt (subst (λ k. byte_order e.0 k ≡ Less) (sym (eq_key q y.0 t)) (less _ parts.0)))))
        ∙ above_all others parts.1
found_ahead (x ∷ front) e rest q sorted lt =
    ap (cond (eq_by_cmp byte_order q x.0) (Some x.1)) (found_ahead front e rest q (both (below_all byte_order x.0 (front ++ e ∷ rest)) (is_sorted byte_order (front ++ e ∷ rest)) sorted).1 lt)

-- a key that isn't below one is not found before it
none_ahead : (front : Entries) (e : Bytes × Bytes) (rest : Entries) (q : Bytes) → T (is_sorted byte_order (front ++ e ∷ rest)) → (byte_order q e.0 ≡ Less → ⊥) → find byte_order q front ≡ None
none_ahead [] e rest q sorted not_below = refl
none_ahead (x ∷ front) e rest q sorted not_below =
    let parts = both (below_all byte_order x.0 (front ++ e ∷ rest)) (is_sorted byte_order (front ++ e ∷ rest)) sorted in
    ap (λ b. cond b (Some x.1) (find byte_order q front)) (false_from_ne_true (eq_by_cmp byte_order q x.0) (λ t. not_below (subst (λ k. byte_order k e.0 ≡ Less) (sym (eq_key q x.0 t)) (among front x.0 parts.0))))
    ∙ none_ahead front e rest q parts.1 not_below
  where
    among : (front : Entries) (x : Bytes) → T (below_all byte_order x (front ++ e ∷ rest)) → byte_order x e.0 ≡ Less
    among [] x all = less _ (both _ _ all).0
    among (y ∷ front) x all = among front x (both (is_lt (byte_order x y.0)) (below_all byte_order x (front ++ e ∷ rest)) all).1

up_to_end : (high : Bound Bytes) (q k : Bytes) → byte_order q k ≡ Less → IsUpToEnd byte_order high k → IsUpToEnd byte_order high q
up_to_end (Included a) q k lt h = ap is_gt (lt_le q k a lt h)
  where
    lt_le : (q k a : Bytes) → IsLtBy byte_order q k → IsLeBy byte_order k a → IsLtBy byte_order q a
    lt_le q k a lt h = either (byte_order k a) refl h
      where
        either : (o : Ordering) → byte_order k a ≡ o → is_gt o ≡ false → byte_order q a ≡ Less
        either Less e g = lt_lt q k a lt e
        either Equal e g = subst (λ x. byte_order q x ≡ Less) (tied k a e) lt
        either Greater e g = absurd (true≢false g)
up_to_end (Excluded a) q k lt h = lt_lt q k a lt h
up_to_end Unbounded q k lt h = tt

not_before : (k q : Bytes) (low : Bound Bytes) → (byte_order q k ≡ Less → ⊥) → range_contains byte_order low (Excluded k) q ≡ false
not_before k q low no_less = false_from_ne_true (range_contains byte_order low (Excluded k) q) (λ t. no_less (IsInRange-from_range_contains nat_list_cmp_total low (Excluded k) q t).1)

same_front : (low high : Bound Bytes) (k q : Bytes) → IsUpToEnd byte_order high q → byte_order q k ≡ Less → range_contains byte_order low (Excluded k) q ≡ range_contains byte_order low high q
same_front low high k q ended under = by_iff (range_contains byte_order low (Excluded k) q) (range_contains byte_order low high q)
    (λ t. range_contains-from_IsInRange nat_list_cmp_total low high q ((IsInRange-from_range_contains nat_list_cmp_total low (Excluded k) q t).0, ended))
    (λ t. range_contains-from_IsInRange nat_list_cmp_total low (Excluded k) q ((IsInRange-from_range_contains nat_list_cmp_total low high q t).0, under))
  where
    by_iff : (a b : Bool) → (a ≡ true → b ≡ true) → (b ≡ true → a ≡ true) → a ≡ b
    by_iff true b f g = sym (f refl)
    by_iff false true f g = g refl
    by_iff false false f g = refl

-- THE LAW: the pairs ahead of one of a range are those of the range up to its key
pub goes_on_ahead : (pairs : Pairs) (range : KeyRange) (front : Entries) (e : Bytes × Bytes) (rest : Entries) → pairs_between range pairs ≡ front ++ e ∷ rest → pairs_between (ahead_of e.0 range) pairs ≡ front
goes_on_ahead pairs range front e rest is =
    let m = retain_keys pairs (range_contains byte_order range.0 range.1) in
    let sorted : T (is_sorted byte_order (front ++ e ∷ rest)) = subst (λ l. T (is_sorted byte_order l)) is (entries_sorted m) in
    let ahead = sorted_front front e rest sorted in
    let here : range_contains byte_order range.0 range.1 e.0 ≡ true =
    kept_test (range_contains byte_order range.0 range.1 e.0) (get pairs e.0) e.1 (sym (at_key pairs range e.0) ∙ get-entries m e.0 ∙ ap (find byte_order e.0) is ∙ found_there front e rest sorted) in
    let inside = IsInRange-from_range_contains nat_list_cmp_total range.0 range.1 e.0 here in
    let found : (q : Bytes) → find byte_order q (front ++ e ∷ rest) ≡ cond (range_contains byte_order range.0 range.1 q) (get pairs q) None = λ q. ap (find byte_order q) (sym is) ∙ sym (get-entries m q) ∙ at_key pairs range q in
    ap entries (same_map nat_list_cmp_total tied (retain_keys pairs (range_contains byte_order range.0 (Excluded e.0))) (from_sorted front) (λ q.
    at_key pairs (ahead_of e.0 range) q ∙ either q (byte_order q e.0) refl inside.1 sorted (found q) ∙ sym (get-from_sorted byte_order front q ahead)))
    ∙ entries-from_sorted byte_order front ahead
  where
    either : (q : Bytes) (o : Ordering) → byte_order q e.0 ≡ o → IsUpToEnd byte_order range.1 e.0 → T (is_sorted byte_order (front ++ e ∷ rest))
        → find byte_order q (front ++ e ∷ rest) ≡ cond (range_contains byte_order range.0 range.1 q) (get pairs q) None
        → cond (range_contains byte_order range.0 (Excluded e.0) q) (get pairs q) None ≡ find byte_order q front
    either q Less is_ end sorted found =
        let ended : IsUpToEnd byte_order range.1 q = up_to_end range.1 q e.0 is_ end in
        ap (λ b. cond b (get pairs q) None) (same_front range.0 range.1 e.0 q ended is_) ∙ sym found ∙ found_ahead front e rest q sorted is_
    either q Equal is_ end sorted found =
        ap (λ b. cond b (get pairs q) None) (not_before e.0 q range.0 (λ l. equal_less (sym is_ ∙ l))) ∙ sym (none_ahead front e rest q sorted (λ l. equal_less (sym is_ ∙ l)))
    either q Greater is_ end sorted found =
        ap (λ b. cond b (get pairs q) None) (not_before e.0 q range.0 (λ l. greater_less (sym is_ ∙ l))) ∙ sym (none_ahead front e rest q sorted (λ l. greater_less (sym is_ ∙ l)))
