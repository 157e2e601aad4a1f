-- How often instants are among the values of a map, and which of them is the least.
use Rattle.std.proofs.Common.{◌≡◌, ℕ, ◌+◌, ◌≤◌, ◌<◌, ◌||◌, ◌&&◌, T, min, Bool, true, false, cond, List, [], ◌∷◌, map, nat_eq, nat_lt, None, Some, unwrap_or, slice_get, refl, sym, ap, ◌∙◌, arith}
use Rattle.std.proofs.lemmas.Bool.Decides.{nat_tests}
use Rattle.std.proofs.lemmas.Bool.{lt-ltb, true≢false}
use Rattle.std.proofs.lemmas.List.Sums.{sum_by-cons}
use Rattle.std.proofs.lemmas.List.Elements.{All-head}
use Rattle.std.proofs.lemmas.Option.{none-some}
use Rattle.std.specs.Cmp.{nat_cmp_total}
use Rattle.std.specs.FinMap.{FinMap, entries, entries-insert, entries_sorted, find, get, get-entries, insert, is_sorted, put, remove, values}
use Rattle.std.specs.FinMap.Entries.{below_all, by_order}
use Rattle.std.specs.List.{All}
use Rattle.std.specs.Ordering.{eq_by_cmp, is_eq, is_lt, nat_cmp}
use Rattle.std.specs.declared.cmp.Ordering.TheVariants.{Less, Equal, Greater}
use Rattle.fjall_history.specs.Trackers.{IsSoundTracker, Tracker, is_open, oldest}
use Rattle.fjall_history.proofs.TrackerOpenings.{open-count}
use Rattle.fjall_history.proofs.TrackerSound.{at_open, oldest_le}
use Rattle.fjall_history.specs.Tickets.{least, times_among}
use Rattle.fjall_history.proofs.Maps.{none_left, put_back}

abbrev pub one : ℕ → ℕ → ℕ
one i x = cond (nat_eq i x) 1 0

pub times_more : (i x : ℕ) (xs : List ℕ) → times_among (x ∷ xs) i ≡ one i x + times_among xs i
times_more i x xs = sum_by-cons (λ y. cond (nat_eq i y) 1 0) x xs

times_put : (i k v : ℕ) (es : List (ℕ × ℕ)) → find nat_cmp k es ≡ None → times_among (map (λ e. e.1) (put nat_cmp k v es)) i ≡ one i v + times_among (map (λ e. e.1) es) i
times_put i k v [] none = times_more i v []
times_put i k v (e ∷ es) none =
    elim (nat_cmp k e.0) as (λ r. cond (is_eq r) (Some e.1) (find nat_cmp k es) ≡ None
    → times_among (map (λ e. e.1) (by_order r ((k, v) ∷ e ∷ es) ((e.0, v) ∷ es) (e ∷ put nat_cmp k v es))) i ≡ one i v + times_among (map (λ e. e.1) (e ∷ es)) i) [
      | Less ↦ λ n. times_more i v (map (λ e. e.1) (e ∷ es))
      | Equal ↦ λ n. absurd (none-some e.1 (sym n))
      | Greater ↦ λ n.
          let a = times_more i e.1 (map (λ e. e.1) (put nat_cmp k v es)) in
          let b = times_more i e.1 (map (λ e. e.1) es) in
          let h = times_put i k v es n in
          omega (arith, a, b, h)
    ] none

pub times_inserted : (m : FinMap nat_cmp ℕ) (k v i : ℕ) → get m k ≡ None → times_among (values (insert m k v)) i ≡ one i v + times_among (values m) i
times_inserted m k v i none = ap (λ es. times_among (map (λ e. e.1) es) i) (entries-insert nat_cmp_total m k v) ∙ times_put i k v (entries m) (sym (get-entries m k) ∙ none)

pub times_removed : (m : FinMap nat_cmp ℕ) (k v i : ℕ) → get m k ≡ Some v → times_among (values m) i ≡ one i v + times_among (values (remove m k)) i
times_removed m k v i there = ap (λ n. times_among (values n) i) (sym (put_back m k v there)) ∙ times_inserted (remove m k) k v i (none_left m k)

itself : (i : ℕ) → nat_eq i i ≡ true
itself i = grind (arith, nat_tests)

-- a ticket's instant is among those of all
pub open_value : (m : FinMap nat_cmp ℕ) (k v : ℕ) → get m k ≡ Some v → is_open v (values m) ≡ true
open_value m k v there =
    let a = times_removed m k v v there in
    let b : one v v ≡ 1 = ap (λ b. cond b 1 0) (itself v) in
    let some : 0 < times_among (values m) v = omega (arith, a, b) in
    open-count v (values m) ∙ lt-ltb _ _ some

-- what is as often among both is open in both
pub same_open : (xs ys : List ℕ) → ((i : ℕ) → times_among xs i ≡ times_among ys i) → (i : ℕ) → is_open i xs ≡ is_open i ys
same_open xs ys same i = open-count i xs ∙ ap (nat_lt 0) (same i) ∙ sym (open-count i ys)

left : (a b : Bool) → T (a && b) → T a
left true b p = tt
left false b p = p

right : (a b : Bool) → T (a && b) → T b
right true b p = p
right false b p = absurd p

first : (x k y : ℕ) (b : Bool) → is_lt (nat_cmp x y) ≡ b → eq_by_cmp nat_cmp k y ≡ true → T b → x < k
first x k y true lt same p = grind (arith, nat_tests)
first x k y false lt same p = absurd p

-- a key below all others is no other
above : (x k v : ℕ) (es : List (ℕ × ℕ)) → T (below_all nat_cmp x es) → find nat_cmp k es ≡ Some v → x < k
above x k v [] below is = absurd (none-some v is)
above x k v (e ∷ es) below is =
    elim (eq_by_cmp nat_cmp k e.0) as (λ b. eq_by_cmp nat_cmp k e.0 ≡ b → cond b (Some e.1) (find nat_cmp k es) ≡ Some v → x < k) [
      | true ↦ λ same h. first x k e.0 (is_lt (nat_cmp x e.0)) refl same (left (is_lt (nat_cmp x e.0)) (below_all nat_cmp x es) below)
      | false ↦ λ same h. above x k v es (right (is_lt (nat_cmp x e.0)) (below_all nat_cmp x es) below) h
    ] refl is

key_of : (i : ℕ) (es : List (ℕ × ℕ)) → T (is_sorted nat_cmp es) → is_open i (map (λ e. e.1) es) ≡ true → (k : ℕ) × (find nat_cmp k es ≡ Some i)
key_of i [] sorted there = absurd (true≢false (sym there))
key_of i (e ∷ es) sorted there =
    elim (nat_eq i e.1) as (λ b. nat_eq i e.1 ≡ b → (b || is_open i (map (λ e. e.1) es)) ≡ true → (k : ℕ) × (find nat_cmp k (e ∷ es) ≡ Some i)) [
      | true ↦ λ same h.
          let value : i ≡ e.1 = grind (arith, nat_tests) in
          let here : eq_by_cmp nat_cmp e.0 e.0 ≡ true = grind (arith, nat_tests) in
          (e.0, ap (λ b. cond b (Some e.1) (find nat_cmp e.0 es)) here ∙ ap (λ n. Some n) (sym value))
      | false ↦ λ same h.
          let found = key_of i es (right (below_all nat_cmp e.0 es) (is_sorted nat_cmp es) sorted) h in
          let lt : e.0 < found.0 = above e.0 found.0 i es (left (below_all nat_cmp e.0 es) (is_sorted nat_cmp es) sorted) found.1 in
          let apart : eq_by_cmp nat_cmp found.0 e.0 ≡ false = grind (arith, nat_tests) in
          (found.0, ap (λ b. cond b (Some e.1) (find nat_cmp found.0 es)) apart ∙ found.1)
    ] refl there

-- an instant among those of all is an open ticket's
pub value_open : (m : FinMap nat_cmp ℕ) (i : ℕ) → is_open i (values m) ≡ true → (k : ℕ) × (get m k ≡ Some i)
value_open m i there = let found = key_of i (entries m) (entries_sorted m) there in (found.0, get-entries m found.0 ∙ found.1)

-- ---- the least

pub least_below : (visible : ℕ) (xs : List ℕ) → least visible xs ≤ visible
least_below visible [] = omega arith
least_below visible (x ∷ xs) = let h = least_below visible xs in omega (arith, h)

pub least_of : (visible : ℕ) (xs : List ℕ) (i : ℕ) → is_open i xs ≡ true → least visible xs ≤ i
least_of visible [] i there = absurd (true≢false (sym there))
least_of visible (x ∷ xs) i there =
    elim (nat_eq i x) as (λ b. nat_eq i x ≡ b → (b || is_open i xs) ≡ true → min x (least visible xs) ≤ i) [
      | true ↦ λ e h. let same : i ≡ x = grind (arith, nat_tests) in omega (arith, same)
      | false ↦ λ e h. let g = least_of visible xs i h in omega (arith, g)
    ] refl there

pub least_from : (n visible : ℕ) (xs : List ℕ) → n ≤ visible → ((i : ℕ) → is_open i xs ≡ true → n ≤ i) → n ≤ least visible xs
least_from n visible [] le each = le
least_from n visible (x ∷ xs) le each =
    let here : n ≤ x = each x (ap (λ b. b || is_open x xs) (itself x)) in
    let rest : n ≤ least visible xs = least_from n visible xs le (λ i there. each i (later (nat_eq i x) (is_open i xs) there)) in
    omega (arith, here, rest)
  where
    later : (a b : Bool) → b ≡ true → (a || b) ≡ true
    later true b e = refl
    later false b e = e

first_upto : (visible : ℕ) (xs : List ℕ) → All (λ i. i ≤ visible) xs → unwrap_or (slice_get xs 0) visible ≤ visible
first_upto visible [] all = omega arith
first_upto visible (x ∷ xs) all = All-head (λ i. i ≤ visible) x xs all

least_upto_first : (visible : ℕ) (xs ys : List ℕ) → ((i : ℕ) → is_open i xs ≡ is_open i ys) → least visible ys ≤ unwrap_or (slice_get xs 0) visible
least_upto_first visible [] ys same = least_below visible ys
least_upto_first visible (x ∷ xs) ys same = least_of visible ys x (sym (same x) ∙ ap (λ b. b || is_open x xs) (itself x))

-- a tracker's oldest instant is the least of those that are as often open
pub oldest_is : (t : Tracker) (ys : List ℕ) → IsSoundTracker t → ((i : ℕ) → times_among t.instants i ≡ times_among ys i) → oldest t ≡ least t.visible ys
oldest_is t ys sound same =
    let alike = same_open t.instants ys same in
    let low : oldest t ≤ least t.visible ys = least_from (oldest t) t.visible ys (first_upto t.visible t.instants sound.reached)
    (λ i there. at_open (λ x. oldest t ≤ x) i t.instants (alike i ∙ there) (oldest_le t.visible t.instants sound.ascending)) in
    let high : least t.visible ys ≤ oldest t = least_upto_first t.visible t.instants ys alike in
    omega (arith, low, high)
