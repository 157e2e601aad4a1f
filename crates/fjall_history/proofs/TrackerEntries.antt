-- What a change of the counts does to the instants that they stand for.
use Rattle.std.proofs.Common.{◌≡◌, ℕ, suc, zero, ◌+◌, ◌-◌, ◌<◌, ◌≤◌, Bool, true, false, cond, List, [], ◌∷◌, ◌++◌, length, replicate, nat_eq, nat_le, refl, sym, ap, ◌∙◌, subst, arith, add-one, length-append, unwrap_or, is_some, slice_get}
use Rattle.std.specs.Prelude.{Some, None}
use Rattle.std.specs.declared.cmp.Ordering.{Ordering}
use Rattle.std.specs.declared.cmp.Ordering.TheVariants.{Less, Equal, Greater}
use Rattle.std.specs.Ordering.{nat_cmp, match_ordering, is_eq}
use Rattle.std.specs.Cmp.{ranked, nat_cmp_total, nat_cmp_is}
use Rattle.std.specs.Option.{option_map, IfSome}
use Rattle.std.proofs.lemmas.Map.Views.{IfSome-lookup_from_All, All-values-set_value, All-map-remove_entry}
use Rattle.std.proofs.lemmas.Option.{none-some}
use Rattle.std.specs.List.{All, AllByRecursion}
use Rattle.std.specs.List.Sorted.{IsStrictlySortedBy}
use Rattle.std.specs.Map.{keys_of, values_of, lookup, remove_entry, set_value}
use Rattle.std.specs.Set.{unique_keys}
use Rattle.std.specs.BTreeMap.{insert_entry, is_at}
use Rattle.std.proofs.lemmas.Map.{lookup-none}
use Rattle.std.proofs.lemmas.Map.Entries.{none_below_head}
use Rattle.std.proofs.lemmas.Map.Keys.{sorted_head, sorted_tail}
use Rattle.std.proofs.lemmas.List.{length-replicate}
use Rattle.std.proofs.lemmas.List.Elements.{All-head, All-tail}
use Rattle.std.proofs.lemmas.Bool.Decides.{nat_tests}
use Rattle.fjall_history.proofs.TrackerOpenings.{length-without_instant}
use Rattle.fjall_history.specs.Trackers.{instants_of, with_instant, without_instant, is_open, instant_count}

-- by the three orders of two numbers
by_order : (k x : ℕ) (P : Ordering → Type 0) → (k < x → P Less) → (k ≡ x → P Equal) → (x < k → P Greater) → P (nat_cmp k x)
by_order k x P less equal greater =
    (elim (nat_cmp k x) as (λ r. r ≡ nat_cmp k x → P r) [
      | Less ↦ λ q. less (ranked k x Less q)
      | Equal ↦ λ q. equal (ranked k x Equal q)
      | Greater ↦ λ q. greater (ranked k x Greater q)
    ]) refl

less_is : (k x : ℕ) → k < x → nat_cmp k x ≡ Less
less_is k x h = sym (nat_cmp_is k x Less h)

test_true : (k x : ℕ) → k ≡ x → nat_eq k x ≡ true
test_true k x e = grind (arith, nat_tests)

test_false : (k x : ℕ) → (k ≡ x → ⊥) → nat_eq k x ≡ false
test_false k x ne = grind (arith, nat_tests)

least_true : (k x : ℕ) → k ≤ x → nat_le k x ≡ true
least_true k x h = grind (arith, nat_tests)

least_false : (k x : ℕ) → x < k → nat_le k x ≡ false
least_false k x h = grind (arith, nat_tests)

-- an instant goes before the first that isn't less
with-front : (k n x : ℕ) (xs : List ℕ) → 0 < n → k ≤ x → with_instant k (replicate n x ++ xs) ≡ k ∷ (replicate n x ++ xs)
with-front k zero x xs p h = absurd (omega arith)
with-front k (suc n) x xs p h = rw (least_true k x h) refl

with-past : (k n x : ℕ) (xs : List ℕ) → x < k → with_instant k (replicate n x ++ xs) ≡ replicate n x ++ with_instant k xs
with-past k zero x xs h = refl
with-past k (suc n) x xs h = rw (least_false k x h) (ap (λ t. x ∷ t) (with-past k n x xs h))

without-past : (k n x : ℕ) (xs : List ℕ) → (k ≡ x → ⊥) → without_instant k (replicate n x ++ xs) ≡ replicate n x ++ without_instant k xs
without-past k zero x xs h = refl
without-past k (suc n) x xs h = rw (test_false k x h) (ap (λ t. x ∷ t) (without-past k n x xs h))

open-past : (k n x : ℕ) (xs : List ℕ) → (k ≡ x → ⊥) → is_open k (replicate n x ++ xs) ≡ is_open k xs
open-past k zero x xs h = refl
open-past k (suc n) x xs h = rw (test_false k x h) (open-past k n x xs h)

open-front : (k n x : ℕ) (xs : List ℕ) → 0 < n → k ≡ x → is_open k (replicate n x ++ xs) ≡ true
open-front k zero x xs p e = absurd (omega arith)
open-front k (suc n) x xs p e = rw (test_true k x e) refl

first-replicate : (n x : ℕ) (xs : List ℕ) → 0 < n → slice_get (replicate n x ++ xs) 0 ≡ Some x
first-replicate zero x xs p = absurd (omega arith)
first-replicate (suc n) x xs p = refl

some_inj : {a b : ℕ} → Some a ≡ Some b → a ≡ b
some_inj e = ap (λ o. unwrap_or o 0) e

-- the count of an instant goes up by one
pub with-insert_entry : (k c : ℕ) (es : List (ℕ × ℕ)) → IsStrictlySortedBy nat_cmp (keys_of es) → All (λ n. 0 < n) (values_of es)
    → unwrap_or (lookup (is_at (nat_cmp k)) es) 0 ≡ c → instants_of (insert_entry nat_cmp es k (c + 1)) ≡ with_instant k (instants_of es)
with-insert_entry k c [] sorted counted is = subst (λ m. replicate (m + 1) k ++ [] ≡ k ∷ []) is refl
with-insert_entry k c (e ∷ es) sorted counted is =
    let first : 0 < e.1 = All-head (λ n. 0 < n) e.1 (values_of es) counted in
    by_order k e.0 (λ r. unwrap_or (cond (is_eq r) (Some e.1) (lookup (is_at (nat_cmp k)) es)) 0 ≡ c
    → instants_of (match_ordering r ((k, c + 1) ∷ e ∷ es) ((e.0, c + 1) ∷ es) (e ∷ insert_entry nat_cmp es k (c + 1))) ≡ with_instant k (replicate e.1 e.0 ++ instants_of es))
    (λ less is'.
    let none : lookup (is_at (nat_cmp k)) es ≡ None = lookup-none _ es (none_below_head nat_cmp_total k e es sorted (less_is k e.0 less)).1 in
    let zero_is : c ≡ 0 = sym is' ∙ ap (λ o. unwrap_or o 0) none in
    subst (λ m. replicate (m + 1) k ++ (replicate e.1 e.0 ++ instants_of es) ≡ with_instant k (replicate e.1 e.0 ++ instants_of es)) (sym zero_is)
    (sym (with-front k e.1 e.0 (instants_of es) first (omega arith))))
    (λ equal is'.
    sym (with-front k e.1 e.0 (instants_of es) first (omega arith) ∙ rw (equal, is', add-one) refl))
    (λ greater is'.
    ap (λ t. replicate e.1 e.0 ++ t) (with-insert_entry k c es (sorted_tail nat_cmp e.0 (keys_of es) sorted) (All-tail (λ n. 0 < n) e.1 (values_of es) counted) is')
    ∙ sym (with-past k e.1 e.0 (instants_of es) greater))
    is

-- the count of an instant that is open more than once goes down by one
pub without-set_value : (k c : ℕ) (es : List (ℕ × ℕ)) → lookup (is_at (nat_cmp k)) es ≡ Some (suc c)
    → instants_of (set_value (is_at (nat_cmp k)) es c) ≡ without_instant k (instants_of es)
without-set_value k c [] is = absurd (none-some (suc c) is)
without-set_value k c (e ∷ es) is =
    by_order k e.0 (λ r. cond (is_eq r) (Some e.1) (lookup (is_at (nat_cmp k)) es) ≡ Some (suc c)
    → instants_of (cond (is_eq r) ((e.0, c) ∷ es) (e ∷ set_value (is_at (nat_cmp k)) es c)) ≡ without_instant k (replicate e.1 e.0 ++ instants_of es))
    (λ less is'.
    ap (λ t. replicate e.1 e.0 ++ t) (without-set_value k c es is')
    ∙ sym (without-past k e.1 e.0 (instants_of es) (λ q. omega arith)))
    (λ equal is'.
    let n : e.1 ≡ suc c = some_inj is' in
    sym (rw (n, test_true k e.0 equal) refl))
    (λ greater is'.
    ap (λ t. replicate e.1 e.0 ++ t) (without-set_value k c es is')
    ∙ sym (without-past k e.1 e.0 (instants_of es) (λ q. omega arith)))
    is

-- an instant that is open once goes
pub without-remove_entry : (k : ℕ) (es : List (ℕ × ℕ)) → lookup (is_at (nat_cmp k)) es ≡ Some 1
    → instants_of (remove_entry (is_at (nat_cmp k)) es) ≡ without_instant k (instants_of es)
without-remove_entry k [] is = absurd (none-some 1 is)
without-remove_entry k (e ∷ es) is =
    by_order k e.0 (λ r. cond (is_eq r) (Some e.1) (lookup (is_at (nat_cmp k)) es) ≡ Some 1
    → instants_of (cond (is_eq r) es (e ∷ remove_entry (is_at (nat_cmp k)) es)) ≡ without_instant k (replicate e.1 e.0 ++ instants_of es))
    (λ less is'.
    ap (λ t. replicate e.1 e.0 ++ t) (without-remove_entry k es is')
    ∙ sym (without-past k e.1 e.0 (instants_of es) (λ q. omega arith)))
    (λ equal is'.
    let n : e.1 ≡ 1 = some_inj is' in
    sym (rw (n, test_true k e.0 equal) refl))
    (λ greater is'.
    ap (λ t. replicate e.1 e.0 ++ t) (without-remove_entry k es is')
    ∙ sym (without-past k e.1 e.0 (instants_of es) (λ q. omega arith)))
    is

-- a write to an entry that goes doesn't matter
pub remove_entry-set_value : (test : ℕ → Bool) (es : List (ℕ × ℕ)) (n : ℕ) → remove_entry test (set_value test es n) ≡ remove_entry test es
remove_entry-set_value test [] n = refl
remove_entry-set_value test (e ∷ es) n =
    (elim (test e.0) as (λ b. test e.0 ≡ b → remove_entry test (cond b ((e.0, n) ∷ es) (e ∷ set_value test es n)) ≡ cond b es (e ∷ remove_entry test es)) [
      | true ↦ λ q. rw q refl
      | false ↦ λ q. rw q (ap (λ t. e ∷ t) (remove_entry-set_value test es n))
    ]) refl

-- the counts after an instant is closed once
pub record Closes (k : ℕ) (old new : List (ℕ × ℕ)) : Type 0 where
  pub without : instants_of new ≡ without_instant k (instants_of old)
  pub counted : All (λ n. 0 < n) (values_of new)

pub some-counted : (k n : ℕ) (es : List (ℕ × ℕ)) → All (λ n. 0 < n) (values_of es) → lookup (is_at (nat_cmp k)) es ≡ Some n → 0 < n
some-counted k n es counted is =
    let P : ℕ → Type 0 = λ n. 0 < n in
    subst (λ o. IfSome o P) is (IfSome-lookup_from_All P (is_at (nat_cmp k)) es counted)

pub closes-written : (k n : ℕ) (old new : List (ℕ × ℕ)) → All (λ n. 0 < n) (values_of old) → lookup (is_at (nat_cmp k)) old ≡ Some n → (n - 1 ≡ 0 → ⊥)
    → new ≡ set_value (is_at (nat_cmp k)) old (n - 1) → Closes k old new
closes-written k n old new counted is more written =
    let next : n ≡ suc (n - 1) = omega arith in
    record {
      without = ap instants_of written ∙ without-set_value k (n - 1) old (is ∙ ap Some next);
      counted = rw written (All-values-set_value (is_at (nat_cmp k)) (λ n. 0 < n) old (n - 1) counted (omega arith));
    }

pub closes-removed : (k n : ℕ) (old written new : List (ℕ × ℕ)) → All (λ n. 0 < n) (values_of old) → lookup (is_at (nat_cmp k)) old ≡ Some n → n - 1 ≡ 0
    → written ≡ set_value (is_at (nat_cmp k)) old (n - 1) → new ≡ remove_entry (is_at (nat_cmp k)) written → Closes k old new
closes-removed k n old written new counted is last was removed =
    let positive : 0 < n = some-counted k n old counted is in
    let one : n ≡ 1 = omega arith in
    let gone : new ≡ remove_entry (is_at (nat_cmp k)) old = removed ∙ ap (remove_entry (is_at (nat_cmp k))) was ∙ remove_entry-set_value (is_at (nat_cmp k)) old (n - 1) in
    record {
      without = ap instants_of gone ∙ without-remove_entry k old (is ∙ ap Some one);
      counted = rw gone (All-map-remove_entry (is_at (nat_cmp k)) (λ e. e.1) (λ n. 0 < n) old counted);
    }

-- an instant is open where it has an entry
pub open-lookup : (k : ℕ) (es : List (ℕ × ℕ)) → All (λ n. 0 < n) (values_of es) → is_some (lookup (is_at (nat_cmp k)) es) ≡ is_open k (instants_of es)
open-lookup k [] counted = refl
open-lookup k (e ∷ es) counted =
    let first : 0 < e.1 = All-head (λ n. 0 < n) e.1 (values_of es) counted in
    let rest : is_some (lookup (is_at (nat_cmp k)) es) ≡ is_open k (instants_of es) = open-lookup k es (All-tail (λ n. 0 < n) e.1 (values_of es) counted) in
    by_order k e.0 (λ r. is_some (cond (is_eq r) (Some e.1) (lookup (is_at (nat_cmp k)) es)) ≡ is_open k (replicate e.1 e.0 ++ instants_of es))
    (λ less. rest ∙ sym (open-past k e.1 e.0 (instants_of es) (λ q. omega arith)))
    (λ equal. sym (open-front k e.1 e.0 (instants_of es) first equal))
    (λ greater. rest ∙ sym (open-past k e.1 e.0 (instants_of es) (λ q. omega arith)))

-- the least instant is that of the first entry
pub least-first : (es : List (ℕ × ℕ)) → All (λ n. 0 < n) (values_of es) → option_map (λ e. e.0) (slice_get es 0) ≡ slice_get (instants_of es) 0
least-first [] counted = refl
least-first (e ∷ es) counted = sym (first-replicate e.1 e.0 (instants_of es) (All-head (λ n. 0 < n) e.1 (values_of es) counted))

-- a count is at most the number of all openings
pub count_le : (k : ℕ) (es : List (ℕ × ℕ)) → unwrap_or (lookup (is_at (nat_cmp k)) es) 0 ≤ length (instants_of es)
count_le k [] = omega arith
count_le k (e ∷ es) =
    let rest : unwrap_or (lookup (is_at (nat_cmp k)) es) 0 ≤ length (instants_of es) = count_le k es in
    let more : length (instants_of (e ∷ es)) ≡ e.1 + length (instants_of es) = length-append (replicate e.1 e.0) (instants_of es) ∙ ap (λ n. n + length (instants_of es)) (length-replicate e.1 e.0) in
    by_order k e.0 (λ r. unwrap_or (cond (is_eq r) (Some e.1) (lookup (is_at (nat_cmp k)) es)) 0 ≤ length (instants_of (e ∷ es)))
    (λ less. omega arith)
    (λ equal. omega arith)
    (λ greater. omega arith)

pub counted_le : (k n : ℕ) (es : List (ℕ × ℕ)) → lookup (is_at (nat_cmp k)) es ≡ Some n → n ≤ length (instants_of es)
counted_le k n es is = subst (λ o. unwrap_or o 0 ≤ length (instants_of es)) is (count_le k es)

-- an instant below all the others isn't among them
none_above : (k : ℕ) (es : List (ℕ × ℕ)) → AllByRecursion (λ y. nat_cmp k y ≡ Less) (keys_of es) → lookup (is_at (nat_cmp k)) es ≡ None
none_above k [] all = refl
none_above k (e ∷ es) all = rw all.0 (none_above k es all.1)

unique-past : (x n : ℕ) (xs : List ℕ) → is_open x xs ≡ false → unique_keys nat_eq (replicate (suc n) x ++ xs) ≡ x ∷ unique_keys nat_eq xs
unique-past x zero xs none = rw none refl
unique-past x (suc n) xs none = rw (test_true x x refl) (unique-past x n xs none)

-- there are as many instants as entries
pub count-entries : (es : List (ℕ × ℕ)) → IsStrictlySortedBy nat_cmp (keys_of es) → All (λ n. 0 < n) (values_of es) → length es ≡ instant_count (instants_of es)
count-entries [] sorted counted = refl
count-entries (e ∷ es) sorted counted =
    let first : 0 < e.1 = All-head (λ n. 0 < n) e.1 (values_of es) counted in
    let others : All (λ n. 0 < n) (values_of es) = All-tail (λ n. 0 < n) e.1 (values_of es) counted in
    let n : e.1 ≡ suc (e.1 - 1) = omega arith in
    let apart : is_open e.0 (instants_of es) ≡ false = sym (open-lookup e.0 es others) ∙ ap is_some (none_above e.0 es (sorted_head nat_cmp e.0 (keys_of es) sorted)) in
    ap suc (count-entries es (sorted_tail nat_cmp e.0 (keys_of es) sorted) others)
    ∙ sym (subst (λ m. instant_count (replicate m e.0 ++ instants_of es) ≡ suc (instant_count (instants_of es))) (sym n) (ap length (unique-past e.0 (e.1 - 1) (instants_of es) apart)))

-- the number of openings after one is closed
pub closes-counted : (k n total : ℕ) (old new : List (ℕ × ℕ)) → All (λ n. 0 < n) (values_of old) → lookup (is_at (nat_cmp k)) old ≡ Some n
    → total ≡ length (instants_of old) → Closes k old new → All (λ n. 0 < n) (values_of new) × (total - 1 ≡ length (instants_of new))
closes-counted k n total old new counted is total_is closes =
    let there : is_open k (instants_of old) ≡ true = sym (open-lookup k old counted) ∙ ap is_some is in
    let fewer : suc (length (without_instant k (instants_of old))) ≡ length (instants_of old) = length-without_instant k (instants_of old) there in
    (closes.counted, omega (arith, ap length closes.without))
