-- Look-ups of watermarks, as the library's maps have them.
use Rattle.std.proofs.Common.{◌≡◌, ℕ, ◌<◌, true, false, cond, max, List, [], ◌∷◌, map, nat_eq, unwrap_or, refl, sym, ap, ◌∙◌, subst, arith}
use Rattle.std.specs.Prelude.{Option, Some, None, IsSome, Bool, filter, Result, Ok, Err, IfOk, Vec}
use Rattle.std.specs.declared.cmp.Ordering.{Ordering}
use Rattle.std.specs.declared.cmp.Ordering.TheVariants.{Less, Equal, Greater}
use Rattle.std.specs.Ordering.{nat_cmp, is_eq}
use Rattle.std.specs.Cmp.{ranked}
use Rattle.std.specs.Map.{keys_of, lookup}
use Rattle.std.specs.BTreeMap.{BTreeMap, is_at, Updates}
use Rattle.std.specs.List.{AllByRecursion}
use Rattle.std.proofs.lemmas.Map.Keys.{IsStrictlyIncreasing-from_sorted}
use Rattle.std.specs.List.Sorted.{IsStrictlySortedBy, IsStrictlyIncreasing}
use Rattle.std.proofs.lemmas.Bool.Decides.{nat_tests}
use Rattle.fjall_files.specs.Marks.{IsRaised, lsn_of, raised_mark}

pub test_true : (k x : ℕ) → k ≡ x → nat_eq k x ≡ true
test_true k x e = grind (arith, nat_tests)

pub test_false : (k x : ℕ) → (k ≡ x → ⊥) → nat_eq k x ≡ false
test_false k x e = grind (arith, nat_tests)

pub by_order : (k x : ℕ) (P : Ordering → Type 0) → (k < x → P Less) → (k ≡ x → P Equal) → (x < k → P Greater) → P (nat_cmp k x)
by_order k x P less equal greater =
    (elim (nat_cmp k x) as (λ r. r ≡ nat_cmp k x → P r) [
      | Less ↦ λ q. less (ranked k x Less q)
      | Equal ↦ λ q. equal (ranked k x Equal q)
      | Greater ↦ λ q. greater (ranked k x Greater q)
    ]) refl

same_test : (k x : ℕ) → is_eq (nat_cmp k x) ≡ nat_eq k x
same_test k x = by_order k x (λ r. is_eq r ≡ nat_eq k x) (λ l. sym (test_false k x (λ e. omega (arith, l, e)))) (λ e. sym (test_true k x e)) (λ g. sym (test_false k x (λ e. omega (arith, g, e))))

pub lsn_of-lookup : (id : ℕ) (marks : List (ℕ × ℕ)) → lookup (is_at (nat_cmp id)) marks ≡ lsn_of marks id
lsn_of-lookup id [] = refl
lsn_of-lookup id (mark ∷ marks) =
    ap (λ b. cond b (Some mark.1) (lookup (is_at (nat_cmp id)) marks)) (same_test id mark.0) ∙ ap (λ o. cond (nat_eq id mark.0) (Some mark.1) o) (lsn_of-lookup id marks)

pub raised_is : (o : Option ℕ) (lsn : ℕ) → Some (max (unwrap_or o 0) lsn) ≡ raised_mark o lsn
raised_is None lsn = ap (λ (n : ℕ). Some n) (omega arith)
raised_is (Some old) lsn = refl

pub is_raised : (id lsn value : ℕ) (old new : BTreeMap ℕ ℕ) → value ≡ max (unwrap_or (lookup (is_at (nat_cmp id)) old.entries) 0) lsn → Updates nat_cmp old new id (Some value) → IsRaised id lsn old.entries new.entries
is_raised id lsn value old new is updates = record {
  here = sym (lsn_of-lookup id new.entries) ∙ updates.1 ∙ ap (λ (n : ℕ). Some n) is ∙ ap (λ (o : Option ℕ). Some (max (unwrap_or o 0) lsn)) (lsn_of-lookup id old.entries) ∙ raised_is (lsn_of old.entries id) lsn;
  others = λ q other. sym (lsn_of-lookup q new.entries) ∙ updates.2 q (same_test id q ∙ test_false id q (λ e. other (sym e))) ∙ lsn_of-lookup q old.entries;
}

pub absent : {A : Type 0} (o : Option ℕ) → o ≡ None → IsSome o → A
absent None is some = let bad : ⊥ = cc in absurd bad
absent (Some x) is some = let bad : ⊥ = cc in absurd bad

-- ---- the ids of some of them

all_kept : (P : ℕ → Type 0) (p : ℕ × ℕ → Bool) (es : List (ℕ × ℕ)) → AllByRecursion P (keys_of es) → AllByRecursion P (keys_of (filter p es))
all_kept P p [] h = h
all_kept P p (e ∷ es) h =
    let rest = all_kept P p es h.1 in
    elim (p e) as (λ b. AllByRecursion P (keys_of (cond b (e ∷ filter p es) (filter p es)))) [ true ↦ (h.0, rest) | false ↦ rest ]

sorted_kept : (p : ℕ × ℕ → Bool) (es : List (ℕ × ℕ)) → IsStrictlySortedBy nat_cmp (keys_of es) → IsStrictlySortedBy nat_cmp (keys_of (filter p es))
unfolding IsStrictlySortedBy
sorted_kept p [] h = h
sorted_kept p (e ∷ es) h =
    let rest = sorted_kept p es h.1 in
    let above = all_kept (λ y. nat_cmp e.0 y ≡ Less) p es h.0 in
    elim (p e) as (λ b. IsStrictlySortedBy nat_cmp (keys_of (cond b (e ∷ filter p es) (filter p es)))) [ true ↦ (above, rest) | false ↦ rest ]

pub kept_ascend : {A E : Type 0} (r : Result (Vec ℕ A) E) (p : ℕ × ℕ → Bool) (es : List (ℕ × ℕ)) → IsStrictlySortedBy nat_cmp (keys_of es)
    → IfOk r (λ ids. ids.items ≡ map (λ mark. mark.0) (filter p es)) → IfOk r (λ ids. IsStrictlyIncreasing ids.items)
kept_ascend (Ok ids) p es h is = subst (λ (l : List ℕ). IsStrictlyIncreasing l) (sym is) (IsStrictlyIncreasing-from_sorted (keys_of (filter p es)) (sorted_kept p es h))
kept_ascend (Err e) p es h is = tt
