-- A tree map of numbers, as the finite map that it makes.
use Rattle.std.proofs.Common.{◌≡◌, ◌⊎◌, inl, inr, unwrap_or, ℕ, true, false, cond, List, [], ◌∷◌, Option, None, Some, refl, sym, ap, subst, ◌∙◌, arith}
use Rattle.std.proofs.lemmas.Bool.Decides.{nat_tests}
use Rattle.std.proofs.lemmas.Option.{none-some}
use Rattle.std.specs.BTreeMap.{BTreeMap, is_at}
use Rattle.std.specs.BTreeMap as tree
use Rattle.std.specs.Cmp.{nat_cmp_total}
use Rattle.std.specs.FinMap.{FinMap, find, from_entries, get, insert, remove, get-from_entries, get-insert, get-remove, nat_cmp-IsAntisymmetric, same_map}
use Rattle.std.specs.Map.{lookup}
use Rattle.std.specs.Ordering.{nat_cmp, eq_by_cmp}

-- the finite map of a tree map
abbrev pub map_of : BTreeMap ℕ ℕ → FinMap nat_cmp ℕ
map_of m = from_entries m.entries

found : (q : ℕ) (es : List (ℕ × ℕ)) → find nat_cmp q es ≡ lookup (is_at (nat_cmp q)) es
found q [] = refl
found q (e ∷ es) = ap (λ o. cond (is_at (nat_cmp q) e.0) (Some e.1) o) (found q es)

-- it answers as the tree map does
pub same_get : (m : BTreeMap ℕ ℕ) (q : ℕ) → get (map_of m) q ≡ tree.get nat_cmp m q
same_get m q = get-from_entries nat_cmp_total m.entries q ∙ found q m.entries

turned : (q id : ℕ) → is_at (nat_cmp id) q ≡ eq_by_cmp nat_cmp q id
turned q id = grind (arith, nat_tests)

answers : (m n : BTreeMap ℕ ℕ) (id : ℕ) (value : Option ℕ) → ((q : ℕ) → tree.get nat_cmp n q ≡ cond (is_at (nat_cmp id) q) value (tree.get nat_cmp m q))
    → (q : ℕ) → get (map_of n) q ≡ cond (eq_by_cmp nat_cmp q id) value (get (map_of m) q)
answers m n id value updates q =
    same_get n q ∙ updates q ∙ ap (λ b. cond b value (tree.get nat_cmp m q)) (turned q id) ∙ ap (λ o. cond (eq_by_cmp nat_cmp q id) value o) (sym (same_get m q))

-- what an insertion and a removal make of it
pub inserted : (m n : BTreeMap ℕ ℕ) (id value : ℕ) → ((q : ℕ) → tree.get nat_cmp n q ≡ cond (is_at (nat_cmp id) q) (Some value) (tree.get nat_cmp m q)) → map_of n ≡ insert (map_of m) id value
inserted m n id value updates =
    same_map nat_cmp_total nat_cmp-IsAntisymmetric (map_of n) (insert (map_of m) id value)
    (λ q. answers m n id (Some value) updates q ∙ sym (get-insert nat_cmp_total (map_of m) id value q))

pub removed : (m n : BTreeMap ℕ ℕ) (id : ℕ) → ((q : ℕ) → tree.get nat_cmp n q ≡ cond (is_at (nat_cmp id) q) None (tree.get nat_cmp m q)) → map_of n ≡ remove (map_of m) id
removed m n id updates =
    same_map nat_cmp_total nat_cmp-IsAntisymmetric (map_of n) (remove (map_of m) id)
    (λ q. answers m n id None updates q ∙ sym (get-remove nat_cmp_total (map_of m) id q))

-- ---- a key that is put in or taken out

tied : (q k : ℕ) → eq_by_cmp nat_cmp q k ≡ true → q ≡ k
tied q k e = grind (arith, nat_tests)

-- what is at a key goes and comes back
pub put_back : (m : FinMap nat_cmp ℕ) (k v : ℕ) → get m k ≡ Some v → insert (remove m k) k v ≡ m
put_back m k v there =
    same_map nat_cmp_total nat_cmp-IsAntisymmetric (insert (remove m k) k v) m
    (λ q. get-insert nat_cmp_total (remove m k) k v q ∙ ap (λ o. cond (eq_by_cmp nat_cmp q k) (Some v) o) (get-remove nat_cmp_total m k q)
    ∙ elim (eq_by_cmp nat_cmp q k) as (λ b. eq_by_cmp nat_cmp q k ≡ b → cond b (Some v) (cond b None (get m q)) ≡ get m q) [
      | true ↦ λ e. sym there ∙ ap (get m) (sym (tied q k e))
      | false ↦ λ e. refl
    ] refl)

-- what is put in under a key that nothing has, and taken out again
pub taken_back : (m : FinMap nat_cmp ℕ) (k v : ℕ) → get m k ≡ None → remove (insert m k v) k ≡ m
taken_back m k v none =
    same_map nat_cmp_total nat_cmp-IsAntisymmetric (remove (insert m k v) k) m
    (λ q. get-remove nat_cmp_total (insert m k v) k q ∙ ap (λ o. cond (eq_by_cmp nat_cmp q k) None o) (get-insert nat_cmp_total m k v q)
    ∙ elim (eq_by_cmp nat_cmp q k) as (λ b. eq_by_cmp nat_cmp q k ≡ b → cond b None (cond b (Some v) (get m q)) ≡ get m q) [
      | true ↦ λ e. sym none ∙ ap (get m) (sym (tied q k e))
      | false ↦ λ e. refl
    ] refl)

pub none_left : (m : FinMap nat_cmp ℕ) (k : ℕ) → get (remove m k) k ≡ None
none_left m k = let e : eq_by_cmp nat_cmp k k ≡ true = grind (arith, nat_tests) in get-remove nat_cmp_total m k k ∙ ap (λ b. cond b None (get m k)) e

-- what is found after an insertion was put in or was there
pub found_after : (P : ℕ → Type 0) (m : FinMap nat_cmp ℕ) (k v q w : ℕ) → P k → (get m q ≡ Some w → P q) → get (insert m k v) q ≡ Some w → P q
found_after P m k v q w here there is =
    elim (eq_by_cmp nat_cmp q k) as (λ b. eq_by_cmp nat_cmp q k ≡ b → cond b (Some v) (get m q) ≡ Some w → P q) [
      | true ↦ λ e h. subst P (sym (tied q k e)) here
      | false ↦ λ e h. there h
    ] refl (sym (get-insert nat_cmp_total m k v q) ∙ is)

-- what is found after a removal was there
pub found_before : (m : FinMap nat_cmp ℕ) (k q w : ℕ) → get (remove m k) q ≡ Some w → get m q ≡ Some w
found_before m k q w is =
    elim (eq_by_cmp nat_cmp q k) as (λ b. cond b None (get m q) ≡ Some w → get m q ≡ Some w) [
      | true ↦ λ h. absurd (none-some w h)
      | false ↦ λ h. h
    ] (sym (get-remove nat_cmp_total m k q) ∙ is)

-- a tree map that something was put into, under a key that nothing had, and that it was taken out of again
pub undone : (m n l : BTreeMap ℕ ℕ) (id value : ℕ) → get (map_of m) id ≡ None
    → ((q : ℕ) → tree.get nat_cmp n q ≡ cond (is_at (nat_cmp id) q) (Some value) (tree.get nat_cmp m q))
    → ((q : ℕ) → tree.get nat_cmp l q ≡ cond (is_at (nat_cmp id) q) None (tree.get nat_cmp n q))
    → map_of l ≡ map_of m
undone m n l id value none into out = removed n l id out ∙ ap (λ n. remove n id) (inserted m n id value into) ∙ taken_back (map_of m) id value none

-- what is found after an insertion was put in or was there
pub found_in : (m : FinMap nat_cmp ℕ) (k v q w : ℕ) → get (insert m k v) q ≡ Some w → ((q ≡ k) × (w ≡ v)) ⊎ (get m q ≡ Some w)
found_in m k v q w is =
    elim (eq_by_cmp nat_cmp q k) as (λ b. eq_by_cmp nat_cmp q k ≡ b → cond b (Some v) (get m q) ≡ Some w → ((q ≡ k) × (w ≡ v)) ⊎ (get m q ≡ Some w)) [
      | true ↦ λ e h. inl (tied q k e, ap (λ o. unwrap_or o w) (sym h))
      | false ↦ λ e h. inr h
    ] refl (sym (get-insert nat_cmp_total m k v q) ∙ is)
