-- A tree map of numbers, as the finite map that it makes.
use Rattle.std.proofs.Common.{◌≡◌, ℕ, cond, List, [], ◌∷◌, Option, None, Some, refl, sym, ap, ◌∙◌, arith}
use Rattle.std.proofs.lemmas.Bool.Decides.{nat_tests}
use Rattle.std.specs.BTreeMap.{BTreeMap, is_at}
use Rattle.std.specs.BTreeMap as tree
use Rattle.std.specs.Cmp.{nat_cmp_total}
use Rattle.std.specs.FinMap.{FinMap, find, from_entries, get, insert, remove, get-from_entries, get-insert, get-remove, nat_cmp-IsAntisymmetric, same_map}
use Rattle.std.specs.Map.{lookup}
use Rattle.std.specs.Ordering.{nat_cmp, eq_by_cmp}

turned : (q id : ℕ) → is_at (nat_cmp id) q ≡ eq_by_cmp nat_cmp q id
turned q id = grind (arith, nat_tests)

module _ {X : Type 0} where
  -- the finite map of a tree map
  abbrev pub map_of : BTreeMap ℕ X → FinMap nat_cmp X
  map_of m = from_entries m.entries

  found : (q : ℕ) (es : List (ℕ × X)) → find nat_cmp q es ≡ lookup (is_at (nat_cmp q)) es
  found q [] = refl
  found q (e ∷ es) = ap (λ o. cond (is_at (nat_cmp q) e.0) (Some e.1) o) (found q es)

  -- it answers as the tree map does
  pub same_get : (m : BTreeMap ℕ X) (q : ℕ) → get (map_of m) q ≡ tree.get nat_cmp m q
  same_get m q = get-from_entries nat_cmp_total m.entries q ∙ found q m.entries

  answers : (m n : BTreeMap ℕ X) (id : ℕ) (value : Option X) → ((q : ℕ) → tree.get nat_cmp n q ≡ cond (is_at (nat_cmp id) q) value (tree.get nat_cmp m q))
      → (q : ℕ) → get (map_of n) q ≡ cond (eq_by_cmp nat_cmp q id) value (get (map_of m) q)
  answers m n id value updates q =
      same_get n q ∙ updates q ∙ ap (λ b. cond b value (tree.get nat_cmp m q)) (turned q id) ∙ ap (λ o. cond (eq_by_cmp nat_cmp q id) value o) (sym (same_get m q))

  -- what an insertion and a removal make of it
  pub inserted : (m n : BTreeMap ℕ X) (id : ℕ) (value : X) → ((q : ℕ) → tree.get nat_cmp n q ≡ cond (is_at (nat_cmp id) q) (Some value) (tree.get nat_cmp m q)) → map_of n ≡ insert (map_of m) id value
  inserted m n id value updates =
      same_map nat_cmp_total nat_cmp-IsAntisymmetric (map_of n) (insert (map_of m) id value)
      (λ q. answers m n id (Some value) updates q ∙ sym (get-insert nat_cmp_total (map_of m) id value q))

  pub removed : (m n : BTreeMap ℕ X) (id : ℕ) → ((q : ℕ) → tree.get nat_cmp n q ≡ cond (is_at (nat_cmp id) q) None (tree.get nat_cmp m q)) → map_of n ≡ remove (map_of m) id
  removed m n id updates =
      same_map nat_cmp_total nat_cmp-IsAntisymmetric (map_of n) (remove (map_of m) id)
      (λ q. answers m n id None updates q ∙ sym (get-remove nat_cmp_total (map_of m) id q))
