-- Counts of handles in a tree map, as the finite map that they make.
use Rattle.std.proofs.Common.{◌≡◌, ℕ, ◌-◌, ◌==◌, true, false, cond, List, [], ◌∷◌, Option, None, Some, unwrap_or, refl, sym, ap, ◌∙◌, arith}
use Rattle.std.proofs.lemmas.Bool.Decides.{nat_tests}
use Rattle.std.specs.BTreeMap.{BTreeMap, is_at}
use Rattle.std.specs.BTreeMap as tree
use Rattle.std.specs.Cmp.{nat_cmp_total}
use Rattle.std.specs.FinMap.{FinMap, find, from_entries, get, insert, remove, get-from_entries, get-insert, get-remove, nat_cmp-IsAntisymmetric, same_map}
use Rattle.std.specs.Map.{lookup}
use Rattle.std.specs.Ordering.{nat_cmp, eq_by_cmp}
use Rattle.fjall_machine.specs.Machine.{handles_of, one_less}

-- the finite map of a tree map
abbrev pub map_of : BTreeMap ℕ ℕ → FinMap nat_cmp ℕ
map_of m = from_entries m.entries

found : (q : ℕ) (es : List (ℕ × ℕ)) → find nat_cmp q es ≡ lookup (is_at (nat_cmp q)) es
found q [] = refl
found q (e ∷ es) = ap (λ o. cond (is_at (nat_cmp q) e.0) (Some e.1) o) (found q es)

-- it answers as the tree map does
pub same_get : (m : BTreeMap ℕ ℕ) (q : ℕ) → get (map_of m) q ≡ tree.get nat_cmp m q
same_get m q = get-from_entries nat_cmp_total m.entries q ∙ found q m.entries

pub same_count : (m : BTreeMap ℕ ℕ) (id count : ℕ) → count ≡ unwrap_or (tree.get nat_cmp m id) 0 → count ≡ handles_of (map_of m) id
same_count m id count is = is ∙ ap (λ o. unwrap_or o 0) (sym (same_get m id))

turned : (q id : ℕ) → is_at (nat_cmp id) q ≡ eq_by_cmp nat_cmp q id
turned q id = grind (arith, nat_tests)

answers : (m n : BTreeMap ℕ ℕ) (id : ℕ) (value : Option ℕ) → ((q : ℕ) → tree.get nat_cmp n q ≡ cond (is_at (nat_cmp id) q) value (tree.get nat_cmp m q))
    → (q : ℕ) → get (map_of n) q ≡ cond (eq_by_cmp nat_cmp q id) value (get (map_of m) q)
answers m n id value updates q =
    same_get n q ∙ updates q ∙ ap (λ b. cond b value (tree.get nat_cmp m q)) (turned q id) ∙ ap (λ o. cond (eq_by_cmp nat_cmp q id) value o) (sym (same_get m q))

-- what an insertion and a removal make of it
pub inserted : (m n : BTreeMap ℕ ℕ) (id count : ℕ) → ((q : ℕ) → tree.get nat_cmp n q ≡ cond (is_at (nat_cmp id) q) (Some count) (tree.get nat_cmp m q)) → map_of n ≡ insert (map_of m) id count
inserted m n id count updates =
    same_map nat_cmp_total nat_cmp-IsAntisymmetric (map_of n) (insert (map_of m) id count)
    (λ q. answers m n id (Some count) updates q ∙ sym (get-insert nat_cmp_total (map_of m) id count q))

pub removed : (m n : BTreeMap ℕ ℕ) (id : ℕ) → ((q : ℕ) → tree.get nat_cmp n q ≡ cond (is_at (nat_cmp id) q) None (tree.get nat_cmp m q)) → map_of n ≡ remove (map_of m) id
removed m n id updates =
    same_map nat_cmp_total nat_cmp-IsAntisymmetric (map_of n) (remove (map_of m) id)
    (λ q. answers m n id None updates q ∙ sym (get-remove nat_cmp_total (map_of m) id q))

-- one handle less
pub last_gone : (m n : BTreeMap ℕ ℕ) (id count : ℕ) → count ≡ handles_of (map_of m) id → (count == 1) ≡ true → ((q : ℕ) → tree.get nat_cmp n q ≡ cond (is_at (nat_cmp id) q) None (tree.get nat_cmp m q))
    → map_of n ≡ one_less (map_of m) id
last_gone m n id count is one updates =
    removed m n id updates
    ∙ ap (λ b. cond b (remove (map_of m) id) (insert (map_of m) id (handles_of (map_of m) id - 1))) (sym one ∙ ap (λ k. k == 1) is)

pub one_gone : (m n : BTreeMap ℕ ℕ) (id count : ℕ) → count ≡ handles_of (map_of m) id → (count == 1) ≡ false → ((q : ℕ) → tree.get nat_cmp n q ≡ cond (is_at (nat_cmp id) q) (Some (count - 1)) (tree.get nat_cmp m q))
    → map_of n ≡ one_less (map_of m) id
one_gone m n id count is more updates =
    inserted m n id (count - 1) updates
    ∙ ap (λ k. insert (map_of m) id (k - 1)) is
    ∙ ap (λ b. cond b (remove (map_of m) id) (insert (map_of m) id (handles_of (map_of m) id - 1))) (sym more ∙ ap (λ k. k == 1) is)
