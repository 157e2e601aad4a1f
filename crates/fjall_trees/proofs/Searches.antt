-- A search by id among trees by id ascending.
use Rattle.std.proofs.Common.{◌≡◌, ℕ, zero, suc, ◌+◌, ◌<◌, ◌==◌, List, [], ◌∷◌, length, get_or, slice_get, AllPairs, Some, None, Err, inl, inr, refl, sym, ap, subst, ◌∙◌, arith}
use Rattle.std.specs.List.{HoldsAt}
use Rattle.std.specs.List.Sorted.{IsBinarySearchResult, IsNonDecreasingBy}
use Rattle.std.specs.Option.{IsSomeAnd}
use Rattle.std.specs.Ordering.{nat_cmp, ordering_index}
use Rattle.std.specs.Cmp.{nat_cmp_total}
use Rattle.std.specs.declared.cmp.Ordering.TheVariants.{Less, Equal, Greater}
use Rattle.std.proofs.lemmas.Bool.{cases_lt, cond-false, eqb-true, false_from_ne_true}
use Rattle.std.proofs.lemmas.Bool.Decides.{nat_tests}
use Rattle.std.proofs.lemmas.Cmp.{ranked}
use Rattle.std.proofs.lemmas.List.{length-map}
use Rattle.std.proofs.Math.ListN.{get_or-map}
use Rattle.std.proofs.lemmas.List.Sorted.{searchable_from_sorted}
use Rattle.fjall_tree.specs.Shapes.{shape_of}
use Rattle.fjall_trees.specs.declared.trees.KeyspaceTree.{KeyspaceTree}
use Rattle.fjall_trees.specs.Forests.{IsForest, tree_at}
use Rattle.fjall_trees.specs.Lists.{forest_in, planted}

rises : (ks : List KeyspaceTree) → IsForest (forest_in ks) → AllPairs (λ j k. j.id < k.id) ks
rises ks is i j d lt within =
    let n = length-map ks planted in
    let up = is.ascend i j (planted d) lt (omega arith) in
    subst (λ (m : ℕ). m < (get_or ks j d).id) (ap (λ k. k.id) (get_or-map planted ks i d))
    (subst (λ (m : ℕ). (get_or (forest_in ks) i (planted d)).id < m) (ap (λ k. k.id) (get_or-map planted ks j d)) up)

searched : (ks : List KeyspaceTree) (id : ℕ) → IsForest (forest_in ks) → IsNonDecreasingBy (λ k. ordering_index (nat_cmp k.id id)) ks
searched ks id is =
    searchable_from_sorted nat_cmp_total (λ (k : KeyspaceTree). k.id) ks id
    (λ k d low high. (let next : (get_or ks k d).id < (get_or ks (k + 1) d).id = rises ks is k (k + 1) d (omega arith) high in grind (arith, nat_tests)))

-- an element with this id was found
pub found_place : (ks : List KeyspaceTree) (id place : ℕ) → place < length ks → HoldsAt (λ k. nat_cmp k.id id ≡ Equal) ks place → IsSomeAnd (slice_get ks place) (λ k. k.id ≡ id)
found_place [] id place within equal = absurd (omega arith)
found_place (k ∷ ks) id zero within equal = ranked k.id id Equal (sym (equal k))
found_place (k ∷ ks) id (suc place) within equal = found_place ks id place (omega arith) (λ d. equal d)

none_has : (ks : List KeyspaceTree) (id : ℕ) → ((i : ℕ) (d : KeyspaceTree) → i < length ks → (get_or ks i d).id ≡ id → ⊥) → tree_at id (forest_in ks) ≡ None
none_has [] id none = refl
none_has (k ∷ ks) id none =
    cond-false (k.id == id) (Some (shape_of k.tree)) (tree_at id (forest_in ks)) (false_from_ne_true (k.id == id) (λ t. none 0 k (omega arith) (eqb-true k.id id t)))
    ∙ none_has ks id (λ i d lt. none (suc i) d (omega arith))

-- between those below and those above stands none
pub no_place : (ks : List KeyspaceTree) (id place : ℕ) → IsForest (forest_in ks) → IsBinarySearchResult {X = KeyspaceTree} (λ k. nat_cmp k.id id) ks (Err place) → tree_at id (forest_in ks) ≡ None
no_place ks id place is parted =
    let parts = parted (searched ks id is) in
    none_has ks id (λ i d lt same. elim (cases_lt i place) [
      | inl low ↦ (let below : (get_or ks i d).id < id = ranked (get_or ks i d).id id Less (sym (parts.0 i d (omega arith) low)) in omega arith)
      | inr high ↦ (let above : id < (get_or ks i d).id = ranked (get_or ks i d).id id Greater (sym (parts.1 i d high lt)) in omega arith)
    ])
