-- A search by id among keyspaces by id ascending.
use Rattle.std.proofs.Common.{◌≡◌, ℕ, ◌+◌, ◌<◌, ◌==◌, false, List, length, get_or, [], AllPairs, inl, inr, refl, sym, ap, ◌∙◌, arith, Some, None, Err}
use Rattle.std.specs.List.{HoldsAt}
use Rattle.std.specs.List.Sorted.{IsBinarySearchResult, IsNonDecreasingBy}
use Rattle.std.specs.Ordering.{nat_cmp, ordering_index}
use Rattle.std.specs.declared.cmp.Ordering.TheVariants.{Less, Equal, Greater}
use Rattle.std.proofs.lemmas.Bool.{cases_lt}
use Rattle.std.proofs.lemmas.Bool.Decides.{nat_tests, Decides-eqb}
use Rattle.std.proofs.lemmas.Cmp.{ranked}
use Rattle.std.proofs.lemmas.List.Recursion.{found_at, found_nowhere}
use Rattle.std.proofs.lemmas.List.Sorted.{searchable_from_sorted}
use Rattle.std.specs.Cmp.{nat_cmp_total}
use Rattle.fjall_meta.specs.declared.living.LivingKeyspace.{LivingKeyspace}
use Rattle.fjall_meta.specs.Keyspaces.{keyspace_at}

differ : (a b : ℕ) → (a ≡ b → ⊥) → (a == b) ≡ false
differ a b h = grind (arith, nat_tests)

rises : (living : List LivingKeyspace) (id : ℕ) → AllPairs (λ j k. j.id < k.id) living → IsNonDecreasingBy (λ k. ordering_index (nat_cmp k.id id)) living
rises living id rise =
    searchable_from_sorted nat_cmp_total (λ (k : LivingKeyspace). k.id) living id (λ k d low high. (let next : (get_or living k d).id < (get_or living (k + 1) d).id = rise k (k + 1) d (omega arith) high in grind (arith, nat_tests)))

-- an element with this id is the one that is found
pub found_place : (living : List LivingKeyspace) (id place : ℕ) (k : LivingKeyspace) → AllPairs (λ j k. j.id < k.id) living → place < length living → HoldsAt (λ k. nat_cmp k.id id ≡ Equal) living place → k ≡ get_or living place k → Some k ≡ keyspace_at id living
found_place living id place k rise within equal is =
    let same : (get_or living place k).id ≡ id = ranked (get_or living place k).id id Equal (sym (equal k)) in
    let first = found_at (λ (ks : List LivingKeyspace). keyspace_at id ks) (λ (j : LivingKeyspace). j.id == id) (λ (j : LivingKeyspace). Some j) None refl (λ j ks. refl) living place k within
    (λ i lt. (let below : (get_or living i k).id < (get_or living place k).id = rise i place k lt within in differ (get_or living i k).id id (λ e. omega arith)))
    ((Decides-eqb (get_or living place k).id id).1 same) in
    ap (λ (j : LivingKeyspace). Some j) is ∙ sym first

-- between those below and those above stands none
pub no_place : (living : List LivingKeyspace) (id place : ℕ) → AllPairs (λ j k. j.id < k.id) living → IsBinarySearchResult {X = LivingKeyspace} (λ k. nat_cmp k.id id) living (Err place) → None ≡ keyspace_at id living
no_place living id place rise parted =
    let d : LivingKeyspace = record { id = id; number = 0; name = []; options = [] } in
    let parts = parted (rises living id rise) in
    let none : (k : ℕ) → k < length living → (get_or living k d).id ≡ id → ⊥ =
    λ k lt same. elim (cases_lt k place) [
      | inl low ↦ (let below : (get_or living k d).id < id = ranked (get_or living k d).id id Less (sym (parts.0 k d (omega arith) low)) in omega arith)
      | inr high ↦ (let above : id < (get_or living k d).id = ranked (get_or living k d).id id Greater (sym (parts.1 k d high lt)) in omega arith)
    ] in
    sym (found_nowhere (λ (ks : List LivingKeyspace). keyspace_at id ks) (λ (k : LivingKeyspace). k.id == id) (λ (k : LivingKeyspace). Some k) None refl (λ k ks. refl) living d (λ i lt. differ (get_or living i d).id id (none i lt)))
