-- A search by id among persisted numbers by id ascending.
use Rattle.std.proofs.Common.{◌≡◌, ℕ, ◌+◌, ◌<◌, ◌==◌, ◌∷◌, Bool, true, false, cond, List, length, get_or, AllPairs, find, unwrap_or, inl, inr, refl, sym, ap, ◌∙◌, arith, Some, None, Err}
use Rattle.std.specs.List.{HoldsAt}
use Rattle.std.specs.List.Sorted.{IsBinarySearchResult, IsNonDecreasingBy}
use Rattle.std.specs.Ordering.{nat_cmp, ordering_index}
use Rattle.std.specs.declared.cmp.Ordering.TheVariants.{Less, Equal, Greater}
use Rattle.std.specs.Option.{option_map}
use Rattle.std.proofs.lemmas.Bool.{cases_lt}
use Rattle.std.proofs.lemmas.Bool.Decides.{nat_tests, Decides-eqb}
use Rattle.std.proofs.lemmas.Cmp.{ranked}
use Rattle.std.proofs.lemmas.List.Recursion.{found_at, found_nowhere}
use Rattle.std.proofs.lemmas.List.Sorted.{searchable_from_sorted}
use Rattle.std.specs.Cmp.{nat_cmp_total}
use Rattle.fjall_meta.specs.declared.recovery.Persisted.{Persisted}
use Rattle.fjall_meta.specs.Replays.{persisted_at}

differ : (a b : ℕ) → (a ≡ b → ⊥) → (a == b) ≡ false
differ a b h = grind (arith, nat_tests)

rises : (told : List Persisted) (id : ℕ) → AllPairs (λ j k. j.id < k.id) told → IsNonDecreasingBy (λ k. ordering_index (nat_cmp k.id id)) told
rises told id rise =
    searchable_from_sorted nat_cmp_total (λ (k : Persisted). k.id) told id (λ k d low high. (let next : (get_or told k d).id < (get_or told (k + 1) d).id = rise k (k + 1) d (omega arith) high in grind (arith, nat_tests)))

-- the number of an id is that of the first of it
pub told_first : (id : ℕ) (j : Persisted) (ks : List Persisted) (b : Bool) → (j.id == id) ≡ b → persisted_at id (j ∷ ks) ≡ cond b j.number (persisted_at id ks)
told_first id j ks true e = ap (λ (c : Bool). unwrap_or (option_map (λ (p : Persisted). p.number) (cond c (Some j) (find (λ (p : Persisted). p.id == id) ks))) None) e
told_first id j ks false e = ap (λ (c : Bool). unwrap_or (option_map (λ (p : Persisted). p.number) (cond c (Some j) (find (λ (p : Persisted). p.id == id) ks))) None) e

-- an element with this id is the one that is found
pub found_place : (told : List Persisted) (id place : ℕ) (k : Persisted) → AllPairs (λ j k. j.id < k.id) told → place < length told → HoldsAt (λ k. nat_cmp k.id id ≡ Equal) told place → k ≡ get_or told place k → k.number ≡ persisted_at id told
found_place told id place k rise within equal is =
    let same : (get_or told place k).id ≡ id = ranked (get_or told place k).id id Equal (sym (equal k)) in
    let first = found_at (λ (ks : List Persisted). persisted_at id ks) (λ (j : Persisted). j.id == id) (λ (j : Persisted). j.number) None refl (λ j ks. told_first id j ks (j.id == id) refl) told place k within
    (λ i lt. (let below : (get_or told i k).id < (get_or told place k).id = rise i place k lt within in differ (get_or told i k).id id (λ e. omega arith)))
    ((Decides-eqb (get_or told place k).id id).1 same) in
    ap (λ (j : Persisted). j.number) is ∙ sym first

-- between those below and those above stands none
pub no_place : (told : List Persisted) (id place : ℕ) → AllPairs (λ j k. j.id < k.id) told → IsBinarySearchResult {X = Persisted} (λ k. nat_cmp k.id id) told (Err place) → None ≡ persisted_at id told
no_place told id place rise parted =
    let d : Persisted = record { id = id; number = None } in
    let parts = parted (rises told id rise) in
    let none : (k : ℕ) → k < length told → (get_or told k d).id ≡ id → ⊥ =
    λ k lt same. elim (cases_lt k place) [
      | inl low ↦ (let below : (get_or told k d).id < id = ranked (get_or told k d).id id Less (sym (parts.0 k d (omega arith) low)) in omega arith)
      | inr high ↦ (let above : id < (get_or told k d).id = ranked (get_or told k d).id id Greater (sym (parts.1 k d high lt)) in omega arith)
    ] in
    sym (found_nowhere (λ (ks : List Persisted). persisted_at id ks) (λ (k : Persisted). k.id == id) (λ (k : Persisted). k.number) None refl (λ k ks. told_first id k ks (k.id == id) refl) told d (λ i lt. differ (get_or told i d).id id (none i lt)))
