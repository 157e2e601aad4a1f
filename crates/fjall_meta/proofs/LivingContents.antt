-- What stands in a store by the ids of living keyspaces.
use Rattle.std.proofs.Common.{◌≡◌, ℕ, ◌<◌, ◌≤◌, ◌==◌, Bool, true, false, cond, not, List, [], ◌∷◌, ◌++◌, map, filter, All, Option, None, Some, unwrap_or, nat_lt, refl, sym, ◌∙◌, ap, arith}
use Rattle.std.proofs.lemmas.Bool.Decides.{nat_tests}
use Rattle.std.proofs.lemmas.Bool.{true≢false}
use Rattle.std.proofs.lemmas.List.{map-append}
use Rattle.std.proofs.lemmas.List.Elements.{All-head, All-tail}
use Rattle.std.proofs.lemmas.List.Folds.{find-append}
use Rattle.std.specs.Option.{option_map, option_or}
use Rattle.std.specs.Ordering.{nat_cmp, eq_by_cmp}
use Rattle.std.specs.Cmp.{nat_cmp_total}
use Rattle.std.specs.FinMap.{empty, get, insert, from_entries, get-from_entries, from_entries_push, nat_cmp-IsAntisymmetric}
use Rattle.std.specs.FinMap as maps
use Rattle.fjall_base.specs.Pairs.{Pairs}
use Rattle.fjall_meta.specs.declared.living.LivingKeyspace.{LivingKeyspace}
use Rattle.fjall_meta.specs.Keyspaces.{Keyspaces, keyspace_at}
use Rattle.fjall_meta.specs.Replays.{by_id, bare, counts}
use Rattle.fjall_meta.proofs.Slots.{either_way}

turned_ties : (q k : ℕ) → eq_by_cmp nat_cmp q k ≡ (k == q)
turned_ties q k = grind (arith, nat_tests)

found_by_id : {X : Type 0} (has : LivingKeyspace → X) (living : List LivingKeyspace) (id : ℕ) → maps.find nat_cmp id (map (λ (k : LivingKeyspace). (k.id, has k)) living) ≡ option_map has (keyspace_at id living)
found_by_id has [] id = refl
found_by_id {X} has (k ∷ living) id =
    ap (λ o. cond (eq_by_cmp nat_cmp id k.id) (Some (has k)) o) (found_by_id has living id) ∙ ap (λ b. cond b (Some (has k)) (option_map has (keyspace_at id living))) (turned_ties id k.id)
    ∙ inside (k.id == id) (keyspace_at id living)
  where
    inside : (b : Bool) (rest : Option LivingKeyspace) → cond b (Some (has k)) (option_map has rest) ≡ option_map has (cond b (Some k) rest)
    inside true rest = refl
    inside false rest = refl

-- what stands by an id
pub get_by_id : {X : Type 0} (has : LivingKeyspace → X) (living : List LivingKeyspace) (id : ℕ) → get (by_id has living) id ≡ option_map has (keyspace_at id living)
get_by_id has living id = get-from_entries nat_cmp_total (map (λ (k : LivingKeyspace). (k.id, has k)) living) id ∙ found_by_id has living id

-- no keyspace lives under an id that wasn't given out
pub none_found : (living : List LivingKeyspace) (next id : ℕ) → All (λ k. k.id < next) living → next ≤ id → keyspace_at id living ≡ None
none_found [] next id given le = refl
none_found (k ∷ living) next id given le =
    let below : k.id < next = All-head (λ (j : LivingKeyspace). j.id < next) k living given in
    let other : (k.id == id) ≡ false = grind (arith, nat_tests) in
    ap (λ b. cond b (Some k) (keyspace_at id living)) other ∙ none_found living next id (All-tail (λ (j : LivingKeyspace). j.id < next) k living given) le

-- ---- what counts

-- the map of a keyspace with nothing in it
abbrev pub no_pairs : LivingKeyspace → Pairs
no_pairs k = empty

-- the test of a keyspace that was found
abbrev pub counts_of : ℕ → Option LivingKeyspace → Bool
counts_of number found = unwrap_or (option_map (λ (k : LivingKeyspace). nat_lt k.number number) found) false

-- where a batch counts, there is a map
pub counted_map : (s : Keyspaces) (number id : ℕ) → counts s number id ≡ true → get (bare s).maps id ≡ Some empty
counted_map s number id e = get_by_id (λ k. empty) s.living id ∙ lives (keyspace_at id s.living) e
  where
    lives : (found : Option LivingKeyspace) → counts_of number found ≡ true → option_map no_pairs found ≡ Some empty
    lives None counted = absurd (true≢false (sym counted))
    lives (Some k) counted = refl

-- ---- one keyspace more

pub by_id-push : {X : Type 0} (has : LivingKeyspace → X) (living : List LivingKeyspace) (k : LivingKeyspace) → keyspace_at k.id living ≡ None → by_id has (living ++ k ∷ []) ≡ insert (by_id has living) k.id (has k)
by_id-push has living k none =
    ap from_entries (map-append (λ (j : LivingKeyspace). (j.id, has j)) living (k ∷ []))
    ∙ from_entries_push nat_cmp_total nat_cmp-IsAntisymmetric (map (λ (j : LivingKeyspace). (j.id, has j)) living) k.id (has k) (found_by_id has living k.id ∙ ap (option_map has) none)

or_none : (found : Option LivingKeyspace) → option_or found None ≡ found
or_none None = refl
or_none (Some k) = refl

-- another id finds what it found
pub found_other : (living : List LivingKeyspace) (k : LivingKeyspace) (id : ℕ) → (k.id == id) ≡ false → keyspace_at id (living ++ k ∷ []) ≡ keyspace_at id living
found_other living k id other =
    find-append (λ (j : LivingKeyspace). j.id == id) living (k ∷ []) ∙ ap (λ b. option_or (keyspace_at id living) (cond b (Some k) None)) other ∙ or_none (keyspace_at id living)

itself : (id : ℕ) → (id == id) ≡ true
itself id = grind (arith, nat_tests)

-- and its own id finds it
pub found_new : (living : List LivingKeyspace) (k : LivingKeyspace) → keyspace_at k.id living ≡ None → keyspace_at k.id (living ++ k ∷ []) ≡ Some k
found_new living k none =
    find-append (λ (j : LivingKeyspace). j.id == k.id) living (k ∷ []) ∙ ap (λ found. option_or found (cond (k.id == k.id) (Some k) None)) none ∙ ap (λ b. cond b (Some k) None) (itself k.id)

-- ---- one keyspace less

without_step : (k : LivingKeyspace) (rest living : List LivingKeyspace) (id q : ℕ) (gone here wanted : Bool) → (k.id == id) ≡ gone → (k.id == q) ≡ here → (q == id) ≡ wanted
    → keyspace_at q rest ≡ cond (q == id) None (keyspace_at q living)
    → keyspace_at q (cond (not gone) (k ∷ rest) rest) ≡ cond wanted None (cond here (Some k) (keyspace_at q living))
without_step k rest living id q true true true e f g ih = ih ∙ ap (λ b. cond b None (keyspace_at q living)) g
without_step k rest living id q true true false e f g ih = absurd (grind (arith, nat_tests))
without_step k rest living id q true false true e f g ih = absurd (grind (arith, nat_tests))
without_step k rest living id q true false false e f g ih = ih ∙ ap (λ b. cond b None (keyspace_at q living)) g
without_step k rest living id q false true true e f g ih = absurd (grind (arith, nat_tests))
without_step k rest living id q false true false e f g ih = ap (λ b. cond b (Some k) (keyspace_at q rest)) f
without_step k rest living id q false false wanted e f g ih = ap (λ b. cond b (Some k) (keyspace_at q rest)) f ∙ ih ∙ ap (λ b. cond b None (keyspace_at q living)) g

pub found_without : (living : List LivingKeyspace) (id q : ℕ) → keyspace_at q (filter (λ k. not (k.id == id)) living) ≡ cond (q == id) None (keyspace_at q living)
found_without [] id q = either_way (q == id) None
found_without (k ∷ living) id q =
    without_step k (filter (λ j. not (j.id == id)) living) living id q (k.id == id) (k.id == q) (q == id) refl refl refl (found_without living id q)
