-- Keyspaces that live, by their ids.
use Rattle.std.proofs.Common.{◌≡◌, ℕ, ◌==◌, Bool, true, false, cond, List, [], ◌∷◌, All, Some, is_some, refl, ap, subst, arith}
use Rattle.std.proofs.lemmas.Bool.Decides.{nat_tests}
use Rattle.std.proofs.lemmas.List.Elements.{All-cons, All-nil, All-weaker}
use Rattle.fjall_meta.specs.declared.living.LivingKeyspace.{LivingKeyspace}
use Rattle.fjall_meta.specs.Keyspaces.{keyspace_at}
use Rattle.fjall_meta.proofs.Found.{found_has, found_passes}
use Rattle.fjall_meta.proofs.Slots.{same_id}

pub own_id : (living : List LivingKeyspace) (id : ℕ) (k : LivingKeyspace) → keyspace_at id living ≡ Some k → k.id ≡ id
own_id living id k e = same_id k.id id (found_passes (λ j. j.id == id) living k e)

-- what holds of all that live holds of the one that is found
pub living_has : (P : ℕ → Type 0) (living : List LivingKeyspace) (id : ℕ) (k : LivingKeyspace) → keyspace_at id living ≡ Some k
    → All (λ j. P j.id) living → P id
living_has P living id k e all = subst P (own_id living id k e) (found_has (λ j. j.id == id) (λ j. P j.id) living k e all)

-- each that lives is found
pub each_lives : (living : List LivingKeyspace) → All (λ k. is_some (keyspace_at k.id living) ≡ true) living
each_lives [] = All-nil (λ (k : LivingKeyspace). is_some (keyspace_at k.id []) ≡ true)
each_lives (k ∷ living) =
    All-cons (λ (j : LivingKeyspace). is_some (keyspace_at j.id (k ∷ living)) ≡ true) k living
    (let test : (k.id == k.id) ≡ true = grind (arith, nat_tests) in ap (λ b. is_some (cond b (Some k) (keyspace_at k.id living))) test)
    (All-weaker (λ (j : LivingKeyspace). is_some (keyspace_at j.id living) ≡ true) (λ (j : LivingKeyspace). is_some (keyspace_at j.id (k ∷ living)) ≡ true)
    (λ j lives. either (k.id == j.id) j lives) living (each_lives living))
  where
    either : (b : Bool) (j : LivingKeyspace) → is_some (keyspace_at j.id living) ≡ true → is_some (cond b (Some k) (keyspace_at j.id living)) ≡ true
    either true j lives = refl
    either false j lives = lives
