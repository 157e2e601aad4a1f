-- Which sealed journals go.
use Rattle.std.proofs.Common.{◌≡◌, ℕ, Bool, true, false, cond, IsTrue, List, [], ◌∷◌, ◌++◌, refl, sym, ap, ◌∙◌, subst}
use Rattle.std.specs.Prelude.{◌&&◌, Option, Some, None, slice_get, unwrap_or, drop}
use Rattle.std.specs.List.{list_all}
use Rattle.fjall_files.specs.Journals.{Sealed, may_go, going, staying}

and_left : (a b : Bool) → IsTrue (a && b) → a ≡ true
and_left true b is = refl
and_left false b is = is

and_right : (a b : Bool) → IsTrue (a && b) → IsTrue b
and_right true b is = is
and_right false b is = let bad : ⊥ = cc in absurd bad

-- behind journals that may all go those that go are these and the ones behind them
pub going_on : (flushed : ℕ → ℕ → Bool) (gone now : List Sealed) → IsTrue (list_all (may_go flushed) gone) → going flushed (gone ++ now) ≡ gone ++ going flushed now
going_on flushed [] now all = refl
going_on flushed (j ∷ gone) now all =
    ap (λ b. cond b (j ∷ going flushed (gone ++ now)) []) (and_left (may_go flushed j) (list_all (may_go flushed) gone) all)
    ∙ ap (λ l. j ∷ l) (going_on flushed gone now (and_right (may_go flushed j) (list_all (may_go flushed) gone) all))

pub staying_on : (flushed : ℕ → ℕ → Bool) (gone now : List Sealed) → IsTrue (list_all (may_go flushed) gone) → staying flushed (gone ++ now) ≡ staying flushed now
staying_on flushed [] now all = refl
staying_on flushed (j ∷ gone) now all =
    ap (λ b. cond b (staying flushed (gone ++ now)) (j ∷ (gone ++ now))) (and_left (may_go flushed j) (list_all (may_go flushed) gone) all)
    ∙ staying_on flushed gone now (and_right (may_go flushed j) (list_all (may_go flushed) gone) all)

-- the first of these journals may not go, or there is none
abbrev pub Stops : (ℕ → ℕ → Bool) → List Sealed → Type 0
Stops flushed [] = Unit {0}
Stops flushed (j ∷ journals) = may_go flushed j ≡ false

pub none_goes : (flushed : ℕ → ℕ → Bool) (now : List Sealed) → Stops flushed now → going flushed now ≡ []
none_goes flushed [] stops = refl
none_goes flushed (j ∷ now) stops = ap (λ b. cond b (j ∷ going flushed now) []) stops

pub all_stay : (flushed : ℕ → ℕ → Bool) (now : List Sealed) → Stops flushed now → staying flushed now ≡ now
all_stay flushed [] stops = refl
all_stay flushed (j ∷ now) stops = ap (λ b. cond b (staying flushed now) (j ∷ now)) stops

-- ---- the oldest journal

pub split_first : (xs : List Sealed) (x : Sealed) → Some x ≡ slice_get xs 0 → xs ≡ x ∷ drop 1 xs
split_first [] x is = let bad : ⊥ = cc in absurd bad
split_first (y ∷ ys) x is = ap (λ (z : Sealed). z ∷ ys) (sym (ap (λ (o : Option Sealed). unwrap_or o y) is))

pub no_first : (flushed : ℕ → ℕ → Bool) (xs : List Sealed) → None ≡ slice_get xs 0 → Stops flushed xs
no_first flushed [] is = tt
no_first flushed (y ∷ ys) is = let bad : ⊥ = cc in absurd bad

pub first_stops : (flushed : ℕ → ℕ → Bool) (xs : List Sealed) (x : Sealed) → Some x ≡ slice_get xs 0 → may_go flushed x ≡ false → Stops flushed xs
first_stops flushed xs x is stays = subst (λ (l : List Sealed). Stops flushed l) (sym (split_first xs x is)) stays
