-- Lists from which one is taken, and to which one is added.
use Rattle.std.proofs.Common.{◌≡◌, ℕ, zero, suc, ◌+◌, Bool, List, [], ◌∷◌, ◌++◌, All, take, drop, length, Some, refl, subst}
use Rattle.std.proofs.lemmas.List.Elements.{All-append, All-drop, All-get_or, All-same, All-take}
use Rattle.std.proofs.lemmas.Option.{get_or_from_slice_get, none-some, slice_get_within}
use Rattle.std.specs.Prelude.{slice_get}
use Rattle.fjall_calls.specs.Names.{Takes}

-- what holds of all holds of one
pub holds_at : {X : Type 0} (P : X → Type 0) (xs : List X) (k : ℕ) (x : X) → slice_get xs k ≡ Some x → All P xs → P x
holds_at P xs k x at all = subst P (get_or_from_slice_get xs k x x at) (All-get_or P xs k x (slice_get_within xs k x at) all)

-- of one that is taken, and of those that are left
pub of_taken : {X : Type 0} (P : X → Type 0) (is : X → Bool) (xs ys : List X) (x : X) → Takes is xs (Some x) ys → All P xs → P x
of_taken P is xs ys x (wanted, k, at, left) all = holds_at P xs k x at all

pub of_others : {X : Type 0} (P : X → Type 0) (is : X → Bool) (xs ys : List X) (x : X) → Takes is xs (Some x) ys → All P xs → All P ys
of_others P is xs ys x (wanted, k, at, left) all =
    All-same P ys (take k xs ++ drop (k + 1) xs) left (All-append P (take k xs) (drop (k + 1) xs) (All-take P k xs all) (All-drop P (k + 1) xs all))

-- what stands at a place stays there as more comes behind it
pub stays_at : {X : Type 0} (xs ys : List X) (k : ℕ) (x : X) → slice_get xs k ≡ Some x → slice_get (xs ++ ys) k ≡ Some x
stays_at [] ys k x at = absurd (none-some x at)
stays_at (y ∷ xs) ys zero x at = at
stays_at (y ∷ xs) ys (suc k) x at = stays_at xs ys k x at

-- and what comes next stands behind all of them
pub stands_last : {X : Type 0} (xs : List X) (x : X) → slice_get (xs ++ x ∷ []) (length xs) ≡ Some x
stands_last [] x = refl
stands_last (y ∷ xs) x = stands_last xs x
