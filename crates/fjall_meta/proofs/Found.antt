-- What a search finds.
use Rattle.std.proofs.Common.{◌≡◌, Bool, true, false, cond, List, [], ◌∷◌, find, All, None, Some, unwrap_or, refl, sym, ◌∙◌, ap, subst}
use Rattle.std.proofs.lemmas.Bool.{true≢false}
use Rattle.std.proofs.lemmas.List.Elements.{All-head, All-tail}
use Rattle.std.specs.Option.{is_some}
use Rattle.fjall_meta.proofs.Rising.{Rises}

none_is_not : {X : Type 0} (x : X) → None ≡ Some x → ⊥
none_is_not x e = true≢false (sym (ap is_some e))

pub same_some : {X : Type 0} (x y : X) → Some x ≡ Some y → x ≡ y
same_some x y e = ap (λ o. unwrap_or o x) e

-- the element that is found passes the test
pub found_passes : {X : Type 0} (p : X → Bool) (xs : List X) (x : X) → find p xs ≡ Some x → p x ≡ true
found_passes p [] x e = absurd (none_is_not x e)
found_passes p (y ∷ xs) x e = either (p y) refl e (found_passes p xs x)
  where
    either : (b : Bool) → p y ≡ b → cond b (Some y) (find p xs) ≡ Some x → (find p xs ≡ Some x → p x ≡ true) → p x ≡ true
    either true passes found rest = ap p (sym (same_some y x found)) ∙ passes
    either false fails found rest = rest found

-- and has what each element has
pub found_has : {X : Type 0} (p : X → Bool) (P : X → Type 0) (xs : List X) (x : X) → find p xs ≡ Some x → All P xs → P x
found_has p P [] x e all = absurd (none_is_not x e)
found_has p P (y ∷ xs) x e all = either (p y) e (λ found. found_has p P xs x found (All-tail P y xs all))
  where
    either : (b : Bool) → cond b (Some y) (find p xs) ≡ Some x → (find p xs ≡ Some x → P x) → P x
    either true found rest = subst P (same_some y x found) (All-head P y xs all)
    either false found rest = rest found

-- What is found by one test is found by another that tells it from those before it.
pub found_alone : {X : Type 0} (p : X → Bool) (is : X → X → Bool) (R : X → X → Type 0) → ((x : X) → is x x ≡ true) → ((x y : X) → R x y → is y x ≡ false)
    → (xs : List X) (x : X) → Rises R xs → find p xs ≡ Some x → find (is x) xs ≡ Some x
found_alone p is R itself apart [] x rise e = absurd (none_is_not x e)
found_alone p is R itself apart (y ∷ xs) x rise e = either (p y) e (λ found. found_alone p is R itself apart xs x rise.1 found)
  where
    either : (b : Bool) → cond b (Some y) (find p xs) ≡ Some x → (find p xs ≡ Some x → find (is x) xs ≡ Some x) → cond (is x y) (Some y) (find (is x) xs) ≡ Some x
    either true found rest = ap (λ z. cond (is x z) (Some z) (find (is x) xs)) (same_some y x found) ∙ ap (λ b. cond b (Some x) (find (is x) xs)) (itself x)
    either false found rest = ap (λ b. cond b (Some y) (find (is x) xs)) (apart y x (found_has p (R y) xs x found rise.0)) ∙ rest found
