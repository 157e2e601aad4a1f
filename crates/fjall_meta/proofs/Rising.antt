-- Lists of which each element stands in a relation to all later ones, by recursion.
use Rattle.std.proofs.Common.{zero, suc, List, [], ◌∷◌, ◌++◌, get_or, map, All, AllPairs, arith}
use Rattle.std.proofs.lemmas.List.Elements.{All-head, All-tail, All-append, All-map}

abbrev pub Rises : {X : Type 0} → (X → X → Type 0) → List X → Type 0
Rises R [] = Unit {0}
Rises R (x ∷ xs) = All (λ y. R x y) xs × Rises R xs

pub pairs_from : {X : Type 0} (R : X → X → Type 0) (xs : List X) → Rises R xs → AllPairs R xs
pairs_from R [] h i j d below within = absurd (omega arith)
pairs_from R (x ∷ xs) h zero zero d below within = absurd (omega arith)
pairs_from R (x ∷ xs) h zero (suc j) d below within = h.0 j d (omega arith)
pairs_from R (x ∷ xs) h (suc i) zero d below within = absurd (omega arith)
pairs_from R (x ∷ xs) h (suc i) (suc j) d below within = pairs_from R xs h.1 i j d (omega arith) (omega arith)

pub from_pairs : {X : Type 0} (R : X → X → Type 0) (xs : List X) → AllPairs R xs → Rises R xs
from_pairs R [] h = tt
from_pairs R (x ∷ xs) h =
    (λ k d within. h 0 (suc k) d (omega arith) (omega arith), from_pairs R xs (λ i j d below within. h (suc i) (suc j) d (omega arith) (omega arith)))

pub joined : {X : Type 0} (R : X → X → Type 0) (xs ys : List X) → Rises R xs → Rises R ys → All (λ x. All (λ y. R x y) ys) xs → Rises R (xs ++ ys)
joined R [] ys a b cross = b
joined R (x ∷ xs) ys a b cross =
    (All-append (λ y. R x y) xs ys a.0 (All-head (λ z. All (λ y. R z y) ys) x xs cross), joined R xs ys a.1 b (All-tail (λ z. All (λ y. R z y) ys) x xs cross))

pub mapped : {X Y : Type 0} (R : Y → Y → Type 0) (f : X → Y) (xs : List X) → Rises (λ a b. R (f a) (f b)) xs → Rises R (map f xs)
mapped R f [] h = tt
mapped R f (x ∷ xs) h = (All-map (λ y. R (f x) y) f xs h.0, mapped R f xs h.1)

-- each element may be known to have P
pub weaker : {X : Type 0} (R S : X → X → Type 0) (P : X → Type 0) → ((x y : X) → P x → P y → R x y → S x y) → (xs : List X) → All P xs → Rises R xs → Rises S xs
weaker R S P step [] all h = tt
weaker R S P step (x ∷ xs) all h =
    (λ k d within. step x (get_or xs k d) (All-head P x xs all) (All-tail P x xs all k d within) (h.0 k d within), weaker R S P step xs (All-tail P x xs all) h.1)
