-- What each element of a list has, as a loop goes over it.
use Rattle.std.proofs.Common.{◌≡◌, zero, suc, ℕ, ◌+◌, ◌<◌, List, [], ◌∷◌, ◌++◌, ◌==◌, Bool, true, false, cond, length, take, get_or, find, map, All, AllPairs, Some, sym, ◌∙◌, ap, subst, add-one, arith}
use Rattle.std.specs.List.{AllByRecursion, Contains, list_any}
use Rattle.std.proofs.lemmas.Bool.Decides.{nat_tests}
use Rattle.std.proofs.Math.ListN as ListN
use Rattle.std.proofs.lemmas.List.Elements.{All-append, All-contains, All-from_recursion}
use Rattle.std.proofs.lemmas.List.Folds.{Any-from_list_any, list_any-from_Any}
use Rattle.std.proofs.lemmas.List.{get_or_default, length-map}
use Rattle.std.proofs.Math.Seq.{take-suc}

pub item_has : {X : Type 0} (P : X → Type 0) (xs : List X) (i : ℕ) (x : X) → x ≡ get_or xs i x → i < length xs → All P xs → P x
item_has P xs i x at lt all = subst P (sym at) (all i x lt)

one_all : {X : Type 0} (P : X → Type 0) (x : X) → P x → All P (x ∷ [])
one_all P x is zero d lt = is
one_all P x is (suc k) d lt = absurd (omega (arith, lt))

pub none_yet : {X : Type 0} (P : X → Type 0) → All P []
none_yet P k d lt = absurd (omega (arith, lt))

take_more : {X : Type 0} (xs : List X) (i : ℕ) (x : X) → x ≡ get_or xs i x → i < length xs → take (i + 1) xs ≡ take i xs ++ x ∷ []
take_more xs i x at lt = ap (λ m. take m xs) (add-one i) ∙ take-suc xs i x lt ∙ ap (λ y. take i xs ++ y ∷ []) (sym at)

pub all_more : {X : Type 0} (P : X → Type 0) (xs : List X) (i : ℕ) (x : X) → x ≡ get_or xs i x → i < length xs → All P (take i xs) → P x → All P (take (i + 1) xs)
all_more P xs i x at lt all one = subst (All P) (sym (take_more xs i x at lt)) (All-append P (take i xs) (x ∷ []) all (one_all P x one))

pub all_to : {X : Type 0} (P Q : X → Type 0) (xs : List X) → ((x : X) → P x → Q x) → All P xs → All Q xs
all_to P Q xs to all k d lt = to (get_or xs k d) (all k d lt)

pub all_with : {X : Type 0} (P R Q : X → Type 0) (xs : List X) → ((x : X) → P x → R x → Q x) → All P xs → All R xs → All Q xs
all_with P R Q xs to all others k d lt = to (get_or xs k d) (all k d lt) (others k d lt)

-- the same over all of a mapped list
pub along_map : {X Y : Type 0} (P : Y → Type 0) (f : X → Y) (xs : List X) → All (λ x. P (f x)) xs → AllByRecursion P (map f xs)
along_map P f [] all = tt
along_map P f (x ∷ xs) all = (all 0 x (omega arith), along_map P f xs (λ k d lt. all (suc k) d (omega (arith, lt))))

pub back_map : {X Y : Type 0} (P : Y → Type 0) (f : X → Y) (xs : List X) → AllByRecursion P (map f xs) → All (λ x. P (f x)) xs
back_map P f [] all k d lt = absurd (omega (arith, lt))
back_map P f (x ∷ xs) all zero d lt = all.0
back_map P f (x ∷ xs) all (suc k) d lt = back_map P f xs all.1 k d (omega (arith, lt))

-- ---- an item that a list has

pub contains_map : {A B : Type 0} (f : A → B) (xs : List A) (x : A) → Contains xs x → Contains (map f xs) (f x)
contains_map f xs x (k, lt, at) = (k, subst (λ n. k < n) (sym (length-map xs f)) lt, ListN.get_or-map f xs k x ∙ ap (λ y. f y) at)

pub each_in : {A : Type 0} (P : A → Type 0) (xs : List A) (x : A) → Contains xs x → AllByRecursion P xs → P x
each_in P xs x has all = All-contains P xs x (All-from_recursion P xs all) has

-- ---- an item of a list by its id

module _ {X : Type 0} (key : X → ℕ) where
  -- a test of each item finds an id that is among theirs
  pub contained_if : (xs : List X) (id : ℕ) → list_any (λ x. key x == id) xs ≡ true → Contains (map key xs) id
  contained_if xs id is =
      let (i, x, lt, at, same) = Any-from_list_any (λ y. key y == id) xs is in
      let equal : key x ≡ id = grind (arith, nat_tests) in
      subst (λ n. Contains (map key xs) n) equal (contains_map key xs x (i, lt, at))

  pub if_contained : (xs : List X) (id : ℕ) → Contains (map key xs) id → list_any (λ x. key x == id) xs ≡ true
  if_contained [] id has = absurd (omega (arith, has.1))
  if_contained (x ∷ xs) id (i, lt, at) =
      let less : i < length (x ∷ xs) = subst (λ n. i < n) (length-map (x ∷ xs) key) lt in
      let found = get_or (x ∷ xs) i x in
      let same : key found ≡ id = sym (ListN.get_or-map key (x ∷ xs) i x) ∙ default i less ∙ at in
      let test : (key found == id) ≡ true = grind (arith, nat_tests) in
      list_any-from_Any (λ y. key y == id) (x ∷ xs) (i, found, less, get_or_default (x ∷ xs) i found x less, test)
    where
      default : (i : ℕ) → i < length (x ∷ xs) → get_or (map key (x ∷ xs)) i (key x) ≡ get_or (map key (x ∷ xs)) i id
      default i less = get_or_default (map key (x ∷ xs)) i (key x) id (subst (λ n. i < n) (sym (length-map (x ∷ xs) key)) less)

  -- where ids ascend the first item of an id is the one that has it
  pub found_at : (xs : List X) (i : ℕ) (d : X) → AllPairs (λ a b. a < b) (map key xs) → i < length xs → find (λ x. key x == key (get_or xs i d)) xs ≡ Some (get_or xs i d)
  found_at [] i d up lt = absurd (omega (arith, lt))
  found_at (x ∷ xs) zero d up lt =
      let test : (key x == key x) ≡ true = grind (arith, nat_tests) in
      ap (λ (b : Bool). cond b (Some x) (find (λ y. key y == key x) xs)) test
  found_at (x ∷ xs) (suc i) d up lt =
      let less : i < length xs = omega (arith, lt) in
      let within : suc i < length (map key (x ∷ xs)) = subst (λ n. suc i < n) (sym (length-map (x ∷ xs) key)) lt in
      let before : key x < get_or (map key xs) i (key d) = up 0 (suc i) (key d) (omega arith) within in
      let below : key x < key (get_or xs i d) = subst (λ n. key x < n) (ListN.get_or-map key xs i d) before in
      let test : (key x == key (get_or xs i d)) ≡ false = grind (arith, nat_tests) in
      ap (λ (b : Bool). cond b (Some x) (find (λ y. key y == key (get_or xs i d)) xs)) test ∙ found_at xs i d (λ j k e b l. up (suc j) (suc k) e (omega (arith, b)) (omega (arith, l))) less
