-- Keys that are compared eight bytes at a time.
use Rattle.std.proofs.Common.{◌≡◌, ℕ, zero, suc, ◌+◌, ◌-◌, ◌*◌, ◌^◌, ◌<◌, ◌≤◌, true, List, [], ◌∷◌, length, get_or, slice_index, take, drop, refl, sym, ap, subst, ◌∙◌, arith, inl, inr}
use Rattle.std.specs.Cmp.{nat_cmp_is}
use Rattle.std.specs.Cmp.Lexicographic.{slice_cmp}
use Rattle.std.specs.Int.{w64, w128, from_be_bytes, byte_worth, sum_through}
use Rattle.std.specs.Ordering.{nat_cmp, is_ne, ordering_then}
use Rattle.std.specs.declared.cmp.Ordering.{Ordering}
use Rattle.std.specs.declared.cmp.Ordering.TheVariants.{Less, Equal, Greater}
use Rattle.std.proofs.Math.Nat.{mul-le-mul_right}
use Rattle.std.proofs.lemmas.Bool.{cases_order}
use Rattle.std.proofs.lemmas.Cmp.{nat_cmp_total, tied_itself}

-- ---- `nat_cmp`, by how its arguments lie

pub less : (x y : ℕ) → x < y → nat_cmp x y ≡ Less
less x y h = sym (nat_cmp_is x y Less h)

pub greater : (x y : ℕ) → y < x → nat_cmp x y ≡ Greater
greater x y h = sym (nat_cmp_is x y Greater h)

pub same : (x : ℕ) → nat_cmp x x ≡ Equal
same x = tied_itself nat_cmp_total x

cmp_add : (p v w : ℕ) → nat_cmp (p + v) (p + w) ≡ nat_cmp v w
cmp_add p v w =
    elim (cases_order v w) [
      | inl e ↦ ap (λ (z : ℕ). nat_cmp (p + v) (p + z)) (sym e) ∙ same (p + v) ∙ sym (same v) ∙ ap (λ (z : ℕ). nat_cmp v z) e
      | inr o ↦ elim o [ inl l ↦ less (p + v) (p + w) (omega arith) ∙ sym (less v w l) | inr g ↦ greater (p + v) (p + w) (omega arith) ∙ sym (greater v w g) ]
    ]

-- ---- the number that bytes spell, the greatest first

abbrev pub value : List ℕ → ℕ
value [] = 0
value (x ∷ xs) = x * 256 ^ length xs + value xs

abbrev pub Bytes : List ℕ → Type 0
Bytes xs = (i : ℕ) → get_or xs i 0 < 256

rest_bytes : (x : ℕ) (xs : List ℕ) → Bytes (x ∷ xs) → Bytes xs
rest_bytes x xs b i = b (suc i)

below_power : (x v p q : ℕ) → x < 256 → v < p → q ≡ 256 * p → x * p + v < q
below_power x v p q lt small is = let m = mul-le-mul_right p (le_255 x lt) in omega (arith, m)
  where
    le_255 : (x : ℕ) → x < 256 → x ≤ 255
    le_255 x lt = omega arith

pub value_small : (xs : List ℕ) → Bytes xs → value xs < 256 ^ length xs
value_small [] b = omega arith
value_small (x ∷ xs) b = below_power x (value xs) (256 ^ length xs) (256 ^ suc (length xs)) (b 0) (value_small xs (rest_bytes x xs b)) (omega arith)

first_decides : (x y p v w : ℕ) → x < y → v < p → x * p + v < y * p + w
first_decides x y p v w lt small = let m = mul-le-mul_right p (le x y lt) in omega (arith, m)
  where
    le : (x y : ℕ) → x < y → suc x ≤ y
    le x y lt = omega arith

pub value_order : (xs ys : List ℕ) → length xs ≡ length ys → Bytes xs → Bytes ys → nat_cmp (value xs) (value ys) ≡ slice_cmp nat_cmp xs ys
value_order [] [] e bx by = refl
value_order [] (y ∷ ys) e bx by = absurd (omega arith)
value_order (x ∷ xs) [] e bx by = absurd (omega arith)
value_order (x ∷ xs) (y ∷ ys) e bx by =
    let long : length xs ≡ length ys = omega arith in
    let q : 256 ^ length ys ≡ 256 ^ length xs = ap (λ (n : ℕ). 256 ^ n) (sym long) in
    let more = value_order xs ys long (rest_bytes x xs bx) (rest_bytes y ys by) in
    let vx = value_small xs (rest_bytes x xs bx) in
    let vy : value ys < 256 ^ length xs = subst (λ (n : ℕ). value ys < n) q (value_small ys (rest_bytes y ys by)) in
    ap (λ (n : ℕ). nat_cmp (x * 256 ^ length xs + value xs) (y * n + value ys)) q
    ∙ elim (cases_order x y) [
      | inl same_first ↦
          ap (λ (z : ℕ). nat_cmp (x * 256 ^ length xs + value xs) (z * 256 ^ length xs + value ys)) (sym same_first)
          ∙ cmp_add (x * 256 ^ length xs) (value xs) (value ys)
          ∙ more
          ∙ ap (λ (o : Ordering). ordering_then o (slice_cmp nat_cmp xs ys)) (sym (ap (λ (z : ℕ). nat_cmp x z) (sym same_first) ∙ same x))
      | inr apart ↦
          elim apart [
            | inl lt ↦ less (x * 256 ^ length xs + value xs) (y * 256 ^ length xs + value ys) (first_decides x y (256 ^ length xs) (value xs) (value ys) lt vx) ∙ ap (λ (o : Ordering). ordering_then o (slice_cmp nat_cmp xs ys)) (sym (less x y lt))
            | inr gt ↦ greater (x * 256 ^ length xs + value xs) (y * 256 ^ length xs + value ys) (first_decides y x (256 ^ length xs) (value ys) (value xs) gt vy) ∙ ap (λ (o : Ordering). ordering_then o (slice_cmp nat_cmp xs ys)) (sym (greater x y gt))
          ]
    ]

-- ---- std's `from_be_bytes`

sum_front : (f : ℕ → ℕ) (k : ℕ) → sum_through f (suc k) ≡ f 0 + sum_through (λ i. f (suc i)) k
sum_front f zero = refl
sum_front f (suc k) = let m = sum_front f k in omega (arith, m)

sum_same : (f g : ℕ → ℕ) → ((i : ℕ) → f i ≡ g i) → (k : ℕ) → sum_through f k ≡ sum_through g k
sum_same f g h zero = h 0
sum_same f g h (suc k) = let a = sum_same f g h k in let b = h (suc k) in omega (arith, a, b)

worth : (k x : ℕ) → byte_worth k x ≡ x * 256 ^ k
worth zero x = omega arith
worth (suc k) x = refl

pub value_is : (n : ℕ) (xs : List ℕ) → length xs ≡ suc n → sum_through (λ i. byte_worth (n - i) (slice_index xs i)) n ≡ value xs
value_is n [] e = absurd (omega arith)
value_is zero (x ∷ []) e = omega arith
value_is zero (x ∷ y ∷ xs) e = absurd (omega arith)
value_is (suc n) (x ∷ xs) e =
    let long : length xs ≡ suc n = omega arith in
    sum_front (λ i. byte_worth (suc n - i) (slice_index (x ∷ xs) i)) n
    ∙ ap (λ (k : ℕ). byte_worth k x + sum_through (λ i. byte_worth (suc n - suc i) (slice_index xs i)) n) (none_off (suc n))
    ∙ ap (λ (m : ℕ). byte_worth (suc n) x + m) (sum_same (λ i. byte_worth (suc n - suc i) (slice_index xs i)) (λ i. byte_worth (n - i) (slice_index xs i)) (λ i. ap (λ (m : ℕ). byte_worth m (slice_index xs i)) (one_off n i)) n ∙ value_is n xs long)
    ∙ ap (λ (m : ℕ). m + value xs) (worth (suc n) x ∙ ap (λ (m : ℕ). x * 256 ^ m) (sym long))
  where
    one_off : (n i : ℕ) → suc n - suc i ≡ n - i
    one_off n i = omega arith

    none_off : (n : ℕ) → n - 0 ≡ n
    none_off n = omega arith

-- eight bytes compare as the numbers that they spell
pub words_order : (xs ys : List ℕ) → length xs ≡ 8 → length ys ≡ 8 → Bytes xs → Bytes ys → nat_cmp (from_be_bytes w64 xs) (from_be_bytes w64 ys) ≡ slice_cmp nat_cmp xs ys
words_order xs ys long other_long bx by =
    (λ i. nat_cmp (value_is 7 xs long i) (value_is 7 ys other_long i))
    ∙ value_order xs ys (long ∙ sym other_long) bx by

-- and sixteen
pub fronts_order : (xs ys : List ℕ) → length xs ≡ 16 → length ys ≡ 16 → Bytes xs → Bytes ys → nat_cmp (from_be_bytes w128 xs) (from_be_bytes w128 ys) ≡ slice_cmp nat_cmp xs ys
fronts_order xs ys long other_long bx by =
    (λ i. nat_cmp (value_is 15 xs long i) (value_is 15 ys other_long i))
    ∙ value_order xs ys (long ∙ sym other_long) bx by

-- ---- keys in two parts

pub then_assoc : (o p q : Ordering) → ordering_then (ordering_then o p) q ≡ ordering_then o (ordering_then p q)
then_assoc Less p q = refl
then_assoc Equal p q = refl
then_assoc Greater p q = refl

parted_order : (n : ℕ) (xs ys : List ℕ) → n ≤ length xs → n ≤ length ys → ordering_then (slice_cmp nat_cmp (take n xs) (take n ys)) (slice_cmp nat_cmp (drop n xs) (drop n ys)) ≡ slice_cmp nat_cmp xs ys
parted_order zero xs ys le other_le = refl
parted_order (suc n) [] ys le other_le = absurd (omega arith)
parted_order (suc n) (x ∷ xs) [] le other_le = absurd (omega arith)
parted_order (suc n) (x ∷ xs) (y ∷ ys) le other_le =
    then_assoc (nat_cmp x y) (slice_cmp nat_cmp (take n xs) (take n ys)) (slice_cmp nat_cmp (drop n xs) (drop n ys))
    ∙ ap (ordering_then (nat_cmp x y)) (parted_order n xs ys (omega arith) (omega arith))

-- The front of a key, and what is behind it.
pub record IsParted (n : ℕ) (key front rest : List ℕ) : Type 0 where
  pub front_is : front ≡ take n key
  pub rest_is : rest ≡ drop n key
  pub long : n ≤ length key

by_parts : (n : ℕ) (xs front rest ys other_front other_rest : List ℕ) → IsParted n xs front rest → IsParted n ys other_front other_rest → ordering_then (slice_cmp nat_cmp front other_front) (slice_cmp nat_cmp rest other_rest) ≡ slice_cmp nat_cmp xs ys
by_parts n xs front rest ys other_front other_rest p q =
    (λ i. ordering_then (slice_cmp nat_cmp (p.front_is i) (q.front_is i)) (slice_cmp nat_cmp (p.rest_is i) (q.rest_is i))) ∙ parted_order n xs ys p.long q.long

-- keys compare by their fronts where these are unlike
pub by_fronts : (n : ℕ) (xs front rest ys other_front other_rest : List ℕ) (o : Ordering) → IsParted n xs front rest → IsParted n ys other_front other_rest → o ≡ slice_cmp nat_cmp front other_front → is_ne o ≡ true → o ≡ slice_cmp nat_cmp xs ys
by_fronts n xs front rest ys other_front other_rest o p q is unlike = sym (decided o unlike) ∙ ap (λ (r : Ordering). ordering_then r (slice_cmp nat_cmp rest other_rest)) is ∙ by_parts n xs front rest ys other_front other_rest p q
  where
    decided : (o : Ordering) → is_ne o ≡ true → ordering_then o (slice_cmp nat_cmp rest other_rest) ≡ o
    decided Less e = refl
    decided Equal e = absurd (cc e)
    decided Greater e = refl
