-- Fronts of keys: as numbers, and in the order of the keys.
use Rattle.std.proofs.Common.{◌≡◌, ℕ, zero, suc, ◌+◌, ◌*◌, ◌^◌, ◌/◌, ◌%◌, ◌<◌, true, List, [], ◌∷◌, length, take, drop, refl, sym, ap, ◌∙◌, arith, inl, inr, pow-suc, mul_comm}
use Rattle.std.specs.Cmp.Lexicographic.{slice_cmp}
use Rattle.std.specs.Int.{w128, to_be_bytes, from_be_bytes, byte_at, bytes_high_first}
use Rattle.std.specs.Ordering.{nat_cmp, ordering_then, is_le, is_ge, is_ne}
use Rattle.std.specs.declared.cmp.Ordering.{Ordering}
use Rattle.std.specs.declared.cmp.Ordering.TheVariants.{Less, Equal, Greater}
use Rattle.std.proofs.Math.Nat.{pow-le-pow_right, mod-eq_of_lt}
use Rattle.std.proofs.Math.Arith.{mod-mul}
use Rattle.std.proofs.lemmas.Bool.{cases_order}
use Rattle.std.proofs.lemmas.Cmp.{nat_list_cmp_total, tied_itself}
use Rattle.fjall_base.specs.Pairs.{byte_order}
use Rattle.fjall_table.specs.Padded.{padded}
use Rattle.fjall_table.proofs.Words.{Bytes, less, greater, same, value, value_small, value_order, value_is, then_assoc}
use Rattle.fjall_table.proofs.Lookups.{same_key}

cmp_suc : (v w : ℕ) → nat_cmp (suc v) (suc w) ≡ nat_cmp v w
cmp_suc v w =
    elim (cases_order v w) [
      | inl e ↦ ap (λ (z : ℕ). nat_cmp (suc v) (suc z)) (sym e) ∙ same (suc v) ∙ sym (same v) ∙ ap (λ (z : ℕ). nat_cmp v z) e
      | inr o ↦ elim o [ inl l ↦ less (suc v) (suc w) (omega arith) ∙ sym (less v w l) | inr g ↦ greater (suc v) (suc w) (omega arith) ∙ sym (greater v w g) ]
    ]

-- ---- numbers as their bytes

small_byte : (k n : ℕ) → byte_at k n < 256
small_byte zero n = omega arith
small_byte (suc k) n = let m = n / 256 ^ suc k in omega arith

pub small_bytes : (k n : ℕ) → Bytes (bytes_high_first k n)
small_bytes zero n i = omega arith
small_bytes (suc k) n zero = small_byte k n
small_bytes (suc k) n (suc i) = small_bytes k n i

-- one more byte before the low k bytes
byte_on : (k n : ℕ) → byte_at k n * 256 ^ k + n % 256 ^ k ≡ n % 256 ^ suc k
byte_on zero n = omega arith
byte_on (suc k) n =
    let unit = 256 ^ suc k in
    let wider : 256 ^ suc (suc k) ≡ 256 * unit = pow-suc 256 (suc k) ∙ mul_comm unit 256 in
    let some : 0 < unit = pow-le-pow_right {n = 256} (omega arith) {i = 0} {j = suc k} (omega arith) in
    rw (wider, mod-mul n {m = 256} {c = unit} (omega arith) some) refl

bytes_len : (k n : ℕ) → length (bytes_high_first k n) ≡ k
bytes_len zero n = refl
bytes_len (suc k) n = ap suc (bytes_len k n)

low_value : (k n : ℕ) → value (bytes_high_first k n) ≡ n % 256 ^ k
low_value zero n = omega arith
low_value (suc k) n = (λ i. byte_at k n * 256 ^ bytes_len k n i + low_value k n i) ∙ byte_on k n

-- the bytes of a number spell it
spelled : (k n : ℕ) → n < 256 ^ k → value (bytes_high_first k n) ≡ n
spelled k n fits = low_value k n ∙ mod-eq_of_lt fits

-- numbers compare as their bytes
pub number_order : (k a b : ℕ) → a < 256 ^ k → b < 256 ^ k → nat_cmp a b ≡ slice_cmp nat_cmp (bytes_high_first k a) (bytes_high_first k b)
number_order k a b fa fb =
    (λ i. nat_cmp (sym (spelled k a fa) i) (sym (spelled k b fb) i))
    ∙ value_order (bytes_high_first k a) (bytes_high_first k b) (bytes_len k a ∙ sym (bytes_len k b)) (small_bytes k a) (small_bytes k b)

-- sixteen bytes are those of the number that they spell
pub bytes_are : (xs : List ℕ) (n : ℕ) → length xs ≡ 16 → Bytes xs → n ≡ from_be_bytes w128 xs → to_be_bytes w128 n ≡ xs
bytes_are xs n long small is = same_key (bytes_high_first 16 n) xs (sym (value_order (bytes_high_first 16 n) xs (sym long) (small_bytes 16 n) small) ∙ ap (λ (v : ℕ). nat_cmp v (value xs)) told ∙ same (value xs))
  where
    spells : n ≡ value xs
    spells = is ∙ value_is 15 xs long

    fits : n < 256 ^ 16
    fits = let v = value_small xs small in let p : 256 ^ length xs ≡ 256 ^ 16 = ap (λ (k : ℕ). 256 ^ k) long in omega (arith, v, p, spells)

    told : value (bytes_high_first 16 n) ≡ value xs
    told = spelled 16 n fits ∙ spells

-- ---- keys by their fronts

then_less : (o p : Ordering) → is_le o ≡ true → p ≡ Less → ordering_then o p ≡ Less
then_less Less p h e = refl
then_less Equal p h e = e
then_less Greater p h e = absurd cc

then_greater : (o p : Ordering) → is_ge o ≡ true → p ≡ Greater → ordering_then o p ≡ Greater
then_greater Less p h e = absurd cc
then_greater Equal p h e = e
then_greater Greater p h e = refl

then_le : (o p : Ordering) → is_le o ≡ true → is_le p ≡ true → is_le (ordering_then o p) ≡ true
then_le Less p h e = refl
then_le Equal p h e = e
then_le Greater p h e = absurd cc

then_ge : (o p : Ordering) → is_ge o ≡ true → is_ge p ≡ true → is_ge (ordering_then o p) ≡ true
then_ge Less p h e = absurd cc
then_ge Equal p h e = e
then_ge Greater p h e = refl

zero_le : (y : ℕ) → is_le (nat_cmp 0 y) ≡ true
zero_le zero = ap is_le (same 0)
zero_le (suc y) = ap is_le (less 0 (suc y) (omega arith))

zero_ge : (y : ℕ) → is_ge (nat_cmp y 0) ≡ true
zero_ge zero = ap is_ge (same 0)
zero_ge (suc y) = ap is_ge (greater (suc y) 0 (omega arith))

none_le : (ys : List ℕ) → is_le (slice_cmp nat_cmp [] ys) ≡ true
none_le [] = refl
none_le (y ∷ ys) = refl

none_ge : (ys : List ℕ) → is_ge (slice_cmp nat_cmp ys []) ≡ true
none_ge [] = refl
none_ge (y ∷ ys) = refl

zeros_le : (n : ℕ) (ys : List ℕ) → is_le (slice_cmp nat_cmp (padded n []) (padded n ys)) ≡ true
zeros_le zero ys = refl
zeros_le (suc n) [] = then_le (nat_cmp 0 0) (slice_cmp nat_cmp (padded n []) (padded n [])) (zero_le 0) (zeros_le n [])
zeros_le (suc n) (y ∷ ys) = then_le (nat_cmp 0 y) (slice_cmp nat_cmp (padded n []) (padded n ys)) (zero_le y) (zeros_le n ys)

zeros_ge : (n : ℕ) (ys : List ℕ) → is_ge (slice_cmp nat_cmp (padded n ys) (padded n [])) ≡ true
zeros_ge zero ys = refl
zeros_ge (suc n) [] = then_ge (nat_cmp 0 0) (slice_cmp nat_cmp (padded n []) (padded n [])) (zero_ge 0) (zeros_ge n [])
zeros_ge (suc n) (y ∷ ys) = then_ge (nat_cmp y 0) (slice_cmp nat_cmp (padded n ys) (padded n [])) (zero_ge y) (zeros_ge n ys)

abbrev in_parts : ℕ → List ℕ → List ℕ → Ordering
in_parts n a b = ordering_then (slice_cmp nat_cmp (padded n a) (padded n b)) (ordering_then (slice_cmp nat_cmp (drop n a) (drop n b)) (nat_cmp (length (take n a)) (length (take n b))))

then_equal : (o p : Ordering) → p ≡ Equal → ordering_then o p ≡ o
then_equal Less p e = refl
then_equal Equal p e = e
then_equal Greater p e = refl

-- The fronts, then the rests, then how many bytes the fronts have compare as the keys do.
pub parts_order : (n : ℕ) (a b : List ℕ) → in_parts n a b ≡ slice_cmp nat_cmp a b
parts_order zero a b = then_equal (slice_cmp nat_cmp a b) (nat_cmp 0 0) (same 0)
parts_order (suc n) [] [] = ap (λ (o : Ordering). ordering_then o Equal) (tied_itself nat_list_cmp_total (padded (suc n) []))
parts_order (suc n) [] (y ∷ ys) = then_less (slice_cmp nat_cmp (padded (suc n) []) (padded (suc n) (y ∷ ys))) (ordering_then (slice_cmp nat_cmp [] (drop n ys)) (nat_cmp 0 (suc (length (take n ys))))) (zeros_le (suc n) (y ∷ ys)) (then_less (slice_cmp nat_cmp [] (drop n ys)) (nat_cmp 0 (suc (length (take n ys)))) (none_le (drop n ys)) (less 0 (suc (length (take n ys))) (omega arith)))
parts_order (suc n) (x ∷ xs) [] = then_greater (slice_cmp nat_cmp (padded (suc n) (x ∷ xs)) (padded (suc n) [])) (ordering_then (slice_cmp nat_cmp (drop n xs) []) (nat_cmp (suc (length (take n xs))) 0)) (zeros_ge (suc n) (x ∷ xs)) (then_greater (slice_cmp nat_cmp (drop n xs) []) (nat_cmp (suc (length (take n xs))) 0) (none_ge (drop n xs)) (greater (suc (length (take n xs))) 0 (omega arith)))
parts_order (suc n) (x ∷ xs) (y ∷ ys) =
    then_assoc (nat_cmp x y) (slice_cmp nat_cmp (padded n xs) (padded n ys)) (ordering_then (slice_cmp nat_cmp (drop n xs) (drop n ys)) (nat_cmp (suc (length (take n xs))) (suc (length (take n ys)))))
    ∙ ap (λ (o : Ordering). ordering_then (nat_cmp x y) (ordering_then (slice_cmp nat_cmp (padded n xs) (padded n ys)) (ordering_then (slice_cmp nat_cmp (drop n xs) (drop n ys)) o))) (cmp_suc (length (take n xs)) (length (take n ys)))
    ∙ ap (λ (o : Ordering). ordering_then (nat_cmp x y) o) (parts_order n xs ys)

pub first_only : (o p : Ordering) → (o ≡ Equal → ⊥) → ordering_then o p ≡ o
first_only Less p h = refl
first_only Equal p h = absurd (h refl)
first_only Greater p h = refl

-- keys whose fronts are unlike compare as these
pub fronts_decide : (o : Ordering) (f g a b : List ℕ) → f ≡ padded 16 a → g ≡ padded 16 b → o ≡ byte_order f g → is_ne o ≡ true → o ≡ byte_order a b
fronts_decide o f g a b p q is unlike =
    sym (decided o (ordering_then (slice_cmp nat_cmp (drop 16 a) (drop 16 b)) (nat_cmp (length (take 16 a)) (length (take 16 b)))) unlike)
    ∙ ap (λ (x : Ordering). ordering_then x (ordering_then (slice_cmp nat_cmp (drop 16 a) (drop 16 b)) (nat_cmp (length (take 16 a)) (length (take 16 b))))) (is ∙ (λ i. byte_order (p i) (q i)))
    ∙ parts_order 16 a b
  where
    decided : (o r : Ordering) → is_ne o ≡ true → ordering_then o r ≡ o
    decided Less r e = refl
    decided Equal r e = absurd (cc e)
    decided Greater r e = refl
