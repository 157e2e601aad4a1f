-- Fronts of keys as two words, and keys in parts.
use Rattle.std.proofs.Common.{◌≡◌, ℕ, zero, suc, ◌^◌, ◌<◌, List, [], ◌∷◌, ◌++◌, length, take, drop, refl, sym, ap, subst, ◌∙◌, arith}
use Rattle.std.specs.Cmp.Lexicographic.{slice_cmp}
use Rattle.std.specs.Int.{w64, to_be_bytes}
use Rattle.std.specs.Ordering.{nat_cmp, ordering_then}
use Rattle.std.specs.declared.cmp.Ordering.{Ordering}
use Rattle.fjall_base.specs.Pairs.{byte_order}
use Rattle.fjall_table.specs.Padded.{padded}
use Rattle.fjall_table.proofs.Words.{then_assoc}
use Rattle.fjall_table.proofs.Fronts.{number_order, parts_order}
use Rattle.fjall_memtable.specs.Stamps.{front_bytes, key_from, AreParts}
pub use Rattle.fjall_table.proofs.Words.{less, greater, same}
pub use Rattle.fjall_table.proofs.Fronts.{first_only}

joined_order : (xs ys us vs : List ℕ) → length xs ≡ length ys → slice_cmp nat_cmp (xs ++ us) (ys ++ vs) ≡ ordering_then (slice_cmp nat_cmp xs ys) (slice_cmp nat_cmp us vs)
joined_order [] [] us vs e = refl
joined_order [] (y ∷ ys) us vs e = absurd (omega arith)
joined_order (x ∷ xs) [] us vs e = absurd (omega arith)
joined_order (x ∷ xs) (y ∷ ys) us vs e = ap (ordering_then (nat_cmp x y)) (joined_order xs ys us vs (omega arith)) ∙ sym (then_assoc (nat_cmp x y) (slice_cmp nat_cmp xs ys) (slice_cmp nat_cmp us vs))

-- two words, the greatest first, compare as their bytes do
pub words_order : (o : Ordering) (a b c d : ℕ) → a < 2 ^ 64 → b < 2 ^ 64 → c < 2 ^ 64 → d < 2 ^ 64 → nat_cmp a c ≡ o → ordering_then o (nat_cmp b d) ≡ slice_cmp nat_cmp (front_bytes a b) (front_bytes c d)
words_order o a b c d fa fb fc fd e =
    ap (λ (p : Ordering). ordering_then p (nat_cmp b d)) (sym e)
    ∙ (λ i. ordering_then (number_order 8 a c fa fc i) (number_order 8 b d fb fd i))
    ∙ sym (joined_order (to_be_bytes w64 a) (to_be_bytes w64 c) (to_be_bytes w64 b) (to_be_bytes w64 d) refl)

-- keys whose parts compare so
pub keys_order : (a f r : List ℕ) (n : ℕ) → AreParts a f r n → (b g s : List ℕ) (m : ℕ) → AreParts b g s m → ordering_then (slice_cmp nat_cmp f g) (ordering_then (slice_cmp nat_cmp r s) (nat_cmp n m)) ≡ slice_cmp nat_cmp a b
keys_order a f r n p b g s m q =
    (λ i. ordering_then (slice_cmp nat_cmp (p.front_is i) (q.front_is i)) (ordering_then (slice_cmp nat_cmp (p.rest_is i) (q.rest_is i)) (nat_cmp (sym p.len_is i) (sym q.len_is i))))
    ∙ parts_order 16 a b

-- the same, from how the fronts compare
pub keys_order_by : (o : Ordering) (a f r : List ℕ) (n : ℕ) → AreParts a f r n → (b g s : List ℕ) (m : ℕ) → AreParts b g s m → slice_cmp nat_cmp f g ≡ o → ordering_then o (ordering_then (slice_cmp nat_cmp r s) (nat_cmp n m)) ≡ byte_order a b
keys_order_by o a f r n p b g s m q e = ap (λ (x : Ordering). ordering_then x (ordering_then (slice_cmp nat_cmp r s) (nat_cmp n m))) (sym e) ∙ keys_order a f r n p b g s m q

-- a key's parts make the key
parts_make : (n : ℕ) (key : List ℕ) → take (length (take n key)) (padded n key) ++ drop n key ≡ key
parts_make zero key = refl
parts_make (suc n) [] = refl
parts_make (suc n) (x ∷ key) = ap (λ (rest : List ℕ). x ∷ rest) (parts_make n key)

-- what has the parts of a key has them of what they make
pub are_parts : (key front rest : List ℕ) (len : ℕ) → front ≡ padded 16 key → rest ≡ drop 16 key → len ≡ length (take 16 key) → AreParts (key_from front rest len) front rest len
are_parts key front rest len f r l = subst (λ (k : List ℕ). AreParts k front rest len) (sym made) (record { front_is = f; rest_is = r; len_is = sym l })
  where
    made : key_from front rest len ≡ key
    made = (λ i. key_from (f i) (r i) (l i)) ∙ parts_make 16 key
