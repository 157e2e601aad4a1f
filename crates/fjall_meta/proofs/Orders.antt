-- The order of the meta keyspace's keys.
use Rattle.std.proofs.Common.{◌≡◌, ℕ, zero, suc, ◌+◌, ◌*◌, ◌%◌, ◌^◌, ◌<◌, ◌≤◌, ◌&&◌, Bool, true, List, [], ◌∷◌, ◌++◌, map, get_or, All, AllPairs, refl, sym, ap, ◌∙◌, arith, inl, inr, ◌⊎◌}
use Rattle.std.proofs.Math.Nat.{mul-le-mul_right, mod-eq_of_lt, mod-lt, one-le-pow}
use Rattle.std.proofs.lemmas.Bool.{cases_lt, and_parts}
use Rattle.std.proofs.lemmas.List.Elements.{All-nil, All-cons, All-head, All-tail, All-append, All-map, All-weaker}
use Rattle.std.proofs.lemmas.Bool.Decides.{nat_tests}
use Rattle.std.specs.Int.{byte_at, bytes_high_first}
use Rattle.std.specs.List.{flat_map}
use Rattle.std.specs.Ordering.{nat_cmp, is_lt}
use Rattle.std.specs.declared.cmp.Ordering.{Ordering}
use Rattle.std.specs.declared.cmp.Ordering.TheVariants.{Less, Equal, Greater}
use Rattle.byteorder.specs.Numbers.{big_from-cons, big_from-bytes}
use Rattle.fjall_base.specs.Pairs.{byte_order}
use Rattle.fjall_options.specs.declared.options.stored_option.StoredOption.{StoredOption}
use Rattle.fjall_options.specs.Options.{options_by_name, name_key, config_key, option_name}
use Rattle.fjall_meta.specs.declared.living.LivingKeyspace.{LivingKeyspace}
use Rattle.fjall_meta.specs.declared.entry.MetaEntry.{MetaEntry}
use Rattle.fjall_meta.specs.Keyspaces.{AreKeyspaces, Keyspaces}
use Rattle.fjall_meta.specs.Entries.{option_entry, option_entries, name_entry, entries_of, IsAscending}
use Rattle.fjall_meta.proofs.Rising.{Rises, pairs_from, from_pairs, joined, mapped, weaker}

-- ---- numbers and bytes

less : (x y : ℕ) → x < y → nat_cmp x y ≡ Less
less x y h = grind (arith, nat_tests)

alike : (x : ℕ) → nat_cmp x x ≡ Equal
alike x = grind (arith, nat_tests)

before : (x y : ℕ) (xs ys : List ℕ) → x < y → byte_order (x ∷ xs) (y ∷ ys) ≡ Less
before x y xs ys h = rw (less x y h) refl

behind : (x y : ℕ) (xs ys : List ℕ) → x ≡ y → byte_order xs ys ≡ Less → byte_order (x ∷ xs) (y ∷ ys) ≡ Less
behind x y xs ys e h = rw (← e, alike x) h

-- what stands behind an equal beginning decides
after_front : (front xs ys : List ℕ) → byte_order xs ys ≡ Less → byte_order (front ++ xs) (front ++ ys) ≡ Less
after_front [] xs ys h = h
after_front (b ∷ front) xs ys h = behind b b (front ++ xs) (front ++ ys) refl (after_front front xs ys h)

-- the highest byte of a number, and what is left of it
top_byte : (n x : ℕ) → x % 256 ^ suc n ≡ byte_at n x * 256 ^ n + x % 256 ^ n
top_byte n x =
    let bytes : List ℕ = bytes_high_first n x ++ [] in
    sym (big_from-bytes (suc n) x []) ∙ rw (big_from-cons 0 n (byte_at n x) bytes, big_from-bytes n x []) refl

rest_below : (n x : ℕ) → x % 256 ^ n < 256 ^ n
rest_below n x = let pos = one-le-pow n 256 (omega arith) in mod-lt x (omega arith)

-- two numbers of the top bytes a and b
compared : (a b r s p : ℕ) → a * p + r < b * p + s → r < p → s < p → (a < b) ⊎ ((a ≡ b) × (r < s))
compared a b r s p h small other = elim (cases_lt a b) [
  | inl lower ↦ inl lower
  | inr not ↦ elim (cases_lt b a) [
    | inl higher ↦ (let step : (b + 1) * p ≤ a * p = mul-le-mul_right p (omega arith) in absurd (omega arith))
    | inr le ↦ (let same : a ≡ b = omega arith in inr (same, (let moved : a * p ≡ b * p = ap (λ (k : ℕ). k * p) same in omega arith)))
  ]
]

-- numbers in order have bytes in order, the highest first
numbers_rise : (n x y : ℕ) (a b : List ℕ) → x % 256 ^ n < y % 256 ^ n → byte_order (bytes_high_first n x ++ a) (bytes_high_first n y ++ b) ≡ Less
numbers_rise zero x y a b h = absurd (omega arith)
numbers_rise (suc n) x y a b h =
    let sum : byte_at n x * 256 ^ n + x % 256 ^ n < byte_at n y * 256 ^ n + y % 256 ^ n = rw (← top_byte n x, ← top_byte n y) h in
    elim (compared (byte_at n x) (byte_at n y) (x % 256 ^ n) (y % 256 ^ n) (256 ^ n) sum (rest_below n x) (rest_below n y)) [
      | inl lower ↦ before (byte_at n x) (byte_at n y) (bytes_high_first n x ++ a) (bytes_high_first n y ++ b) lower
      | inr same ↦ behind (byte_at n x) (byte_at n y) (bytes_high_first n x ++ a) (bytes_high_first n y ++ b) same.0 (numbers_rise n x y a b same.1)
    ]

-- ids in order have bytes in order
ids_rise : (i j : ℕ) (a b : List ℕ) → i < j → j < 2 ^ 64 → byte_order (bytes_high_first 8 i ++ a) (bytes_high_first 8 j ++ b) ≡ Less
ids_rise i j a b h bound =
    let size : 2 ^ 64 ≡ 256 ^ 8 = refl in
    let low : i < 256 ^ 8 = omega arith in
    let high : j < 256 ^ 8 = omega arith in
    let modulo : i % 256 ^ 8 < j % 256 ^ 8 = rw (mod-eq_of_lt low, mod-eq_of_lt high) h in
    numbers_rise 8 i j a b modulo

-- ---- keys

-- by id, and then by name
pub config_keys_rise : (i j : ℕ) (a b : List ℕ) → i < j → j < 2 ^ 64 → byte_order (config_key i a) (config_key j b) ≡ Less
config_keys_rise i j a b h bound = ids_rise i j a b h bound

pub names_in_key_rise : (i : ℕ) (a b : List ℕ) → byte_order a b ≡ Less → byte_order (config_key i a) (config_key i b) ≡ Less
names_in_key_rise i a b h = after_front (bytes_high_first 8 i) a b h

pub name_keys_rise : (i j : ℕ) → i < j → j < 2 ^ 64 → byte_order (name_key i) (name_key j) ≡ Less
name_keys_rise i j h bound = ids_rise i j [] [] h bound

-- ---- entries

abbrev Before : MetaEntry → MetaEntry → Type 0
Before a b = byte_order a.key b.key ≡ Less

abbrev is_before_all : StoredOption → List StoredOption → Bool
is_before_all o [] = true
is_before_all o (p ∷ ps) = is_lt (byte_order (option_name o) (option_name p)) && is_before_all o ps

abbrev are_by_name : List StoredOption → Bool
are_by_name [] = true
are_by_name (o ∷ os) = is_before_all o os && are_by_name os

lower : (o : Ordering) → is_lt o ≡ true → o ≡ Less
lower Less e = refl
lower Equal e = absurd cc
lower Greater e = absurd cc

below_each : (k : LivingKeyspace) (o : StoredOption) (os : List StoredOption) → is_before_all o os ≡ true → All (λ p. Before (option_entry k o) (option_entry k p)) os
below_each k o [] e = All-nil (λ p. Before (option_entry k o) (option_entry k p))
below_each k o (p ∷ ps) e =
    let parts = and_parts (is_lt (byte_order (option_name o) (option_name p))) (is_before_all o ps) e in
    let first : Before (option_entry k o) (option_entry k p) = names_in_key_rise k.id (option_name o) (option_name p) (lower (byte_order (option_name o) (option_name p)) parts.0) in
    All-cons (λ q. Before (option_entry k o) (option_entry k q)) p ps first (below_each k o ps parts.1)

by_name_rise : (k : LivingKeyspace) (os : List StoredOption) → are_by_name os ≡ true → Rises (λ o p. Before (option_entry k o) (option_entry k p)) os
by_name_rise k [] e = tt
by_name_rise k (o ∷ os) e =
    let parts = and_parts (is_before_all o os) (are_by_name os) e in
    (below_each k o os parts.0, by_name_rise k os parts.1)

-- the options of a keyspace
options_rise : (k : LivingKeyspace) → Rises Before (option_entries k)
unfolding option_entries
options_rise k = mapped Before (option_entry k) options_by_name (by_name_rise k options_by_name refl)

-- an option of some keyspace that has P
record IsOptionOf (P : LivingKeyspace → Type 0) (e : MetaEntry) : Type 0 where
  of : LivingKeyspace
  has : P of
  option : StoredOption
  key : e.key ≡ config_key of.id (option_name option)

each_option : (P : LivingKeyspace → Type 0) (k : LivingKeyspace) → P k → All (IsOptionOf P) (option_entries k)
unfolding option_entries
each_option P k has =
    let one : All (λ o. IsOptionOf P (option_entry k o)) options_by_name = λ i o within. record { of = k; has = has; option = get_or options_by_name i o; key = refl } in
    All-map (IsOptionOf P) (option_entry k) options_by_name one

all_options : (P : LivingKeyspace → Type 0) (living : List LivingKeyspace) → All P living → All (IsOptionOf P) (flat_map option_entries living)
all_options P [] all = All-nil (IsOptionOf P)
all_options P (k ∷ living) all =
    All-append (IsOptionOf P) (option_entries k) (flat_map option_entries living) (each_option P k (All-head P k living all)) (all_options P living (All-tail P k living all))

record IsAbove (n : ℕ) (k : LivingKeyspace) : Type 0 where
  above : n < k.id
  bound : k.id < 2 ^ 64

above_all : (n : ℕ) (living : List LivingKeyspace) → All (λ k. n < k.id) living → All (λ k. k.id < 2 ^ 64) living → All (IsAbove n) living
above_all n living above bound = λ i d within. record { above = above i d within; bound = bound i d within }

option_before : (k : LivingKeyspace) (a b : MetaEntry) → IsOptionOf (λ j. j.id ≡ k.id) a → IsOptionOf (IsAbove k.id) b → Before a b
option_before k a b first second =
    let rise = config_keys_rise k.id second.of.id (option_name first.option) (option_name second.option) second.has.above second.has.bound in
    rw (first.key, second.key, first.has) rise

all_options_rise : (living : List LivingKeyspace) → Rises (λ j k. j.id < k.id) living → All (λ k. k.id < 2 ^ 64) living → Rises Before (flat_map option_entries living)
all_options_rise [] rise bound = tt
all_options_rise (k ∷ living) rise bound =
    let rest = All-tail (λ (j : LivingKeyspace). j.id < 2 ^ 64) k living bound in
    let first = each_option (λ j. j.id ≡ k.id) k refl in
    let others = all_options (IsAbove k.id) living (above_all k.id living rise.0 rest) in
    joined Before (option_entries k) (flat_map option_entries living) (options_rise k) (all_options_rise living rise.1 rest)
    (All-weaker (IsOptionOf (λ j. j.id ≡ k.id)) (λ a. All (λ b. Before a b) (flat_map option_entries living)) (λ a ha. All-weaker (IsOptionOf (IsAbove k.id)) (λ b. Before a b) (λ b hb. option_before k a b ha hb) (flat_map option_entries living) others) (option_entries k) first)

all_names_rise : (living : List LivingKeyspace) → Rises (λ j k. j.id < k.id) living → All (λ k. k.id < 2 ^ 64) living → Rises Before (map name_entry living)
all_names_rise living rise bound =
    mapped Before name_entry living (weaker (λ j k. j.id < k.id) (λ j k. Before (name_entry j) (name_entry k)) (λ k. k.id < 2 ^ 64) (λ j k hj hk h. name_keys_rise j.id k.id h hk) living bound rise)

option_before_name : (a : MetaEntry) (k : LivingKeyspace) → IsOptionOf (λ j. Unit {0}) a → Before a (name_entry k)
option_before_name a k h = rw h.key refl

-- each key is above those before it
pub entries_ascend : (living : List LivingKeyspace) → AllPairs (λ j k. j.id < k.id) living → All (λ k. k.id < 2 ^ 64) living → IsAscending (entries_of living)
entries_ascend living ascending bound =
    let rise = from_pairs (λ (j : LivingKeyspace) (k : LivingKeyspace). j.id < k.id) living ascending in
    let options = all_options (λ j. Unit {0}) living (λ i d within. tt) in
    let cross = All-weaker (IsOptionOf (λ j. Unit {0})) (λ a. All (λ b. Before a b) (map name_entry living)) (λ a ha. All-map (λ b. Before a b) name_entry living (λ i d within. option_before_name a (get_or living i d) ha)) (flat_map option_entries living) options in
    pairs_from Before (entries_of living) (joined Before (flat_map option_entries living) (map name_entry living) (all_options_rise living rise bound) (all_names_rise living rise bound) cross)

-- so are those of lawful keyspaces
pub lawful_ascend : (s : Keyspaces) → AreKeyspaces s → IsAscending (entries_of s.living)
lawful_ascend s all =
    let fits = all.fits in
    entries_ascend s.living all.ascending (All-weaker (λ k. k.id < s.next) (λ k. k.id < 2 ^ 64) (λ k h. omega arith) s.living all.given)
