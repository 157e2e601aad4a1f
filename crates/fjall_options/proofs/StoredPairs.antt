-- Options that are stored as pairs, and read from them.
use Rattle.std.proofs.Common.{◌≡◌, ℕ, zero, suc, ◌+◌, ◌<◌, ◌≤◌, Bool, true, false, ◌&&◌, not, cond, List, [], ◌∷◌, ◌++◌, length, get_or, take, drop, map, refl, sym, ap, ◌∙◌, append_assoc, arith, add-one, Option, None, Some, Result, Ok, Err, inl, inr}
use Rattle.std.proofs.Math.Seq.{drop-cons, take-suc}
use Rattle.std.proofs.lemmas.List.{append-nil, drop_at, map-append, drop_all, take_all}
use Rattle.std.proofs.lemmas.Slice.Eq.{bytes_eq-Decides}
use Rattle.std.proofs.lemmas.Bool.{cases_Bool, and_parts}
use Rattle.std.specs.List.{slice_get, AllByRecursion}
use Rattle.std.specs.Str.{bytes_eq}
use Rattle.byteorder.specs.Endian.{big_bytes}
use Rattle.fjall_base.specs.declared.error.Error.{Error}
use Rattle.fjall_base.specs.declared.error.Error.TheVariants as errors
use Rattle.fjall_base.specs.declared.error.StorageError.{StorageError}
use Rattle.fjall_base.specs.declared.error.StorageError.TheVariants.{OptionInvalid}
use Rattle.fjall_options.specs.declared.options.stored_option.StoredOption.{StoredOption}
use Rattle.fjall_options.specs.declared.options.stored_option.StoredOption.TheVariants.{CompactionStrategy}
use Rattle.fjall_base.specs.Results.{◌>>=◌}
use Rattle.fjall_base.proofs.Results.{bind_ok}
use Rattle.fjall_options.specs.Options.{stored_options, place, option_name, is_value, value_at, AreOptions, config_key, config_pair, config_pairs, value_of, valid_value, stored_value, stored_values, RefusesStored}
use Rattle.fjall_options.proofs.OptionTables.{placed}

-- ---- keys

abbrev Pair : Type 0
Pair = List ℕ × List ℕ

same_key : (key : List ℕ) → bytes_eq key key ≡ true
same_key key = (bytes_eq-Decides key key).1 refl

-- keys of other names are others
other_key : (id : ℕ) (a b : List ℕ) → bytes_eq a b ≡ false → bytes_eq (config_key id a) (config_key id b) ≡ false
other_key id a b differ =
    let front : List ℕ = 0x63 ∷ big_bytes 8 id in
    elim (cases_Bool (bytes_eq (config_key id a) (config_key id b))) [
      | inl is ↦
          let keys : front ++ a ≡ front ++ b = (bytes_eq-Decides (config_key id a) (config_key id b)).0 is in
          let names : a ≡ b = sym (drop_at front a (length front) refl) ∙ ap (λ (k : List ℕ). drop (length front) k) keys ∙ drop_at front b (length front) refl in
          let test : bytes_eq a b ≡ true = (bytes_eq-Decides a b).1 names in
          absurd (cc (test, differ))
      | inr other ↦ other
    ]

abbrev is_fresh : StoredOption → List StoredOption → Bool
is_fresh option [] = true
is_fresh option (other ∷ others) = not (bytes_eq (option_name option) (option_name other)) && is_fresh option others

abbrev are_distinct : List StoredOption → Bool
are_distinct [] = true
are_distinct (option ∷ options) = is_fresh option options && are_distinct options

not_true : (b : Bool) → not b ≡ true → b ≡ false
not_true true e = absurd cc
not_true false e = refl

-- ---- what was stored is read

abbrev Holds : ℕ → List (List ℕ) → List Pair → List StoredOption → Type 0
Holds id options pairs those = AllByRecursion (λ o. value_of (config_key id (option_name o)) pairs ≡ Some (value_at o options)) those

holds_behind : (id : ℕ) (options : List (List ℕ)) (first : StoredOption) (pairs : List Pair) (those : List StoredOption) → is_fresh first those ≡ true → Holds id options pairs those → Holds id options (config_pair id options first ∷ pairs) those
holds_behind id options first pairs [] fresh holds = tt
holds_behind id options first pairs (o ∷ those) fresh holds =
    let parts = and_parts (not (bytes_eq (option_name first) (option_name o))) (is_fresh first those) fresh in
    let no = other_key id (option_name first) (option_name o) (not_true (bytes_eq (option_name first) (option_name o)) parts.0) in
    (rw no holds.0, holds_behind id options first pairs those parts.1 holds.1)

holds_all : (id : ℕ) (options : List (List ℕ)) (those : List StoredOption) → are_distinct those ≡ true → Holds id options (map (config_pair id options) those) those
holds_all id options [] distinct = tt
holds_all id options (o ∷ those) distinct =
    let parts = and_parts (is_fresh o those) (are_distinct those) distinct in
    (rw (same_key (config_key id (option_name o))) refl, holds_behind id options o (map (config_pair id options) those) those parts.0 (holds_all id options those parts.1))

read_all : (id : ℕ) (options : List (List ℕ)) (pairs : List Pair) (those : List StoredOption) → AreOptions options → Holds id options pairs those → stored_values id pairs those ≡ Ok (map (λ o. value_at o options) those)
unfolding stored_values
read_all id options pairs [] all holds = refl
read_all id options pairs (o ∷ those) all holds = rw (holds.0, all.valid o, read_all id options pairs those all holds.1) refl

-- the elements from a place on
abbrev from : ℕ → ℕ → List (List ℕ) → List (List ℕ)
from i zero xs = []
from i (suc n) xs = get_or xs i [] ∷ from (i + 1) n xs

from_is : (i n : ℕ) (xs : List (List ℕ)) → length xs ≡ i + n → from i n xs ≡ drop i xs
from_is i zero xs len = sym (drop_all i xs (omega (arith, len)))
from_is i (suc n) xs len =
    let lt : i < length xs = omega (arith, len) in
    rw (from_is (i + 1) n xs (omega (arith, len)), add-one, drop-cons xs i [] lt) refl

-- options are their values in the options' order
pub all_values : (options : List (List ℕ)) → length options ≡ 20 → map (λ o. value_at o options) stored_options ≡ options
all_values options len = from_is 0 20 options len

pub read_back : (id : ℕ) (options : List (List ℕ)) → AreOptions options → stored_values id (config_pairs id options) stored_options ≡ Ok options
unfolding config_pairs
read_back id options all =
    read_all id options (config_pairs id options) stored_options all (holds_all id options stored_options refl) ∙ ap (λ (vs : List (List ℕ)). Ok vs) (all_values options all.complete)

-- ---- what is read are options

valid_if : (b : Bool) (w v : List ℕ) → cond b (Ok w) (Err OptionInvalid) ≡ Ok v → (b ≡ true) × (w ≡ v)
valid_if true w v e = (refl, cc)
valid_if false w v e = absurd cc

valid_ok : (o : StoredOption) (found : Option (List ℕ)) (v : List ℕ) → valid_value o found ≡ Ok v → is_value o v ≡ true
valid_ok o None v e = absurd cc
valid_ok o (Some w) v e = let h = valid_if (is_value o w) w v e in ap (λ (x : List ℕ). is_value o x) (sym h.1) ∙ h.0

record Valid (those : List StoredOption) (values : List (List ℕ)) : Type 0 where
  many : length values ≡ length those
  each : (i : ℕ) (o : StoredOption) → slice_get those i ≡ Some o → is_value o (get_or values i []) ≡ true

read_valid : (id : ℕ) (pairs : List Pair) (those : List StoredOption) (values : List (List ℕ)) → stored_values id pairs those ≡ Ok values → Valid those values
unfolding stored_values
read_valid id pairs [] [] e = record { many = refl; each = λ i o h. absurd cc }
read_valid id pairs [] (v ∷ values) e = absurd cc
read_valid id pairs (o ∷ those) values e =
    let a = bind_ok (stored_value id pairs o) (λ value. stored_values id pairs those >>= λ others. Ok (value ∷ others)) values e in
    let b = bind_ok (stored_values id pairs those) (λ others. Ok (a.0 ∷ others)) values a.2 in
    let is : a.0 ∷ b.0 ≡ values = cc (b.2) in
    let rest = read_valid id pairs those b.0 b.1 in
    rw (← is) (record {
      many = ap suc rest.many;
      each = elim [ zero ↦ λ p h. (let same : o ≡ p = cc h in rw (← same) (valid_ok o (value_of (config_key id (option_name o)) pairs) a.0 a.1)) | suc i ↦ λ p h. rest.each i p h ];
    })

pub read_options : (id : ℕ) (pairs : List Pair) (values : List (List ℕ)) → stored_values id pairs stored_options ≡ Ok values → AreOptions values
read_options id pairs values e =
    let h = read_valid id pairs stored_options values e in
    record { complete = h.many; valid = λ o. h.each (place o) o (placed o) }

-- ---- loops over the options

abbrev pub with_before : List (List ℕ) → Result (List (List ℕ)) StorageError → Result (List (List ℕ)) StorageError
with_before front read = read >>= λ values. Ok (front ++ values)

regroup : (front : List (List ℕ)) (value : List ℕ) (read : Result (List (List ℕ)) StorageError) → with_before front (read >>= λ values. Ok (value ∷ values)) ≡ with_before (front ++ value ∷ []) read
regroup front value (Ok values) = rw (append_assoc front (value ∷ []) values) refl
regroup front value (Err cause) = refl

-- the option that a loop is at
abbrev pub item : ℕ → StoredOption
item i = get_or stored_options i CompactionStrategy

next_option : (i : ℕ) → i < 20 → drop i stored_options ≡ item i ∷ drop (i + 1) stored_options
next_option i lt = rw add-one (drop-cons stored_options i CompactionStrategy lt)

pub value_read : (id : ℕ) (pairs : List Pair) (front : List (List ℕ)) (i : ℕ) (value : List ℕ) (total : Result (List (List ℕ)) StorageError) → i < 20 → stored_value id pairs (item i) ≡ Ok value
    → with_before front (stored_values id pairs (drop i stored_options)) ≡ total → with_before (front ++ value ∷ []) (stored_values id pairs (drop (i + 1) stored_options)) ≡ total
unfolding stored_values
value_read id pairs front i value total lt h so_far =
    let one : with_before front (stored_values id pairs (drop i stored_options)) ≡ with_before (front ++ value ∷ []) (stored_values id pairs (drop (i + 1) stored_options)) =
    rw (next_option i lt, h) (regroup front value (stored_values id pairs (drop (i + 1) stored_options))) in
    sym one ∙ so_far

pub value_refused : (error : Error) (id : ℕ) (pairs : List Pair) (front : List (List ℕ)) (i : ℕ) (total : Result (List (List ℕ)) StorageError) → i < 20 → RefusesStored error (stored_value id pairs (item i))
    → with_before front (stored_values id pairs (drop i stored_options)) ≡ total → RefusesStored error total
unfolding stored_values
value_refused errors.OutOfMemory id pairs front i total lt h so_far = tt
value_refused (errors.Storage cause) id pairs front i total lt h so_far = sym so_far ∙ rw (next_option i lt, h) refl
value_refused error id pairs front i total lt h so_far = absurd h

pub all_read : (id : ℕ) (pairs : List Pair) (front : List (List ℕ)) (i : ℕ) (total : Result (List (List ℕ)) StorageError) → 20 ≤ i
    → with_before front (stored_values id pairs (drop i stored_options)) ≡ total → total ≡ Ok front
unfolding stored_values
all_read id pairs front i total ge so_far =
    let none : drop i stored_options ≡ [] = drop_all i stored_options ge in
    sym so_far ∙ rw (none, append-nil front) refl

-- what each option gives, one option more
pub one_more : {X : Type 0} (f : StoredOption → X) (options : List StoredOption) (i : ℕ) → i < length options → map f (take (i + 1) options) ≡ map f (take i options) ++ f (get_or options i CompactionStrategy) ∷ []
one_more f options i lt =
    let option = get_or options i CompactionStrategy in
    let next : take (i + 1) options ≡ take i options ++ option ∷ [] = ap (λ (n : ℕ). take n options) (add-one i) ∙ take-suc options i CompactionStrategy lt in
    ap (λ (os : List StoredOption). map f os) next ∙ map-append f (take i options) (option ∷ [])

pub all_done : {X : Type 0} (f : StoredOption → X) (options : List StoredOption) (i : ℕ) → length options ≤ i → map f (take i options) ≡ map f options
all_done f options i ge = ap (λ (os : List StoredOption). map f os) (take_all i options ge)
