-- Pairs in the making, and the key that was set last.
use Rattle.std.proofs.Common.{◌≡◌, ℕ, ◌<◌, ◌≤◌, Bool, true, false, not, Option, Some, List, [], ◌∷◌, ◌++◌, None, length, take, refl, ap, ◌∙◌, arith, length-append}
use Rattle.std.proofs.lemmas.List.{take_all}
use Rattle.std.specs.Prelude.{if◌then◌else◌, nat_lt}
use Rattle.std.specs.List.{slice_get}
use Rattle.std.specs.Option.{option_map}
use Rattle.std.specs.Str.{bytes_eq}
use Rattle.std.proofs.lemmas.Bool.Decides.{nat_tests}
use Rattle.fjall_base.specs.Pairs.{Bytes}
use Rattle.fjall_table.specs.Blocks.{Entry}
use Rattle.fjall_memtable.specs.SortedPages.{found_with, is_another, pair_found, pair_in, pair_of, pairs_back}
use Rattle.fjall_cursors.specs.Keyed.{found_in, keyed_in, pairs_of_last}

-- ---- the version that a run begins with

pub begins : (left : List Entry) (v w : Entry) (rest : List Entry) → Some w ≡ slice_get left 0 → left ≡ v ∷ rest → w ≡ v
begins left v w rest head is = cc (head ∙ ap (λ (es : List Entry). slice_get es 0) is)

pub owned : (left : List Entry) (v : Entry) (rest : List Entry) (pair : Bytes × Option Bytes) → Some pair ≡ option_map keyed_in (slice_get left 0) → left ≡ v ∷ rest → pair ≡ (v.key, v.value)
owned left v rest pair head is = cc (head ∙ ap (λ (es : List Entry). option_map keyed_in (slice_get es 0)) is)

-- ---- from behind

alike : (instant bound : ℕ) (v f g : Entry) (versions : List Entry) → ((t : Bool) → pairs_back instant bound (if t then Some v else Some f) versions ≡ pairs_back instant bound (if t then Some v else Some g) versions) → f.key ≡ g.key → pair_of bound f ≡ pair_of bound g
    → pairs_back instant bound (Some f) (v ∷ versions) ≡ pairs_back instant bound (Some g) (v ∷ versions)
alike instant bound v f g versions more key pair =
    λ i. if not (bytes_eq v.key (key i)) then (pair i ++ pairs_back instant bound (found_with instant None v) versions) else more (nat_lt v.number instant) i

found_either : (instant bound : ℕ) (v f g : Entry) (versions : List Entry) → pairs_back instant bound (Some f) versions ≡ pairs_back instant bound (Some g) versions
    → (t : Bool) → pairs_back instant bound (if t then Some v else Some f) versions ≡ pairs_back instant bound (if t then Some v else Some g) versions
found_either instant bound v f g versions more true = refl
found_either instant bound v f g versions more false = more

-- versions of one key that make the same pair are found alike
found_alike : (instant bound : ℕ) (f g : Entry) (versions : List Entry) → f.key ≡ g.key → pair_of bound f ≡ pair_of bound g → pairs_back instant bound (Some f) versions ≡ pairs_back instant bound (Some g) versions
found_alike instant bound f g [] key pair = pair
found_alike instant bound f g (v ∷ versions) key pair = alike instant bound v f g versions (found_either instant bound v f g versions (found_alike instant bound f g versions key pair)) key pair

found_step : (instant bound : ℕ) (found : Option Entry) (v : Entry) (versions : List Entry) → is_another found v ≡ false → nat_lt v.number instant ≡ true → pairs_back instant bound (Some v) versions ≡ pairs_back instant bound found (v ∷ versions)
found_step instant bound None v versions same lt = rw lt refl
found_step instant bound (Some f) v versions same lt = rw (same, lt) refl

pair_at : (bound : ℕ) (key : Bytes) (value : Option Bytes) → pair_of bound (record { key = key; number = bound; value = value }) ≡ pair_in key value
pair_at bound key value = rw (not_below bound) refl
  where
    not_below : (n : ℕ) → nat_lt n n ≡ false
    not_below n = grind (arith, nat_tests)

-- the newest version yet of the last key
pub looked_back : (instant bound : ℕ) (before new_before : List (Bytes × Bytes)) (last new_last : Option (Bytes × Option Bytes)) (v : Entry) (value : Option Bytes) (versions : List Entry) → new_before ≡ before → new_last ≡ Some (v.key, value) → pair_in v.key value ≡ pair_of bound v
    → is_another (found_in bound last) v ≡ false → v.number < instant → new_before ++ pairs_back instant bound (found_in bound new_last) versions ≡ before ++ pairs_back instant bound (found_in bound last) (v ∷ versions)
looked_back instant bound before new_before last new_last v value versions same is pair of lt =
    (λ i. same i ++ pairs_back instant bound (found_in bound (is i)) versions)
    ∙ ap (λ (pairs : List (Bytes × Bytes)). before ++ pairs) (found_alike instant bound (record { key = v.key; number = bound; value = value }) v versions refl (pair_at bound v.key value ∙ pair) ∙ found_step instant bound (found_in bound last) v versions of (grind (arith, nat_tests)))

-- the pair of the last key, where no version is left
found_last : (bound : ℕ) (last : Option (Bytes × Option Bytes)) → pair_found bound (found_in bound last) ≡ pairs_of_last last
found_last bound None = refl
found_last bound (Some last) = pair_at bound last.0 last.1

last_few : (last : Option (Bytes × Option Bytes)) → length (pairs_of_last last) ≤ 1
last_few None = omega arith
last_few (Some (key, None)) = omega arith
last_few (Some (key, Some value)) = omega arith

pub ended_back : (bound max : ℕ) (before : List (Bytes × Bytes)) (last : Option (Bytes × Option Bytes)) → length before < max → take max (before ++ pair_found bound (found_in bound last)) ≡ before ++ pairs_of_last last
ended_back bound max before last lt =
    let n = length-append before (pairs_of_last last) in
    let few = last_few last in
    ap (λ (pairs : List (Bytes × Bytes)). take max (before ++ pairs)) (found_last bound last) ∙ take_all max (before ++ pairs_of_last last) (omega (arith, n, few))
