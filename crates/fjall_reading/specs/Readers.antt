-- What reads of a map answer.
use Rattle.std.specs.Prelude.{◌≡◌, ⊤, ℕ, ◌-◌, ◌^◌, length, min, drop, List, [], ◌∷◌, Bool, true, false, Option, Some, None, Ok, Err}
use Rattle.std.specs.declared.ops.Bound.TheVariants.{Unbounded}
use Rattle.fjall_base.specs.Pairs.{Bytes, KeyRange, Pairs, pairs_between}
use Rattle.fjall_reading.specs.Guards.{Found}

-- the range of all keys
abbrev pub whole : KeyRange
whole = (Unbounded, Unbounded)

-- all pairs of a map, in the order of their keys
abbrev pub all_of : Pairs → List (Bytes × Bytes)
all_of pairs = pairs_between whole pairs

-- how many pairs a map has; more than can be counted count as the most that can be
abbrev pub count_of : Pairs → ℕ
count_of pairs = min (length (all_of pairs)) (2 ^ 64 - 1)

-- the first of some pairs
abbrev pub first_of : List (Bytes × Bytes) → Option (Bytes × Bytes)
first_of [] = None
first_of (pair ∷ rest) = Some pair

-- the last of some pairs
abbrev pub last_of : List (Bytes × Bytes) → Option (Bytes × Bytes)
last_of pairs = first_of (drop (length pairs - 1) pairs)

-- a read for one pair found this one, or none, or met a fault
abbrev pub FindsOf : Option (Bytes × Bytes) → Option Found → Type 0
FindsOf wanted None = wanted ≡ None
FindsOf wanted (Some (Ok pair)) = wanted ≡ Some pair
FindsOf wanted (Some (Err error)) = ⊤

-- whether there is no pair
abbrev pub is_none_of : List (Bytes × Bytes) → Bool
is_none_of [] = true
is_none_of (pair ∷ rest) = false
