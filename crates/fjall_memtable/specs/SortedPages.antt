-- What a page makes of versions in order, by one look at each.
use Rattle.std.specs.Prelude.{ℕ, Bool, false, not, nat_lt, max, ◌||◌, if◌then◌else◌, List, [], ◌∷◌, ◌++◌, Option, Some, None}
use Rattle.std.specs.Str.{bytes_eq}
use Rattle.fjall_base.specs.Pairs.{Bytes}
use Rattle.fjall_table.specs.Blocks.{Entry}

-- The greatest clear below the instant, or 0: at the instant all that is numbered below it is cleared, and nothing else.
abbrev pub barrier : ℕ → List ℕ → ℕ
barrier instant [] = 0
barrier instant (n ∷ clears) = if nat_lt n instant then max n (barrier instant clears) else barrier instant clears

-- the pair of a key that has a value
abbrev pub pair_in : Bytes → Option Bytes → List (Bytes × Bytes)
pair_in key None = []
pair_in key (Some value) = (key, value) ∷ []

-- the pair that a key's newest version makes, where all that is numbered below the bound is cleared
abbrev pub pair_of : ℕ → Entry → List (Bytes × Bytes)
pair_of bound v = if nat_lt v.number bound then [] else pair_in v.key v.value

-- ---- from the start

-- whether the key was settled by the version before
abbrev pub is_settled : Option Bytes → Entry → Bool
is_settled None v = false
is_settled (Some key) v = bytes_eq v.key key

-- the pairs of versions in order: the first of a key that is numbered below the instant settles it
abbrev pub pairs_of : ℕ → ℕ → Option Bytes → List Entry → List (Bytes × Bytes)
pairs_of instant bound settled [] = []
pairs_of instant bound settled (v ∷ versions) =
    if is_settled settled v || not (nat_lt v.number instant)
    then pairs_of instant bound settled versions
    else (pair_of bound v ++ pairs_of instant bound (Some v.key) versions)

-- ---- from behind

-- the pair of the version that was last found to be the newest of its key yet
abbrev pub pair_found : ℕ → Option Entry → List (Bytes × Bytes)
pair_found bound None = []
pair_found bound (Some v) = pair_of bound v

-- whether a version is of another key than the one found
abbrev pub is_another : Option Entry → Entry → Bool
is_another None v = false
is_another (Some found) v = not (bytes_eq v.key found.key)

-- what is found, once one more version was looked at: that one, where it is numbered below the instant
abbrev pub found_with : ℕ → Option Entry → Entry → Option Entry
found_with instant found v = if nat_lt v.number instant then Some v else found

-- the pairs of versions in reversed order, the last first: the last of a key that is numbered below the instant settles it
abbrev pub pairs_back : ℕ → ℕ → Option Entry → List Entry → List (Bytes × Bytes)
pairs_back instant bound found [] = pair_found bound found
pairs_back instant bound found (v ∷ versions) =
    if is_another found v
    then (pair_found bound found ++ pairs_back instant bound (found_with instant None v) versions)
    else pairs_back instant bound (found_with instant found v) versions
