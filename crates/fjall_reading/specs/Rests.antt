-- What an iterator has left, and what taking from its ends does.
use Rattle.std.specs.Prelude.{◌≡◌, ◌-◌, ℕ, List, [], ◌∷◌, ◌++◌, drop, length, take, Option, Some, None, Result, Ok, Err}
use Rattle.std.specs.declared.ops.Bound.TheVariants.{Excluded}
use Rattle.fjall_base.specs.Pairs.{Bytes, KeyRange, Pairs, pairs_between}
use Rattle.fjall_base.specs.declared.error.Error.{Error}

-- what is left between pages: none, or the pairs of a range
abbrev pub middle : Option KeyRange → Pairs → List (Bytes × Bytes)
middle None pairs = []
middle (Some range) pairs = pairs_between range pairs

-- what is left of a range behind a page of it, where the page was its first pairs, so many at most
abbrev pub IsLeftBehind : ℕ → List (Bytes × Bytes) → KeyRange → Option KeyRange → Type 0
IsLeftBehind len page range rest = (pairs : Pairs) → page ≡ take len (pairs_between range pairs) → page ++ middle rest pairs ≡ pairs_between range pairs

-- the last so many of some pairs, or all of them
abbrev pub last_page : ℕ → List (Bytes × Bytes) → List (Bytes × Bytes)
last_page len pairs = drop (length pairs - len) pairs

-- and ahead of a page, where it was its last ones
abbrev pub IsLeftAhead : ℕ → List (Bytes × Bytes) → KeyRange → Option KeyRange → Type 0
IsLeftAhead len page range rest = (pairs : Pairs) → page ≡ last_page len (pairs_between range pairs) → middle rest pairs ++ page ≡ pairs_between range pairs

-- The answer of `next`: the first of what is left, or none where nothing is. A fault leaves nothing.
abbrev pub TakesFirst : List (Bytes × Bytes) → Option (Result (Bytes × Bytes) Error) → List (Bytes × Bytes) → Type 0
TakesFirst old None new = (old ≡ []) × (new ≡ [])
TakesFirst old (Some (Ok pair)) new = old ≡ pair ∷ new
TakesFirst old (Some (Err error)) new = new ≡ []

-- and of `next_back` the last
abbrev pub TakesLast : List (Bytes × Bytes) → Option (Result (Bytes × Bytes) Error) → List (Bytes × Bytes) → Type 0
TakesLast old None new = (old ≡ []) × (new ≡ [])
TakesLast old (Some (Ok pair)) new = old ≡ new ++ pair ∷ []
TakesLast old (Some (Err error)) new = new ≡ []

-- the fault that such an answer tells of, where it is one
abbrev pub error_in : Option (Result (Bytes × Bytes) Error) → Option Error
error_in None = None
error_in (Some (Ok pair)) = None
error_in (Some (Err error)) = Some error

-- the range behind a key
abbrev pub behind : Bytes → KeyRange → KeyRange
behind key range = (Excluded key, range.1)

abbrev pub ahead_of : Bytes → KeyRange → KeyRange
ahead_of key range = (range.0, Excluded key)
