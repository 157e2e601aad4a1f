-- Several runs of versions, each in a table's order, gone through as one from either end.
use Rattle.std.specs.Prelude.{◌≡◌, ℕ, Bool, true, false, if◌then◌else◌, List, [], ◌∷◌, reverse, Option, Some, None, slice_get}
use Rattle.std.specs.List.{flat_map, All}
use Rattle.fjall_table.specs.Blocks.{Entry, IsBefore, IsOrdered}
use Rattle.fjall_memtable.specs.Entries.{inserted}

-- all versions of runs, run after run
abbrev pub flat : List (List Entry) → List Entry
flat runs = flat_map (λ run. run) runs

-- these versions in order: by key ascending, then by number descending
abbrev pub sorted : List Entry → List Entry
sorted [] = []
sorted (v ∷ versions) = inserted v (sorted versions)

-- a list as it is gone through, from its start or from behind
abbrev pub in_turn : {A : Type 0} → Bool → List A → List A
in_turn back xs = if back then reverse xs else xs

-- A run of versions in order, as it is gone through.
abbrev pub IsInTurn : Bool → List Entry → Type 0
IsInTurn back run = IsOrdered (in_turn back run)

-- The first doesn't come behind the second as they are gone through.
abbrev pub IsUpTo : Bool → Entry → Entry → Type 0
IsUpTo false v w = IsBefore w v → ⊥
IsUpTo true v w = IsBefore v w → ⊥

-- the version doesn't come behind the first of a run
abbrev pub IsUpToFirst : Bool → Entry → List Entry → Type 0
IsUpToFirst back v [] = Unit {0}
IsUpToFirst back v (w ∷ run) = IsUpTo back v w

-- Of these runs that one begins with this version, and none begins with one before it.
pub record IsFirstOf (back : Bool) (runs : List (List Entry)) (at : ℕ) (v : Entry) (rest : List Entry) : Type 0 where
  pub here : slice_get runs at ≡ Some (v ∷ rest)
  pub first : All (IsUpToFirst back v) runs

-- which of the runs begins with what comes first of all; none where no run has a version
abbrev pub IsFirst : Bool → List (List Entry) → Option ℕ → Type 0
IsFirst back runs None = All (λ run. run ≡ []) runs
IsFirst back runs (Some at) = (v : Entry) × (rest : List Entry) × IsFirstOf back runs at v rest
