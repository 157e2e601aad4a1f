-- Keyspaces that wait for a flush, each by its id, the one that waits longest first.
use Rattle.std.specs.Prelude.{ℕ, ◌≢◌, Bool, List, [], ◌∷◌, ◌++◌, if◌then◌else◌, AllPairs, nat_eq}
use Rattle.std.specs.List.{list_any}

-- no keyspace waits twice
abbrev pub EachWaitsOnce : List ℕ → Type 0
EachWaitsOnce ids = AllPairs (λ a b. a ≢ b) ids

-- whether a keyspace waits
abbrev pub is_waiting : ℕ → List ℕ → Bool
is_waiting id ids = list_any (nat_eq id) ids

-- the queue in which the keyspace waits too: behind all others, or where it waits already
abbrev pub with_waiting : ℕ → List ℕ → List ℕ
with_waiting id ids = if is_waiting id ids then ids else ids ++ id ∷ []
