-- What is read by the entries of a field, and how such reads go.
use Rattle.std.specs.Prelude.{◌⊎◌, ℕ, List, [], ◌∷◌, map, drop, Option, Some, None}
use Rattle.fjall_base.specs.Pairs.{Bytes, Pairs, lookup}
use Rattle.fjall_base.specs.declared.error.Error.{Error}

-- the keys of these pairs, in their order
abbrev pub keys_in : List (Bytes × Bytes) → List Bytes
keys_in pairs = map (λ pair. pair.0) pairs

-- each of these without so many bytes at its front
abbrev pub behind_all : ℕ → List Bytes → List Bytes
behind_all front entries = map (λ entry. drop front entry) entries

-- ahead of these pairs that of a key, where it has a value
abbrev pub with_value : Bytes → Option Bytes → List (Bytes × Bytes) → List (Bytes × Bytes)
with_value key None rest = rest
with_value key (Some value) rest = (key, value) ∷ rest

-- these keys with their values in a map, in the same order, without those that have none
abbrev pub valued : Pairs → List Bytes → List (Bytes × Bytes)
valued pairs [] = []
valued pairs (key ∷ keys) = with_value key (lookup pairs key) (valued pairs keys)

-- it goes as reads of the main keyspace do, or as reads of the index keyspace do
abbrev pub ReadsEither : {R : Type 0} → (R → ℕ → Option Error → R → Type 0) → R → ℕ → ℕ → Option Error → R → Type 0
ReadsEither reads old main index error new = reads old main error new ⊎ reads old index error new
