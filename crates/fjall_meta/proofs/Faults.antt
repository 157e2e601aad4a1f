-- Faults of stored keyspaces, one after another.
use Rattle.std.proofs.Common.{◌≡◌, ℕ, ◌+◌, ◌<◌, List, ◌∷◌, length, get_or, drop, refl, ◌∙◌, add-one, Ok}
use Rattle.std.proofs.Math.Seq.{drop-cons}
use Rattle.fjall_base.specs.declared.error.Error.{Error}
use Rattle.fjall_base.specs.declared.error.Error.TheVariants as errors
use Rattle.fjall_options.specs.Options.{RefusesStored}
use Rattle.fjall_meta.specs.Reading.{stored_keyspace, first_fault, IsFirstFault}

abbrev Pairs : Type 0
Pairs = List (List ℕ × List ℕ)

-- the keyspace at a place is the first of the rest
next_id : (ids : List ℕ) (i : ℕ) → i < length ids → drop i ids ≡ get_or ids i 0 ∷ drop (i + 1) ids
next_id ids i lt = rw add-one (drop-cons ids i 0 lt)

pub goes_on : (ids : List ℕ) (pairs : Pairs) (i : ℕ) (found : List ℕ × List (List ℕ)) → i < length ids → stored_keyspace (get_or ids i 0) pairs ≡ Ok found → first_fault ids pairs ≡ first_fault (drop i ids) pairs
    → first_fault ids pairs ≡ first_fault (drop (i + 1) ids) pairs
goes_on ids pairs i found lt whole so_far =
    let one : first_fault (drop i ids) pairs ≡ first_fault (drop (i + 1) ids) pairs = rw (next_id ids i lt, whole) refl in
    so_far ∙ one

pub ends : (error : Error) (ids : List ℕ) (pairs : Pairs) (i : ℕ) → i < length ids → RefusesStored error (stored_keyspace (get_or ids i 0) pairs) → first_fault ids pairs ≡ first_fault (drop i ids) pairs → IsFirstFault ids pairs error
ends errors.OutOfMemory ids pairs i lt h so_far = tt
ends (errors.Storage cause) ids pairs i lt h so_far = so_far ∙ rw (next_id ids i lt, h) refl
ends error ids pairs i lt h so_far = absurd h
