-- Numbers and faults of batches behind others.
use Rattle.std.proofs.Common.{◌≡◌, ℕ, ◌+◌, List, [], ◌∷◌, ◌++◌, Option, Some, None, refl, ◌∙◌, ap}
use Rattle.std.specs.Option.{option_or}
use Rattle.fjall_journal.specs.Batches.{Shown}
use Rattle.fjall_meta.specs.Replays.{least_after, fault_of, first_fault}

pub least_after-append : (least : ℕ) (front behind : List Shown) → least_after least (front ++ behind) ≡ least_after (least_after least front) behind
least_after-append least [] behind = refl
least_after-append least (batch ∷ front) behind = least_after-append (batch.number + 1) front behind

option_or-assoc : {X : Type 0} (a b c : Option X) → option_or a (option_or b c) ≡ option_or (option_or a b) c
option_or-assoc None b c = refl
option_or-assoc (Some x) b c = refl

pub first_fault-append : (least : ℕ) (front behind : List Shown) → first_fault least (front ++ behind) ≡ option_or (first_fault least front) (first_fault (least_after least front) behind)
first_fault-append least [] behind = refl
first_fault-append least (batch ∷ front) behind =
    ap (option_or (fault_of least batch)) (first_fault-append (batch.number + 1) front behind)
    ∙ option_or-assoc (fault_of least batch) (first_fault (batch.number + 1) front) (first_fault (least_after (batch.number + 1) front) behind)
