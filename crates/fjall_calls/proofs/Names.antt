-- The search for a transaction by its name.
use Rattle.std.proofs.Common.{◌≡◌, ◌≤◌, ℕ, ◌+◌, Bool, List, ◌++◌, Some, None, drop, get_or, length, take, refl, sym, ap, ◌∙◌, arith}
use Rattle.std.specs.List.{position, position_or_len}
use Rattle.std.proofs.lemmas.Grind.{common_steps}
use Rattle.std.proofs.lemmas.List.Quantifiers.{position-Some}
use Rattle.std.proofs.lemmas.List.Sums.{fails_before_first}
use Rattle.std.proofs.lemmas.Option.{slice_get-get_or}
use Rattle.fjall_calls.specs.Names.{Takes}

-- none is there
pub none_taken : {A : Type 0} (is : A → Bool) (xs : List A) → position is xs ≡ None → Takes is xs None xs
none_taken is xs none =
    let past : length xs ≤ position_or_len is xs = grind (arith, common_steps) in
    (λ i d lt. fails_before_first is xs i d (omega (arith, past, lt)), refl)

-- one is, at that place
pub one_taken : {A : Type 0} (is : A → Bool) (xs others : List A) (place : ℕ) (x : A) → position is xs ≡ Some place → x ≡ get_or xs place x → others ≡ take place xs ++ drop (place + 1) xs → Takes is xs (Some x) others
one_taken is xs others place x found at left =
    let there = position-Some is xs place x found in
    (ap is at ∙ there.1, place, slice_get-get_or xs place x there.0 ∙ ap (λ y. Some y) (sym at), left)
