-- Pairs that are counted page by page.
use Rattle.std.proofs.Common.{◌≡◌, ℕ, ◌+◌, ◌-◌, ◌^◌, ◌<◌, ◌≤◌, min, List, [], ◌∷◌, ◌++◌, length, Option, Some, None, refl, sym, ◌∙◌, ap, arith, length-append}
use Rattle.std.proofs.lemmas.Option.{none-some}
use Rattle.fjall_base.specs.Pairs.{Bytes, KeyRange, Pairs, pairs_between}
use Rattle.fjall_reading.specs.Rests.{middle}

-- how many can still be counted, one more than that, while there may be more
abbrev pub left_to_count : ℕ → Option KeyRange → ℕ
left_to_count count None = 0
left_to_count count (Some range) = 2 ^ 64 - count

-- so many more were counted
pub as_many : (count some many most next : ℕ) → next ≡ min (count + some) most → some ≡ many → next ≡ min (count + many) most
as_many count some many most next is same = is ∙ ap (λ n. min (count + n) most) same

-- behind a page they are fewer
pub fewer : (found : List (Bytes × Bytes)) (range : KeyRange) (rest : Option KeyRange) (count next : ℕ)
    → count < 2 ^ 64 - 1 → next ≡ min (count + length found) (2 ^ 64 - 1) → (found ≡ [] → rest ≡ None) → left_to_count next rest < left_to_count count (Some range)
fewer found range None count next below is none = omega (arith, below)
fewer [] range (Some left) count next below is none = absurd (none-some left (sym (none refl)))
fewer (pair ∷ found) range (Some left) count next below is none = omega (arith, below, is)

-- once none is left, all were counted
pub all_counted : (count left most whole : ℕ) → left ≡ 0 → count ≤ most → min (count + left) most ≡ whole → count ≡ whole
all_counted count left most whole none fits counted = omega (arith, none, fits, counted)

-- nor are there more that could be counted
pub most_counted : (count left most whole : ℕ) → count ≡ most → min (count + left) most ≡ whole → count ≡ whole
most_counted count left most whole is counted = omega (arith, is, counted)

-- a page was counted
pub page_counted : (found : List (Bytes × Bytes)) (range : KeyRange) (rest : Option KeyRange) (map : Pairs) (count next most whole : ℕ)
    → next ≡ min (count + length found) most → found ++ middle rest map ≡ pairs_between range map → min (count + length (pairs_between range map)) most ≡ whole → min (next + length (middle rest map)) most ≡ whole
page_counted found range rest map count next most whole is parts counted =
    let all = sym (length-append found (middle rest map)) ∙ ap length parts in
    omega (arith, is, all, counted)
