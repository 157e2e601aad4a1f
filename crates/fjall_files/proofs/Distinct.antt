-- No two names are the same.
use Rattle.std.proofs.Common.{◌≡◌, ℕ, ◌-◌, ◌<◌, ◌^◌, List, ◌∷◌, ◌++◌, length, get_or, codes, decimal, refl, sym, ap, ◌∙◌, arith, nat_lt, lt-ltb, ◌==◌, if◌then◌else◌, inl, inr, true}
use Rattle.std.proofs.lemmas.List.{append_cancel_left, length-append, get_or_append_left}
use Rattle.std.proofs.Math.Seq.{get_or-append_right}
use Rattle.std.proofs.lemmas.Bool.{cases_lt}
use Rattle.std.proofs.lemmas.Fmt.{decimal_injective, decimal_nonempty, digits_decimal}
use Rattle.std.proofs.lemmas.Str.Parse.{not_in_digits}
use Rattle.std.specs.Int.{IsInRange}
use Rattle.fjall_files.specs.Names.{KeptName, Lock, Version, Journal, AllKeyspaces, Keyspace, Current, Table, name_of, HasIds, journal_name, keyspace_folder, current_name, table_name}
use Rattle.fjall_files.proofs.Numbers.{own}
use Rattle.fjall_files.proofs.Partings.{Without, one_last, one_first}
use Rattle.fjall_files.proofs.LastDots.{jnl_without}
use Rattle.fjall_files.proofs.Folders.{name_parts}

no_digit : (n c : ℕ) → n < 2 ^ 64 → (IsInRange 48 57 c → ⊥) → Without c (decimal n)
no_digit n c small none i inside = not_in_digits own (decimal n) c (digits_decimal own n small) none i inside

-- the bytes of a number are digits
digit : (n i : ℕ) → n < 2 ^ 64 → i < length (decimal n) → get_or (decimal n) i 0 < 58
digit n i small inside = elim (cases_lt (get_or (decimal n) i 0) 58) [
  | inl low ↦ low
  | inr high ↦ absurd (no_digit n (get_or (decimal n) i 0) small (λ range. omega (arith, range, high)) i inside refl)
]

pub journals : (id other : ℕ) → id < 2 ^ 64 → other < 2 ^ 64 → journal_name id ≡ journal_name other → id ≡ other
journals id other small small' e = decimal_injective id other small small' (one_last 46 (decimal id) (codes "jnl") (decimal other) (codes "jnl") e jnl_without jnl_without).0

pub folders : (id other : ℕ) → id < 2 ^ 64 → other < 2 ^ 64 → keyspace_folder id ≡ keyspace_folder other → id ≡ other
folders id other small small' e = decimal_injective id other small small' (append_cancel_left (codes "keyspaces/") (decimal id) (decimal other) e)

-- what stands in different folders has different names
in_folders : (id other : ℕ) (rest rest' : List ℕ) → id < 2 ^ 64 → other < 2 ^ 64 → keyspace_folder id ++ 47 ∷ rest ≡ keyspace_folder other ++ 47 ∷ rest' → (id ≡ other) × (rest ≡ rest')
in_folders id other rest rest' small small' e =
    let bare = append_cancel_left (codes "keyspaces/") (decimal id ++ 47 ∷ rest) (decimal other ++ 47 ∷ rest') e in
    let same = one_first 47 (decimal id) rest (decimal other) rest' bare (no_digit id 47 small (λ range. omega (arith, range))) (no_digit other 47 small' (λ range. omega (arith, range))) in
    (decimal_injective id other small small' same.0, same.1)

pub tables : (id other table another : ℕ) → id < 2 ^ 64 → other < 2 ^ 64 → table < 2 ^ 64 → another < 2 ^ 64 → table_name id table ≡ table_name other another → (id ≡ other) × (table ≡ another)
tables id other table another small small' small2 small3 e =
    let same = in_folders id other (decimal table ++ codes ".table") (decimal another ++ codes ".table") small small' (sym (name_parts (keyspace_folder id) table) ∙ e ∙ name_parts (keyspace_folder other) another) in
    let numbers = one_first 46 (decimal table) (codes "table") (decimal another) (codes "table") same.1 (no_digit table 46 small2 (λ range. omega (arith, range))) (no_digit another 46 small3 (λ range. omega (arith, range))) in
    (same.0, decimal_injective table another small2 small3 numbers.0)

currents : (id other : ℕ) → id < 2 ^ 64 → other < 2 ^ 64 → current_name id ≡ current_name other → id ≡ other
currents id other small small' e = (in_folders id other (codes "current") (codes "current") small small' e).0

last : List ℕ → ℕ
last name = get_or name (length name - 1) 0

last_of : (front back : List ℕ) → 0 < length back → last (front ++ back) ≡ last back
unfolding last
last_of front back some =
    let all = length-append front back in
    let place : length (front ++ back) - 1 - length front ≡ length back - 1 = omega arith in
    get_or-append_right front back (length (front ++ back) - 1) 0 (omega arith) ∙ ap (λ i. get_or back i 0) place

-- which kind of name it is, by its first and last byte
abbrev by_last : ℕ → ℕ
by_last b = if nat_lt b 58 then 4 else (if b == 115 then 3 else (if b == 116 then 5 else 6))

abbrev by_first : ℕ → ℕ → ℕ
by_first a b = if nat_lt a 58 then 2 else (if a == 108 then 0 else (if a == 118 then 1 else by_last b))

kind : List ℕ → ℕ
kind name = by_first (get_or name 0 0) (last name)

abbrev tag : KeptName → ℕ
tag Lock = 0
tag Version = 1
tag (Journal id) = 2
tag AllKeyspaces = 3
tag (Keyspace id) = 4
tag (Current id) = 5
tag (Table id table) = 6

low_first : (a b : ℕ) → a < 58 → by_first a b ≡ 2
low_first a b low = let t : nat_lt a 58 ≡ true = lt-ltb a 58 low in rw t refl

low_last : (b : ℕ) → b < 58 → by_first 107 b ≡ 4
low_last b low = let t : nat_lt b 58 ≡ true = lt-ltb b 58 low in rw t refl

tagged : (kept : KeptName) → HasIds kept → kind (name_of kept) ≡ tag kept
unfolding kind last
tagged Lock ids = refl
tagged Version ids = refl
tagged AllKeyspaces ids = refl
tagged (Journal id) ids =
    let some = decimal_nonempty id ids in
    let first : get_or (journal_name id) 0 0 ≡ get_or (decimal id) 0 0 = get_or_append_left (decimal id) (codes ".jnl") 0 0 some in
    low_first (get_or (journal_name id) 0 0) (last (journal_name id)) (rw first (digit id 0 ids some))
tagged (Keyspace id) ids =
    let some = decimal_nonempty id ids in
    let end = last_of (codes "keyspaces/") (decimal id) some in
    low_last (last (keyspace_folder id)) (rw end (digit id (length (decimal id) - 1) ids (omega arith)))
tagged (Current id) ids = ap (by_first 107) (last_of (keyspace_folder id) (codes "/current") (omega arith))
tagged (Table id table) ids = ap (by_first 107) (last_of (keyspace_folder id ++ codes "/" ++ decimal table) (codes ".table") (omega arith))

of_one_kind : (kept other : KeptName) → HasIds kept → HasIds other → tag kept ≡ tag other → name_of kept ≡ name_of other → kept ≡ other
of_one_kind Lock Lock ids ids' same e = refl
of_one_kind Version Version ids ids' same e = refl
of_one_kind AllKeyspaces AllKeyspaces ids ids' same e = refl
of_one_kind (Journal id) (Journal other) ids ids' same e = ap Journal (journals id other ids ids' e)
of_one_kind (Keyspace id) (Keyspace other) ids ids' same e = ap Keyspace (folders id other ids ids' e)
of_one_kind (Current id) (Current other) ids ids' same e = ap Current (currents id other ids ids' e)
of_one_kind (Table id table) (Table other another) ids ids' same e =
    let both = tables id other table another ids.0 ids'.0 ids.1 ids'.1 e in
    rw (both.0, both.1) refl
of_one_kind kept other ids ids' same e = absurd (omega (arith, same))

pub kept : (kept other : KeptName) → HasIds kept → HasIds other → name_of kept ≡ name_of other → kept ≡ other
kept one other ids ids' e = of_one_kind one other ids ids' (sym (tagged one ids) ∙ ap kind e ∙ tagged other ids') e
