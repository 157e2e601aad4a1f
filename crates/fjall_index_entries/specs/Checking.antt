-- What a check of an index looks at, pair by pair.
use Rattle.std.specs.Prelude.{ℕ, cond, Bool, true, false, [], Option, None, Some, if◌then◌else◌}
use Rattle.std.specs.Option.{option_eq}
use Rattle.std.specs.Str.{bytes_eq}
use Rattle.fjall_base.specs.Pairs.{Bytes, Pairs, lookup}
use Rattle.fjall_index_entries.specs.Entries.{entry}
use Rattle.fjall_index_entries.specs.Index.{FieldOf}

-- of a key with a field, or none: whether it has one, where its entry stands with an empty value if it has
abbrev pub told_at : Pairs → Bytes → Option Bytes → Option Bool
told_at found key None = Some false
told_at found key (Some field) = if option_eq bytes_eq (lookup found (entry field key)) (Some []) then Some true else None

-- so of a pair
abbrev pub told_of : FieldOf → Pairs → Bytes × Bytes → Option Bool
told_of field found pair = told_at found pair.0 (field pair.0 pair.1)

-- one where it is so, and else none
abbrev pub one_if : Bool → ℕ
one_if has = cond has 1 0
