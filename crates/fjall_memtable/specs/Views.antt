-- What a keyspace holds, as versions and clears in any order, and the view of it at an instant.
--
-- A version is what the change of a number made of a key. A clear is the number of a change that emptied the keyspace.
-- The view at an instant shows what the changes of lesser numbers made.
use Rattle.std.specs.Prelude.{◌≡◌, ℕ, Bool, ◌&&◌, not, nat_lt, if◌then◌else◌, List, [], ◌∷◌, filter, Option, Some, None}
use Rattle.std.specs.List.{list_any}
use Rattle.std.specs.Str.{bytes_eq}
use Rattle.std.specs.FinMap.{empty}
use Rattle.fjall_base.specs.Pairs.{Bytes, Pairs, altered, lookup}
use Rattle.fjall_table.specs.Blocks.{Entry}

-- ---- clears

-- whether a clear below the instant empties what has that number: a clear hides lesser numbers only
abbrev pub is_cleared : ℕ → List ℕ → ℕ → Bool
is_cleared instant clears number = list_any (λ n. nat_lt number n && nat_lt n instant) clears

-- the versions that the clears below the instant leave
abbrev pub living : ℕ → List ℕ → List Entry → List Entry
living instant clears versions = filter (λ v. not (is_cleared instant clears v.number)) versions

-- ---- the newest version

-- of two versions the one of greater number, and of equal numbers the second
abbrev pub latest : Entry → Entry → Entry
latest v w = if nat_lt w.number v.number then v else w

-- the same of two places that may have none
abbrev pub later : Option Entry → Option Entry → Option Entry
later None w = w
later (Some v) None = Some v
later (Some v) (Some w) = Some (latest v w)

-- of the versions that pass a test the one of greatest number, and of several such the last
abbrev pub newest_of : (Entry → Bool) → List Entry → Option Entry
newest_of test [] = None
newest_of test (v ∷ vs) = later (if test v then Some v else None) (newest_of test vs)

-- whether it is a version of the key from before the instant
abbrev pub is_seen : Bytes → ℕ → Entry → Bool
is_seen key instant v = bytes_eq v.key key && nat_lt v.number instant

-- the newest version of the key from before the instant
abbrev pub newest : Bytes → ℕ → List Entry → Option Entry
newest key instant versions = newest_of (is_seen key instant) versions

-- ---- the view

-- the value that a version gave its key; none where it removed it, or where there is no version
abbrev pub value_in : Option Entry → Option Bytes
value_in None = None
value_in (Some v) = v.value

-- the value of a key in the view at an instant: what the newest of the versions says that no clear hides
abbrev pub value_at : Bytes → ℕ → List ℕ → List Entry → Option Bytes
value_at key instant clears versions = value_in (newest key instant (living instant clears versions))

-- what the clears below the instant leave of the value that a version gave
abbrev pub value_left : ℕ → List ℕ → Option Entry → Option Bytes
value_left instant clears None = None
value_left instant clears (Some v) = if is_cleared instant clears v.number then None else v.value

-- The map is the view at an instant of what these clears and versions make.
abbrev pub IsView : ℕ → List ℕ → List Entry → Pairs → Type 0
IsView instant clears versions pairs = (key : Bytes) → lookup pairs key ≡ value_at key instant clears versions

-- the map that gives the keys of these versions their values
abbrev pub given : (Bytes → Option Bytes) → List Entry → Pairs
given value [] = empty
given value (v ∷ versions) = altered (given value versions) v.key (value v.key)

-- the map that is the view of these clears and versions at an instant
abbrev pub view_of : ℕ → List ℕ → List Entry → Pairs
view_of instant clears versions = given (λ key. value_at key instant clears versions) versions
