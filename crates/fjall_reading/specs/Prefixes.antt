-- The keys that begin with a prefix, as a range.
use Rattle.std.specs.Prelude.{◌≡◌, ◌<◌, All, ℕ, ◌+◌, ◌==◌, nat_eq, Bool, if◌then◌else◌, [], ◌∷◌, ◌++◌, Option, Some, None}
use Rattle.std.specs.List.{starts_with}
use Rattle.std.specs.declared.ops.Bound.{Bound}
use Rattle.std.specs.declared.ops.Bound.TheVariants.{Included, Excluded, Unbounded}
use Rattle.fjall_base.specs.Pairs.{Bytes, KeyRange, Pairs, lookup}

-- whether the prefix stands at the front of the key
abbrev pub begins_with : Bytes → Bytes → Bool
begins_with prefix key = starts_with nat_eq key prefix

-- a byte ahead of such bytes; where there are none, the byte raised by one
abbrev pub raised_with : ℕ → Option Bytes → Option Bytes
raised_with byte (Some end) = Some (byte ∷ end)
raised_with byte None = if byte == 255 then None else Some ((byte + 1) ∷ [])

-- Bytes ahead of which all stand that begin with a prefix: the last byte that isn't ff is raised by one, and those behind it
-- are left out. None where each byte is ff.
abbrev pub raised : Bytes → Option Bytes
raised [] = None
raised (byte ∷ rest) = raised_with byte (raised rest)

-- up to these bytes, or to the end
abbrev pub up_to : Option Bytes → Bound Bytes
up_to (Some end) = Excluded end
up_to None = Unbounded

-- from the prefix on; nothing is ahead of the empty one
abbrev pub from_prefix : Bytes → Bound Bytes
from_prefix [] = Unbounded
from_prefix (byte ∷ rest) = Included (byte ∷ rest)

-- the range of the keys that begin with a prefix
abbrev pub prefix_range : Bytes → KeyRange
prefix_range prefix = (from_prefix prefix, up_to (raised prefix))

-- a bound behind a prefix; where it is open, this one of the prefix's own
abbrev pub bound_behind : Bytes → Bound Bytes → Bound Bytes → Bound Bytes
bound_behind prefix own (Included key) = Included (prefix ++ key)
bound_behind prefix own (Excluded key) = Excluded (prefix ++ key)
bound_behind prefix own Unbounded = own

-- the range of the keys of another range, each behind a prefix
abbrev pub range_behind : Bytes → KeyRange → KeyRange
range_behind prefix range = (bound_behind prefix (from_prefix prefix) range.0, bound_behind prefix (up_to (raised prefix)) range.1)

-- each key of the map is made of bytes
abbrev pub HasByteKeys : Pairs → Type 0
HasByteKeys pairs = (key value : Bytes) → lookup pairs key ≡ Some value → All (λ byte. byte < 256) key
