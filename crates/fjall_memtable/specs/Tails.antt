-- How keys end.
use Rattle.std.specs.Prelude.{ℕ, List, []}
use Rattle.fjall_memtable.specs.declared.tail.Tail.{Tail}
use Rattle.fjall_memtable.specs.declared.tail.Tail.TheVariants.{Within, Behind}

-- the bytes behind the first sixteen
abbrev pub rest_of : Tail → List ℕ
rest_of (Within len) = []
rest_of (Behind rest) = rest.value.items

-- how many of the first sixteen the key has
abbrev pub front_len_of : Tail → ℕ
front_len_of (Within len) = len
front_len_of (Behind rest) = 16
