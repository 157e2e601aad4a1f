-- Keys and values.
use Rattle.std.specs.Prelude.{ℕ, List}
use Rattle.fjall_base.specs.declared.slice.Held.{Held}
use Rattle.fjall_base.specs.declared.slice.Held.TheVariants.{Here, Shared}

-- the bytes that a slice has, in itself or shared
abbrev pub bytes_in : Held → List ℕ
bytes_in (Here short) = short.items
bytes_in (Shared bytes) = bytes
