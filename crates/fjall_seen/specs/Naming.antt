-- Which word a database is at.
use Rattle.std.specs.Prelude.{◌≡◌, Option, None, Some}
use Rattle.atomic_table.specs.Seated.{TableId}

-- the word is the one of this name, where it has one
abbrev pub IsNamed : Option TableId → TableId → Type 0
IsNamed None table = Unit {0}
IsNamed (Some name) table = table ≡ name
