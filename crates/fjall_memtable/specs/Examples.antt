-- The smallest versions with which a job that isn't careful changes a view.
use Rattle.std.specs.Prelude.{ℕ, [], ◌∷◌, Some, None}
use Rattle.fjall_base.specs.Pairs.{Bytes}
use Rattle.fjall_table.specs.Blocks.{Entry}

abbrev pub a_key : Bytes
a_key = 107 ∷ []

abbrev pub a_value : Bytes
a_value = 118 ∷ []

-- the key got the value
abbrev pub given_under : ℕ → Entry
given_under number = record { key = a_key; number = number; value = Some a_value }

-- the key was removed
abbrev pub removed_under : ℕ → Entry
removed_under number = record { key = a_key; number = number; value = None }
