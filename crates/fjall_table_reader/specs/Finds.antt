-- What a look-up finds.
use Rattle.std.specs.Prelude.{◌≡◌, ℕ, List, Option}
use Rattle.std.specs.Option.{option_map}
use Rattle.fjall_table.specs.Blocks.{Entry}
use Rattle.fjall_table_reader.specs.declared.found.Found.{Found}

-- the entry of a key that was found
abbrev pub entry_found : List ℕ → Found → Entry
entry_found key found = record { key = key; number = found.number; value = found.value }

-- the key's entry was found, with its number and its value, or there is none and none was found
abbrev pub IsFound : List ℕ → Option Found → Option Entry → Type 0
IsFound key found entry = option_map (entry_found key) found ≡ entry
