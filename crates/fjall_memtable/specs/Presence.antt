-- Whether a memtable has an entry already.
use Rattle.std.specs.Prelude.{ℕ, ◌==◌, Bool, ◌&&◌, List}
use Rattle.std.specs.List.{list_any}
use Rattle.std.specs.Str.{bytes_eq}
use Rattle.fjall_table.specs.Blocks.{Entry}

-- whether an entry has this key and number
abbrev pub has_entry : List ℕ → ℕ → List Entry → Bool
has_entry key number entries = list_any (λ e. bytes_eq e.key key && e.number == number) entries
