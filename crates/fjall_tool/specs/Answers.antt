-- What the program prints.
use Rattle.std.specs.Prelude.{ℕ, List, ◌++◌, Option, IfSome, codes, decimal, length}
use Rattle.std.specs.List.{AllZip}
use Rattle.std.specs.Io.KnownBytes.{Appends}
use Rattle.fjall_lines.specs.Lines.{lines_of}
use Rattle.fjall_reading.specs.Ingestions.{IsIngestible, KeyOp}
use Rattle.fjall_tool.specs.Pairs.{SpellsItem}

-- how many pairs were loaded, as it is printed
abbrev pub loaded_line : ℕ → List ℕ
loaded_line count = codes "loaded " ++ (decimal count ++ codes "\n")

-- Each line of an input that is known spells a pair, the keys ascend, each pair can be written, and how many they are is printed.
abbrev pub PrintsLoaded : Option (List ℕ) → Option (List ℕ) → Option (List ℕ) → Type 0
PrintsLoaded known old new =
    IfSome known (λ text. (items : List KeyOp) × AllZip SpellsItem (lines_of text) items × IsIngestible items × Appends old new (loaded_line (length items)))
