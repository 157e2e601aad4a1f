-- How a read goes wrong.
use Rattle.std.specs.Prelude.{◌≡◌, List, [], ◌∷◌, Option, Some, None}
use Rattle.fjall_base.specs.Disk.{Meaning}
use Rattle.fjall_base.specs.declared.error.Error.{Error}
use Rattle.fjall_base.specs.declared.error.Error.TheVariants.{OutOfMemory}
use Rattle.fjall_table_reader.specs.Files.{IsRefused}
use Rattle.fjall_table_reader.specs.Readers.{Reader}

-- Over whichever disk: where a keyspace has no table, memory alone may run out; where it has one, the disk may fail, or a block be
-- wrong where this holds.
abbrev pub ReadFails : Type 0 → List Reader → Meaning → Meaning → Error → Type 0
ReadFails Wrong [] old new error = error ≡ OutOfMemory
ReadFails Wrong (t ∷ tables) old new error = IsRefused Wrong old.faults new.faults error

-- a read's refusal is the one that is due, and where none is, one of these
abbrev pub IsReadRefusal : Option Error → Type 0 → List Reader → Meaning → Meaning → Error → Type 0
IsReadRefusal (Some first) Wrong tables old new error = error ≡ first
IsReadRefusal None Wrong tables old new error = ReadFails Wrong tables old new error
