-- Which sealed journals are removed.
use Rattle.std.specs.Prelude.{List}
use Rattle.fjall_files.specs.Journals.{Sealed, going}
use Rattle.fjall_machine.specs.Remembered.{Remembered, flushed_by}

-- the sealed journals that no keyspace wants any more, as the last records tell
abbrev pub going_in : Remembered → List Sealed
going_in m = going (flushed_by m.keyspaces m.records) m.journals.sealed
