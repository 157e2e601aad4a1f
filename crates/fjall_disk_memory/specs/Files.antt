-- What named files and folders, with the steps that they took, stand for.
use Rattle.std.specs.Prelude.{ℕ, map}
use Rattle.fjall_base.specs.Disk.{Meaning}
use Rattle.fjall_disk_memory.specs.Memory.{named_place}
use Rattle.fjall_disk_memory.specs.declared.files.Files.{Files}

-- the meaning of the entries and their history, with this count of faults
abbrev pub meaning_of : Files → ℕ → Meaning
meaning_of files faults = record { places = map named_place files.names.items; steps = files.history.steps; faults = faults; misuses = 0 }
