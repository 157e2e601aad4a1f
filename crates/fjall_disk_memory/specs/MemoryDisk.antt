-- What a disk in memory means.
use Rattle.std.specs.Prelude.{map}
use Rattle.fjall_base.specs.Disk.{Meaning}
use Rattle.fjall_disk_memory.specs.Memory.{named_place}
use Rattle.fjall_disk_memory.specs.declared.memory.MemoryDisk.{MemoryDisk}

-- the meaning of the whole disk
abbrev pub meaning_in : MemoryDisk → Meaning
meaning_in disk = record {
  places = map named_place disk.files.names.items;
  steps = disk.files.history.steps;
  faults = disk.failing.count;
  misuses = disk.failing.misuses;
}
