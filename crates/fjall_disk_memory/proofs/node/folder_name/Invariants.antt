use Rattle.std.proofs.Common.{◌≡◌, ◌≤◌, take}
use Rattle.fjall_base.specs.Disk.{folder_of}
use Rattle.fjall_disk_memory.proofs.node.folder_name.Given as goal

abbrev pub invariant-loop-i : goal.invariant-loop-i
invariant-loop-i l = record { within : l.end ≤ l.i; front : folder_of (take l.i l.bytes) ≡ take l.end l.bytes }
