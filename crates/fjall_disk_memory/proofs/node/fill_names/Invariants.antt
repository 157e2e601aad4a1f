use Rattle.std.proofs.Common.{◌≡◌, take}
use Rattle.fjall_base.specs.Disk.{Image, disk_of}
use Rattle.fjall_disk_memory.specs.Memory.{state_of}
use Rattle.fjall_disk_memory.specs.Wild.{filled, fills_of}
use Rattle.fjall_disk_memory.proofs.node.fill_names.Given as goal

abbrev pub invariant-loop-name : goal.invariant-loop-name
invariant-loop-name l = (image : Image) → state_of l.initial.names.items ≡ disk_of image → state_of l.names.items ≡ disk_of (filled (fills_of (take l.name-index l.fill)) image)
