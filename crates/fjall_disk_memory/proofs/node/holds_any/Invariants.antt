use Rattle.std.proofs.Common.{◌≡◌, ℕ, ◌<◌, get_or, string_bytes}
use Rattle.fjall_disk_memory.specs.declared.node.Named.{Named}
use Rattle.fjall_base.specs.Disk.{Missing, folder_of}
use Rattle.fjall_disk_memory.specs.Memory.{state_of}
use Rattle.fjall_disk_memory.proofs.node.holds_any.Given as goal

abbrev pub invariant-loop-named : goal.invariant-loop-named
invariant-loop-named l = (k : ℕ) (d : Named) → k < l.named-index → folder_of (string_bytes (get_or l.names k d).name) ≡ l.folder → (state_of l.names (string_bytes (get_or l.names k d).name)).now ≡ Missing
