use Rattle.std.proofs.Common.{◌≡◌, ◌≢◌, ℕ, ◌<◌, All, AllPairs, Any, get_or, string_bytes}
use Rattle.fjall_disk_memory.specs.declared.node.Named.{Named}
use Rattle.fjall_base.specs.Disk.{IsInList, Missing, folder_of}
use Rattle.fjall_disk_memory.specs.Memory.{state_of}
use Rattle.fjall_disk_memory.proofs.node.list_names.Given as goal

abbrev pub invariant-loop-named : goal.invariant-loop-named
invariant-loop-named l = record {
  each : All (IsInList (state_of l.names) l.folder) l.listed.items;
  once : AllPairs (λ first later. string_bytes first.name ≢ string_bytes later.name) l.listed.items;
  whole : (k : ℕ) (d : Named) → k < l.named-index → folder_of (string_bytes (get_or l.names k d).name) ≡ l.folder
      → (state_of l.names (string_bytes (get_or l.names k d).name)).now ≢ Missing
      → Any (λ entry. string_bytes entry.name ≡ string_bytes (get_or l.names k d).name) l.listed.items;
}
