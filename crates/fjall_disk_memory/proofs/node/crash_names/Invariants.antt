use Rattle.std.proofs.Common.{◌≡◌, ℕ, ◌<◌, ◌≤◌, [], get_or, length, string_bytes}
use Rattle.fjall_disk_memory.specs.declared.node.Named.{Named}
use Rattle.fjall_base.specs.Disk.{disk_of}
use Rattle.fjall_base.specs.Crash.{crashed}
use Rattle.fjall_disk_memory.specs.Memory.{place_of}
use Rattle.fjall_disk_memory.proofs.node.crash_names.Given as goal

abbrev pub invariant-loop-at : goal.invariant-loop-at
invariant-loop-at l = record {
  long : length l.initial.names.items ≡ length l.names.items;
  names : (k : ℕ) (d : Named) → k < length l.initial.names.items → string_bytes (get_or l.names.items k d).name ≡ string_bytes (get_or l.initial.names.items k d).name;
  done : (k : ℕ) (d : Named) → k < l.at → place_of (get_or l.names.items k d) ≡ disk_of (crashed l.keep (λ _. place_of (get_or l.initial.names.items k d))) [];
  rest : (k : ℕ) (d : Named) → l.at ≤ k → get_or l.names.items k d ≡ get_or l.initial.names.items k d;
}
