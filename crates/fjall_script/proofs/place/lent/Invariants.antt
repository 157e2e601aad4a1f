use Rattle.std.proofs.Common.{◌≡◌, map, take}
use Rattle.fjall_lines.specs.Fills.{named_bytes}
use Rattle.fjall_disk_memory.specs.Wild.{fills_of}
use Rattle.fjall_script.proofs.place.lent.Given as goal

-- those so far
abbrev pub invariant-loop-path : goal.invariant-loop-path
invariant-loop-path l = fills_of l.lent.items ≡ map named_bytes (take l.path-index l.kept)
