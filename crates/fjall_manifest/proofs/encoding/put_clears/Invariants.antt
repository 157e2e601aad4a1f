use Rattle.std.proofs.Common.{◌≡◌, ◌++◌, ◌<◌, ◌^◌, take}
use Rattle.std.specs.List.{flat_map, AllByRecursion}
use Rattle.byteorder.specs.Endian.{little_bytes}
use Rattle.fjall_manifest.proofs.encoding.put_clears.Given as goal

abbrev pub invariant-loop-clear : goal.invariant-loop-clear
invariant-loop-clear l = record {
  text : l.out.items ≡ l.fn.out.items ++ flat_map (little_bytes 8) (take l.clear-index l.clears);
  fits : AllByRecursion (λ n. n < 2 ^ 64) (take l.clear-index l.clears);
}
