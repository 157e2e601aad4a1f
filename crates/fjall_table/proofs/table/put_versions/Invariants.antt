use Rattle.std.proofs.Common.{◌≡◌, ◌++◌, take}
use Rattle.fjall_table.proofs.table.put_versions.Given as goal

abbrev pub invariant-loop-version : goal.invariant-loop-version
invariant-loop-version l = l.out.items ≡ l.initial.out.items ++ take l.version-index l.versions
