use Rattle.std.proofs.Common.{◌≡◌, ◌++◌, take}
use Rattle.fjall_index_entries.specs.Entries.{escaped}
use Rattle.fjall_index_entries.proofs.entry.push_escaped.Given as goal

-- what was added is the front of the field that was gone over
abbrev pub invariant-loop-byte : goal.invariant-loop-byte
invariant-loop-byte l = record {
  added : l.out.items ≡ l.fn.out.items ++ escaped (take l.byte-index l.field);
}
