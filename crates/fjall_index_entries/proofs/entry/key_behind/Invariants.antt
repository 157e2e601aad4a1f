use Rattle.std.proofs.Common.{◌≡◌, drop}
use Rattle.fjall_index_entries.specs.Entries.{key_after, key_behind}
use Rattle.fjall_index_entries.proofs.entry.key_behind.Given as goal

-- what the bytes that are left tell is what all of them do
abbrev pub invariant-loop-at : goal.invariant-loop-at
invariant-loop-at l = key_after l.ahead (drop l.at l.entry) ≡ key_behind l.entry
