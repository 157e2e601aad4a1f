use Rattle.std.proofs.Common.{◌≡◌, ℕ, take}
use Rattle.fjall_meta.specs.Reading.{entries_at, own_entries}
use Rattle.fjall_meta.proofs.reading.groups_of.Given as goal

abbrev pub invariant-loop-entry : goal.invariant-loop-entry
invariant-loop-entry l = (id : ℕ) → entries_at id l.groups ≡ own_entries id (take l.entry-index l.entries)
