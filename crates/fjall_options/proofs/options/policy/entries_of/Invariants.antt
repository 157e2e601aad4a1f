use Rattle.std.proofs.Common.{◌≡◌, ◌-◌, length}
use Rattle.fjall_options.specs.Policies.{entries_at}
use Rattle.fjall_options.proofs.Spelled.{with_front}
use Rattle.fjall_options.proofs.options.policy.entries_of.Given as goal

abbrev pub invariant-loop : goal.invariant-loop
invariant-loop g l = record {
  so_far : with_front l.entries.items (entries_at g.T.PolicyEntry.entry_at (l.count - l.counter) l.rest) ≡ entries_at g.T.PolicyEntry.entry_at l.count l.bytes;
  count : length l.entries.items ≡ l.counter;
}
