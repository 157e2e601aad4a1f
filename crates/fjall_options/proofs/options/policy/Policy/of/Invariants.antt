use Rattle.std.proofs.Common.{◌≡◌, ◌∷◌, length, take}
use Rattle.std.specs.List.{flat_map}
use Rattle.fjall_options.proofs.Spelled.{AreReadBack}
use Rattle.fjall_options.proofs.options.policy.Policy.of.Given as goal

abbrev pub invariant-loop-entry : goal.invariant-loop-entry
invariant-loop-entry g l = record {
  so_far : l.bytes.items ≡ length l.fn.entries.items ∷ flat_map g.T.PolicyEntry.spelled (take l.entry-index l.fn.entries.items);
  back : AreReadBack g.T.PolicyEntry.entry_at g.T.PolicyEntry.spelled (take l.entry-index l.fn.entries.items);
}
