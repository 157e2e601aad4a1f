use Rattle.std.proofs.Common.{◌≡◌, ◌++◌, map}
use Rattle.std.specs.Prelude.{string_bytes}
use Rattle.std.specs.List.{flat_map}
use Rattle.fjall_repair.specs.Sweeps.{home_names}
use Rattle.fjall_inspect.proofs.mending.removals_of.Given as goal

abbrev pub invariant-loop-home : goal.invariant-loop-home
invariant-loop-home l = map string_bytes l.names.items ≡ map string_bytes l.fn.plan.tables.items ++ flat_map home_names l.yielded
