use Rattle.std.proofs.Common.{◌≡◌, ◌≤◌, take}
use Rattle.std.specs.List.{count_by}
use Rattle.fjall_machine.proofs.Sizes.{waits_in}
use Rattle.fjall_state.proofs.engine_state.EngineState.outstanding_flushes.Given as goal

abbrev pub invariant-loop-keyspace : goal.invariant-loop-keyspace
invariant-loop-keyspace l = (l.count ≡ count_by (waits_in l.self.trees) (take l.keyspace-index l.keyspace-items)) × (l.count ≤ l.keyspace-index)
