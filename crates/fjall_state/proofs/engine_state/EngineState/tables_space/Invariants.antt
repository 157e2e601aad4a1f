use Rattle.std.proofs.Common.{◌≡◌, take}
use Rattle.std.specs.List.{sum_by}
use Rattle.fjall_journal.specs.Writer.{counted}
use Rattle.fjall_machine.proofs.Sizes.{space_in}
use Rattle.fjall_state.proofs.engine_state.EngineState.tables_space.Given as goal

abbrev pub invariant-loop-keyspace : goal.invariant-loop-keyspace
invariant-loop-keyspace l = l.total ≡ counted (sum_by (space_in l.self.trees) (take l.keyspace-index l.keyspace-items))
