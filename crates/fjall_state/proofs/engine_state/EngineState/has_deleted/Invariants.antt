use Rattle.std.proofs.Common.{◌≡◌, true, false, take, IfSome}
use Rattle.fjall_machine.specs.Machine.{is_living, some_deleted}
use Rattle.fjall_machine.specs.Remembered.{facts_of}
use Rattle.fjall_state.proofs.engine_state.EngineState.has_deleted.Given as goal

abbrev pub invariant-loop-item : goal.invariant-loop-item
invariant-loop-item l = record {
  none : some_deleted (facts_of l.self 0).store (take l.item-index l.items) ≡ false;
  living : IfSome l.living (λ id. is_living (facts_of l.self 0).store id ≡ true);
}
