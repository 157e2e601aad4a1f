use Rattle.std.proofs.Common.{refl}
use Rattle.fjall_machine.specs.Remembered.{merge_gone_in_memory}
use Rattle.fjall_state.proofs.Inside.{memory_in}
use Rattle.fjall_machine.proofs.Lawful.{alike}
use Rattle.fjall_machine.proofs.MergesLawful.{merge_gone_is_lawful}
use Rattle.fjall_state.proofs.engine_state.EngineState.drop_merge.Goals as goal

pub invariant_of-self : goal.invariant_of-self
invariant_of-self c =
    let m = memory_in c.self.inside in
    alike (merge_gone_in_memory c.args.id m) _ (merge_gone_is_lawful c.args.id m c.self.invariant) refl c.drop_merge.ensures refl refl refl refl
