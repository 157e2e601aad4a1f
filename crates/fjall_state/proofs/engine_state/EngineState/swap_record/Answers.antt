use Rattle.std.proofs.Common.{ap, ◌∙◌, refl}
use Rattle.std.specs.FinMap.{contains_key}
use Rattle.fjall_manifest.specs.Records.{view}
use Rattle.fjall_machine.specs.Ingesting.{with_record}
use Rattle.fjall_machine.specs.Remembered.{Remembered}
use Rattle.fjall_state.proofs.Inside.{memory_in}
use Rattle.fjall_machine.proofs.Lawful.{alike}
use Rattle.fjall_machine.proofs.TakenIngestions.{record_is_lawful}
use Rattle.fjall_state.proofs.engine_state.EngineState.swap_record.Goals as goal

pub invariant_of-self : goal.invariant_of-self
invariant_of-self c =
    let a = c.self.inside in
    let m = memory_in a in
    let planned = c.args.planned.now in
    let last = view planned.own.writes.record in
    let there = ap (λ (x : Remembered). contains_key x.records planned.id) c.self.view_is ∙ c.requires.kept in
    alike (with_record planned.id last m) _ (record_is_lawful planned.id last m c.self.invariant there) refl refl refl refl c.swap.ensures.kept refl
