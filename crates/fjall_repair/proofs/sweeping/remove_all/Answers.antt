use Rattle.std.proofs.Common.{List, Ok, arith, refl, subst, sym, ◌∙◌, map}
use Rattle.std.specs.Prelude.{string_bytes}
use Rattle.std.specs.List.{Contains}
use Rattle.fjall_base.specs.Disk.{IsNoFolder, Meaning, Name, state_in}
use Rattle.fjall_repair.specs.Sweeps.{NamesAreGone}
use Rattle.fjall_repair.proofs.Removals as Removals
use Rattle.fjall_files.proofs.Tidying.{stays_both, stays_none, stays_removing, stays_start}
use Rattle.fjall_repair.proofs.Items.{item_has}
use Rattle.fjall_repair.proofs.SweepServed.{no_folder_still}
use Rattle.fjall_repair.proofs.sweeping.remove_all.Goals as goal

pub loop-name-init : goal.loop-name-init
loop-name-init g c = record { removes = λ honest. Removals.start _ _; gone = λ honest. tt; kinds = λ honest. stays_start _; served = λ honest kinds. refl; later = omega arith }

pub loop-name-preserved : goal.loop-name-preserved
loop-name-preserved g c =
    let m : _ → Meaning = g.D.Disk.meaning in
    let so_far = c.loop-name.invariant in
    let took = c.in_ok-remove.ensures in
    let names = c.args.names.now in
    let faults = so_far.later in let more = took.cause.later in
    record {
      removes = λ honest. Removals.both (Contains (map string_bytes names)) (m c.args.disk.now) (m c.loop-name.disk) (m c.remove.new.self) (so_far.removes honest)
          (Removals.one (Contains (map string_bytes names)) (m c.loop-name.disk) (m c.remove.new.self) c.as_str.result.now _
          (Removals.contained string_bytes names c.loop-name.name-index _ c.name-item.result c.as_str.result.now c.name-item.is c.loop-name-test.true c.as_str.ensures.value) (took.ok honest));
      gone = λ honest. subst (λ (l : List Name). NamesAreGone (state_in (m c.remove.new.self)) l) (sym (Removals.one_more string_bytes names c.loop-name.name-index _ c.name-item.result c.as_str.result.now c.name-item.is c.loop-name-test.true c.as_str.ensures.value))
          (Removals.one_gone (m c.args.disk.now) (m c.loop-name.disk) (m c.remove.new.self) _ c.as_str.result.now (so_far.gone honest) (took.kind honest) (took.ok honest));
      kinds = λ honest. stays_both (m c.args.disk.now) (m c.loop-name.disk) (m c.remove.new.self) (so_far.kinds honest) (stays_removing _ _ c.as_str.result.now _ (Ok tt) (took.ok honest) tt);
      served = λ honest kinds. (took.judged honest).served (subst (λ (n : Name). IsNoFolder (state_in (m c.loop-name.disk) n).now) (sym c.as_str.ensures.value)
          (no_folder_still _ (m c.args.disk.now) (m c.loop-name.disk) (so_far.removes honest) (string_bytes c.name-item.result)
          (item_has (λ name. IsNoFolder (state_in (m c.args.disk.now) (string_bytes name)).now) c.args.names.now c.loop-name.name-index c.name-item.result c.name-item.is c.loop-name-test.true kinds)))
          ∙ so_far.served honest kinds;
      later = omega (arith, faults, more);
    }

pub returns-in_err-remove-clause-removes : goal.returns-in_err-remove-clause-removes
returns-in_err-remove-clause-removes g c honest =
    let m : _ → Meaning = g.D.Disk.meaning in
    let P = Contains (map string_bytes c.args.names.now) in
    Removals.both P (m c.args.disk.now) (m c.loop-name.disk) (m c.remove.new.self) (c.loop-name.invariant.removes honest) (Removals.none P (m c.loop-name.disk) (m c.remove.new.self) (c.in_err-remove.ensures.err honest))

pub returns-in_err-remove-clause-kinds : goal.returns-in_err-remove-clause-kinds
returns-in_err-remove-clause-kinds g c honest =
    let m : _ → Meaning = g.D.Disk.meaning in
    stays_both (m c.args.disk.now) (m c.loop-name.disk) (m c.remove.new.self) (c.loop-name.invariant.kinds honest) (stays_none _ _ (c.in_err-remove.ensures.err honest))

pub returns-in_err-remove-clause-served : goal.returns-in_err-remove-clause-served
returns-in_err-remove-clause-served g c honest kinds =
    let m : _ → Meaning = g.D.Disk.meaning in
    (c.in_err-remove.ensures.judged honest).served (subst (λ (n : Name). IsNoFolder (state_in (m c.loop-name.disk) n).now) (sym c.as_str.ensures.value)
    (no_folder_still _ (m c.args.disk.now) (m c.loop-name.disk) (c.loop-name.invariant.removes honest) (string_bytes c.name-item.result)
    (item_has (λ name. IsNoFolder (state_in (m c.args.disk.now) (string_bytes name)).now) c.args.names.now c.loop-name.name-index c.name-item.result c.name-item.is c.loop-name-test.true kinds)))
    ∙ c.loop-name.invariant.served honest kinds
