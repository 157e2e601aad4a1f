use Rattle.std.proofs.Common.{◌≡◌, ◌+◌, ◌∙◌, [], Err, ap, arith, refl, rules, subst, sym, take}
use Rattle.fjall_base.specs.Disk.{Image, Meaning, standing, state_in}
use Rattle.fjall_files.proofs.Made.{took_both}
use Rattle.fjall_table_reader.proofs.TableFiles.{refused_later}
use Rattle.fjall_manifest.specs.Reading.{AreHeld}
use Rattle.fjall_manifest.proofs.Openings.{table_held, table_lacks}
use Rattle.fjall_manifest.proofs.reading.open_tables.Goals as goal

pub returns-in_err-file-clause-refused : goal.returns-in_err-file-clause-refused
returns-in_err-file-clause-refused g c honest =
    let m : _ → Meaning = g.D.Disk.meaning in
    let image : Image = standing (state_in (m c.args.disk.now)) in
    let is : c.from_residual-in_err-file.result ≡ Err c.in_err-file.field-0.0 = search rules in
    let so_far = c.loop-table.invariant in
    rw is (refused_later _ _ _ _ _ c.in_err-file.field-0.0 so_far.later c.in_err-file.ensures.later
    (table_lacks image (standing (state_in (m c.loop-table.disk))) c.args.id c.args.tables.now c.loop-table.table-index _ _ refl c.loop-table-test.true (ap standing (so_far.same honest).state)
    c.as_str.result.now (c.as_str.ensures.value ∙ c.in_ok-name.ensures.name)) (c.in_err-file.ensures.refused honest))

pub loop-table-preserved : goal.loop-table-preserved
loop-table-preserved g c =
    let m : _ → Meaning = g.D.Disk.meaning in
    let image : Image = standing (state_in (m c.args.disk.now)) in
    let so_far = c.loop-table.invariant in
    let one = c.in_ok-file.ensures in
    let faults = so_far.later in
    let more = one.later in
    record {
      held = λ honest.
          subst (AreHeld image c.args.id (take (c.loop-table.table-index + 1) c.args.tables.now)) (sym c.in_ok-push.ensures.items)
          (table_held image (standing (state_in (m c.loop-table.disk))) c.args.id c.args.tables.now c.loop-table.table-index _ _ refl c.loop-table-test.true (ap standing (so_far.same honest).state)
          c.as_str.result.now (c.as_str.ensures.value ∙ c.in_ok-name.ensures.name) c.loop-table.files.items c.in_ok-file.file (so_far.held honest) (one.table honest) one.name one.info);
      same = λ honest. took_both (m c.args.disk.now) (m c.loop-table.disk) (m c.open.new.disk) [] [] (so_far.same honest) (one.same honest);
      served = λ honest. one.served honest ∙ so_far.served honest;
      later = omega (arith, faults, more);
    }
