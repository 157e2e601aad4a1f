use Rattle.std.proofs.Common.{◌∙◌, [], ap, arith}
use Rattle.fjall_base.specs.Disk.{Image, standing, state_in}
use Rattle.fjall_journal.proofs.Writing.{took_none}
use Rattle.fjall_table.specs.declared.level.Level.TheVariants.{L0}
use Rattle.fjall_table.specs.declared.table_info.TableInfo.{TableInfo}
use Rattle.fjall_inspect.proofs.Telling.{table_more}
use Rattle.fjall_inspect.proofs.tables.look_at_tables.Goals as goal

pub loop-info-preserved : goal.loop-info-preserved
loop-info-preserved g c =
    let image : Image = standing (state_in (g.D.Disk.meaning c.args.disk.now)) in
    let mid : Image = standing (state_in (g.D.Disk.meaning c.loop-info.disk)) in
    let none : TableInfo = record { id = 0; level = L0; file_len = 0; entry_count = 0 } in
    let so_far = c.loop-info.invariant in
    let one = c.in_ok-more.ensures in
    let faults = so_far.later in let more = one.later in
    record {
      tells = λ honest. table_more image mid (ap standing (so_far.same honest).state) c.args.id c.args.tables.now c.loop-info.info-index none c.loop-info-test.true
          c.loop-info.faults.items c.in_ok-more.more.items c.append.new.self.items c.in_ok-append.ensures.items (so_far.tells honest) (one.tells honest);
      same = λ honest. took_none _ _ _ [] (so_far.same honest) (one.same honest);
      served = λ honest. one.served honest ∙ so_far.served honest;
      later = omega (arith, faults, more);
    }
