use Rattle.std.proofs.Common.{◌∙◌, [], ap, arith}
use Rattle.fjall_base.specs.Disk.{Image, standing, state_in}
use Rattle.fjall_journal.proofs.Writing.{took_none}
use Rattle.fjall_inspect.proofs.Telling.{home_more}
use Rattle.fjall_inspect.proofs.tables.look_at_homes.Goals as goal

pub loop-home-preserved : goal.loop-home-preserved
loop-home-preserved g c =
    let image : Image = standing (state_in (g.D.Disk.meaning c.args.disk.now)) in
    let mid : Image = standing (state_in (g.D.Disk.meaning c.loop-home.disk)) in
    let so_far = c.loop-home.invariant in
    let one = c.in_ok-more.ensures in
    let faults = so_far.later in let more = one.later in
    record {
      tells = λ honest. home_more image mid (ap standing (so_far.same honest).state) c.args.homes.now c.loop-home.home-index _ c.home-item.result c.loop-home-test.true c.home-item.is c.deref.result.now c.deref.ensures.value
          c.loop-home.faults.items c.in_ok-more.more.items c.append.new.self.items c.in_ok-append.ensures.items (so_far.tells honest) (one.tells honest);
      same = λ honest. took_none _ _ _ [] (so_far.same honest) (one.same honest);
      served = λ honest. one.served honest ∙ so_far.served honest;
      later = omega (arith, faults, more);
    }
