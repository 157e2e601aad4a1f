use Rattle.std.proofs.Common.{[], ◌∙◌, inl, refl, lit<, arith}
use Rattle.fjall_base.specs.Disk.{DiskState, state_in}
use Rattle.fjall_journal.proofs.Writing.{took_none}
use Rattle.fjall_repair.specs.Sweeps.{names_of}
use Rattle.fjall_repair.proofs.Listings.{finds_all, finds_none, more_found, more_of, more_unnamed, unnamed_tables}
use Rattle.fjall_repair.proofs.plan.list_all_tables.Goals as goal

pub loop-home-init : goal.loop-home-init
loop-home-init g c =
    let state : DiskState = state_in (g.D.Disk.meaning c.args.disk.now) in
    let first = c.in_ok-names.ensures in
    let tree = c.args.tree.now in
    let names = names_of tree c.args.homes.now in
    record {
      unnamed = λ honest living are. unnamed_tables state 0 tree names living c.in_ok-names.names.items (lit< tt) (inl refl) refl (first.found honest);
      tree = λ honest. (first.found honest).whole;
      others = λ honest living are. finds_none state names _;
      same = λ honest. first.same honest;
      served = λ honest. first.served honest;
      later = first.later;
    }

pub loop-home-preserved : goal.loop-home-preserved
loop-home-preserved g c =
    let state : DiskState = state_in (g.D.Disk.meaning c.args.disk.now) in
    let now : DiskState = state_in (g.D.Disk.meaning c.loop-home.disk) in
    let so_far = c.loop-home.invariant in
    let one = c.in_ok-more.ensures in
    let homes = c.args.homes.now in
    let tree = c.args.tree.now in
    let faults = so_far.later in let more = one.later in
    record {
      unnamed = λ honest living are. more_unnamed living homes tree c.loop-home.home-index _ c.home-item.result c.home-item.is c.loop-home-test.true state now (so_far.same honest).state c.deref.result.now
          c.loop-home.names.items c.in_ok-more.more.items c.append.new.self.items one.fits c.deref.ensures.value (one.found honest) c.in_ok-append.ensures.items are (so_far.unnamed honest living are);
      tree = λ honest. more_found [] homes tree c.loop-home.home-index _ c.home-item.result c.home-item.is c.loop-home-test.true state now (so_far.same honest).state c.deref.result.now
          c.loop-home.names.items c.in_ok-more.more.items c.append.new.self.items one.fits c.deref.ensures.value (one.found honest) c.in_ok-append.ensures.items (so_far.tree honest);
      others = λ honest living are. more_of living homes tree c.loop-home.home-index _ c.home-item.result c.home-item.is c.loop-home-test.true state now (so_far.same honest).state c.deref.result.now
          c.loop-home.names.items c.in_ok-more.more.items c.append.new.self.items one.fits c.deref.ensures.value (one.found honest) c.in_ok-append.ensures.items are (so_far.others honest living are);
      same = λ honest. took_none _ _ _ [] (so_far.same honest) (one.same honest);
      served = λ honest. one.served honest ∙ so_far.served honest;
      later = omega (arith, faults, more);
    }

pub returns-clause-others : goal.returns-clause-others
returns-clause-others g c honest living are =
    finds_all (state_in (g.D.Disk.meaning c.args.disk.now)) (names_of c.args.tree.now c.args.homes.now) living c.args.homes.now c.loop-home.home-index _ are c.loop-home-test.false (c.loop-home.invariant.others honest living are)
