use Rattle.fjall_opening.proofs.Numbering.{all_homes, home_number, tree_number}
use Rattle.fjall_opening.proofs.numbers.number_of.Goals as goal

pub loop-home-init : goal.loop-home-init
loop-home-init c fit = tree_number c.args.found.now fit c.past.result c.past-2.result c.max-tree.result c.max-number.result c.past.ensures c.past-2.ensures c.max-tree.ensures c.max-number.ensures

pub loop-home-preserved : goal.loop-home-preserved
loop-home-preserved c fit =
    home_number c.args.found.now fit c.deref-home-items.result.now c.deref-home-items.ensures.value c.loop-home.home-index _ c.home-item.result c.home-item.is c.loop-home-test.true c.past-in-loop-home.result c.past-in-loop-home-2.result c.max.result
    c.loop-home.number c.max-number-in-loop-home.result (c.loop-home.invariant fit) c.past-in-loop-home.ensures c.past-in-loop-home-2.ensures c.max.ensures c.max-number-in-loop-home.ensures

pub returns : goal.returns
returns c fit = all_homes c.args.found.now fit c.deref-home-items.result.now c.loop-home.home-index c.loop-home.number c.deref-home-items.ensures.value c.loop-home-test.false (c.loop-home.invariant fit)
