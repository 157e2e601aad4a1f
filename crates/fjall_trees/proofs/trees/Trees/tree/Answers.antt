use Rattle.std.proofs.Common.{sym}
use Rattle.fjall_trees.proofs.Places.{found_tree, tree_here}
use Rattle.fjall_trees.proofs.trees.Trees.tree.Goals as goal

pub returns-in-Some-clause-tree : goal.returns-in-Some-clause-tree
returns-in-Some-clause-tree c =
    let t = c.args.self.now in
    let ks = t.trees.items in
    let k = c.index.result.now in
    let here = found_tree ks c.as_slice.result.now c.in-Some.place c.args.id k c.as_slice.ensures.value c.in-Some.ensures c.index.ensures in
    sym (tree_here ks c.in-Some.place c.args.id k t.lawful here.0 here.1)
