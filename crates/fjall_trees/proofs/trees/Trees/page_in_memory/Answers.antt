use Rattle.std.proofs.Common.{[], sym, subst, ◌∙◌}
use Rattle.fjall_base.proofs.Codecs.{some_is}
use Rattle.fjall_memtable.specs.Views.{IsView}
use Rattle.fjall_tree.specs.Shapes.{shape_of}
use Rattle.fjall_tree.specs.Trees.{Shape, clears_of, versions_of}
use Rattle.fjall_trees.proofs.Places.{found_tree, tree_here}
use Rattle.fjall_trees.proofs.trees.Trees.page_in_memory.Goals as goal

pub returns-in-Some-clause-none : goal.returns-in-Some-clause-none
returns-in-Some-clause-none c none =
    let t = c.args.self.now in
    let ks = t.trees.items in
    let k = c.index.result.now in
    let here = found_tree ks c.as_slice.result.now c.in-Some.place c.args.id k c.as_slice.ensures.value c.in-Some.ensures c.index.ensures in
    let tree = tree_here ks c.in-Some.place c.args.id k t.lawful here.0 here.1 in
    absurd (cc (none, tree))

pub returns-in-Some-clause-found : goal.returns-in-Some-clause-found
returns-in-Some-clause-found c shape pairs is view =
    let t = c.args.self.now in
    let ks = t.trees.items in
    let k = c.index.result.now in
    let here = found_tree ks c.as_slice.result.now c.in-Some.place c.args.id k c.as_slice.ensures.value c.in-Some.ensures c.index.ensures in
    let tree = tree_here ks c.in-Some.place c.args.id k t.lawful here.0 here.1 in
    let same = some_is shape (shape_of k.tree) (sym is ∙ tree) in
    c.page_in_memory.ensures.found pairs (subst (λ (s : Shape). IsView c.args.instant (clears_of s) (versions_of s []) pairs) same view)
