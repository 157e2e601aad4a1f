use Rattle.std.proofs.Common.{◌≡◌, List, None, subst, sym}
use Rattle.fjall_tree.specs.Puts.{emptied_once}
use Rattle.fjall_tree.specs.Shapes.{shape_of}
use Rattle.fjall_trees.specs.declared.trees.KeyspaceTree.{KeyspaceTree}
use Rattle.fjall_trees.specs.Forests.{tree_at}
use Rattle.fjall_trees.specs.Lists.{forest_in}
use Rattle.fjall_trees.proofs.Marking.{set_all}
use Rattle.fjall_trees.proofs.Places.{altered_none, err_so, found_tree, ok_so, set_altered, set_forest, set_same, tree_here}
use Rattle.fjall_trees.proofs.trees.Trees.clear_once.Goals as goal

pub clear_once-requires-clause-from : goal.clear_once-requires-clause-from
clear_once-requires-clause-from c =
    let t = c.args.self.now in
    let ks = t.trees.items in
    let k = c.index_mut.result.now in
    let here = found_tree ks c.as_slice.result.now c.in-Some.place c.args.id k c.as_slice.ensures.value c.in-Some.ensures c.index_mut.ensures.value in
    c.requires.from (shape_of k.tree) (tree_here ks c.in-Some.place c.args.id k t.lawful here.0 here.1)

pub invariant_of-self : goal.invariant_of-self
invariant_of-self c =
    let t = c.args.self.now in
    let ks = t.trees.items in
    let k = c.index_mut.result.now in
    let here = found_tree ks c.as_slice.result.now c.in-Some.place c.args.id k c.as_slice.ensures.value c.in-Some.ensures c.index_mut.ensures.value in
    record { lawful = set_forest ks c.in-Some.place k c.clear_once.new.self t.lawful here.0 }

pub returns-in-Some-clause-ok : goal.returns-in-Some-clause-ok
returns-in-Some-clause-ok c =
    let t = c.args.self.now in
    let ks = t.trees.items in
    let k = c.index_mut.result.now in
    let here = found_tree ks c.as_slice.result.now c.in-Some.place c.args.id k c.as_slice.ensures.value c.in-Some.ensures c.index_mut.ensures.value in
    ok_so c.clear_once.result _ _ (λ made. set_altered ks c.in-Some.place c.args.id k c.clear_once.new.self (emptied_once c.args.number) t.lawful here.0 here.1 made) c.clear_once.ensures.ok

pub returns-in-Some-clause-err : goal.returns-in-Some-clause-err
returns-in-Some-clause-err c =
    let ks = c.args.self.now.trees.items in
    let k = c.index_mut.result.now in
    let here = found_tree ks c.as_slice.result.now c.in-Some.place c.args.id k c.as_slice.ensures.value c.in-Some.ensures c.index_mut.ensures.value in
    err_so c.clear_once.result _ _ (λ made. set_same ks c.in-Some.place k c.clear_once.new.self here.0 made) c.clear_once.ensures.err

pub returns-in-Some-clause-marks : goal.returns-in-Some-clause-marks
returns-in-Some-clause-marks c = λ marks are.
    let ks = c.args.self.now.trees.items in
    let k = c.index_mut.result.now in
    let here = found_tree ks c.as_slice.result.now c.in-Some.place c.args.id k c.as_slice.ensures.value c.in-Some.ensures c.index_mut.ensures.value in
    set_all ks c.in-Some.place k c.clear_once.new.self here.0 c.clear_once.ensures.marks marks.from marks.marks.items are

pub returns-in-None-clause-ok : goal.returns-in-None-clause-ok
returns-in-None-clause-ok c =
    let none = subst (λ (xs : List KeyspaceTree). tree_at c.args.id (forest_in xs) ≡ None) c.as_slice.ensures.value c.in-None.ensures in
    sym (altered_none c.args.id (emptied_once c.args.number) (forest_in c.args.self.now.trees.items) none)
