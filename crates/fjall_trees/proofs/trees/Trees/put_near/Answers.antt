use Rattle.std.proofs.Common.{◌≡◌, List, None, subst, sym}
use Rattle.std.specs.Option.{option_map}
use Rattle.fjall_memtable.specs.Entries.{version}
use Rattle.fjall_tree.specs.Puts.{put}
use Rattle.fjall_tree.specs.Shapes.{shape_of}
use Rattle.fjall_trees.specs.declared.trees.KeyspaceTree.{KeyspaceTree}
use Rattle.fjall_trees.specs.Forests.{tree_at}
use Rattle.fjall_trees.specs.Lists.{forest_in}
use Rattle.fjall_trees.proofs.Marking.{set_all}
use Rattle.fjall_trees.proofs.Places.{altered_none, err_given, found_tree, set_altered, set_forest, set_same, tree_here}
use Rattle.fjall_trees.proofs.trees.Trees.put_near.Goals as goal

pub put-requires-clause-from : goal.put-requires-clause-from
put-requires-clause-from c =
    let t = c.args.self.now in
    let ks = t.trees.items in
    let k = c.index_mut.result.now in
    let here = found_tree ks c.as_slice.result.now c.in-Some.place c.args.id k c.as_slice.ensures.value c.in-Some.ensures c.index_mut.ensures.value in
    c.requires.from (shape_of k.tree) (tree_here ks c.in-Some.place c.args.id k t.lawful here.0 here.1)

pub invariant_of-self : goal.invariant_of-self
invariant_of-self c =
    let t = c.args.self.now in
    let ks = t.trees.items in
    let k = c.index_mut.result.now in
    let here = found_tree ks c.as_slice.result.now c.in-Some.place c.args.id k c.as_slice.ensures.value c.in-Some.ensures c.index_mut.ensures.value in
    record { lawful = set_forest ks c.in-Some.place k c.put.new.self t.lawful here.0 }

pub returns-clause-ok : goal.returns-clause-ok
returns-clause-ok c =
    let t = c.args.self.now in
    let ks = t.trees.items in
    let k = c.index_mut.result.now in
    let here = found_tree ks c.as_slice.result.now c.in-Some.place c.args.id k c.as_slice.ensures.value c.in-Some.ensures c.index_mut.ensures.value in
    set_altered ks c.in-Some.place c.args.id k c.put.new.self (put (version c.args.key.now c.args.number (option_map (λ v. v.now) c.args.value))) t.lawful here.0 here.1 c.in_ok-put.ensures.ok

pub returns-in_err-put-clause-err : goal.returns-in_err-put-clause-err
returns-in_err-put-clause-err c =
    let ks = c.args.self.now.trees.items in
    let k = c.index_mut.result.now in
    let here = found_tree ks c.as_slice.result.now c.in-Some.place c.args.id k c.as_slice.ensures.value c.in-Some.ensures c.index_mut.ensures.value in
    err_given c.from_residual.result _ (set_same ks c.in-Some.place k c.put.new.self here.0 c.in_err-put.ensures.err)

pub returns-clause-marks : goal.returns-clause-marks
returns-clause-marks c = λ marks are.
    let ks = c.args.self.now.trees.items in
    let k = c.index_mut.result.now in
    let here = found_tree ks c.as_slice.result.now c.in-Some.place c.args.id k c.as_slice.ensures.value c.in-Some.ensures c.index_mut.ensures.value in
    set_all ks c.in-Some.place k c.put.new.self here.0 c.put.ensures.marks marks.from marks.marks.items are

pub returns-in_default-clause-ok : goal.returns-in_default-clause-ok
returns-in_default-clause-ok c =
    let none = subst (λ (xs : List KeyspaceTree). tree_at c.args.id (forest_in xs) ≡ None) c.as_slice.ensures.value c.in_default.ensures in
    sym (altered_none c.args.id (put (version c.args.key.now c.args.number (option_map (λ v. v.now) c.args.value))) (forest_in c.args.self.now.trees.items) none)

pub returns-in_err-put-clause-marks : goal.returns-in_err-put-clause-marks
returns-in_err-put-clause-marks c = λ marks are.
    let ks = c.args.self.now.trees.items in
    let k = c.index_mut.result.now in
    let here = found_tree ks c.as_slice.result.now c.in-Some.place c.args.id k c.as_slice.ensures.value c.in-Some.ensures c.index_mut.ensures.value in
    set_all ks c.in-Some.place k c.put.new.self here.0 c.put.ensures.marks marks.from marks.marks.items are
