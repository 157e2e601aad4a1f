use Rattle.std.proofs.Common.{◌≡◌, List, None, subst, sym}
use Rattle.fjall_tree.specs.Jobs.{flush_dropped}
use Rattle.fjall_trees.specs.declared.trees.KeyspaceTree.{KeyspaceTree}
use Rattle.fjall_trees.specs.Forests.{tree_at}
use Rattle.fjall_trees.specs.Lists.{forest_in}
use Rattle.fjall_trees.specs.Views.{forest_of}
use Rattle.fjall_trees.proofs.Places.{altered_none, found_tree, set_altered, set_forest}
use Rattle.fjall_trees.proofs.trees.Trees.drop_flush.Goals as goal

pub invariant_of-self : goal.invariant_of-self
invariant_of-self c =
    let t = c.args.self.now in
    let ks = t.trees.items in
    let k = c.index_mut.result.now in
    let here = found_tree ks c.as_slice.result.now c.in-Some.place c.args.id k c.as_slice.ensures.value c.in-Some.ensures c.index_mut.ensures.value in
    record { lawful = set_forest ks c.in-Some.place k c.drop_flush.new.self t.lawful here.0 }

pub returns-in-Some : goal.returns-in-Some
returns-in-Some c =
    let t = c.args.self.now in
    let ks = t.trees.items in
    let k = c.index_mut.result.now in
    let here = found_tree ks c.as_slice.result.now c.in-Some.place c.args.id k c.as_slice.ensures.value c.in-Some.ensures c.index_mut.ensures.value in
    set_altered ks c.in-Some.place c.args.id k c.drop_flush.new.self flush_dropped t.lawful here.0 here.1 c.drop_flush.ensures

pub returns-in_default : goal.returns-in_default
returns-in_default c =
    let none = subst (λ (xs : List KeyspaceTree). tree_at c.args.id (forest_in xs) ≡ None) c.as_slice.ensures.value c.in_default.ensures in
    sym (altered_none c.args.id flush_dropped (forest_of c.args.self.now) none)
