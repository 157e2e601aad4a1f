use Rattle.std.proofs.Common.{◌≡◌, List, None, subst}
use Rattle.fjall_trees.specs.declared.trees.KeyspaceTree.{KeyspaceTree}
use Rattle.fjall_trees.specs.Forests.{tree_at}
use Rattle.fjall_trees.specs.Lists.{forest_in}
use Rattle.fjall_trees.proofs.Places.{found_tree, ok_so, set_forest, set_same}
use Rattle.fjall_trees.proofs.Rooms.{room_none, room_set}
use Rattle.fjall_trees.proofs.trees.Trees.reserve.Goals as goal

pub invariant_of-self : goal.invariant_of-self
invariant_of-self c =
    let t = c.args.self.now in
    let ks = t.trees.items in
    let k = c.index_mut.result.now in
    let here = found_tree ks c.as_slice.result.now c.in-Some.place c.args.id k c.as_slice.ensures.value c.in-Some.ensures c.index_mut.ensures.value in
    record { lawful = set_forest ks c.in-Some.place k c.reserve.new.self t.lawful here.0 }

pub returns-in-Some-clause-trees : goal.returns-in-Some-clause-trees
returns-in-Some-clause-trees c =
    let t = c.args.self.now in
    let ks = t.trees.items in
    let k = c.index_mut.result.now in
    let here = found_tree ks c.as_slice.result.now c.in-Some.place c.args.id k c.as_slice.ensures.value c.in-Some.ensures c.index_mut.ensures.value in
    set_same ks c.in-Some.place k c.reserve.new.self here.0 c.reserve.ensures.shape

pub returns-in-Some-clause-room : goal.returns-in-Some-clause-room
returns-in-Some-clause-room c =
    let t = c.args.self.now in
    let ks = t.trees.items in
    let k = c.index_mut.result.now in
    let here = found_tree ks c.as_slice.result.now c.in-Some.place c.args.id k c.as_slice.ensures.value c.in-Some.ensures c.index_mut.ensures.value in
    ok_so c.reserve.result _ _ (λ room. room_set ks c.in-Some.place c.args.id k c.reserve.new.self c.args.tables c.args.clears t.lawful here.0 here.1 room) c.reserve.ensures.room

pub returns-in-None-clause-room : goal.returns-in-None-clause-room
returns-in-None-clause-room c =
    let ks = c.args.self.now.trees.items in
    let none = subst (λ (xs : List KeyspaceTree). tree_at c.args.id (forest_in xs) ≡ None) c.as_slice.ensures.value c.in-None.ensures in
    room_none ks c.args.id c.args.tables c.args.clears none
