use Rattle.std.proofs.Common.{◌≡◌, Bool, false, not, Option, subst, sym, unwrap_or}
use Rattle.std.specs.Option.{option_map}
use Rattle.std.specs.Result.{IfOk}
use Rattle.fjall_memtable.specs.Parts.{holds_nothing}
use Rattle.fjall_tree.specs.Trees.{Shape, sealed_off}
use Rattle.fjall_trees.proofs.Places.{err_so, found_tree, set_altered, set_forest, set_same, tree_here}
use Rattle.fjall_trees.proofs.trees.Trees.rotate_memtable.Goals as goal

pub invariant_of-self : goal.invariant_of-self
invariant_of-self c =
    let t = c.args.self.now in
    let ks = t.trees.items in
    let k = c.index_mut.result.now in
    let here = found_tree ks c.as_slice.result.now c.in-Some.place c.args.id k c.as_slice.ensures.value c.in-Some.ensures c.index_mut.ensures.value in
    record { lawful = set_forest ks c.in-Some.place k c.rotate_memtable.new.self t.lawful here.0 }

pub returns-in-Some-clause-ok : goal.returns-in-Some-clause-ok
returns-in-Some-clause-ok c =
    let t = c.args.self.now in
    let ks = t.trees.items in
    let k = c.index_mut.result.now in
    let here = found_tree ks c.as_slice.result.now c.in-Some.place c.args.id k c.as_slice.ensures.value c.in-Some.ensures c.index_mut.ensures.value in
    let seals : Option Shape → Bool = λ tree. unwrap_or (option_map (λ (shape : Shape). not (holds_nothing shape.memory.active)) tree) false in
    let tree = tree_here ks c.in-Some.place c.args.id k t.lawful here.0 here.1 in
    subst (λ (tree : Option Shape). IfOk c.rotate_memtable.result (λ is_sealed. is_sealed ≡ seals tree)) (sym tree) c.rotate_memtable.ensures.ok

pub returns-in-Some-clause-sealed : goal.returns-in-Some-clause-sealed
returns-in-Some-clause-sealed c = λ is.
    let t = c.args.self.now in
    let ks = t.trees.items in
    let k = c.index_mut.result.now in
    let here = found_tree ks c.as_slice.result.now c.in-Some.place c.args.id k c.as_slice.ensures.value c.in-Some.ensures c.index_mut.ensures.value in
    set_altered ks c.in-Some.place c.args.id k c.rotate_memtable.new.self sealed_off t.lawful here.0 here.1 (c.rotate_memtable.ensures.sealed is)

pub returns-in-Some-clause-empty : goal.returns-in-Some-clause-empty
returns-in-Some-clause-empty c = λ is.
    let ks = c.args.self.now.trees.items in
    let k = c.index_mut.result.now in
    let here = found_tree ks c.as_slice.result.now c.in-Some.place c.args.id k c.as_slice.ensures.value c.in-Some.ensures c.index_mut.ensures.value in
    set_same ks c.in-Some.place k c.rotate_memtable.new.self here.0 (c.rotate_memtable.ensures.empty is)

pub returns-in-Some-clause-err : goal.returns-in-Some-clause-err
returns-in-Some-clause-err c =
    let ks = c.args.self.now.trees.items in
    let k = c.index_mut.result.now in
    let here = found_tree ks c.as_slice.result.now c.in-Some.place c.args.id k c.as_slice.ensures.value c.in-Some.ensures c.index_mut.ensures.value in
    err_so c.rotate_memtable.result _ _ (λ made. set_same ks c.in-Some.place k c.rotate_memtable.new.self here.0 made) c.rotate_memtable.ensures.err
