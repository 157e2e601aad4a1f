use Rattle.std.proofs.Common.{◌≡◌, ◌∙◌, ◌+◌, ◌≤◌, List, None, length, subst, sym, ap, vec_capacity}
use Rattle.fjall_tree.specs.Ingestions.{ingested}
use Rattle.fjall_tree.specs.Trees.{Shape, clears_of}
use Rattle.fjall_trees.specs.declared.trees.KeyspaceTree.{KeyspaceTree}
use Rattle.fjall_trees.specs.Forests.{tree_at}
use Rattle.fjall_trees.specs.Lists.{forest_in}
use Rattle.fjall_trees.specs.Views.{forest_of}
use Rattle.fjall_trees.proofs.Places.{altered_none, found_tree, set_altered, set_forest}
use Rattle.fjall_trees.proofs.Same.{shape_here}
use Rattle.fjall_trees.proofs.trees.Trees.put_ingestion.Goals as goal

pub put_ingestion-requires-clause-until : goal.put_ingestion-requires-clause-until
put_ingestion-requires-clause-until c =
    let t = c.args.self.now in
    let ks = t.trees.items in
    let k = c.index_mut.result.now in
    let here = found_tree ks c.as_slice.result.now c.in-Some.place c.args.id k c.as_slice.ensures.value c.in-Some.ensures c.index_mut.ensures.value in
    subst (λ (s : Shape). s.memory.active.until ≤ c.args.number) (shape_here ks c.in-Some.place c.args.id k t.lawful here.0 here.1) c.requires.until

pub put_ingestion-requires-clause-clears : goal.put_ingestion-requires-clause-clears
put_ingestion-requires-clause-clears c =
    let t = c.args.self.now in
    let ks = t.trees.items in
    let k = c.index_mut.result.now in
    let here = found_tree ks c.as_slice.result.now c.in-Some.place c.args.id k c.as_slice.ensures.value c.in-Some.ensures c.index_mut.ensures.value in
    c.requires.clears ∙ ap clears_of (shape_here ks c.in-Some.place c.args.id k t.lawful here.0 here.1)

pub put_ingestion-requires-clause-room : goal.put_ingestion-requires-clause-room
put_ingestion-requires-clause-room c =
    let t = c.args.self.now in
    let ks = t.trees.items in
    let k = c.index_mut.result.now in
    let here = found_tree ks c.as_slice.result.now c.in-Some.place c.args.id k c.as_slice.ensures.value c.in-Some.ensures c.index_mut.ensures.value in
    subst (λ (s : Shape). length s.tables + length c.args.made.items ≤ vec_capacity c.args.room) (shape_here ks c.in-Some.place c.args.id k t.lawful here.0 here.1) c.requires.room

pub invariant_of-self : goal.invariant_of-self
invariant_of-self c =
    let t = c.args.self.now in
    let ks = t.trees.items in
    let k = c.index_mut.result.now in
    let here = found_tree ks c.as_slice.result.now c.in-Some.place c.args.id k c.as_slice.ensures.value c.in-Some.ensures c.index_mut.ensures.value in
    record { lawful = set_forest ks c.in-Some.place k c.put_ingestion.new.self t.lawful here.0 }

pub returns-in-Some : goal.returns-in-Some
returns-in-Some c =
    let t = c.args.self.now in
    let ks = t.trees.items in
    let k = c.index_mut.result.now in
    let here = found_tree ks c.as_slice.result.now c.in-Some.place c.args.id k c.as_slice.ensures.value c.in-Some.ensures c.index_mut.ensures.value in
    set_altered ks c.in-Some.place c.args.id k c.put_ingestion.new.self (ingested c.args.number c.args.made.items) t.lawful here.0 here.1 c.put_ingestion.ensures

pub returns-in_default : goal.returns-in_default
returns-in_default c =
    let none = subst (λ (xs : List KeyspaceTree). tree_at c.args.id (forest_in xs) ≡ None) c.as_slice.ensures.value c.in_default.ensures in
    sym (altered_none c.args.id (ingested c.args.number c.args.made.items) (forest_of c.args.self.now) none)
