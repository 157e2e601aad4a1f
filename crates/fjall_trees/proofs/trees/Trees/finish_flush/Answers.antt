use Rattle.std.proofs.Common.{◌≡◌, ℕ, false, List, length, set, None, refl, sym, subst, ◌∙◌}
use Rattle.std.specs.Prelude.{IfSome}
use Rattle.std.specs.Result.{IfOk}
use Rattle.fjall_jobs.specs.Made.{flushed_task}
use Rattle.fjall_tree.specs.Jobs.{IsFlushing, flush_finished, is_flush_out}
use Rattle.fjall_tree.specs.Shapes.{shape_of}
use Rattle.fjall_tree.specs.Trees.{Shape}
use Rattle.fjall_trees.specs.declared.trees.KeyspaceTree.{KeyspaceTree}
use Rattle.fjall_trees.specs.Forests.{Forest, altered_at, tree_at}
use Rattle.fjall_trees.specs.Lists.{forest_in}
use Rattle.fjall_trees.specs.Views.{forest_of}
use Rattle.fjall_trees.proofs.Places.{err_so, found_tree, set_altered, set_forest, set_same}
use Rattle.fjall_trees.proofs.Rooms.{room_here}
use Rattle.fjall_trees.proofs.Same.{shape_here, shape_none, some_so}
use Rattle.fjall_trees.proofs.trees.Trees.finish_flush.Goals as goal

pub invariant_of-self : goal.invariant_of-self
invariant_of-self c =
    let t = c.args.self.now in
    let ks = t.trees.items in
    let k = c.index_mut.result.now in
    let here = found_tree ks c.as_slice.result.now c.in-Some.place c.keyspace_id.result k c.as_slice.ensures.value c.in-Some.ensures c.index_mut.ensures.value in
    record { lawful = set_forest ks c.in-Some.place k c.finish_flush.new.self t.lawful here.0 }

pub returns-in-Some-clause-ok : goal.returns-in-Some-clause-ok
returns-in-Some-clause-ok c =
    let t = c.args.self.now in
    let ks = t.trees.items in
    let k = c.index_mut.result.now in
    let here = found_tree ks c.as_slice.result.now c.in-Some.place c.keyspace_id.result k c.as_slice.ensures.value c.in-Some.ensures c.index_mut.ensures.value in
    let its = here.1 ∙ c.keyspace_id.ensures in
    subst (λ (s : Shape). IfOk c.finish_flush.result (λ done. done ≡ is_flush_out (flushed_task c.args.made.now).id s.flush)) (sym (shape_here ks c.in-Some.place (flushed_task c.args.made.now).keyspace k t.lawful here.0 its)) c.finish_flush.ensures.ok

pub returns-in-Some-clause-finished : goal.returns-in-Some-clause-finished
returns-in-Some-clause-finished c is =
    let t = c.args.self.now in
    let ks = t.trees.items in
    let k = c.index_mut.result.now in
    let here = found_tree ks c.as_slice.result.now c.in-Some.place c.keyspace_id.result k c.as_slice.ensures.value c.in-Some.ensures c.index_mut.ensures.value in
    let its = here.1 ∙ c.keyspace_id.ensures in
    let new : Forest = forest_in (set ks c.in-Some.place (record { id = k.id; tree = c.finish_flush.new.self })) in
    subst (λ (s : Shape). IfSome s.flush (λ out. new ≡ altered_at (flushed_task c.args.made.now).keyspace (flush_finished c.args.tables.items out) (forest_in ks)))
    (sym (shape_here ks c.in-Some.place (flushed_task c.args.made.now).keyspace k t.lawful here.0 its))
    (some_so (shape_of k.tree).flush _ _ (λ out made. set_altered ks c.in-Some.place (flushed_task c.args.made.now).keyspace k c.finish_flush.new.self (flush_finished c.args.tables.items out) t.lawful here.0 its made) (c.finish_flush.ensures.finished is))

pub returns-in-Some-clause-stale : goal.returns-in-Some-clause-stale
returns-in-Some-clause-stale c is =
    let t = c.args.self.now in
    let ks = t.trees.items in
    let k = c.index_mut.result.now in
    let here = found_tree ks c.as_slice.result.now c.in-Some.place c.keyspace_id.result k c.as_slice.ensures.value c.in-Some.ensures c.index_mut.ensures.value in
    set_same ks c.in-Some.place k c.finish_flush.new.self here.0 (c.finish_flush.ensures.stale is)

pub returns-in-Some-clause-err : goal.returns-in-Some-clause-err
returns-in-Some-clause-err c =
    let t = c.args.self.now in
    let ks = t.trees.items in
    let k = c.index_mut.result.now in
    let here = found_tree ks c.as_slice.result.now c.in-Some.place c.keyspace_id.result k c.as_slice.ensures.value c.in-Some.ensures c.index_mut.ensures.value in
    err_so c.finish_flush.result _ _ (λ same. set_same ks c.in-Some.place k c.finish_flush.new.self here.0 same) c.finish_flush.ensures.err

pub returns-in-Some-clause-ready : goal.returns-in-Some-clause-ready
returns-in-Some-clause-ready c room out =
    let t = c.args.self.now in
    let ks = t.trees.items in
    let k = c.index_mut.result.now in
    let here = found_tree ks c.as_slice.result.now c.in-Some.place c.keyspace_id.result k c.as_slice.ensures.value c.in-Some.ensures c.index_mut.ensures.value in
    let its = here.1 ∙ c.keyspace_id.ensures in
    c.finish_flush.ensures.ready (room_here ks c.in-Some.place (flushed_task c.args.made.now).keyspace k (length c.args.tables.items) (length (flushed_task c.args.made.now).clears) room here.0 its)
    (subst (λ (s : Shape). IsFlushing s (flushed_task c.args.made.now)) (shape_here ks c.in-Some.place (flushed_task c.args.made.now).keyspace k t.lawful here.0 its) out)

pub returns-in-None-clause-ok : goal.returns-in-None-clause-ok
returns-in-None-clause-ok c =
    let none = subst (λ (xs : List KeyspaceTree). tree_at c.keyspace_id.result (forest_in xs) ≡ None) c.as_slice.ensures.value c.in-None.ensures in
    let nowhere = subst (λ (n : ℕ). tree_at n (forest_of c.args.self.now) ≡ None) c.keyspace_id.ensures none in
    subst (λ (s : Shape). false ≡ is_flush_out (flushed_task c.args.made.now).id s.flush) (sym (shape_none (flushed_task c.args.made.now).keyspace (forest_of c.args.self.now) nowhere)) refl
