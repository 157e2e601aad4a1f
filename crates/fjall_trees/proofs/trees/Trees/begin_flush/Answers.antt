use Rattle.std.proofs.Common.{◌≡◌, ◌≢◌, ◌⊎◌, List, [], None, inl, refl, sym, subst}
use Rattle.std.specs.Prelude.{◌↔◌, IfSome}
use Rattle.std.specs.Result.{IfOk}
use Rattle.fjall_jobs.specs.Flushes.{flush_task}
use Rattle.fjall_tree.specs.Jobs.{IsFlushing, flush_begun, flush_of}
use Rattle.fjall_tree.specs.Trees.{Shape}
use Rattle.fjall_trees.specs.declared.trees.KeyspaceTree.{KeyspaceTree}
use Rattle.fjall_trees.specs.Forests.{tree_at}
use Rattle.fjall_trees.specs.Lists.{forest_in}
use Rattle.fjall_trees.specs.Views.{forest_of}
use Rattle.fjall_trees.proofs.Places.{err_so, found_tree, set_altered, set_forest, set_same}
use Rattle.fjall_trees.proofs.Same.{if_ok_so, job_so, nothing_begun, shape_here, shape_set}
use Rattle.fjall_trees.proofs.trees.Trees.begin_flush.Goals as goal

pub invariant_of-self : goal.invariant_of-self
invariant_of-self c =
    let t = c.args.self.now in
    let ks = t.trees.items in
    let k = c.index_mut.result.now in
    let here = found_tree ks c.as_slice.result.now c.in-Some.place c.args.id k c.as_slice.ensures.value c.in-Some.ensures c.index_mut.ensures.value in
    record { lawful = set_forest ks c.in-Some.place k c.begin_flush.new.self t.lawful here.0 }

pub returns-in-Some-clause-none : goal.returns-in-Some-clause-none
returns-in-Some-clause-none c =
    let t = c.args.self.now in
    let ks = t.trees.items in
    let k = c.index_mut.result.now in
    let here = found_tree ks c.as_slice.result.now c.in-Some.place c.args.id k c.as_slice.ensures.value c.in-Some.ensures c.index_mut.ensures.value in
    subst (λ (s : Shape). IfOk c.begin_flush.result (λ made. (made ≡ None) ↔ ((s.memory.sealed ≡ []) ⊎ (s.flush ≢ None)))) (sym (shape_here ks c.in-Some.place c.args.id k t.lawful here.0 here.1)) c.begin_flush.ensures.none

pub returns-in-Some-clause-job : goal.returns-in-Some-clause-job
returns-in-Some-clause-job c =
    let t = c.args.self.now in
    let ks = t.trees.items in
    let k = c.index_mut.result.now in
    let here = found_tree ks c.as_slice.result.now c.in-Some.place c.args.id k c.as_slice.ensures.value c.in-Some.ensures c.index_mut.ensures.value in
    subst (λ (s : Shape). IfOk c.begin_flush.result (λ made. IfSome made (λ made. flush_task made ≡ flush_of c.args.job c.args.id c.args.watermark s.memory.sealed))) (sym (shape_here ks c.in-Some.place c.args.id k t.lawful here.0 here.1)) c.begin_flush.ensures.job

pub returns-in-Some-clause-begun : goal.returns-in-Some-clause-begun
returns-in-Some-clause-begun c =
    let t = c.args.self.now in
    let ks = t.trees.items in
    let k = c.index_mut.result.now in
    let here = found_tree ks c.as_slice.result.now c.in-Some.place c.args.id k c.as_slice.ensures.value c.in-Some.ensures c.index_mut.ensures.value in
    job_so c.begin_flush.result _ _ (λ made is. set_altered ks c.in-Some.place c.args.id k c.begin_flush.new.self (flush_begun c.args.job c.args.watermark) t.lawful here.0 here.1 is) c.begin_flush.ensures.begun

pub returns-in-Some-clause-out : goal.returns-in-Some-clause-out
returns-in-Some-clause-out c =
    let t = c.args.self.now in
    let ks = t.trees.items in
    let k = c.index_mut.result.now in
    let here = found_tree ks c.as_slice.result.now c.in-Some.place c.args.id k c.as_slice.ensures.value c.in-Some.ensures c.index_mut.ensures.value in
    subst (λ (s : Shape). IfOk c.begin_flush.result (λ made. IfSome made (λ made. IsFlushing s (flush_task made))))
    (sym (shape_set ks c.in-Some.place c.args.id k c.begin_flush.new.self t.lawful here.0 here.1)) c.begin_flush.ensures.out

pub returns-in-Some-clause-same : goal.returns-in-Some-clause-same
returns-in-Some-clause-same c =
    let t = c.args.self.now in
    let ks = t.trees.items in
    let k = c.index_mut.result.now in
    let here = found_tree ks c.as_slice.result.now c.in-Some.place c.args.id k c.as_slice.ensures.value c.in-Some.ensures c.index_mut.ensures.value in
    if_ok_so c.begin_flush.result _ _ (λ made same none. set_same ks c.in-Some.place k c.begin_flush.new.self here.0 (same none)) c.begin_flush.ensures.same

pub returns-in-Some-clause-err : goal.returns-in-Some-clause-err
returns-in-Some-clause-err c =
    let t = c.args.self.now in
    let ks = t.trees.items in
    let k = c.index_mut.result.now in
    let here = found_tree ks c.as_slice.result.now c.in-Some.place c.args.id k c.as_slice.ensures.value c.in-Some.ensures c.index_mut.ensures.value in
    err_so c.begin_flush.result _ _ (λ same. set_same ks c.in-Some.place k c.begin_flush.new.self here.0 same) c.begin_flush.ensures.err

pub returns-in-None-clause-none : goal.returns-in-None-clause-none
returns-in-None-clause-none c =
    let none = subst (λ (xs : List KeyspaceTree). tree_at c.args.id (forest_in xs) ≡ None) c.as_slice.ensures.value c.in-None.ensures in
    nothing_begun _ (λ s. (s.memory.sealed ≡ []) ⊎ (s.flush ≢ None)) c.args.id (forest_of c.args.self.now) none (inl refl)
