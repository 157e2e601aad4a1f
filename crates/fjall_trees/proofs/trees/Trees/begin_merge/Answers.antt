use Rattle.std.proofs.Common.{◌≡◌, List, None, inl, refl, sym, subst}
use Rattle.std.specs.Prelude.{◌↔◌, IfSome}
use Rattle.std.specs.Result.{IfErr, IfOk}
use Rattle.fjall_table_reader.specs.Files.{IsRefused}
use Rattle.fjall_table_reader.specs.Readers.{SomeTableIsWrong}
use Rattle.fjall_table_reader.proofs.Readers.{looks_none}
use Rattle.fjall_jobs.specs.Merges.{merge_task}
use Rattle.fjall_tree.specs.Jobs.{IsMerging, MergesNothing, merge_begun, merge_of}
use Rattle.fjall_tree.specs.Trees.{Shape}
use Rattle.fjall_trees.specs.declared.trees.KeyspaceTree.{KeyspaceTree}
use Rattle.fjall_trees.specs.Forests.{tree_at}
use Rattle.fjall_trees.specs.Lists.{forest_in}
use Rattle.fjall_trees.specs.Views.{forest_of}
use Rattle.fjall_trees.proofs.Bounded.{bounded_kept, bounded_merging, bounded_read, bounded_same}
use Rattle.fjall_trees.proofs.Places.{err_so, found_tree, set_forest}
use Rattle.fjall_trees.proofs.Reading.{read_here, read_set}
use Rattle.fjall_trees.proofs.Same.{if_ok_so, job_so, nothing_begun, same_trees, set_same_change, set_same_trees, shape_here, shape_set}
use Rattle.fjall_trees.proofs.trees.Trees.begin_merge.Goals as goal

pub invariant_of-self : goal.invariant_of-self
invariant_of-self g c =
    let t = c.args.self.now in
    let ks = t.trees.items in
    let k = c.index_mut.result.now in
    let here = found_tree ks c.as_slice.result.now c.in-Some.place c.args.id k c.as_slice.ensures.value c.in-Some.ensures c.index_mut.ensures.value in
    record { lawful = set_forest ks c.in-Some.place k c.begin_merge-begun.new.self t.lawful here.0 }

pub returns-in-Some-clause-none : goal.returns-in-Some-clause-none
returns-in-Some-clause-none g c =
    let t = c.args.self.now in
    let ks = t.trees.items in
    let k = c.index_mut.result.now in
    let here = found_tree ks c.as_slice.result.now c.in-Some.place c.args.id k c.as_slice.ensures.value c.in-Some.ensures c.index_mut.ensures.value in
    subst (λ (s : Shape). IfOk c.begin_merge-begun.result (λ made. (made ≡ None) ↔ MergesNothing c.args.least s)) (sym (shape_here ks c.in-Some.place c.args.id k t.lawful here.0 here.1)) c.begin_merge-begun.ensures.none

pub returns-in-Some-clause-job : goal.returns-in-Some-clause-job
returns-in-Some-clause-job g c honest entries r =
    let t = c.args.self.now in
    let ks = t.trees.items in
    let k = c.index_mut.result.now in
    let here = found_tree ks c.as_slice.result.now c.in-Some.place c.args.id k c.as_slice.ensures.value c.in-Some.ensures c.index_mut.ensures.value in
    subst (λ (s : Shape). IfOk c.begin_merge-begun.result (λ made. IfSome made (λ made. merge_task made ≡ merge_of c.args.job c.args.id c.args.watermark (entries c.args.id) s.clears)))
    (sym (shape_here ks c.in-Some.place c.args.id k t.lawful here.0 here.1))
    (c.begin_merge-begun.ensures.job honest (entries c.args.id) (read_here (g.D.Disk.meaning c.args.disk.now) ks c.in-Some.place c.args.id k entries r here.0 here.1))

pub returns-in-Some-clause-named : goal.returns-in-Some-clause-named
returns-in-Some-clause-named g c =
    let t = c.args.self.now in
    let ks = t.trees.items in
    let k = c.index_mut.result.now in
    let here = found_tree ks c.as_slice.result.now c.in-Some.place c.args.id k c.as_slice.ensures.value c.in-Some.ensures c.index_mut.ensures.value in
    subst (λ (s : Shape). IfOk c.begin_merge-begun.result (λ made. IfSome made (λ made. merge_task made ≡ merge_of c.args.job c.args.id c.args.watermark (merge_task made).runs s.clears)))
    (sym (shape_here ks c.in-Some.place c.args.id k t.lawful here.0 here.1)) c.begin_merge-begun.ensures.named

pub returns-in-Some-clause-begun : goal.returns-in-Some-clause-begun
returns-in-Some-clause-begun g c =
    let t = c.args.self.now in
    let ks = t.trees.items in
    let k = c.index_mut.result.now in
    let here = found_tree ks c.as_slice.result.now c.in-Some.place c.args.id k c.as_slice.ensures.value c.in-Some.ensures c.index_mut.ensures.value in
    job_so c.begin_merge-begun.result _ _
    (λ made is. bounded_same _ _ _ _ c.keep_to_bound.ensures.trees (set_same_change ks c.in-Some.place c.args.id k c.begin_merge-begun.new.self (merge_begun c.args.job c.args.watermark) t.lawful here.0 here.1 is)) c.begin_merge-begun.ensures.begun

pub returns-in-Some-clause-out : goal.returns-in-Some-clause-out
returns-in-Some-clause-out g c honest entries r =
    let t = c.args.self.now in
    let ks = t.trees.items in
    let k = c.index_mut.result.now in
    let here = found_tree ks c.as_slice.result.now c.in-Some.place c.args.id k c.as_slice.ensures.value c.in-Some.ensures c.index_mut.ensures.value in
    job_so c.begin_merge-begun.result _ _ (λ made is. bounded_merging _ c.args.id _ _ (entries c.args.id) (merge_task made) c.keep_to_bound.ensures.trees
    (subst (λ (s : Shape). IsMerging s (entries c.args.id) (merge_task made)) (sym (shape_set ks c.in-Some.place c.args.id k c.begin_merge-begun.new.self t.lawful here.0 here.1)) is))
    (c.begin_merge-begun.ensures.out honest (entries c.args.id) (read_here (g.D.Disk.meaning c.args.disk.now) ks c.in-Some.place c.args.id k entries r here.0 here.1))

pub returns-in-Some-clause-same : goal.returns-in-Some-clause-same
returns-in-Some-clause-same g c =
    let t = c.args.self.now in
    let ks = t.trees.items in
    let k = c.index_mut.result.now in
    let here = found_tree ks c.as_slice.result.now c.in-Some.place c.args.id k c.as_slice.ensures.value c.in-Some.ensures c.index_mut.ensures.value in
    if_ok_so c.begin_merge-begun.result _ _ (λ made same none. bounded_same _ (forest_of t) _ _ c.keep_to_bound.ensures.trees (set_same_trees ks c.in-Some.place k c.begin_merge-begun.new.self here.0 (same none))) c.begin_merge-begun.ensures.same

pub returns-in-Some-clause-err : goal.returns-in-Some-clause-err
returns-in-Some-clause-err g c =
    let t = c.args.self.now in
    let ks = t.trees.items in
    let k = c.index_mut.result.now in
    let here = found_tree ks c.as_slice.result.now c.in-Some.place c.args.id k c.as_slice.ensures.value c.in-Some.ensures c.index_mut.ensures.value in
    err_so c.begin_merge-begun.result _ _ (λ same. bounded_same _ (forest_of t) _ _ c.keep_to_bound.ensures.trees (set_same_trees ks c.in-Some.place k c.begin_merge-begun.new.self here.0 same)) c.begin_merge-begun.ensures.err

pub returns-in-Some-clause-reads : goal.returns-in-Some-clause-reads
returns-in-Some-clause-reads g c honest entries r =
    let t = c.args.self.now in
    let ks = t.trees.items in
    let k = c.index_mut.result.now in
    let here = found_tree ks c.as_slice.result.now c.in-Some.place c.args.id k c.as_slice.ensures.value c.in-Some.ensures c.index_mut.ensures.value in
    let old = g.D.Disk.meaning c.args.disk.now in
    let now = c.begin_merge-begun.ensures.reads honest (entries c.args.id) (read_here old ks c.in-Some.place c.args.id k entries r here.0 here.1) in
    bounded_read (g.D.Disk.meaning c.begin_merge-begun.new.disk) _ _ _ entries c.keep_to_bound.ensures.trees
    (read_set g.D.Disk.honest old (g.D.Disk.meaning c.begin_merge-begun.new.disk) ks c.in-Some.place c.args.id k c.begin_merge-begun.new.self entries c.begin_merge-begun.ensures.disk honest r here.0 here.1 now)

pub returns-in-Some-clause-refused : goal.returns-in-Some-clause-refused
returns-in-Some-clause-refused g c honest entries r =
    let t = c.args.self.now in
    let ks = t.trees.items in
    let k = c.index_mut.result.now in
    let here = found_tree ks c.as_slice.result.now c.in-Some.place c.args.id k c.as_slice.ensures.value c.in-Some.ensures c.index_mut.ensures.value in
    let old = g.D.Disk.meaning c.args.disk.now in
    let new = g.D.Disk.meaning c.begin_merge-begun.new.disk in
    subst (λ (s : Shape). IfErr c.begin_merge-begun.result (IsRefused (SomeTableIsWrong old s.tables) old.faults new.faults)) (sym (shape_here ks c.in-Some.place c.args.id k t.lawful here.0 here.1))
    (c.begin_merge-begun.ensures.refused honest (entries c.args.id) (read_here old ks c.in-Some.place c.args.id k entries r here.0 here.1))

pub returns-in-None-clause-none : goal.returns-in-None-clause-none
returns-in-None-clause-none g c =
    let none = subst (λ (xs : List KeyspaceTree). tree_at c.args.id (forest_in xs) ≡ None) c.as_slice.ensures.value c.in-None.ensures in
    nothing_begun _ (MergesNothing c.args.least) c.args.id (forest_of c.args.self.now) none (inl refl)

pub returns-in-None-clause-same : goal.returns-in-None-clause-same
returns-in-None-clause-same g c none = bounded_same _ (forest_of c.args.self.now) _ _ c.keep_to_bound-in-None.ensures.trees (same_trees (forest_of c.args.self.now))

pub returns-in-None-clause-disk : goal.returns-in-None-clause-disk
returns-in-None-clause-disk g c = looks_none g.D.Disk.honest (g.D.Disk.meaning c.args.disk.now)

pub returns-in-None-clause-reads : goal.returns-in-None-clause-reads
returns-in-None-clause-reads g c honest entries r =
    bounded_read (g.D.Disk.meaning c.args.disk.now) _ _ _ entries c.keep_to_bound-in-None.ensures.trees r

pub returns-in-Some-clause-kept : goal.returns-in-Some-clause-kept
returns-in-Some-clause-kept g c =
    bounded_kept _ _ _ c.keep_to_bound.ensures.trees

pub returns-in-None-clause-kept : goal.returns-in-None-clause-kept
returns-in-None-clause-kept g c =
    bounded_kept _ _ _ c.keep_to_bound-in-None.ensures.trees
