use Rattle.std.proofs.Common.{◌≡◌, ◌≢◌, List, None, sym, subst, ◌∙◌}
use Rattle.std.specs.Result.{IfErr, IfOk}
use Rattle.fjall_base.proofs.Codecs.{some_is}
use Rattle.fjall_table_reader.specs.Files.{IsRefused}
use Rattle.fjall_memtable.specs.Views.{newest, value_at}
use Rattle.fjall_table_reader.specs.Readers.{SomeTableIsWrongFor}
use Rattle.fjall_table_reader.proofs.Readers.{looks_none, wrong_tables}
use Rattle.fjall_memtable.specs.Parts.{parts_of, versions_in}
use Rattle.fjall_tree.specs.Shapes.{shape_of}
use Rattle.fjall_tree.specs.Trees.{Shape, clears_of, versions_of}
use Rattle.fjall_trees.specs.declared.trees.KeyspaceTree.{KeyspaceTree}
use Rattle.fjall_trees.specs.Forests.{tree_at}
use Rattle.fjall_trees.specs.Lists.{forest_in}
use Rattle.fjall_trees.specs.Tables.{shape_in}
use Rattle.fjall_trees.specs.Views.{forest_of}
use Rattle.fjall_trees.proofs.Bounded.{bounded_kept, bounded_read, bounded_same}
use Rattle.fjall_trees.proofs.Places.{found_tree, set_forest, tree_here}
use Rattle.fjall_trees.proofs.Reading.{read_here, read_set}
use Rattle.fjall_trees.proofs.Same.{refused_so, same_trees, set_same_trees, shape_here}
use Rattle.fjall_trees.proofs.trees.Trees.get.Goals as goal

pub invariant_of-self : goal.invariant_of-self
invariant_of-self g c =
    let t = c.args.self.now in
    let ks = t.trees.items in
    let k = c.index_mut.result.now in
    let here = found_tree ks c.as_slice.result.now c.in-Some.place c.args.id k c.as_slice.ensures.value c.in-Some.ensures c.index_mut.ensures.value in
    record { lawful = set_forest ks c.in-Some.place k c.get-value.new.self t.lawful here.0 }

pub returns-in-Some-clause-none : goal.returns-in-Some-clause-none
returns-in-Some-clause-none g c none =
    let t = c.args.self.now in
    let ks = t.trees.items in
    let k = c.index_mut.result.now in
    let here = found_tree ks c.as_slice.result.now c.in-Some.place c.args.id k c.as_slice.ensures.value c.in-Some.ensures c.index_mut.ensures.value in
    absurd (cc (none, tree_here ks c.in-Some.place c.args.id k t.lawful here.0 here.1))

pub returns-in-Some-clause-found : goal.returns-in-Some-clause-found
returns-in-Some-clause-found g c honest entries r shape is =
    let t = c.args.self.now in
    let ks = t.trees.items in
    let k = c.index_mut.result.now in
    let here = found_tree ks c.as_slice.result.now c.in-Some.place c.args.id k c.as_slice.ensures.value c.in-Some.ensures c.index_mut.ensures.value in
    let same = some_is (shape_of k.tree) shape (sym (tree_here ks c.in-Some.place c.args.id k t.lawful here.0 here.1) ∙ is) in
    subst (λ (s : Shape). IfOk c.get-value.result (λ value. value ≡ value_at c.args.key.now c.args.instant (clears_of s) (versions_of s (entries c.args.id)))) same
    (c.get-value.ensures.found honest (entries c.args.id) (read_here (g.D.Disk.meaning c.args.disk.now) ks c.in-Some.place c.args.id k entries r here.0 here.1))

pub returns-in-Some-clause-reads : goal.returns-in-Some-clause-reads
returns-in-Some-clause-reads g c honest entries r =
    let t = c.args.self.now in
    let ks = t.trees.items in
    let k = c.index_mut.result.now in
    let here = found_tree ks c.as_slice.result.now c.in-Some.place c.args.id k c.as_slice.ensures.value c.in-Some.ensures c.index_mut.ensures.value in
    let old = g.D.Disk.meaning c.args.disk.now in
    let now = c.get-value.ensures.reads honest (entries c.args.id) (read_here old ks c.in-Some.place c.args.id k entries r here.0 here.1) in
    bounded_read (g.D.Disk.meaning c.get-value.new.disk) _ _ _ entries c.keep_to_bound.ensures.trees
    (read_set g.D.Disk.honest old (g.D.Disk.meaning c.get-value.new.disk) ks c.in-Some.place c.args.id k c.get-value.new.self entries c.get-value.ensures.disk honest r here.0 here.1 now)

pub returns-in-Some-clause-blamed : goal.returns-in-Some-clause-blamed
returns-in-Some-clause-blamed g c honest entries r =
    let t = c.args.self.now in
    let ks = t.trees.items in
    let k = c.index_mut.result.now in
    let here = found_tree ks c.as_slice.result.now c.in-Some.place c.args.id k c.as_slice.ensures.value c.in-Some.ensures c.index_mut.ensures.value in
    let old = g.D.Disk.meaning c.args.disk.now in
    let new = g.D.Disk.meaning c.get-value.new.disk in
    subst (λ (s : Shape). IfErr c.get-value.result (IsRefused (SomeTableIsWrongFor c.args.key.now old s.tables) old.faults new.faults)) (sym (shape_here ks c.in-Some.place c.args.id k t.lawful here.0 here.1))
    (c.get-value.ensures.refused honest (entries c.args.id) (read_here old ks c.in-Some.place c.args.id k entries r here.0 here.1))

pub returns-in-Some-clause-refused : goal.returns-in-Some-clause-refused
returns-in-Some-clause-refused g c honest entries r =
    refused_so c.get-value.result _ _ _ _ c.get-value.ensures.disk.later (wrong_tables c.args.key.now (g.D.Disk.meaning c.args.disk.now) (shape_in c.args.id (forest_of c.args.self.now)).tables)
    (returns-in-Some-clause-blamed g c honest entries r)

pub returns-in-Some-clause-memory : goal.returns-in-Some-clause-memory
returns-in-Some-clause-memory g c = λ some.
    let t = c.args.self.now in
    let ks = t.trees.items in
    let k = c.index_mut.result.now in
    let here = found_tree ks c.as_slice.result.now c.in-Some.place c.args.id k c.as_slice.ensures.value c.in-Some.ensures c.index_mut.ensures.value in
    let told = subst (λ (s : Shape). newest c.args.key.now c.args.instant (versions_in (parts_of s.memory)) ≢ None) (shape_here ks c.in-Some.place c.args.id k t.lawful here.0 here.1) some in
    let answer = c.get-value.ensures.memory told in
    (answer.1, answer.2)

pub returns-in-Some-clause-trees : goal.returns-in-Some-clause-trees
returns-in-Some-clause-trees g c =
    let t = c.args.self.now in
    let ks = t.trees.items in
    let k = c.index_mut.result.now in
    let here = found_tree ks c.as_slice.result.now c.in-Some.place c.args.id k c.as_slice.ensures.value c.in-Some.ensures c.index_mut.ensures.value in
    bounded_same _ (forest_of t) _ _ c.keep_to_bound.ensures.trees (set_same_trees ks c.in-Some.place k c.get-value.new.self here.0 c.get-value.ensures.shape)

pub returns-in-None-clause-found : goal.returns-in-None-clause-found
returns-in-None-clause-found g c honest entries r shape is =
    let none = subst (λ (xs : List KeyspaceTree). tree_at c.args.id (forest_in xs) ≡ None) c.as_slice.ensures.value c.in-None.ensures in
    absurd (cc (is, none))

pub returns-in-None-clause-trees : goal.returns-in-None-clause-trees
returns-in-None-clause-trees g c = bounded_same _ (forest_of c.args.self.now) _ _ c.keep_to_bound-in-None.ensures.trees (same_trees (forest_of c.args.self.now))

pub returns-in-None-clause-disk : goal.returns-in-None-clause-disk
returns-in-None-clause-disk g c = looks_none g.D.Disk.honest (g.D.Disk.meaning c.args.disk.now)

pub returns-in-None-clause-reads : goal.returns-in-None-clause-reads
returns-in-None-clause-reads g c honest entries r =
    bounded_read (g.D.Disk.meaning c.args.disk.now) _ _ _ entries c.keep_to_bound-in-None.ensures.trees r

pub returns-in-Some-clause-kept : goal.returns-in-Some-clause-kept
returns-in-Some-clause-kept g c =
    bounded_kept _ _ _ c.keep_to_bound.ensures.trees

pub returns-in-None-clause-kept : goal.returns-in-None-clause-kept
returns-in-None-clause-kept g c =
    bounded_kept _ _ _ c.keep_to_bound-in-None.ensures.trees
