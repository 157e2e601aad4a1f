use Rattle.std.proofs.Common.{◌≡◌, ◌≤◌, List, [], ◌∷◌, ◌++◌, None, ap, drop, set, subst, sym, ◌∙◌, arith}
use Rattle.std.specs.Option.{option_map}
use Rattle.fjall_journal.specs.Ops.{BatchItem, op_of}
use Rattle.fjall_memtable.specs.declared.mark.Mark.{Mark}
use Rattle.fjall_table.specs.Blocks.{Entry}
use Rattle.fjall_memtable.specs.Entries.{version}
use Rattle.fjall_tree.specs.Puts.{put}
use Rattle.fjall_trees.specs.declared.trees.KeyspaceTree.{KeyspaceTree}
use Rattle.fjall_trees.specs.Forests.{Planted, altered_at, tree_at}
use Rattle.fjall_trees.specs.Lists.{AreMarks, forest_from, forest_in}
use Rattle.fjall_trees.specs.Writes.{version_of_item}
use Rattle.fjall_trees.proofs.Marking.{set_one}
use Rattle.fjall_trees.proofs.Places.{altered_none, err_given, found_tree, place_has, place_within, set_altered, set_forest, set_same}
use Rattle.fjall_trees.proofs.Pushing.{begun, pushed_one}
use Rattle.fjall_trees.proofs.trees.Trees.push_one.Goals as goal

pub returns-in_default-clause-ok : goal.returns-in_default-clause-ok
returns-in_default-clause-ok c =
    let item : BatchItem = (c.args.id, c.args.key.now, op_of c.args.op) in
    let trees = forest_in c.args.self.now.trees.items in
    let none = subst (λ (xs : List KeyspaceTree). tree_at c.args.id (forest_in xs) ≡ None) c.as_slice.ensures.value c.in_default.ensures in
    sym (pushed_one c.args.number item trees ∙ altered_none c.args.id (put (version_of_item c.args.number item)) trees none)

pub index_mut-requires : goal.index_mut-requires
index_mut-requires c =
    let trees = c.args.self.now.trees in
    let within = place_within trees.items c.as_slice.result.now c.in-Some.place (λ (k : KeyspaceTree). k.id ≡ c.args.id) c.as_slice.ensures.value c.in-Some.ensures in
    omega (arith, within, trees.ok.0)

pub put-requires-clause-from : goal.put-requires-clause-from
put-requires-clause-from c =
    let ks = c.args.self.now.trees.items in
    let k = c.index_mut.result.now in
    let here = found_tree ks c.as_slice.result.now c.in-Some.place c.args.id k c.as_slice.ensures.value c.in-Some.ensures c.index_mut.ensures.value in
    place_has (λ (p : Planted). p.shape.memory.active.from ≤ c.args.number) ks c.in-Some.place k (begun c.args.number (forest_in ks) c.requires.forest c.requires.before) here.0

pub invariant_of-self : goal.invariant_of-self
invariant_of-self c =
    let t = c.args.self.now in
    let ks = t.trees.items in
    let k = c.index_mut.result.now in
    let here = found_tree ks c.as_slice.result.now c.in-Some.place c.args.id k c.as_slice.ensures.value c.in-Some.ensures c.index_mut.ensures.value in
    record { lawful = set_forest ks c.in-Some.place k c.put.new.self t.lawful here.0 }

pub returns-in_err-put-clause-err : goal.returns-in_err-put-clause-err
returns-in_err-put-clause-err c =
    let ks = c.args.self.now.trees.items in
    let k = c.index_mut.result.now in
    let here = found_tree ks c.as_slice.result.now c.in-Some.place c.args.id k c.as_slice.ensures.value c.in-Some.ensures c.index_mut.ensures.value in
    err_given c.from_residual-in_err-put.result _ (set_same ks c.in-Some.place k c.put.new.self here.0 c.in_err-put.ensures.err)

pub returns-clause-ok : goal.returns-clause-ok
returns-clause-ok c =
    let t = c.args.self.now in
    let ks = t.trees.items in
    let item : BatchItem = (c.args.id, c.args.key.now, op_of c.args.op) in
    let k = c.index_mut.result.now in
    let here = found_tree ks c.as_slice.result.now c.in-Some.place c.args.id k c.as_slice.ensures.value c.in-Some.ensures c.index_mut.ensures.value in
    let v = version c.args.key.now c.args.number (option_map (λ v. v.now) c.value.result) in
    set_altered ks c.in-Some.place c.args.id k c.put.new.self (put v) t.lawful here.0 here.1 c.in_ok-put.ensures.ok
    ∙ ap (λ (v : Entry). altered_at c.args.id (put v) (forest_in ks)) (λ i. version c.args.key.now c.args.number (c.value.ensures i))
    ∙ sym (pushed_one c.args.number item (forest_in ks))

pub returns-clause-marks : goal.returns-clause-marks
returns-clause-marks c =
    let ks = c.args.self.now.trees.items in
    let k = c.index_mut.result.now in
    let place = c.in-Some.place in
    let mark = c.mark.result in
    let here = found_tree ks c.as_slice.result.now place c.args.id k c.as_slice.ensures.value c.in-Some.ensures c.index_mut.ensures.value in
    let others : List KeyspaceTree = set ks place (record { id = k.id; tree = c.put.new.self }) in
    let alone = c.push_reserved.ensures.items ∙ ap (λ (ms : List Mark). ms ++ mark ∷ []) c.in_ok-marks.ensures.items in
    let kept = set_one ks place k c.put.new.self mark here.0 c.in_ok-put.ensures.marks c.mark.ensures.mark c.mark.ensures.shape in
    (subst (AreMarks (drop place others)) (sym alone) kept.0, ap (λ (ms : List Mark). forest_from place ms others) alone ∙ kept.1)
